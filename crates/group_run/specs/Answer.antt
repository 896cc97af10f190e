-- What a member answers to a call.
use Rattle.std.specs.Prelude.{ℕ, ◌==◌, ◌&&◌, if◌then◌else◌, not, nat_lt, nat_le, length}
use Rattle.upd_base.specs.Kind.{kind_fits}
use Rattle.upd_base.specs.declared.call.Call.{Call}
use Rattle.upd_base.specs.declared.call.Call.TheVariants.{Send, Change, Suspect, Trust, Crash}
use Rattle.upd_base.specs.declared.answer.Answer.{Answer}
use Rattle.upd_base.specs.declared.answer.Answer.TheVariants.{Accepted, Done, Full, Crashed, VersionLimit, BadKind, BadMember}
use Rattle.upd_base.specs.declared.limits.TheConstants.{MAX_VERSION, MAX_UNDELIVERED}
use Rattle.group_run.specs.Group.{Group}
use Rattle.group_run.specs.Part.{Part, version, undelivered}

-- A member that is up: a suspicion must name another member, a change a kind that fits and a version that can be left,
-- and a message must find room among the undelivered. What is accepted gets the next number.
abbrev pub answer_up : Group → ℕ → Part → Call → Answer
answer_up g me part (Suspect who) = if nat_lt who g.members && not (who == me) then Done else BadMember
answer_up g me part (Trust who) = if nat_lt who g.members && not (who == me) then Done else BadMember
answer_up g me part (Change kind) =
    if kind_fits g.members kind then (if version part == MAX_VERSION then VersionLimit else Accepted (length part.accepted)) else BadKind
answer_up g me part (Send text) =
    if nat_le MAX_UNDELIVERED (length (undelivered g me part)) then Full else Accepted (length part.accepted)
answer_up g me part Crash = Done

-- A crashed member answers so to every call.
abbrev pub answer : Group → ℕ → Part → Call → Answer
answer g me part call = if part.crashed then Crashed else answer_up g me part call
