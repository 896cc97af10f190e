-- In which version an item was accepted.
use Rattle.std.specs.Prelude.{ℕ, zero, suc, Bool, false, ◌≡◌, ◌<◌, ◌==◌, ◌&&◌, if◌then◌else◌, nat_lt, Option, Some, None, List, [], ◌∷◌, ◌++◌, length, set, slice_index_or}
use Rattle.upd_base.specs.Plan.{Planned}
use Rattle.upd_base.specs.declared.event.Event.{Event}
use Rattle.upd_base.specs.declared.event.Event.TheVariants.{Call as CallEvent, Receive, Release}
use Rattle.upd_base.specs.declared.answer.Answer.{Answer}
use Rattle.upd_base.specs.declared.answer.Answer.TheVariants.{Accepted, Done, Full, Crashed, VersionLimit, BadKind, BadMember}
use Rattle.group_run.specs.Group.{Rules}
use Rattle.group_run.specs.Run.{Events, part, version_in}

-- the answer gives this number
abbrev pub gives : ℕ → Answer → Bool
gives number (Accepted given) = given == number
gives number Done = false
gives number Full = false
gives number Crashed = false
gives number VersionLimit = false
gives number BadKind = false
gives number BadMember = false

-- the version that a member had when its item of this number was accepted
abbrev pub asked_in : Rules → Planned → Events → ℕ → ℕ → ℕ
asked_in rules plan [] m number = 0
asked_in rules plan (CallEvent thread index member given ∷ past) m number =
    if (member == m) && gives number given then version_in rules plan past m else asked_in rules plan past m number
asked_in rules plan (Receive from to ∷ past) m number = asked_in rules plan past m number
asked_in rules plan (Release at ∷ past) m number = asked_in rules plan past m number

-- how many items a member accepted
abbrev pub accepted_by : Rules → Planned → Events → ℕ → ℕ
accepted_by rules plan past m = length (part rules plan past m).accepted

-- that version, where the member accepted an item of this number
abbrev pub version_asked : Rules → Planned → Events → ℕ → ℕ → Option ℕ
version_asked rules plan past m number = if nat_lt number (accepted_by rules plan past m) then Some (asked_in rules plan past m number) else None

-- For each member and each number that it gave, the version in which the item was accepted.
pub record AreAsked (rules : Rules) (plan : Planned) (past : Events) (asked : List (List ℕ)) : Type 0 where
  pub members : length asked ≡ plan.members
  pub items : (m : ℕ) → m < plan.members → length (slice_index_or asked m []) ≡ accepted_by rules plan past m
  pub versions : (m number : ℕ) → m < plan.members → number < accepted_by rules plan past m → slice_index_or (slice_index_or asked m []) number 0 ≡ asked_in rules plan past m number

-- the lists once a call of a member was answered: what is accepted puts the member's version behind its list
abbrev pub listed : Answer → ℕ → ℕ → List (List ℕ) → List (List ℕ)
listed (Accepted number) at version asked = set asked at (slice_index_or asked at [] ++ version ∷ [])
listed Done at version asked = asked
listed Full at version asked = asked
listed Crashed at version asked = asked
listed VersionLimit at version asked = asked
listed BadKind at version asked = asked
listed BadMember at version asked = asked

-- so many lists with nothing in them
abbrev pub empty_lists : ℕ → List (List ℕ)
empty_lists zero = []
empty_lists (suc n) = [] ∷ empty_lists n

-- the event is a call's, and what it was answered
abbrev pub IsCallEvent : Event → Type 0
IsCallEvent (CallEvent thread index member given) = Unit {0}
IsCallEvent (Receive from to) = ⊥
IsCallEvent (Release at) = ⊥

abbrev pub answer_in : Event → Answer → Type 0
answer_in (CallEvent thread index member given) answer = answer ≡ given
answer_in (Receive from to) answer = ⊥
answer_in (Release at) answer = ⊥
