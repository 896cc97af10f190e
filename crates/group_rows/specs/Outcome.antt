-- What a run of the two kinds has come to, member by member, the first first.
use Rattle.std.specs.Prelude.{ℕ, Bool, List, [], ◌∷◌, ◌++◌, map}
use Rattle.upd_base.specs.Plan.{Planned}
use Rattle.upd_base.specs.declared.kind.Kind.{Kind}
use Rattle.upd_base.specs.declared.item.Item.{Item}
use Rattle.upd_base.specs.declared.frame.Frame.{Frame}
use Rattle.upd_base.specs.declared.entry.Entry.{Entry}
use Rattle.upd_base.specs.declared.event.Event.{Event}
use Rattle.upd_base.specs.declared.event.Event.TheVariants.{Call, Receive, Release}
use Rattle.group_run.specs.Part.{below, undelivered}
use Rattle.group_run.specs.Run.{Events, IsGroupRun, group, moves_in, turn_at, part, log_in, version_in, kind_in, held_in, crashed_in}
use Rattle.group_rows.specs.Kinds.{two_kinds}

abbrev pub logs_in : Planned → Events → List (List Entry)
logs_in plan past = map (λ i. log_in two_kinds plan past i) (below plan.members)

abbrev pub versions_in : Planned → Events → List ℕ
versions_in plan past = map (λ i. version_in two_kinds plan past i) (below plan.members)

abbrev pub kinds_in : Planned → Events → List Kind
kinds_in plan past = map (λ i. kind_in two_kinds plan past i) (below plan.members)

abbrev pub crashes_in : Planned → Events → List Bool
crashes_in plan past = map (λ i. crashed_in two_kinds plan past i) (below plan.members)

-- the accepted messages of each that are absent from its log
abbrev pub undelivered_in : Planned → Events → List (List Item)
undelivered_in plan past = map (λ i. undelivered (group two_kinds plan) i (part two_kinds plan past i)) (below plan.members)

-- One moment of a run: the member that made the newest event, the frames that it sent, the frames that one member holds,
-- and the log of each member.
pub record Moment : Type 0 where
  pub at : ℕ
  pub frames : List (ℕ × Frame)
  pub held : List (ℕ × Frame)
  pub logs : List (List Entry)

-- the member that makes an event
abbrev pub member_of : Event → ℕ
member_of (Call thread index member given) = member
member_of (Receive from to) = to
member_of (Release at) = at

-- each moment of a run, the first first; of the frames held those of this member
abbrev pub moments_in : Planned → ℕ → Events → List Moment
moments_in plan i [] = []
moments_in plan i (e ∷ past) = moments_in plan i past ++ record {
  at = member_of e;
  frames = (turn_at (group two_kinds plan) (moves_in two_kinds plan (e ∷ past)) (member_of e)).frames;
  held = held_in two_kinds plan (e ∷ past) i;
  logs = logs_in plan (e ∷ past);
} ∷ []

-- No run of the plan begins with these events.
abbrev pub BeginsNoRun : Planned → Events → Type 0
BeginsNoRun plan past = (later : Events) → IsGroupRun two_kinds plan (later ++ past) → ⊥
