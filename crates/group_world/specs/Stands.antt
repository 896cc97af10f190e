-- For which events a world stands: a group run of its plan, whose members and links are as these events leave them.
use Rattle.std.specs.Prelude.{ℕ, suc, ◌≡◌, ◌<◌, ◌^◌, ◌++◌, Some, length, slice_get}
use Rattle.fifo_net.specs.Net.{inputs_of, taken_on, sent_on}
use Rattle.order_trait.specs.declared.ordering.Ordering.{Ghosts}
use Rattle.upd_base.specs.Plan.{Planned}
use Rattle.group_run.specs.Turn.{member_sends}
use Rattle.group_run.specs.Run.{Events, IsGroupRun, group, moves_in, calls_made}
use Rattle.member_rules.specs.Kept.{Kept, rules_of}
use Rattle.member_rules.specs.Stands.{Stands as MemberStands}
use Rattle.group_world.specs.Seen.{Seen, frames_on, made_by}

pub record Stands {O : Type 0} (G : Ghosts O) (plan : Planned) (s : Seen O) (past : Events) : Type 0 where
  pub run : IsGroupRun (rules_of G) plan past
  -- each member stands for what came to it
  pub members : (i : ℕ) (k : Kept O) → slice_get s.members i ≡ Some k → MemberStands G k (inputs_of i (moves_in (rules_of G) plan past))
  -- what was received on a link, followed by what waits on it, is what was sent on it
  pub links : (from to : ℕ) → from < plan.members → to < plan.members
      → sent_on (member_sends (group (rules_of G) plan)) from to (moves_in (rules_of G) plan past) ≡ taken_on from to (moves_in (rules_of G) plan past) ++ frames_on s from to
  pub calls : (thread : ℕ) → made_by s thread ≡ calls_made thread past

-- one event more is still short enough for a run
abbrev pub IsShort : Events → Type 0
IsShort past = suc (length past) < 2 ^ 30
