-- What the members of a group accepted, and what its events did.
use Rattle.std.specs.Prelude.{ℕ, ◌<◌, Contains}
use Rattle.upd_base.specs.Item.{origin_of}
use Rattle.upd_base.specs.Plan.{Planned}
use Rattle.upd_base.specs.declared.item.Item.{Item}
use Rattle.group_run.specs.Group.{Rules}
use Rattle.group_run.specs.Run.{Events, IsGroupRun, part}
use Rattle.group_run.specs.Ordered.{accepted_in}

-- What a member accepted was accepted in an event, and what was accepted in an event its origin, a member, accepted.
pub record AcceptedAlike (rules : Rules) (plan : Planned) (past : Events) : Type 0 where
  pub within : (i : ℕ) (y : Item) → Contains (part rules plan past i).accepted y → Contains (accepted_in plan past) y
  pub kept : (y : Item) → Contains (accepted_in plan past) y → (origin_of y < plan.members) × Contains (part rules plan past (origin_of y)).accepted y

-- in each group run, whatever the kinds do
abbrev pub AcceptsAlike : Type 0
AcceptsAlike = (rules : Rules) (plan : Planned) (past : Events) → IsGroupRun rules plan past → AcceptedAlike rules plan past
