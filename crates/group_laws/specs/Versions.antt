-- What a run has made of its versions.
use Rattle.std.specs.Prelude.{ℕ, ◌≡◌, ◌<◌, ◌≤◌, not, count_by}
use Rattle.upd_base.specs.Item.{is_message}
use Rattle.upd_base.specs.Plan.{Planned}
use Rattle.group_run.specs.Group.{Rules}
use Rattle.group_run.specs.Projection.{delivered_of, FollowsSwitches}
use Rattle.group_run.specs.Run.{Events, group, log_in, version_in}
use Rattle.group_run.specs.Version.{segment, up_to_switch}

-- the version of each member is the number of switches in its log
abbrev pub CountsSwitches : Rules → Planned → Events → Type 0
CountsSwitches rules plan past = (i : ℕ) → i < plan.members → count_by (λ e. not (is_message e.item)) (log_in rules plan past i) ≡ version_in rules plan past i

-- each version of a member but its newest was ended by a switch, and the next has the kind of that switch
abbrev pub HasSwitchedKinds : Rules → Planned → Events → Type 0
HasSwitchedKinds rules plan past = (i : ℕ) → i < plan.members → FollowsSwitches rules plan past i

-- what counts of a version at a member is what its module delivered up to and with the first switch
abbrev pub HasWholeSegments : Rules → Planned → Events → Type 0
HasWholeSegments rules plan past = (i v : ℕ) → i < plan.members → v ≤ version_in rules plan past i
    → segment (group rules plan) v (delivered_of rules plan past i v) ≡ up_to_switch (delivered_of rules plan past i v)
