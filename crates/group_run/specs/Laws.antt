-- The laws of group runs, as they are stated. Each is the contract of a public function of the crate that proves it.
use Rattle.std.specs.Prelude.{ℕ, true, ◌≡◌, ◌<◌, ◌≤◌, ◌++◌, List, Some, length, not, count_by}
use Rattle.fifo_net.specs.Net.{inputs_of, taken_on, sent_on}
use Rattle.order_trait.specs.Runs.{KeepsAgreement, KeepsIntegrity, KeepsFulfilment, KeepsBound}
use Rattle.upd_base.specs.Item.{is_message}
use Rattle.upd_base.specs.Plan.{Planned, planned, bound}
use Rattle.upd_base.specs.declared.kind.Kind.{Kind}
use Rattle.upd_base.specs.declared.frame.Frame.{Frame}
use Rattle.upd_base.specs.declared.call.Step.{Step as PlannedStep}
use Rattle.upd_base.specs.declared.call.Call.TheVariants.{Change}
use Rattle.upd_base.specs.declared.limits.TheConstants.{MAX_VERSION}
use Rattle.group_run.specs.Group.{Rules}
use Rattle.group_run.specs.Version.{inputs_at, segment, up_to_switch}
use Rattle.group_run.specs.Turn.{member_sends}
use Rattle.group_run.specs.Run.{Events, group, part, moves_in, IsGroupRun, log_in, version_in}
use Rattle.group_run.specs.Projection.{projection, delivered_of, IsProjected, FollowsSwitches}
use Rattle.group_run.specs.Link.{bodies_of, held_from, processed_from}
use Rattle.group_run.specs.Ordered.{IsOrdered}
use Rattle.group_run.specs.Settled.{IsSettled, IsQuiet, IsTrusting, IsFulfilled}
use Rattle.group_run.specs.Growing.{IsGrowing}

-- What is asked of the kinds -----------------------------------------------------------------------------

-- each kind that is served keeps agreement and integrity
pub record KeepsOrder (rules : Rules) : Type 0 where
  pub agreement : (kind : Kind) → rules.serves kind ≡ true → KeepsAgreement (rules.sends kind) (rules.delivers kind) kind
  pub integrity : (kind : Kind) → rules.serves kind ≡ true → KeepsIntegrity (rules.sends kind) (rules.delivers kind) kind

-- each keeps fulfilment
abbrev pub FulfilsAll : Rules → Type 0
FulfilsAll rules = (kind : Kind) → rules.serves kind ≡ true → KeepsFulfilment (rules.sends kind) (rules.delivers kind) kind

-- each keeps the bound
abbrev pub BoundsAll : Rules → Type 0
BoundsAll rules = (kind : Kind) → rules.serves kind ≡ true → KeepsBound (rules.sends kind) kind

-- the changes of a plan name served kinds
abbrev pub ServesPlan : Rules → Planned → Type 0
ServesPlan rules plan = (thread index : ℕ) (s : PlannedStep) → planned plan thread index ≡ Some s → (kind : Kind) → s.call ≡ Change kind → rules.serves kind ≡ true

-- The laws -----------------------------------------------------------------------------------------------

-- Of what was sent on a link in a version, the bodies that the receiver's module processed come first, then those that
-- it holds, then those not yet received: for every list of events, and whatever the kinds do.
abbrev pub KeepsLinkOrder : Type 0
KeepsLinkOrder = (rules : Rules) (plan : Planned) (past : Events) (from to v : ℕ) → (unread : List Frame)
    × (sent_on (member_sends (group rules plan)) from to (moves_in rules plan past) ≡ taken_on from to (moves_in rules plan past) ++ unread)
    × (bodies_of v (sent_on (member_sends (group rules plan)) from to (moves_in rules plan past)) ≡
    (processed_from from v (part rules plan past to) ++ held_from from v (part rules plan past to).held) ++ bodies_of v unread)

-- The inputs of a member's modules are those that the projections give it: for every list of events.
abbrev pub GivesInputs : Type 0
GivesInputs = (rules : Rules) (plan : Planned) (past : Events) (i v : ℕ)
    → inputs_of i (projection rules plan past v) ≡ inputs_at v (part rules plan past i).modules

-- Projection: for kinds that keep agreement and integrity, in each group run all members that reached a version have
-- one kind of it, and the projection on it is a module run of that kind.
abbrev pub ProjectsRuns : Type 0
ProjectsRuns = (rules : Rules) → KeepsOrder rules → (plan : Planned) → rules.serves plan.first ≡ true
    → (past : Events) → IsGroupRun rules plan past → IsProjected rules plan past

-- Composition, first part: for such kinds every group run is ordered.
abbrev pub OrdersRuns : Type 0
OrdersRuns = (rules : Rules) → KeepsOrder rules → (plan : Planned) → rules.serves plan.first ≡ true
    → (past : Events) → IsGroupRun rules plan past → IsOrdered rules plan past

-- For such kinds the version of a member is the number of switches in its log.
abbrev pub CountsVersions : Type 0
CountsVersions = (rules : Rules) → KeepsOrder rules → (plan : Planned) → rules.serves plan.first ≡ true
    → (past : Events) → IsGroupRun rules plan past → (i : ℕ) → i < plan.members → count_by (λ e. not (is_message e.item)) (log_in rules plan past i) ≡ version_in rules plan past i

-- Each version of a member but its newest was ended by a switch, and the next has the kind of that switch.
abbrev pub SwitchesKinds : Type 0
SwitchesKinds = (rules : Rules) → KeepsOrder rules → (plan : Planned) → rules.serves plan.first ≡ true
    → (past : Events) → IsGroupRun rules plan past → (i : ℕ) → i < plan.members → FollowsSwitches rules plan past i

-- For such kinds and a plan whose changes name served kinds, what counts of a version is what its module delivered up to
-- and with the first switch.
abbrev pub WholeSegments : Type 0
WholeSegments = (rules : Rules) → KeepsOrder rules → (plan : Planned) → rules.serves plan.first ≡ true → ServesPlan rules plan
    → (past : Events) → IsGroupRun rules plan past → (i v : ℕ) → i < plan.members → v ≤ version_in rules plan past i
    → segment (group rules plan) v (delivered_of rules plan past i v) ≡ up_to_switch (delivered_of rules plan past i v)

-- No version is above the highest: for every list of events, and whatever the kinds do.
abbrev pub LimitsVersions : Type 0
LimitsVersions = (rules : Rules) (plan : Planned) (past : Events) (i : ℕ) → version_in rules plan past i ≤ MAX_VERSION

-- Composition, second part: for kinds that keep fulfilment too, a settled quiet run has every accepted message in every
-- log, and all members have one version.
abbrev pub FulfilsRuns : Type 0
FulfilsRuns = (rules : Rules) → KeepsOrder rules → FulfilsAll rules → (plan : Planned) → rules.serves plan.first ≡ true
    → (past : Events) → IsGroupRun rules plan past → IsSettled rules plan past → IsQuiet plan past → IsFulfilled rules plan past

-- For kinds that keep agreement and integrity, the inputs of each member of a group run are growing: what a module
-- delivered stays in front of what it delivers later, and the next number is in no entry of the log.
abbrev pub GrowsRuns : Type 0
GrowsRuns = (rules : Rules) → KeepsOrder rules → (plan : Planned) → rules.serves plan.first ≡ true
    → (past : Events) → IsGroupRun rules plan past → (i : ℕ) → i < plan.members → IsGrowing (group rules plan) i (inputs_of i (moves_in rules plan past))

-- For kinds that keep the bound too, a run without suspicion has at most as many events as the plan's bound says.
abbrev pub BoundsRuns : Type 0
BoundsRuns = (rules : Rules) → KeepsOrder rules → BoundsAll rules → (plan : Planned) → rules.serves plan.first ≡ true
    → (past : Events) → IsGroupRun rules plan past → IsTrusting plan past → length past ≤ bound plan

-- And one of so many events is settled.
abbrev pub SettlesAtBound : Type 0
SettlesAtBound = (rules : Rules) → KeepsOrder rules → BoundsAll rules → (plan : Planned) → rules.serves plan.first ≡ true
    → (past : Events) → IsGroupRun rules plan past → IsTrusting plan past → length past ≡ bound plan → IsSettled rules plan past

-- A run up to any of its events is a run. So what the other laws say holds at each moment of a run.
abbrev pub KeepsPrefixes : Type 0
KeepsPrefixes = (rules : Rules) (plan : Planned) (later past : Events) → IsGroupRun rules plan (later ++ past) → IsGroupRun rules plan past
