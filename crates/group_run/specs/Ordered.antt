-- What it is for a group run to be ordered.
use Rattle.std.specs.Prelude.{ℕ, ◌<◌, ◌≤◌, Option, Some, None, List, [], ◌∷◌, ◌++◌, Contains, count_by}
use Rattle.order_trait.specs.Runs.{Agree}
use Rattle.upd_base.specs.Item.{has_id}
use Rattle.upd_base.specs.Plan.{Planned, planned}
use Rattle.upd_base.specs.declared.item.Item.{Item}
use Rattle.upd_base.specs.declared.item.Item.TheVariants.{Msg, Switch}
use Rattle.upd_base.specs.declared.entry.Entry.{Entry}
use Rattle.upd_base.specs.declared.event.Event.TheVariants.{Call as CallEvent, Receive, Release}
use Rattle.upd_base.specs.declared.call.Call.{Call}
use Rattle.upd_base.specs.declared.call.Call.TheVariants.{Send, Change}
use Rattle.upd_base.specs.declared.call.Step.{Step as PlannedStep}
use Rattle.upd_base.specs.declared.answer.Answer.{Answer}
use Rattle.upd_base.specs.declared.answer.Answer.TheVariants.{Accepted}
use Rattle.group_run.specs.Group.{Rules}
use Rattle.group_run.specs.Run.{Events, log_in}

-- the item that a member's call with this answer makes: a send makes a message, a change a switch
abbrev pub accepted_by : ℕ → Call → Answer → List Item
accepted_by member (Send text) (Accepted number) = Msg member number text ∷ []
accepted_by member (Change kind) (Accepted number) = Switch member number kind ∷ []
accepted_by member call given = []

abbrev pub accepted_at : ℕ → Option PlannedStep → Answer → List Item
accepted_at member None given = []
accepted_at member (Some s) given = accepted_by member s.call given

-- the items that were accepted in these events, the newest first
abbrev pub accepted_in : Planned → Events → List Item
accepted_in plan [] = []
accepted_in plan (CallEvent thread index member given ∷ past) = accepted_at member (planned plan thread index) given ++ accepted_in plan past
accepted_in plan (Receive from to ∷ past) = accepted_in plan past
accepted_in plan (Release at ∷ past) = accepted_in plan past

-- Of the logs of two members one begins the other; no origin and number stands twice in a log; and each entry was
-- accepted by its origin, with that payload or kind.
pub record IsOrdered (rules : Rules) (plan : Planned) (past : Events) : Type 0 where
  pub agree : (i j : ℕ) → i < plan.members → j < plan.members → Agree (log_in rules plan past i) (log_in rules plan past j)
  pub once : (i : ℕ) → i < plan.members → (id : ℕ × ℕ) → count_by (λ e. has_id id e.item) (log_in rules plan past i) ≤ 1
  pub accepted : (i : ℕ) → i < plan.members → (e : Entry) → Contains (log_in rules plan past i) e → Contains (accepted_in plan past) e.item
