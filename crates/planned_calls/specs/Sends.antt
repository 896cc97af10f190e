-- What becomes of the planned sends.
use Rattle.std.specs.Prelude.{ℕ, true, ◌≡◌, ◌<◌, Some, List, [], Contains}
use Rattle.upd_base.specs.Plan.{Planned, planned}
use Rattle.upd_base.specs.declared.item.Item.TheVariants.{Msg}
use Rattle.upd_base.specs.declared.answer.Answer.TheVariants.{Accepted}
use Rattle.upd_base.specs.declared.call.Call.TheVariants.{Send}
use Rattle.upd_base.specs.declared.call.Step.{Step}
use Rattle.upd_base.specs.declared.event.Event.TheVariants.{Call}
use Rattle.group_run.specs.Group.{Rules}
use Rattle.group_run.specs.Run.{Events, IsGroupRun}
use Rattle.group_run.specs.Settled.{IsLogged, IsQuiet, IsSettled}
use Rattle.group_run.specs.Laws.{FulfilsAll, KeepsOrder}
use Rattle.rehearsal.specs.FullAtRest.{FullAtRest}

-- Each planned send was accepted, and its message stands in every log.
abbrev pub DeliversSends : Rules → Planned → Events → Type 0
DeliversSends rules plan past = (thread index : ℕ) (s : Step) (text : List ℕ) → planned plan thread index ≡ Some s → s.call ≡ Send text
    → (number : ℕ) × Contains past (Call thread index s.at (Accepted number)) × ((i : ℕ) → i < plan.members → IsLogged rules plan past i (Msg s.at number text))

-- For kinds that keep agreement, integrity and fulfilment: a settled quiet run in which calls were answered as full only
-- at rest delivers each planned send.
abbrev pub QuietRunsDeliver : Type 0
QuietRunsDeliver = (rules : Rules) → KeepsOrder rules → FulfilsAll rules → (plan : Planned) → rules.serves plan.first ≡ true
    → (past : Events) → IsGroupRun rules plan past → FullAtRest rules plan [] past → IsSettled rules plan past → IsQuiet plan past → DeliversSends rules plan past
