-- Acts: what happens in an open group, whose calls are decided as it runs. A call is planned and made in one act. The
-- plan of a list of acts has a thread for each member, and its calls are those that were said.
use Rattle.std.specs.Prelude.{ℕ, zero, suc, ◌≡◌, true, List, [], ◌∷◌}
use Rattle.upd_base.specs.Plan.{Planned, step_fits}
use Rattle.upd_base.specs.declared.kind.Kind.{Kind}
use Rattle.upd_base.specs.declared.call.Step.{Step as PlannedStep}
use Rattle.upd_base.specs.declared.answer.Answer.{Answer}
use Rattle.upd_base.specs.declared.event.Event.TheVariants.{Call as CallEvent, Receive, Release}
use Rattle.group_run.specs.Group.{Rules}
use Rattle.group_run.specs.Answer.{answer}
use Rattle.group_run.specs.Run.{Events, IsReceipt, IsRelease, calls_made, group, part}
use Rattle.group_growth.specs.Growth.{said}

-- A call was said to its member, and answered; the first frame of a link was received; a held frame was released.
pub data Act : Type 0 where
  Says : (step : PlannedStep) (given : Answer) → Act
  Receives : (from to : ℕ) → Act
  Releases : (at : ℕ) → Act

-- The acts of a group, the newest first.
abbrev pub Acts : Type 0
Acts = List Act

-- so many threads without a call
abbrev pub no_calls : ℕ → List (List PlannedStep)
no_calls zero = []
no_calls (suc n) = [] ∷ no_calls n

-- the plan of a group before any act
abbrev pub unplanned : ℕ → Kind → Planned
unplanned members first = record { members = members; first = first; threads = no_calls members }

-- the plan that the acts leave: what was said to a member is a call of its thread
abbrev pub plan_of : ℕ → Kind → Acts → Planned
plan_of members first [] = unplanned members first
plan_of members first (Says s given ∷ acts) = said (plan_of members first acts) s.at s
plan_of members first (Receives from to ∷ acts) = plan_of members first acts
plan_of members first (Releases at ∷ acts) = plan_of members first acts

-- the events of the acts
abbrev pub past_of : Acts → Events
past_of [] = []
past_of (Says s given ∷ acts) = CallEvent s.at (calls_made s.at (past_of acts)) s.at given ∷ past_of acts
past_of (Receives from to ∷ acts) = Receive from to ∷ past_of acts
past_of (Releases at ∷ acts) = Release at ∷ past_of acts

-- An act may come next: a call that fits the group, with the answer that its member gives; a receipt; a release.
pub record IsSaid (rules : Rules) (members : ℕ) (first : Kind) (acts : Acts) (s : PlannedStep) (given : Answer) : Type 0 where
  pub fits : step_fits members s ≡ true
  pub answered : given ≡ answer (group rules (plan_of members first acts)) s.at (part rules (plan_of members first acts) (past_of acts) s.at) s.call

abbrev pub MayFollow : Rules → ℕ → Kind → Acts → Act → Type 0
MayFollow rules members first acts (Says s given) = IsSaid rules members first acts s given
MayFollow rules members first acts (Receives from to) = IsReceipt rules (plan_of members first acts) (past_of acts) from to
MayFollow rules members first acts (Releases at) = IsRelease rules (plan_of members first acts) (past_of acts) at

-- each act could come at its place
abbrev pub Follow : Rules → ℕ → Kind → Acts → Type 0
Follow rules members first [] = Unit {0}
Follow rules members first (act ∷ acts) = MayFollow rules members first acts act × Follow rules members first acts
