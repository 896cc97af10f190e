-- The laws of growth.
use Rattle.std.specs.Prelude.{ℕ, suc, ◌≡◌, ◌<◌, ◌≤◌, ◌^◌, true, List, ◌∷◌, ◌++◌, length}
use Rattle.fifo_net.specs.Net.{IsPrefix}
use Rattle.upd_base.specs.Kind.{kind_fits}
use Rattle.upd_base.specs.Plan.{Planned, is_open, step_fits}
use Rattle.upd_base.specs.declared.kind.Kind.{Kind}
use Rattle.upd_base.specs.declared.call.Step.{Step as PlannedStep}
use Rattle.upd_base.specs.declared.answer.Answer.{Answer}
use Rattle.upd_base.specs.declared.entry.Entry.{Entry}
use Rattle.upd_base.specs.declared.event.Event.TheVariants.{Call as CallEvent}
use Rattle.group_run.specs.Group.{Rules}
use Rattle.group_run.specs.Answer.{answer}
use Rattle.group_run.specs.Laws.{KeepsOrder, FulfilsAll}
use Rattle.group_run.specs.Ordered.{IsOrdered}
use Rattle.group_run.specs.Run.{Events, IsGroupRun, IsReceipt, IsRelease, AreEnabled, calls_made, group, log_in, part}
use Rattle.group_run.specs.Settled.{IsSettled, IsQuiet, IsFulfilled}
use Rattle.group_growth.specs.Growth.{AllMade, GoesOn, ReadsAlike, said}
use Rattle.group_growth.specs.Acts.{Acts, Follow, plan_of, past_of}

-- A run of a plan is a run of each plan that goes on from it.
abbrev pub GoOn : Type 0
GoOn = (rules : Rules) (old new : Planned) (past : Events) → GoesOn old new → is_open new ≡ true → IsGroupRun rules old past → IsGroupRun rules new past

-- And all that is read of it is the same by either.
abbrev pub ReadAlike : Type 0
ReadAlike = (rules : Rules) (old new : Planned) (past : Events) → GoesOn old new → AreEnabled rules old past → ReadsAlike rules old new past

-- The plan with a call more goes on from it.
abbrev pub SaidGoesOn : Type 0
SaidGoesOn = (plan : Planned) (thread : ℕ) (s : PlannedStep) → GoesOn plan (said plan thread s)

-- and keeps the rules of a plan, where the call fits
abbrev pub SaidIsOpen : Type 0
SaidIsOpen = (plan : Planned) (thread : ℕ) (s : PlannedStep) → is_open plan ≡ true → step_fits plan.members s ≡ true → is_open (said plan thread s) ≡ true

-- A run in which each planned call was made, and a call more: the call's event may come next, and then each planned call
-- is made again.
pub record IsSaidNext (rules : Rules) (plan : Planned) (past : Events) (thread : ℕ) (s : PlannedStep) (given : Answer) : Type 0 where
  pub run : IsGroupRun rules (said plan thread s) (CallEvent thread (calls_made thread past) s.at given ∷ past)
  pub made : AllMade (said plan thread s) (CallEvent thread (calls_made thread past) s.at given ∷ past)

abbrev pub SaysAtOnce : Type 0
SaysAtOnce = (rules : Rules) (plan : Planned) (past : Events) (thread : ℕ) (s : PlannedStep) (given : Answer) → IsGroupRun rules plan past → AllMade plan past
    → thread < length plan.threads → step_fits plan.members s ≡ true → suc (length past) < 2 ^ 30 → given ≡ answer (group rules plan) s.at (part rules plan past s.at) s.call
    → IsSaidNext rules plan past thread s given

-- For kinds that keep agreement and integrity a log only grows, within a run and from plan to plan.
abbrev pub LogsGrow : Type 0
LogsGrow = (rules : Rules) → KeepsOrder rules → (plan : Planned) → rules.serves plan.first ≡ true → (later past : Events) → IsGroupRun rules plan (later ++ past)
    → (i : ℕ) → i < plan.members → IsPrefix (log_in rules plan past i) (log_in rules plan (later ++ past) i)

abbrev pub LogsGrowOn : Type 0
LogsGrowOn = (rules : Rules) → KeepsOrder rules → (old new : Planned) → GoesOn old new → rules.serves old.first ≡ true → (later past : Events)
    → IsGroupRun rules old past → IsGroupRun rules new (later ++ past) → (i : ℕ) → i < old.members → IsPrefix (log_in rules old past i) (log_in rules new (later ++ past) i)

-- Acts --------------------------------------------------------------------------------------------------------------

-- a group of 1 to 7 members, with a first kind that fits them
pub record IsGroup (members : ℕ) (first : Kind) : Type 0 where
  pub some : 1 ≤ members
  pub few : members ≤ 7
  pub fits : kind_fits members first ≡ true

-- The events of these acts are a run of their plan, in which each planned call was made.
pub record IsOpenRun (rules : Rules) (members : ℕ) (first : Kind) (acts : Acts) : Type 0 where
  pub run : IsGroupRun rules (plan_of members first acts) (past_of acts)
  pub made : AllMade (plan_of members first acts) (past_of acts)

-- Acts of which each could come at its place are such a run.
abbrev pub ActsAreRuns : Type 0
ActsAreRuns = (rules : Rules) (members : ℕ) (first : Kind) (acts : Acts) → IsGroup members first → length acts < 2 ^ 30 → Follow rules members first acts
    → IsOpenRun rules members first acts

-- Acts up to any of them follow one another too: so what is known of all is known at each moment.
abbrev pub BeginningsFollow : Type 0
BeginningsFollow = (rules : Rules) (members : ℕ) (first : Kind) (later acts : Acts) → Follow rules members first (later ++ acts) → Follow rules members first acts

-- The plan of more acts goes on from that of fewer, and so do the events.
pub record ActsGoOn (members : ℕ) (first : Kind) (later acts : Acts) : Type 0 where
  pub plan : GoesOn (plan_of members first acts) (plan_of members first (later ++ acts))
  pub newer : Events
  pub past : past_of (later ++ acts) ≡ newer ++ past_of acts

abbrev pub MoreActsGoOn : Type 0
MoreActsGoOn = (members : ℕ) (first : Kind) (later acts : Acts) → ActsGoOn members first later acts

-- nothing can be received or released
pub record IsAtRest (rules : Rules) (plan : Planned) (past : Events) : Type 0 where
  pub receipts : (from to : ℕ) → IsReceipt rules plan past from to → ⊥
  pub releases : (at : ℕ) → IsRelease rules plan past at → ⊥

-- Each call of an open run was made when it was planned, so one that is at rest is settled.
abbrev pub RestIsSettled : Type 0
RestIsSettled = (rules : Rules) (members : ℕ) (first : Kind) (acts : Acts) → IsOpenRun rules members first acts
    → IsAtRest rules (plan_of members first acts) (past_of acts) → IsSettled rules (plan_of members first acts) (past_of acts)

-- What a member has delivered after these acts begins what it has delivered after more.
abbrev pub log_after : Rules → ℕ → Kind → Acts → ℕ → List Entry
log_after rules members first acts i = log_in rules (plan_of members first acts) (past_of acts) i

abbrev pub OpenLogsGrow : Type 0
OpenLogsGrow = (rules : Rules) → KeepsOrder rules → (members : ℕ) (first : Kind) → rules.serves first ≡ true → (later acts : Acts)
    → IsOpenRun rules members first acts → IsOpenRun rules members first (later ++ acts) → (i : ℕ) → i < members
    → IsPrefix (log_after rules members first acts i) (log_after rules members first (later ++ acts) i)

-- The theorem of open runs: ordered; and at rest, where nothing was crashed or suspected, every accepted message stands in
-- every log.
pub record KeepsTheorem (rules : Rules) (plan : Planned) (past : Events) : Type 0 where
  pub run : IsGroupRun rules plan past
  pub ordered : IsOrdered rules plan past
  pub fulfilled : IsAtRest rules plan past → IsQuiet plan past → IsFulfilled rules plan past

abbrev pub OpenRunsKeepTheorem : Type 0
OpenRunsKeepTheorem = (rules : Rules) → KeepsOrder rules → FulfilsAll rules → (members : ℕ) (first : Kind) → IsGroup members first → rules.serves first ≡ true
    → (acts : Acts) → length acts < 2 ^ 30 → Follow rules members first acts → KeepsTheorem rules (plan_of members first acts) (past_of acts)
