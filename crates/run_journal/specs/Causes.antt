-- Why a journal refuses.
use Rattle.std.specs.Prelude.{ℕ, Bool, true, false, ◌≡◌, ◌≢◌, if◌then◌else◌, Option, Some, None, IsSome, ◌∷◌, length}
use Rattle.upd_base.specs.Plan.{Planned, planned, bound}
use Rattle.upd_base.specs.declared.frame.Frame.{Frame}
use Rattle.upd_base.specs.declared.event.Event.{Event}
use Rattle.upd_base.specs.declared.event.Event.TheVariants.{Call as CallEvent}
use Rattle.upd_base.specs.declared.answer.Answer.{Answer}
use Rattle.upd_base.specs.declared.answer.Answer.TheVariants.{Full}
use Rattle.upd_base.specs.declared.call.Step.{Step as PlannedStep}
use Rattle.group_run.specs.Group.{Rules}
use Rattle.group_run.specs.Answer.{answer}
use Rattle.group_run.specs.Run.{Events, IsRelease, calls_made, crashed_in, next_frame, part, group}
use Rattle.run_journal.specs.declared.faults.CallFault.{CallFault}
use Rattle.run_journal.specs.declared.faults.ReceiveFault.{ReceiveFault}
use Rattle.run_journal.specs.declared.faults.ReleaseFault.{ReleaseFault}
use Rattle.run_journal.specs.declared.faults.CallFault.TheVariants as calls
use Rattle.run_journal.specs.declared.faults.ReceiveFault.TheVariants as receipts
use Rattle.run_journal.specs.declared.faults.ReleaseFault.TheVariants as releases

-- the planned call that a thread has next
abbrev pub next_call : Planned → Events → ℕ → Option PlannedStep
next_call plan past thread = planned plan thread (calls_made thread past)

-- what it would be answered
abbrev pub answer_next : Rules → Planned → Events → Option PlannedStep → Option Answer
answer_next rules plan past None = None
answer_next rules plan past (Some s) = Some (answer (group rules plan) s.at (part rules plan past s.at) s.call)

-- the event of it, where it is answered so
abbrev pub call_event : Planned → Events → ℕ → Option PlannedStep → Answer → Option Event
call_event plan past thread None given = None
call_event plan past thread (Some s) given = Some (CallEvent thread (calls_made thread past) s.at given)

abbrev pub would_be_full : Option Answer → Bool
would_be_full (Some Full) = true
would_be_full given = false

-- one event more
abbrev pub IsMade : Option Event → Events → Events → Type 0
IsMade None old new = ⊥
IsMade (Some e) old new = new ≡ e ∷ old

-- the journal holds as many events as its plan's bound
abbrev pub IsSpent : Planned → Events → Type 0
IsSpent plan past = length past ≡ bound plan

-- Of a call: the thread's calls are all made; the journal is spent.
abbrev pub CallCause : Rules → Planned → Events → ℕ → CallFault → Type 0
CallCause rules plan past thread calls.PlanDone = next_call plan past thread ≡ None
CallCause rules plan past thread calls.Spent = IsSome (next_call plan past thread) × IsSpent plan past
CallCause rules plan past thread calls.NoMemory = Unit {0}

-- the frame that a receipt would take: none at a crashed member
abbrev pub open_frame : Rules → Planned → Events → ℕ → ℕ → Option Frame
open_frame rules plan past from to = if crashed_in rules plan past to then None else next_frame rules plan past from to

-- Of a receipt: the receiver has crashed; the link has no frame; its frame is another one; the journal is spent.
abbrev pub ReceiveCause : Rules → Planned → Events → ℕ → ℕ → Frame → ReceiveFault → Type 0
ReceiveCause rules plan past from to got receipts.Crashed = crashed_in rules plan past to ≡ true
ReceiveCause rules plan past from to got receipts.Nothing = (crashed_in rules plan past to ≡ false) × (next_frame rules plan past from to ≡ None)
ReceiveCause rules plan past from to got (receipts.Differs sent given) =
    (crashed_in rules plan past to ≡ false) × (next_frame rules plan past from to ≡ Some sent) × (sent ≢ got) × (given ≡ got)
ReceiveCause rules plan past from to got receipts.Spent =
    (crashed_in rules plan past to ≡ false) × (next_frame rules plan past from to ≡ Some got) × IsSpent plan past
ReceiveCause rules plan past from to got receipts.NoMemory = Unit {0}

-- Of a receipt of what was sent: the journal is spent.
abbrev pub ReceiveNextCause : Rules → Planned → Events → ℕ → ℕ → ReleaseFault → Type 0
ReceiveNextCause rules plan past from to releases.Spent = IsSome (open_frame rules plan past from to) × IsSpent plan past
ReceiveNextCause rules plan past from to releases.NoMemory = Unit {0}

-- Of a release: the journal is spent.
abbrev pub ReleaseCause : Rules → Planned → Events → ℕ → ReleaseFault → Type 0
ReleaseCause rules plan past at releases.Spent = IsRelease rules plan past at × IsSpent plan past
ReleaseCause rules plan past at releases.NoMemory = Unit {0}
