-- What a call asks for, and what became of it.
use Rattle.std.specs.Prelude.{ℕ, Bool, ◌≡◌, ◌<◌, List, slice_get, Option, Some, Result, Ok, Err}
use Rattle.upd_base.specs.Plan.{Planned}
use Rattle.upd_base.specs.declared.event.Event.{Event}
use Rattle.upd_base.specs.declared.event.Event.TheVariants.{Call as CallEvent}
use Rattle.upd_base.specs.declared.answer.Answer.{Answer}
use Rattle.group_run.specs.Group.{Rules}
use Rattle.group_run.specs.Run.{Events}
use Rattle.run_journal.specs.Causes.{next_call, answer_next, call_event, would_be_full}
use Rattle.run_journal.specs.declared.faults.CallFault.{CallFault}
use Rattle.live_group.specs.declared.offer.Offer.{Offer}
use Rattle.live_group.specs.declared.offer.Offer.TheVariants.{Answered, NotNow}

-- the event of a thread's next call, with this answer
abbrev pub next_event : Planned → Events → ℕ → Answer → Option Event
next_event plan past thread answer = call_event plan past thread (next_call plan past thread) answer

-- the thread has a next call, and this is its answer
abbrev pub IsNextAnswer : Rules → Planned → Events → ℕ → Answer → Type 0
IsNextAnswer rules plan past thread answer = answer_next rules plan past (next_call plan past thread) ≡ Some answer

-- the thread has a next call, and its answer would be that the member is full
abbrev pub would_fill : Rules → Planned → Events → ℕ → Bool
would_fill rules plan past thread = would_be_full (answer_next rules plan past (next_call plan past thread))

-- where the call was made, this holds of its answer
abbrev pub IfAnswered : Result Offer CallFault → (Answer → Type 0) → Type 0
IfAnswered (Ok (Answered answer)) P = P answer
IfAnswered (Ok NotNow) P = Unit {0}
IfAnswered (Err fault) P = Unit {0}

-- where the call was not made for want of room, this holds
abbrev pub OnNotNow : Result Offer CallFault → Type 0 → Type 0
OnNotNow (Ok (Answered answer)) P = Unit {0}
OnNotNow (Ok NotNow) P = P
OnNotNow (Err fault) P = Unit {0}

-- where the call was not made, this holds
abbrev pub UnlessAnswered : Result Offer CallFault → Type 0 → Type 0
UnlessAnswered (Ok (Answered answer)) P = Unit {0}
UnlessAnswered (Ok NotNow) P = P
UnlessAnswered (Err fault) P = P

-- at this place stands a call of the thread, with this answer
abbrev pub StandsAt : List Event → ℕ → ℕ → Answer → Type 0
StandsAt events place thread answer = (index member : ℕ) × (slice_get events place ≡ Some (CallEvent thread index member answer))

-- two calls of the thread stand there, one behind the other, with these answers
abbrev pub StandInOrder : List Event → ℕ → Answer → Answer → Type 0
StandInOrder events thread first second = (p q : ℕ) × (p < q) × StandsAt events p thread first × StandsAt events q thread second
