-- How a schedule ends.
use Rattle.std.proofs.Common.{◌≡◌, ◌≤◌, inl, inr, true, length, sym, subst, arith, Ok, Err}
use Rattle.std.specs.Prelude.{Result, OnOk, OnErr}
use Rattle.std.proofs.lemmas.Bool.{cases_lt}
use Rattle.upd_base.specs.Plan.{Planned, bound}
use Rattle.upd_base.specs.declared.no_memory.NoMemory.{NoMemory}
use Rattle.group_run.specs.Group.{Rules}
use Rattle.group_run.specs.Run.{Events}
use Rattle.group_run.specs.Settled.{IsSettled}
use Rattle.rehearsal.specs.declared.rehearsed.RehearsalEnd.{RehearsalEnd}
use Rattle.rehearsal.specs.declared.rehearsed.RehearsalEnd.TheVariants as ends
use Rattle.rehearsal.specs.Choices.{has_room}
use Rattle.rehearsal.specs.Ends.{EndsAt, IsOnTheWay, TellsRun}
use Rattle.rehearsal.proofs.Visits.{room_of}

pub end_told : (rules : Rules) (plan : Planned) (past whole : Events) (end : RehearsalEnd) → length past ≤ bound plan → past ≡ whole → (has_room plan past ≡ true → IsSettled rules plan past)
    → TellsRun rules plan past end → EndsAt rules plan end past whole
end_told rules plan past whole ends.Settled few is rests settled = (is, settled)
end_told rules plan past whole ends.Spent few is rests left = (is, elim (cases_lt (length past) (bound plan)) [ inl lt ↦ absurd (left (rests (room_of plan past lt))) | inr ge ↦ (omega arith) ], left)
end_told rules plan past whole ends.NoMemory few is rests none = absurd none

pub ends_at : (rules : Rules) (plan : Planned) (past whole : Events) (end : RehearsalEnd) (r : Result (Unit {0}) NoMemory) → length past ≤ bound plan
    → OnOk r (past ≡ whole) → OnOk r (has_room plan past ≡ true → IsSettled rules plan past) → OnErr r (IsOnTheWay past whole)
    → OnOk r (TellsRun rules plan past end) → OnErr r (end ≡ ends.NoMemory) → EndsAt rules plan end past whole
ends_at rules plan past whole end (Ok x) few made rests way told memory = end_told rules plan past whole end few made rests told
ends_at rules plan past whole end (Err e) few made rests way told memory = subst (λ x. EndsAt rules plan x past whole) (sym memory) way
