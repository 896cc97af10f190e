use Rattle.std.proofs.Common.{Option, refl}
use Rattle.upd_base.specs.declared.event.Event.{Event}
use Rattle.run_journal.specs.Journal.{plan_of, events_of, past_of}
use Rattle.run_journal.specs.Causes.{call_event, next_call}
use Rattle.live_group.proofs.Turns.{noted_plan, adds_none, adds_by, before_is, makes_one, same_places, seen_none, seen_one, same_event, unless_err}
use Rattle.live_group.proofs.group.LiveGroup.call.Goals as goal

pub end_turn-requires-clause-noted : goal.end_turn-requires-clause-noted
end_turn-requires-clause-noted g c = λ _ _. noted_plan _ _ _ _ c.take_turn-journal.ensures.noted refl

pub end_turn-requires-clause-adds : goal.end_turn-requires-clause-adds
end_turn-requires-clause-adds g c = λ _ _. adds_none _ _ _ _ c.take_turn-journal.ensures.noted refl

pub returns-then-would_fill-clause-unmade : goal.returns-then-would_fill-clause-unmade
returns-then-would_fill-clause-unmade g c =
    let t = c.take_turn-journal.ensures in
    let e = c.end_turn.ensures in
    same_places c.args.pass.now c.take_turn-journal.new.pass c.end_turn.new.pass _ _ _ t.noted t.own t.goes_on e.seen e.places refl

pub end_turn-requires-2-clause-noted : goal.end_turn-requires-2-clause-noted
end_turn-requires-2-clause-noted g c = λ _ _. noted_plan _ _ _ _ c.take_turn-journal.ensures.noted c.call-answer.ensures.plan

pub end_turn-requires-2-clause-adds : goal.end_turn-requires-2-clause-adds
end_turn-requires-2-clause-adds g c =
    let r = c.call-answer.ensures in
    let j = c.take_turn-journal.result in
    λ _ _. adds_by _ _ _ _ c.call-answer.result (λ a. call_event (plan_of j) (past_of j) c.args.thread (next_call (plan_of j) (past_of j) c.args.thread) a) c.take_turn-journal.ensures.noted r.made r.err

pub returns-in_err-answer-clause-unmade : goal.returns-in_err-answer-clause-unmade
returns-in_err-answer-clause-unmade g c =
    let t = c.take_turn-journal.ensures in
    let e = c.end_turn-2.ensures in
    unless_err c.from_residual.result c.from_residual.ensures.0 (same_places c.args.pass.now c.take_turn-journal.new.pass c.end_turn-2.new.pass _ _ _ t.noted t.own t.goes_on e.seen e.places c.in_err-answer.ensures.err)

pub returns-clause-made : goal.returns-clause-made
returns-clause-made g c =
    let t = c.take_turn-journal.ensures in
    let e = c.end_turn-2.ensures in
    let answer = c.in_ok-answer.field-0 in
    let j = c.take_turn-journal.result in
    let event : Option Event = call_event (plan_of j) (past_of j) c.args.thread (next_call (plan_of j) (past_of j) c.args.thread) answer in
    let before = before_is c.end_turn-2.new.pass (events_of j) (events_of c.call-answer.new.self) event e.seen c.in_ok-answer.ensures.made in
    makes_one c.args.pass.now c.take_turn-journal.new.pass c.end_turn-2.new.pass _ (events_of j) (events_of c.call-answer.new.self) t.noted t.own t.goes_on e.seen e.places event _ c.in_ok-answer.ensures.made (same_event _ _ _ _ c.args.thread answer t.plan before)

pub returns-then-would_fill-clause-seen : goal.returns-then-would_fill-clause-seen
returns-then-would_fill-clause-seen g c = seen_none c.args.pass.now c.end_turn.new.pass _ _ c.take_turn-journal.ensures.goes_on c.end_turn.ensures.seen refl

pub returns-in_err-answer-clause-seen : goal.returns-in_err-answer-clause-seen
returns-in_err-answer-clause-seen g c = seen_none c.args.pass.now c.end_turn-2.new.pass _ _ c.take_turn-journal.ensures.goes_on c.end_turn-2.ensures.seen c.in_err-answer.ensures.err

pub returns-clause-seen : goal.returns-clause-seen
returns-clause-seen g c =
    let j = c.take_turn-journal.result in
    let event : Option Event = call_event (plan_of j) (past_of j) c.args.thread (next_call (plan_of j) (past_of j) c.args.thread) c.in_ok-answer.field-0 in
    seen_one c.args.pass.now c.end_turn-2.new.pass (events_of j) (events_of c.call-answer.new.self) c.take_turn-journal.ensures.goes_on c.end_turn-2.ensures.seen event c.in_ok-answer.ensures.made
