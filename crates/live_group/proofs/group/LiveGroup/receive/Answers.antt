use Rattle.std.proofs.Common.{Some, refl}
use Rattle.upd_base.specs.declared.event.Event.TheVariants.{Receive}
use Rattle.live_group.proofs.Turns.{noted_plan, adds_by, makes_one, same_places, seen_by, on_ok, on_err}
use Rattle.live_group.proofs.group.LiveGroup.receive.Goals as goal

pub end_turn-requires-clause-noted : goal.end_turn-requires-clause-noted
end_turn-requires-clause-noted g c = λ _ _. noted_plan _ _ _ _ c.take_turn-journal.ensures.noted c.receive-received.ensures.plan

pub end_turn-requires-clause-adds : goal.end_turn-requires-clause-adds
end_turn-requires-clause-adds g c =
    let r = c.receive-received.ensures in
    λ _ _. adds_by _ _ _ _ c.receive-received.result (λ _. Some (Receive c.args.from c.args.to)) c.take_turn-journal.ensures.noted r.made r.err

pub returns-clause-made : goal.returns-clause-made
returns-clause-made g c =
    let t = c.take_turn-journal.ensures in
    let e = c.end_turn.ensures in
    on_ok (λ made. makes_one c.args.pass.now c.take_turn-journal.new.pass c.end_turn.new.pass _ _ _ t.noted t.own t.goes_on e.seen e.places (Some (Receive c.args.from c.args.to)) _ made refl) c.receive-received.result c.receive-received.ensures.made

pub returns-clause-unmade : goal.returns-clause-unmade
returns-clause-unmade g c =
    let t = c.take_turn-journal.ensures in
    let e = c.end_turn.ensures in
    on_err (same_places c.args.pass.now c.take_turn-journal.new.pass c.end_turn.new.pass _ _ _ t.noted t.own t.goes_on e.seen e.places) c.receive-received.result c.receive-received.ensures.err

pub returns-clause-seen : goal.returns-clause-seen
returns-clause-seen g c =
    let r = c.receive-received.ensures in
    seen_by c.args.pass.now c.end_turn.new.pass _ _ c.take_turn-journal.ensures.goes_on c.end_turn.ensures.seen c.receive-received.result (λ _. Some (Receive c.args.from c.args.to)) r.made r.err
