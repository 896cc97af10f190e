use Rattle.std.proofs.Common.{refl}
use Rattle.live_group.proofs.Turns.{noted_plan, adds_none, same_places, seen_none}
use Rattle.live_group.proofs.group.LiveGroup.settled.Goals as goal

pub end_turn-requires-clause-noted : goal.end_turn-requires-clause-noted
end_turn-requires-clause-noted g c = λ _ _. noted_plan _ _ _ _ c.take_turn-journal.ensures.noted refl

pub end_turn-requires-clause-adds : goal.end_turn-requires-clause-adds
end_turn-requires-clause-adds g c = λ _ _. adds_none _ _ _ _ c.take_turn-journal.ensures.noted refl

pub returns-clause-unmade : goal.returns-clause-unmade
returns-clause-unmade g c =
    let t = c.take_turn-journal.ensures in
    let e = c.end_turn.ensures in
    same_places c.args.pass.now c.take_turn-journal.new.pass c.end_turn.new.pass _ _ _ t.noted t.own t.goes_on e.seen e.places refl

pub returns-clause-seen : goal.returns-clause-seen
returns-clause-seen g c = seen_none c.args.pass.now c.end_turn.new.pass _ _ c.take_turn-journal.ensures.goes_on c.end_turn.ensures.seen refl
