use Rattle.std.proofs.Common.{◌≡◌, Some, false, refl}
use Rattle.std.specs.Prelude.{IsTrue}
use Rattle.upd_base.specs.declared.event.Event.TheVariants.{Release}
use Rattle.live_group.proofs.Turns.{noted_plan, adds_where, makes_one, same_places, seen_where, if_bool, on_err}
use Rattle.live_group.proofs.group.LiveGroup.release.Goals as goal

pub end_turn-requires-clause-noted : goal.end_turn-requires-clause-noted
end_turn-requires-clause-noted g c = λ _ _. noted_plan _ _ _ _ c.take_turn-journal.ensures.noted c.release-released.ensures.plan

pub end_turn-requires-clause-adds : goal.end_turn-requires-clause-adds
end_turn-requires-clause-adds g c =
    let r = c.release-released.ensures in
    λ _ _. adds_where _ _ _ _ c.release-released.result (Release c.args.at) c.take_turn-journal.ensures.noted r.made r.none r.err

pub returns-clause-made : goal.returns-clause-made
returns-clause-made g c =
    let t = c.take_turn-journal.ensures in
    let e = c.end_turn.ensures in
    if_bool (λ made. makes_one c.args.pass.now c.take_turn-journal.new.pass c.end_turn.new.pass _ _ _ t.noted t.own t.goes_on e.seen e.places (Some (Release c.args.at)) _ made refl) (λ b. IsTrue b) c.release-released.result c.release-released.ensures.made

pub returns-clause-unmade : goal.returns-clause-unmade
returns-clause-unmade g c =
    let t = c.take_turn-journal.ensures in
    let e = c.end_turn.ensures in
    if_bool (same_places c.args.pass.now c.take_turn-journal.new.pass c.end_turn.new.pass _ _ _ t.noted t.own t.goes_on e.seen e.places) (λ b. b ≡ false) c.release-released.result c.release-released.ensures.none

pub returns-clause-err : goal.returns-clause-err
returns-clause-err g c =
    let t = c.take_turn-journal.ensures in
    let e = c.end_turn.ensures in
    on_err (same_places c.args.pass.now c.take_turn-journal.new.pass c.end_turn.new.pass _ _ _ t.noted t.own t.goes_on e.seen e.places) c.release-released.result c.release-released.ensures.err

pub returns-clause-seen : goal.returns-clause-seen
returns-clause-seen g c =
    let r = c.release-released.ensures in
    seen_where c.args.pass.now c.end_turn.new.pass _ _ c.take_turn-journal.ensures.goes_on c.end_turn.ensures.seen c.release-released.result (Release c.args.at) r.made r.none r.err
