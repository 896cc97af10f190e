use Rattle.std.proofs.Common.{◌∷◌, ◌++◌, ◌<◌, ◌≡◌, ◌∙◌, Some, length, refl, arith, ap}
use Rattle.std.specs.Prelude.{slice_get}
use Rattle.std.proofs.lemmas.Option.{slice_get_read}
use Rattle.fifo_net.specs.Net.{Called}
use Rattle.order_trait.specs.Runs.{Broadcast, at_seat}
use Rattle.member_rules.proofs.Enter.{give_more}
use Rattle.member_core.proofs.Fitting.{sends_more}
use Rattle.member_core.proofs.acts.give.Goals as goal

pub loop-at-preserved : goal.loop-at-preserved
loop-at-preserved g c =
    let s = g.O.Ordering.seat c.args.ordering.now in
    let item = c.index-again-at.result in
    let lt : c.loop-at.at < length c.args.again.now = c.loop-at-test.true in
    let at : slice_get c.args.again.now c.loop-at.at ≡ Some item = slice_get_read c.args.again.now (length c.args.again.now) c.loop-at.at item refl lt c.index-again-at.is in
    record {
      within = omega arith;
      fits = sends_more (g.O.Ordering.seat c.loop-at.ordering).members s.members c.args.bodies.now c.loop-at.bodies c.broadcast.new.out (ap (λ t. t.members) c.loop-at.invariant.seat)
          c.loop-at.invariant.fits c.in_ok-broadcast.ensures.fits;
      seat = c.broadcast.ensures.seat ∙ c.loop-at.invariant.seat;
      now = λ past h.
          let n = c.loop-at.invariant.now past h in
          let sent = c.in_ok-broadcast.ensures.sent n.0 n.1 ∙ ap (λ t. c.loop-at.bodies ++ at_seat g.O.Ordering.sends t (Called (Broadcast item) ∷ n.0)) c.loop-at.invariant.seat in
          let m = give_more (g.O.Ordering.sends s.kind s.members s.me) c.args.again.now c.loop-at.at item n.0 _ c.loop-at.bodies c.broadcast.new.out _ at n.2 n.3 sent in
          (Called (Broadcast item) ∷ n.0, c.in_ok-broadcast.ensures.stands n.0 n.1, m.0, m.1);
    }
