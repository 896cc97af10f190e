use Rattle.std.proofs.Common.{◌∷◌, ◌++◌, ◌<◌, ◌≡◌, ◌∙◌, Some, true, false, length, arith, ap, subst}
use Rattle.std.specs.Prelude.{slice_get}
use Rattle.fifo_net.specs.Net.{Called}
use Rattle.order_trait.specs.Runs.{Suspect, at_seat}
use Rattle.member_rules.proofs.Enter.{tell_more, tell_none, get_at}
use Rattle.member_core.proofs.Fitting.{sends_more}
use Rattle.member_core.proofs.acts.tell.Goals.{then-suspected-who+in-Some+in_ok-suspect, then-suspected-who+in_default, else-suspected-who}
use Rattle.member_core.proofs.acts.tell.Goals as goal

pub loop-who-preserved : goal.loop-who-preserved
loop-who-preserved g c =
    let s = g.O.Ordering.seat c.args.ordering.now in
    let row = c.args.suspected.now in
    let who = c.loop-who.who in
    let old = c.loop-who.invariant in
    let lt : who < length row = c.loop-who-test.true in
    elim c.if-suspected-who.branch [
      | then-suspected-who+in-Some+in_ok-suspect w ↦
          let at : slice_get row who ≡ Some true = get_at row who _ true lt w.if-suspected-who.true in
          let is : w.in-Some.member ≡ who = w.in-Some.ensures.some in
          rw (w.ordering-is, w.bodies-is) (record {
            within = omega arith;
            fits = sends_more (g.O.Ordering.seat c.loop-who.ordering).members s.members c.args.bodies.now c.loop-who.bodies w.suspect.new.out (ap (λ t. t.members) old.seat) old.fits w.in_ok-suspect.ensures.fits;
            seat = w.suspect.ensures.seat ∙ old.seat;
            now = λ past h.
                let n = old.now past h in
                let sent = w.in_ok-suspect.ensures.sent n.0 n.1 ∙ ap (λ t. c.loop-who.bodies ++ at_seat g.O.Ordering.sends t (Called (Suspect w.in-Some.member) ∷ n.0)) old.seat
                ∙ ap (λ u. c.loop-who.bodies ++ at_seat g.O.Ordering.sends s (Called (Suspect u) ∷ n.0)) is in
                let m = tell_more (g.O.Ordering.sends s.kind s.members s.me) row who n.0 _ c.loop-who.bodies w.suspect.new.out _ at n.2 n.3 sent in
                (Called (Suspect who) ∷ n.0, subst (λ u. g.O.Ordering.stands w.suspect.new.self (Called (Suspect u) ∷ n.0)) is (w.in_ok-suspect.ensures.stands n.0 n.1), m.0, m.1);
          })
      | then-suspected-who+in_default w ↦ absurd (let n = w.in_default.ensures.none in let f = c.requires.few in omega arith)
      | else-suspected-who w ↦
          let at : slice_get row who ≡ Some false = get_at row who _ false lt w.if-suspected-who.false in
          rw (w.ordering-is, w.bodies-is) (record {
            within = omega arith;
            fits = old.fits;
            seat = old.seat;
            now = λ past h.
                let n = old.now past h in
                let m = tell_none (g.O.Ordering.sends s.kind s.members s.me) row who n.0 _ c.loop-who.bodies _ at n.2 n.3 in
                (n.0, n.1, m.0, m.1);
          })
    ]
