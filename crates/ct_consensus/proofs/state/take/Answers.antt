use Rattle.std.proofs.Common.{rules, ◌≡◌, ◌∷◌, Some, subst}
use Rattle.fifo_net.specs.Net.{Took}
use Rattle.instance_rules.specs.Say.{Decides}
use Rattle.instance_rules.specs.Says.{says}
use Rattle.instance_rules.specs.Bodies.{say_of}
use Rattle.ct_consensus.specs.Moves.{Sends}
use Rattle.ct_consensus.specs.Stands.{IsState}
use Rattle.ct_consensus.proofs.Decided.{no_decision}
use Rattle.ct_consensus.proofs.Leading.{said_is}
use Rattle.ct_consensus.proofs.state.take.Goals as goal

pub returns-in-Decide-clause-sent : goal.returns-in-Decide-clause-sent
returns-in-Decide-clause-sent c = λ say past e row old.
    let k = c.args.seat.now.number in
    let told : c.in-Decide.instance ≡ k = search rules in
    let said : Decides c.in-Decide.batch ≡ say = said_is k c.in-Decide.instance _ say told (subst (λ b. say_of k b ≡ Some say) c.in-Decide.is e) in
    subst (λ y. Sends c.args.seat.now.members k c.args.out.now c.decide.new.out (says c.args.seat.now.members c.args.seat.now.me (Took c.args.from y ∷ past)))
    said (c.in_ok-decide.ensures.sent c.args.from past old)

pub returns-in_ok-take-in-Undecided : goal.returns-in_ok-take-in-Undecided
returns-in_ok-take-in-Undecided c =
    record {
      stands = λ say past e row old.
          c.in_ok-take-in-Undecided.ensures.stands say past e (no_decision c.args.seat.now.number c.args.body.now say e c.in_default.not-Decide) row (subst (λ s. IsState c.args.seat.now.members c.args.seat.now.me s past) c.in-Undecided.is old);
      sent = λ say past e row old.
          c.in_ok-take-in-Undecided.ensures.sent say past e (no_decision c.args.seat.now.number c.args.body.now say e c.in_default.not-Decide) row (subst (λ s. IsState c.args.seat.now.members c.args.seat.now.me s past) c.in-Undecided.is old);
      grows = c.in_ok-take-in-Undecided.ensures.grows;
      fits = c.in_ok-take-in-Undecided.ensures.fits;
    }
