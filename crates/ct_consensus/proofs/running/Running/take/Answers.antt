use Rattle.std.proofs.Common.{rules, ◌≡◌, ◌∷◌, Some, ap, ◌∙◌, subst}
use Rattle.fifo_net.specs.Net.{Took}
use Rattle.instance_rules.specs.Say.{Estimates, Replies}
use Rattle.instance_rules.specs.Says.{says}
use Rattle.instance_rules.specs.Bodies.{say_of}
use Rattle.ct_consensus.specs.Moves.{Sends}
use Rattle.ct_consensus.proofs.Leading.{said_is}
use Rattle.ct_consensus.proofs.running.Running.take.Goals as goal

pub returns-in_ok-take_estimate-in-Est-clause-sent :
    goal.returns-in_ok-take_estimate-in-Est-clause-sent
returns-in_ok-take_estimate-in-Est-clause-sent c = λ say past e no row old.
    let k = c.args.seat.now.number in
    let told : c.in-Est.instance ≡ k = search rules in
    let said : Estimates c.in-Est.round (record { stamp = c.in-Est.stamp; batch = c.in-Est.batch }) ≡ say =
    said_is k c.in-Est.instance _ say told (subst (λ b. say_of k b ≡ Some say) c.in-Est.is e) in
    subst (λ y. Sends c.args.seat.now.members k c.args.out.now c.take_estimate.new.out (says c.args.seat.now.members c.args.seat.now.me (Took c.args.from y ∷ past)))
    (ap (λ b. Estimates c.in-Est.round (record { stamp = c.in-Est.stamp; batch = b })) c.in_ok-copy-in-Est.ensures ∙ said)
    (c.in_ok-take_estimate-in-Est.ensures.sent past old)

pub returns-in_ok-take_reply-in-Reply-clause-sent :
    goal.returns-in_ok-take_reply-in-Reply-clause-sent
returns-in_ok-take_reply-in-Reply-clause-sent c = λ say past e no row old.
    let k = c.args.seat.now.number in
    let told : c.in-Reply.instance ≡ k = search rules in
    let said : Replies c.in-Reply.round c.in-Reply.yes ≡ say =
    said_is k c.in-Reply.instance _ say told (subst (λ b. say_of k b ≡ Some say) c.in-Reply.is e) in
    subst (λ y. Sends c.args.seat.now.members k c.args.out.now c.take_reply.new.out (says c.args.seat.now.members c.args.seat.now.me (Took c.args.from y ∷ past)))
    said (c.in_ok-take_reply-in-Reply.ensures.sent past old)
