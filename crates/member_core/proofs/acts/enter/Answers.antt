use Rattle.std.proofs.Common.{map, [], subst, sym, ◌∙◌, ap}
use Rattle.order_trait.specs.Outbox.{Grows, SendFits}
use Rattle.order_trait.specs.Runs.{Broadcast}
use Rattle.member_rules.specs.Acts.{suspicions_in, orders_after}
use Rattle.member_rules.proofs.Enter.{orders_after-append, enter_sent}
use Rattle.member_core.proofs.Fitting.{sends_more}
use Rattle.member_core.proofs.acts.enter.Goals as goal

pub returns-clause-fits : goal.returns-clause-fits
returns-clause-fits g c =
    let members = ap (λ s. s.members) c.in_ok-module.ensures.seat in
    let after = ap (λ s. s.members) c.tell.ensures.seat ∙ members in
    sends_more (g.O.Ordering.seat c.tell.new.ordering).members c.args.n c.args.bodies.now c.tell.new.bodies c.give.new.bodies after
    (subst (λ k. Grows (SendFits k) c.args.bodies.now c.tell.new.bodies) members c.in_ok-tell.ensures.fits) c.in_ok-give.ensures.fits

pub returns-clause-stands : goal.returns-clause-stands
returns-clause-stands g c =
    let a = suspicions_in 0 c.args.suspected.now in
    let b = map (λ item. Broadcast item) c.args.again.now in
    subst (g.O.Ordering.stands c.give.new.ordering) (sym (orders_after-append a b []))
    (c.in_ok-give.ensures.stands (orders_after a []) (c.in_ok-tell.ensures.stands [] c.in_ok-module.ensures.stands))

pub returns-clause-sent : goal.returns-clause-sent
returns-clause-sent g c =
    let a = suspicions_in 0 c.args.suspected.now in
    let b = map (λ item. Broadcast item) c.args.again.now in
    let f = c.in_ok-tell.ensures.sent [] c.in_ok-module.ensures.stands in
    let s = c.in_ok-give.ensures.sent (orders_after a []) (c.in_ok-tell.ensures.stands [] c.in_ok-module.ensures.stands) in
    enter_sent g.O.Ordering.sends (g.O.Ordering.seat c.in_ok-module.module) (g.O.Ordering.seat c.tell.new.ordering) c.args.kind.now c.args.n c.args.me a b c.args.bodies.now c.tell.new.bodies c.give.new.bodies
    c.in_ok-module.ensures.seat c.tell.ensures.seat f s
