use Rattle.std.proofs.Common.{false, ◌≡◌, refl, sym, ◌∙◌, subst}
use Rattle.consensus_rules.specs.Items.{knows}
use Rattle.consensus_rules.specs.Delivered.{batches, items_of}
use Rattle.batch_delivery.proofs.Lists.{waits_new}
use Rattle.batch_delivery.proofs.Steps.{one_waits}
use Rattle.batch_delivery.proofs.delivery.Delivery.receive.Goals as goal

pub returns-clause-stands : goal.returns-clause-stands
returns-clause-stands c = λ items ds new s.
    one_waits c.args.self.now _ items ds c.args.item refl refl refl (sym c.was_delivered.ensures ∙ c.if-was_delivered.false)
    (c.in_ok-insert.ensures.ok (subst (λ l. knows l c.args.item ≡ false) (sym s.up_to.waiting) (waits_new (items_of (batches ds)) items c.args.item new))) s
