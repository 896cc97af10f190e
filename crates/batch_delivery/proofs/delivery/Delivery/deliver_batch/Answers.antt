use Rattle.std.proofs.Common.{not, sym, subst}
use Rattle.std.specs.List.{All}
use Rattle.std.proofs.lemmas.List.Elements.{All-filter}
use Rattle.upd_base.specs.Item.{ItemFits}
use Rattle.consensus_rules.specs.Items.{knows}
use Rattle.batch_delivery.proofs.Fits.{either_way}
use Rattle.batch_delivery.proofs.delivery.Delivery.deliver_batch.Goals as goal

pub invariant_of-self-clause-waiting_fit : goal.invariant_of-self-clause-waiting_fit
invariant_of-self-clause-waiting_fit c =
    either_way c.remove_all.result c.remove_all.ensures.ok c.remove_all.ensures.err
    (λ is. subst (All (ItemFits c.args.self.now.members)) (sym is)
    (All-filter (λ x. not (knows c.args.items.now x)) (ItemFits c.args.self.now.members) c.args.self.now.waiting c.args.self.now.waiting_fit))
    (λ same. subst (All (ItemFits c.args.self.now.members)) (sym same) c.args.self.now.waiting_fit)
