use Rattle.upd_base.specs.Item.{ItemFits}
use Rattle.lamport_order.proofs.Kept.{all_put}
use Rattle.lamport_order.proofs.lamport.LamportOrder.put.Goals as goal

pub invariant_of-self : goal.invariant_of-self
invariant_of-self c = record {
  few = c.args.self.now.few;
  row = c.args.self.now.row;
  items_fit = all_put c.insert.result (λ w. ItemFits c.args.self.now.members w.item) (record { stamp = c.args.stamp; from = c.args.from; item = c.args.item }) c.args.self.now.waiting c.insert.new.self
      c.insert.ensures.ok c.insert.ensures.err c.requires c.args.self.now.items_fit;
}
