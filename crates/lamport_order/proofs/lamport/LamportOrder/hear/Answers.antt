use Rattle.std.proofs.Common.{ap, ◌∙◌, length, length-set}
use Rattle.std.specs.List.{filter}
use Rattle.std.proofs.lemmas.Result.{on_ok_weaker}
use Rattle.upd_base.specs.Item.{ItemFits}
use Rattle.request_queue.proofs.Limits.{upto, items, all_items}
use Rattle.lamport_order.proofs.Kept.{all_left}
use Rattle.lamport_order.proofs.lamport.LamportOrder.hear.Goals as goal

pub invariant_of-self : goal.invariant_of-self
invariant_of-self c = record {
  few = c.args.self.now.few;
  row = ap length c.raise.ensures ∙ length-set _ _ _ ∙ c.args.self.now.row;
  items_fit = all_left c.release_up_to.result (λ w. ItemFits c.args.self.now.members w.item) c.least-limit.result c.args.self.now.waiting c.release_up_to.new.self
      c.release_up_to.ensures.kept c.release_up_to.ensures.err c.args.self.now.items_fit;
}

pub returns-clause-fits : goal.returns-clause-fits
returns-clause-fits c =
    on_ok_weaker c.release_up_to.result
    (λ e. (items (filter (upto c.least-limit.result) c.args.self.now.waiting), e, all_items (ItemFits c.args.self.now.members) (upto c.least-limit.result) c.args.self.now.waiting c.args.self.now.items_fit))
    c.release_up_to.ensures.released
