use Rattle.std.proofs.Common.{◌≡◌, ◌∙◌, subst, ap, ◌++◌}
use Rattle.upd_base.specs.Item.{ItemFits}
use Rattle.order_trait.specs.Outbox.{Grows}
use Rattle.instance_rules.specs.Say.{Items}
use Rattle.consensus_rules.specs.Delivered.{batches, items_of}
use Rattle.waiting_items.specs.Ids.{apart_from}
use Rattle.batch_delivery.specs.Delivery.{AreIdsOf, news}
use Rattle.consensus_rules.specs.Items.{add_new}
use Rattle.batch_delivery.proofs.Fits.{grows_more}
use Rattle.batch_delivery.proofs.Steps.{SoFar, one_more_batch, all_done, gave_all}
use Rattle.batch_delivery.proofs.delivery.Delivery.deliver.Goals as goal

pub loop-batch-preserved : goal.loop-batch-preserved
loop-batch-preserved c = (
  c.deliver_batch.ensures.members ∙ c.take_next.ensures.members ∙ c.loop-batch.invariant.0,
  λ known items ds u.
      one_more_batch c.args.self.now c.loop-batch.self c.take_next.new.self c.deliver_batch.new.self c.args.delivered.now.items c.loop-batch.delivered.items c.deliver_batch.new.delivered.items
      c.in-Some.batch known items ds c.in-Some.ensures.some c.in-Some.ensures.count c.take_next.ensures.ids c.take_next.ensures.waiting c.in-Some.ensures.rest
      c.deliver_batch.ensures.count c.deliver_batch.ensures.ahead
      (subst (λ l. (was : Items) → AreIdsOf c.take_next.new.self.ids was → AreIdsOf c.deliver_batch.new.self.ids (add_new was l)) c.items.ensures c.in_ok-deliver_batch.ensures.ids)
      (c.in_ok-deliver_batch.ensures.waiting ∙ ap (λ l. apart_from l c.take_next.new.self.waiting) c.items.ensures)
      (subst (λ l. (was : Items) → AreIdsOf c.take_next.new.self.ids was → c.deliver_batch.new.delivered.items ≡ c.loop-batch.delivered.items ++ news was l) c.items.ensures c.in_ok-deliver_batch.ensures.delivered)
      (c.loop-batch.invariant.1 known items ds u),
  grows_more (ItemFits c.args.self.now.members) c.args.delivered.now.items c.loop-batch.delivered.items c.deliver_batch.new.delivered.items c.loop-batch.invariant.2
      (subst (λ n. Grows (ItemFits n) c.loop-batch.delivered.items c.deliver_batch.new.delivered.items) (c.take_next.ensures.members ∙ c.loop-batch.invariant.0) c.in_ok-deliver_batch.ensures.fits),
)

pub returns-clause-stands : goal.returns-clause-stands
returns-clause-stands c = λ known items ds u.
    let f : SoFar c.args.self.now c.loop-batch.self c.args.delivered.now.items c.loop-batch.delivered.items known items ds = c.loop-batch.invariant.1 known items ds u in
    (all_done c.loop-batch.self c.take_next.new.self (known ++ f.done) items ds c.in_default.ensures.none c.in_default.ensures.same_count c.take_next.ensures.ids c.take_next.ensures.waiting c.in_default.ensures.same f.up_to).1

pub returns-clause-delivered : goal.returns-clause-delivered
returns-clause-delivered c = λ known items ds more u all.
    let f : SoFar c.args.self.now c.loop-batch.self c.args.delivered.now.items c.loop-batch.delivered.items known items ds = c.loop-batch.invariant.1 known items ds u in
    f.given ∙ ap (λ l. c.args.delivered.now.items ++ l)
    (gave_all known f.done more (items_of (batches ds))
    (all_done c.loop-batch.self c.take_next.new.self (known ++ f.done) items ds c.in_default.ensures.none c.in_default.ensures.same_count c.take_next.ensures.ids c.take_next.ensures.waiting c.in_default.ensures.same f.up_to).0 all)
