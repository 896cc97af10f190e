use Rattle.std.proofs.Common.{◌≡◌, true, sym, subst}
use Rattle.std.specs.Prelude.{IfSome}
use Rattle.std.specs.List.{list_all}
use Rattle.std.proofs.lemmas.Result.{IfOk-weaker}
use Rattle.upd_base.specs.Item.{item_fits}
use Rattle.waiting_items.specs.Ids.{first_of}
use Rattle.batch_delivery.proofs.Fits.{first_fits}
use Rattle.batch_delivery.proofs.delivery.Delivery.first_batch.Goals as goal

pub returns-clause-fits : goal.returns-clause-fits
returns-clause-fits c =
    IfOk-weaker c.first_batch.result (λ found. found ≡ first_of c.args.self.now.waiting) (λ found. IfSome found (λ batch. list_all (item_fits c.args.self.now.members) batch ≡ true))
    (λ found is. subst (λ f. IfSome f (λ batch. list_all (item_fits c.args.self.now.members) batch ≡ true)) (sym is) (first_fits c.args.self.now.members c.args.self.now.waiting c.args.self.now.waiting_fit))
    c.first_batch.ensures
