use Rattle.std.proofs.Common.{◌≡◌, true, sym, subst}
use Rattle.std.specs.List.{All, list_all}
use Rattle.std.specs.Map.{values_of}
use Rattle.std.specs.Ordering.{nat_cmp}
use Rattle.std.specs.BTreeMap.{is_at}
use Rattle.upd_base.specs.Item.{item_fits}
use Rattle.batch_delivery.proofs.Fits.{all_removed, found_fits}
use Rattle.batch_delivery.proofs.delivery.Delivery.take_next.Goals as goal

pub invariant_of-self-2-clause-ahead_fit : goal.invariant_of-self-2-clause-ahead_fit
invariant_of-self-2-clause-ahead_fit c =
    subst (λ es. All (λ b. list_all (item_fits c.args.self.now.members) b ≡ true) (values_of es)) (sym c.remove.ensures.entries)
    (all_removed (λ b. list_all (item_fits c.args.self.now.members) b ≡ true) (is_at (nat_cmp c.in_ok-next.next)) c.args.self.now.ahead.entries c.args.self.now.ahead_fit)

pub returns-clause-fits : goal.returns-clause-fits
returns-clause-fits c =
    found_fits (λ b. list_all (item_fits c.args.self.now.members) b ≡ true) (is_at (nat_cmp c.in_ok-next.next)) c.args.self.now.ahead.entries c.in_ok-batch.batch c.args.self.now.ahead_fit
    (sym c.in_ok-batch.ensures.value)
