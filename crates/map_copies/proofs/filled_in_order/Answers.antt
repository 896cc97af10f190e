use Rattle.std.proofs.Common.{◌≡◌}
use Rattle.map_copies.proofs.Copies.{insert_last, same_entries}
use Rattle.map_copies.proofs.filled_in_order.Goals as goal

pub returns : goal.returns
returns g c = record { step = λ cmp total xs ys e v rest. insert_last cmp total (λ x y. x ≡ y) xs ys e v rest; same = same_entries }
