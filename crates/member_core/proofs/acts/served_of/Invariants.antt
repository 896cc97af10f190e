use Rattle.std.proofs.Common.{◌≡◌, ◌++◌}
use Rattle.std.specs.List.{filter}
use Rattle.std.specs.Vec.Iter.{into_iter_items}
use Rattle.member_rules.specs.Acts.{is_kept}
use Rattle.member_core.proofs.acts.served_of.Given as goal

abbrev pub invariant-loop-item : goal.invariant-loop-item
invariant-loop-item g l = l.kept.items ++ filter (is_kept g.O.Ordering.is_served) (into_iter_items l.item-iterator) ≡ filter (is_kept g.O.Ordering.is_served) l.fn.items.items
