use Rattle.std.proofs.Common.{◌≡◌, ◌++◌, map}
use Rattle.std.specs.Vec.Iter.{into_iter_items}
use Rattle.replacement.specs.declared.act.Act.TheVariants.{Deliver}
use Rattle.replacement.specs.Repl.{counted, left}
use Rattle.group_run.specs.Version.{next_kind}
use Rattle.replacement.proofs.repl.deliver.Given as goal

abbrev pub invariant-loop-item : goal.invariant-loop-item
invariant-loop-item l = record {
  acts : l.acts.items ++ map (λ item. Deliver item) (counted l.version (into_iter_items l.item-iterator)) ≡ l.fn.acts.items ++ map (λ item. Deliver item) (counted l.version l.fn.items.items);
  remaining : left l.undelivered.items (counted l.version (into_iter_items l.item-iterator)) ≡ left l.fn.undelivered.items (counted l.version l.fn.items.items);
  next : next_kind (counted l.version (into_iter_items l.item-iterator)) ≡ next_kind (counted l.version l.fn.items.items);
}
