use Rattle.std.proofs.Common.{◌≡◌, ◌≤◌, ◌++◌, length}
use Rattle.std.specs.Vec.Iter.{into_iter_items}
use Rattle.member_core.proofs.commit.append.Given as goal

abbrev pub invariant-loop-entry : goal.invariant-loop-entry
invariant-loop-entry l = record {
  room : length (into_iter_items l.entry-iterator) ≤ l.log.spare;
  entries : l.log.entries ++ into_iter_items l.entry-iterator ≡ l.fn.log.entries ++ l.fn.entries.items;
}
