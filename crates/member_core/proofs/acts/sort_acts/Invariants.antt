use Rattle.std.proofs.Common.{◌≡◌, ◌++◌, None}
use Rattle.std.specs.Vec.Iter.{into_iter_items}
use Rattle.group_run.specs.Version.{entries}
use Rattle.member_rules.specs.Acts.{delivered_by, reissued_by, bound_by}
use Rattle.member_core.proofs.acts.sort_acts.Given as goal

abbrev pub invariant-loop-act : goal.invariant-loop-act
invariant-loop-act l = record {
  log : l.log.items ++ entries l.version (delivered_by (into_iter_items l.act-iterator)) ≡ l.fn.log.items ++ entries l.version (delivered_by l.fn.acts.items);
  again : l.again.items ++ reissued_by (into_iter_items l.act-iterator) ≡ l.fn.again.items ++ reissued_by l.fn.acts.items;
  bound : bound_by l.bound (into_iter_items l.act-iterator) ≡ bound_by None l.fn.acts.items;
}
