use Rattle.std.proofs.Common.{◌≡◌, ◌++◌}
use Rattle.std.specs.List.{flat_map}
use Rattle.group_run.specs.Part.{below}
use Rattle.rehearsal.specs.Choices.{receipts_from}
use Rattle.rehearsal.proofs.choices.push_receipts.Given as goal

abbrev pub invariant-loop-from : goal.invariant-loop-from
invariant-loop-from l = l.out.items ≡ l.fn.out.items ++ flat_map (receipts_from l.n) (below l.from)
