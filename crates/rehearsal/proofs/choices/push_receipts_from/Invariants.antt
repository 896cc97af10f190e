use Rattle.std.proofs.Common.{◌≡◌, ◌++◌, map}
use Rattle.group_run.specs.Part.{below}
use Rattle.group_world.specs.declared.moves.Move.TheVariants.{Receive}
use Rattle.rehearsal.proofs.choices.push_receipts_from.Given as goal

abbrev pub invariant-loop-to : goal.invariant-loop-to
invariant-loop-to l = l.out.items ≡ l.fn.out.items ++ map (λ to. Receive l.from to) (below l.to)
