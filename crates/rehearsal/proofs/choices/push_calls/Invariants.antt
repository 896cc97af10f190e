use Rattle.std.proofs.Common.{◌≡◌, ◌++◌, map}
use Rattle.group_run.specs.Part.{below}
use Rattle.group_world.specs.declared.moves.Move.TheVariants.{Call}
use Rattle.rehearsal.proofs.choices.push_calls.Given as goal

abbrev pub invariant-loop-thread : goal.invariant-loop-thread
invariant-loop-thread l = l.out.items ≡ l.fn.out.items ++ map (λ thread. Call thread) (below l.thread)
