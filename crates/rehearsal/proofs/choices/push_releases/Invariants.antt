use Rattle.std.proofs.Common.{◌≡◌, ◌++◌, map}
use Rattle.group_run.specs.Part.{below}
use Rattle.group_world.specs.declared.moves.Move.TheVariants.{Release}
use Rattle.rehearsal.proofs.choices.push_releases.Given as goal

abbrev pub invariant-loop-at : goal.invariant-loop-at
invariant-loop-at l = l.out.items ≡ l.fn.out.items ++ map (λ at. Release at) (below l.at)
