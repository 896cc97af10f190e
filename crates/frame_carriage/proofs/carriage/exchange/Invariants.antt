use Rattle.std.proofs.Common.{length, ◌-◌, ◌+◌}
use Rattle.frame_carriage.proofs.Going.{Going}
use Rattle.frame_carriage.proofs.carriage.exchange.Given as goal

abbrev pub invariant-loop-got : goal.invariant-loop-got
invariant-loop-got g l = Going (g.L.Line.faults l.initial.line) (g.L.Line.faults l.line) (g.L.Line.told l.initial.line) (g.L.Line.told l.line) l.bytes l.back l.put l.got

abbrev pub decreases-loop-got : goal.decreases-loop-got
decreases-loop-got g l = length l.bytes + length l.bytes - (l.put + l.got)
