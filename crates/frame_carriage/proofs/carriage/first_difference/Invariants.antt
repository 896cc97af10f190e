use Rattle.std.proofs.Common.{◌≡◌, take}
use Rattle.frame_carriage.proofs.carriage.first_difference.Given as goal

abbrev pub invariant-loop-i : goal.invariant-loop-i
invariant-loop-i l = take l.i l.put ≡ take l.i l.got
