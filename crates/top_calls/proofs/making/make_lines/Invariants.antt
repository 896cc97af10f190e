use Rattle.std.proofs.Common.{◌≡◌, length}
use Rattle.top_calls.proofs.MadeLines.{MadeSoFar}
use Rattle.top_calls.proofs.making.make_lines.Given as goal

abbrev pub invariant-loop-place : goal.invariant-loop-place
invariant-loop-place g l = record {
  many : length l.lines.items ≡ l.place;
  so_far : MadeSoFar g.M.Line.Line l.n (g.M.LineMaker.faults l.fn.maker) (g.M.LineMaker.faults l.maker) l.lines.items;
}
