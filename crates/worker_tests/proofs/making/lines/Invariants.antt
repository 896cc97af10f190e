use Rattle.std.proofs.Common.{◌≡◌, length}
use Rattle.std.specs.Prelude.{All}
use Rattle.line_rules.specs.Lines.{IsEvenLine}
use Rattle.worker_tests.proofs.making.lines.Given as goal

abbrev pub invariant-loop-place : goal.invariant-loop-place
invariant-loop-place g l = record {
  many : length l.lines.items ≡ l.place;
  even : All (IsEvenLine g.M.Line.Line) l.lines.items;
}
