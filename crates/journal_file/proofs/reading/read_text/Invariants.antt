use Rattle.std.proofs.Common.{◌≤◌, length}
use Rattle.journal_file.specs.Stage.{IsCounted, wanted_by}
use Rattle.journal_file.specs.declared.limits.TheConstants.{MAX_TEXT}
use Rattle.journal_file.proofs.Leading.{IsReached}
use Rattle.journal_file.proofs.reading.read_text.Given as goal

abbrev pub invariant-loop-line : goal.invariant-loop-line
invariant-loop-line l = record {
  short : length l.bytes ≤ MAX_TEXT;
  reached : IsReached l.bytes l.number (wanted_by l.stage) l.rest;
  counted : IsCounted l.stage;
}

abbrev pub decreases-loop-line : goal.decreases-loop-line
decreases-loop-line l = length l.rest
