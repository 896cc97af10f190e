use Rattle.std.proofs.Common.{append_assoc}
use Rattle.run_report.specs.Report.{answers_line}
use Rattle.run_report.proofs.lines.answers_line.Goals as goal

pub returns : goal.returns
unfolding answers_line
returns c = simp append_assoc c.format.ensures.ok
