use Rattle.std.proofs.Common.{append_assoc}
use Rattle.run_report.specs.Report.{run_line}
use Rattle.run_report.proofs.lines.run_line.Goals as goal

pub returns : goal.returns
unfolding run_line
returns c = simp append_assoc c.format.ensures.ok
