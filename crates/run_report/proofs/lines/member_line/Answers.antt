use Rattle.std.proofs.Common.{append_assoc}
use Rattle.run_report.specs.Report.{member_line}
use Rattle.run_report.proofs.lines.member_line.Goals as goal

pub returns : goal.returns
unfolding member_line
returns c = simp append_assoc c.format.ensures.ok
