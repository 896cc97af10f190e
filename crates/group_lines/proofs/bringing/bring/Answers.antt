use Rattle.group_lines.proofs.Giving.{lie_part}
use Rattle.group_lines.proofs.bringing.bring.Goals as goal

pub returns-in-Err-Lied-clause-part : goal.returns-in-Err-Lied-clause-part
returns-in-Err-Lied-clause-part g c = λ old before frames le s.
    lie_part frames c.args.frame.now old (g.L.Line.told c.args.line.now) (g.L.Line.told c.carry.new.line) before (g.L.Line.faults c.carry.new.line) c.args.count c.in-Err-Lied.at c.in-Err-Lied.put c.in-Err-Lied.got s (rw c.in-Err-Lied.field-0-is at c.in-Err-Lied.ensures.cause)
