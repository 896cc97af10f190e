use Rattle.std.proofs.Common.{true, refl}
use Rattle.line_fakes.proofs.Steps.{gets}
use Rattle.line_fakes.proofs.sure_lines.SureLineLine.get.Goals as goal

pub returns-clause-bytes : goal.returns-clause-bytes
returns-clause-bytes c =
    let s = c.args.self.now in
    let f = c.copy_front-count.ensures in
    gets s.bytes.items s.bytes.items c.deref.result.now _ c.copy_front-count.new.buf s.got c.copy_front-count.result true s.in_range c.deref.ensures.value refl f.bound f.within f.copied f.end
