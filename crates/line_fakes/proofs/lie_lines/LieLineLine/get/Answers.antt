use Rattle.std.proofs.Common.{◌+◌, false, List, ℕ, take, ap, sym, refl}
use Rattle.line_fakes.specs.Bytes.{unlied}
use Rattle.line_fakes.proofs.Steps.{gets, unlied_twice}
use Rattle.line_fakes.proofs.lie_lines.LieLineLine.get.Goals as goal

pub returns-clause-bytes : goal.returns-clause-bytes
returns-clause-bytes c =
    let s = c.args.self.now in
    let f = c.copy_front-count.ensures in
    gets (unlied s.lie s.given.items) s.given.items c.deref.result.now _ c.copy_front-count.new.buf s.got c.copy_front-count.result false s.in_range c.deref.ensures.value refl f.bound f.within f.copied f.end

pub returns-clause-gives : goal.returns-clause-gives
returns-clause-gives c =
    let s = c.args.self.now in
    ap (take (s.got + c.copy_front-count.result)) (sym (unlied_twice s.lie s.given.items))
