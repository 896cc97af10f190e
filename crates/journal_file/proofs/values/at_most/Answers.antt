use Rattle.std.proofs.Common.{◌∙◌, [], ap, append-nil, arith, length, sym}
use Rattle.std.specs.Prelude.{decimal}
use Rattle.journal_file.proofs.values.at_most.Goals as goal

pub returns-in_err-n-clause-exact : goal.returns-in_err-n-clause-exact
returns-in_err-n-clause-exact c n le e = absurd (c.in_err-n.ensures.exact n [] (omega arith) tt (e ∙ sym (append-nil (decimal n))))

pub returns-in_default-2-clause-exact : goal.returns-in_default-2-clause-exact
returns-in_default-2-clause-exact c n le e =
    let is = c.in_ok-n.ensures.exact n [] (omega arith) tt (e ∙ sym (append-nil (decimal n))) in
    let none = ap length is.1 in
    let some = c.in_default.len_at_least in
    absurd (omega arith)
