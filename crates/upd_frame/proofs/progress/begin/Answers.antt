use Rattle.std.proofs.lemmas.Result.{err_from_is_err_and}
use Rattle.upd_frame.proofs.Onward.{begin_fails}
use Rattle.upd_frame.proofs.progress.begin.Goals as goal

pub returns-in_err-count : goal.returns-in_err-count
returns-in_err-count c =
    let p = err_from_is_err_and c.from_residual.result c.from_residual.ensures.1 in
    rw (p.1, p.2) (begin_fails c.in_err-count.field-0.0 c.args.all c.args.left.now.now c.in_err-count.ensures)
