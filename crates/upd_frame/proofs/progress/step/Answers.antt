use Rattle.std.proofs.Common.{◌≡◌, Ok, refl, sym, subst, arith}
use Rattle.upd_frame.specs.declared.progress.Stage.{Stage}
use Rattle.upd_frame.specs.Progress.{to_come}
use Rattle.upd_frame.proofs.Onward.{none_to_come}
use Rattle.upd_frame.proofs.progress.step.Goals as goal

pub returns-else-count-gt0 : goal.returns-else-count-gt0
returns-else-count-gt0 c =
    let left = c.args.left.now.now in
    let w = c.in-Within in
    (refl, subst (λ (s : Stage). to_come s c.args.all left ≡ Ok (0, left)) (sym w.is) (none_to_come w.size w.count w.before c.args.all left (omega arith) (omega arith)))
