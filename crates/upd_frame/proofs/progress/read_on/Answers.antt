use Rattle.std.proofs.Common.{◌≡◌, ℕ, Option, Ok, length, sym, subst}
use Rattle.upd_frame.specs.declared.progress.Stage.{Stage}
use Rattle.upd_frame.specs.Progress.{Steps}
use Rattle.std.proofs.lemmas.Result.{err_from_is_err_and}
use Rattle.upd_frame.proofs.Onward.{Stands, stands_on, stands_fails, stands_whole}
use Rattle.upd_frame.proofs.Ahead.{front_fails}
use Rattle.upd_frame.proofs.progress.read_on.Goals as goal

pub returns-in_err-next-clause-fault : goal.returns-in_err-next-clause-fault
returns-in_err-next-clause-fault c =
    let p = err_from_is_err_and c.from_residual.result c.from_residual.ensures.1 in
    rw (p.1, p.2) (stands_fails c.in_err-next.field-0.0 c.args.bytes.now c.loop-next.at c.loop-next.stage c.loop-next.left.now c.loop-next.invariant c.in_err-next.ensures)

pub returns-in_err-next-clause-kind : goal.returns-in_err-next-clause-kind
returns-in_err-next-clause-kind c =
    let p = err_from_is_err_and c.from_residual.result c.from_residual.ensures.1 in
    let e = c.in_err-next.field-0.0 in
    rw (p.1, p.2) (front_fails e c.args.bytes.now (stands_fails e c.args.bytes.now c.loop-next.at c.loop-next.stage c.loop-next.left.now c.loop-next.invariant c.in_err-next.ensures))

pub returns-clause-whole : goal.returns-clause-whole
returns-clause-whole c =
    let bytes = c.args.bytes.now in
    let l = c.loop-next in
    let ended = subst (λ (o : Option Stage). Steps l.stage (length bytes) l.left.now c.step.new.left.now (Ok o)) c.in_default.is c.in_ok-next.ensures in
    stands_whole bytes l.at l.stage l.left.now l.invariant ended.1

pub loop-next-preserved : goal.loop-next-preserved
loop-next-preserved c =
    let bytes = c.args.bytes.now in
    let l = c.loop-next in
    let steps = subst (λ (o : Option Stage). Steps l.stage (length bytes) l.left.now c.step.new.left.now (Ok o)) c.in-Some.is c.in_ok-next.ensures in
    let on = stands_on bytes l.at l.stage c.in-Some.next l.left.now c.step.new.left.now l.invariant steps.0 in
    subst (λ (n : ℕ). Stands bytes n c.in-Some.next c.step.new.left.now) (sym c.place.ensures) on
