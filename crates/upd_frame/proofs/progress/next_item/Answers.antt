use Rattle.std.proofs.Common.{◌≡◌, ◌-◌, ℕ, suc, Some, arith, subst}
use Rattle.std.proofs.lemmas.Result.{err_from_is_err_and}
use Rattle.upd_frame.specs.declared.progress.Stage.TheVariants.{Within}
use Rattle.upd_frame.specs.Reader.{Fails}
use Rattle.upd_frame.specs.Progress.{Passes, to_come}
use Rattle.upd_frame.proofs.Onward.{next_items, next_fails}
use Rattle.upd_frame.proofs.progress.next_item.Goals as goal

pub returns-in_err-size : goal.returns-in_err-size
returns-in_err-size c =
    let p = err_from_is_err_and c.from_residual.result c.from_residual.ensures.1 in
    let e = c.in_err-size.field-0.0 in
    let k : suc (c.args.count - 1) ≡ c.args.count = omega arith in
    let fails = next_fails e c.args.all c.args.left.now.now (c.args.count - 1) c.args.before c.in_err-size.ensures.gives in
    rw (p.1, p.2) (subst (λ (n : ℕ). Fails e (to_come (Within 0 n c.args.before) c.args.all c.args.left.now.now)) k fails)

pub returns : goal.returns
returns c =
    let k : suc (c.args.count - 1) ≡ c.args.count = omega arith in
    let h : ℕ × (ℕ × ℕ) = (c.in_ok-size.size, c.in_ok-size.id) in
    let passes = next_items c.args.all c.args.left.now.now (c.args.count - 1) c.args.before h c.item_head_at.new.left.now c.in_ok-size.ensures.gives in (
      subst (λ (n : ℕ). Passes (Within 0 n c.args.before) c.args.left.now.now (Within c.in_ok-size.size (c.args.count - 1) (Some c.in_ok-size.id)) c.item_head_at.new.left.now) k passes,
      omega (arith, c.in_ok-size.ensures.range),
    )
