use Rattle.std.proofs.Common.{◌≡◌, ℕ, List, Ok, drop, ap, sym, ◌∙◌, arith}
use Rattle.upd_base.specs.declared.frame.Frame.{Frame}
use Rattle.std.proofs.lemmas.Result.{err_from_is_err_and}
use Rattle.upd_frame.proofs.Bodies.{front_parts}
use Rattle.upd_frame.proofs.Ahead.{front_fails}
use Rattle.upd_frame.proofs.reading.decode_front.Goals as goal

pub returns-clause-spelt : goal.returns-clause-spelt
returns-clause-spelt c =
    (front_parts c.args.bytes.now c.in_ok-frame.frame c.frame_at.new.left.now c.saturating_sub-size.result (λ i. omega (arith, c.type_inv.bytes i)) c.in_ok-frame.ensures c.saturating_sub-size.ensures).0

pub returns-clause-exact : goal.returns-clause-exact
returns-clause-exact c =
    let parts = front_parts c.args.bytes.now c.in_ok-frame.frame c.frame_at.new.left.now c.saturating_sub-size.result (λ i. omega (arith, c.type_inv.bytes i)) c.in_ok-frame.ensures c.saturating_sub-size.ensures in
    c.in_ok-frame.ensures ∙ ap (λ (l : List ℕ). Ok (c.in_ok-frame.frame, l)) (sym parts.1)

pub returns-in_err-frame-clause-fault : goal.returns-in_err-frame-clause-fault
returns-in_err-frame-clause-fault c =
    let p = err_from_is_err_and c.from_residual.result c.from_residual.ensures.1 in
    rw (p.1, p.2) (front_fails c.in_err-frame.field-0.0 c.args.bytes.now c.in_err-frame.ensures)
