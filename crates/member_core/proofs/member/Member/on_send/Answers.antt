use Rattle.std.proofs.Common.{◌≡◌, ◌<◌, ◌∙◌, sym, ap, arith, subst}
use Rattle.std.specs.Prelude.{IfSome}
use Rattle.upd_base.specs.declared.item.Item.TheVariants.{Msg}
use Rattle.replacement.specs.Repl.{State, issued}
use Rattle.upd_base.specs.declared.limits.TheConstants.{MAX_UNDELIVERED}
use Rattle.std.proofs.Common.{length}
use Rattle.group_run.proofs.Turns.{leb-false}
use Rattle.member_core.specs.Member.{kept_by}
use Rattle.member_core.proofs.Outcomes.{member_of, if_ok_both, makes_sent, waiting_sent}
use Rattle.member_core.proofs.member.Member.on_send.Goals as goal

pub returns-clause-turn : goal.returns-clause-turn
returns-clause-turn g c =
    let G = g.O.Ordering in
    let k = kept_by c.args.self.now in
    let m = member_of c.args.self.now in
    let copied = c.in_ok-repl.repl in
    let same = c.in_ok-repl.ensures in
    let room : length copied.undelivered < MAX_UNDELIVERED = let l = leb-false MAX_UNDELIVERED (length k.repl.undelivered) (sym c.is_full.ensures ∙ c.if-is_full.false) in let e = ap (λ (s : State). length s.undelivered) same in omega arith in
    let after = c.in_ok-item.ensures.issued room ∙ ap (λ (s : State). issued s c.args.text.now) same in
    let made : c.in-Some.item ≡ Msg copied.me copied.made c.args.text.now = subst (λ o. IfSome o (λ item. item ≡ Msg copied.me copied.made c.args.text.now)) c.in-Some.is c.in_ok-item.ensures.some in
    let item = made ∙ ap (λ (s : State). Msg s.me s.made c.args.text.now) same in
    if_ok_both _ _ _ c.accept.result
    (λ p given turn part h new. makes_sent G k p part c.args.text.now c.in-Some.item m given item (turn part h (waiting_sent G k part c.args.text.now c.issue.new.self c.in-Some.item m h new after item)))
    c.accept.ensures.answer c.accept.ensures.turn
