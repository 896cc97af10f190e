use Rattle.std.proofs.Common.{◌≡◌, ◌∙◌, [], ◌∷◌, ◌++◌, true, false, sym, subst}
use Rattle.upd_base.specs.declared.frame.Frame.{Frame}
use Rattle.group_run.specs.Held.{is_early}
use Rattle.group_run.specs.Turn.{Turn, took}
use Rattle.member_rules.specs.Kept.{group_of}
use Rattle.member_rules.specs.Stands.{Holds}
use Rattle.member_rules.specs.Steps.{moved}
use Rattle.member_rules.proofs.Frames.{early_is, holds_kept, frames_kept, took_late}
use Rattle.member_core.specs.Member.{kept_by}
use Rattle.member_core.specs.Foretold.{MakesTurn}
use Rattle.member_core.proofs.Outcomes.{member_of, if_ok_map}
use Rattle.member_core.proofs.member.Member.on_receipt.Goals as goal

pub returns-then-is_early-clause-turn : goal.returns-then-is_early-clause-turn
returns-then-is_early-clause-turn g c = λ part h may.
    let G = g.O.Ordering in
    let k = kept_by c.args.self.now in
    let m = member_of c.args.self.now in
    let from = c.args.from in
    let frame = c.args.frame.now in
    let early : is_early part from frame ≡ true = early_is G (group_of G k) k.me k part from frame m h ∙ sym c.is_early.ensures ∙ c.if-is_early.true in
    record {
      holds = subst (λ (f : Frame). Holds G (group_of G k) k.me (moved k k.modules k.repl (k.held ++ (from, f) ∷ []) k.entries) (took (group_of G k) k.me part from frame).part) (sym c.in_ok-copy.ensures)
          (holds_kept G (group_of G k) k.me k part from frame h early);
      frames = c.new.ensures.items ∙ frames_kept (group_of G k) k.me part from frame early;
    }

pub returns-clause-turn : goal.returns-clause-turn
returns-clause-turn g c =
    let G = g.O.Ordering in
    let k = kept_by c.args.self.now in
    let m = member_of c.args.self.now in
    let from = c.args.from in
    let frame = c.args.frame.now in
    if_ok_map _ _ c.process.result
    (λ p turn part h may.
    let late : is_early part from frame ≡ false = early_is G (group_of G k) k.me k part from frame m h ∙ sym c.is_early.ensures ∙ c.if-is_early.false in
    subst (λ (t : Turn). MakesTurn G k p t) (sym (took_late (group_of G k) k.me part from frame late)) (turn part h (may late)))
    c.process.ensures.turn
