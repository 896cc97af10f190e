use Rattle.std.proofs.Common.{sym, subst}
use Rattle.std.specs.Prelude.{All}
use Rattle.member_rules.specs.Kept.{HeldFits, IsMember}
use Rattle.member_core.specs.Prepared.{changed}
use Rattle.member_core.specs.Member.{kept_by}
use Rattle.member_core.proofs.member.Member.make.Goals as goal

pub invariant_of-self-in-Hold-clause-held_fit : goal.invariant_of-self-in-Hold-clause-held_fit
invariant_of-self-in-Hold-clause-held_fit g c =
    let s = c.args.self.now in
    let w = subst (λ ch. IsMember g.O.Ordering (changed (kept_by s) ch)) c.in-Hold.is c.requires.member in
    subst (λ hs. All (HeldFits s.members) hs) (sym c.keep_ready.ensures.frames) w.held_fit
