use Rattle.std.proofs.Common.{◌<◌, length, subst, arith}
use Rattle.std.proofs.lemmas.Result.{IfOk-weaker}
use Rattle.member_core.specs.Member.{kept_by}
use Rattle.group_world.specs.Makes.{IsPrepared}
use Rattle.group_world.proofs.Lists.{same_seen, seen_at, set_at}
use Rattle.group_world.proofs.Promised.{promised}
use Rattle.group_world.proofs.ready.prepare_at.Goals as goal

pub returns-clause-kept : goal.returns-clause-kept
returns-clause-kept g c =
    same_seen (λ m. kept_by m) c.args.members.now.items c.get.result c.index_mut-member.result.now c.prepare.new.self c.index_mut-member.ensures.value c.prepare.ensures.kept

pub returns-clause-ready : goal.returns-clause-ready
returns-clause-ready g c =
    let at = c.get.ensures.value in
    let below : c.get.result < length c.args.members.now.items = let h = c.requires.at_fits in omega (arith, at, h) in
    IfOk-weaker c.prepare.result _ _ (λ p h. (c.prepare.new.self, rw (← at) (set_at c.args.members.now.items c.get.result c.prepare.new.self below), h)) c.prepare.ensures.ready

pub returns-clause-prepared : goal.returns-clause-prepared
returns-clause-prepared g c =
    let at = c.get.ensures.value in
    let below : c.get.result < length c.args.members.now.items = let h = c.requires.at_fits in omega (arith, at, h) in
    let m = c.index_mut-member.result.now in
    IfOk-weaker c.prepare.result _ _
    (λ p h k e. subst (λ j. IsPrepared g.O.Ordering j c.args.input.now p) (seen_at (λ m. kept_by m) c.args.members.now.items c.get.result c.args.at m k at below c.index_mut-member.ensures.value e) h)
    (promised g.O.Ordering (kept_by m) c.args.input.now c.prepare.result m.versions c.prepare.ensures.fits c.prepare.ensures.answer c.prepare.ensures.sent c.prepare.ensures.stands c.prepare.ensures.made)
