use Rattle.std.proofs.Common.{◌≡◌, ◌≢◌, ◌<◌, ◌++◌, All, length, set, arith, ◌∙◌, sym, ap, subst, refl, if◌then◌else◌}
use Rattle.std.specs.List.{AllZip}
use Rattle.fifo_net.specs.Net.{Called}
use Rattle.order_trait.specs.Here.{like_self}
use Rattle.order_trait.specs.Runs.{Suspect, Trust}
use Rattle.upd_base.specs.declared.answer.Answer.TheVariants.{Done}
use Rattle.group_run.specs.Version.{inputs_at}
use Rattle.group_run.specs.Turn.{called}
use Rattle.member_rules.specs.Kept.{group_of}
use Rattle.member_rules.specs.Stands.{Holds}
use Rattle.member_rules.specs.Steps.{IsNext, StandAt, SentFits, informed, sent_from, suspicion}
use Rattle.member_rules.proofs.Basics.{calm_of}
use Rattle.member_rules.proofs.Inputs.{all_grown}
use Rattle.member_rules.proofs.Members.{member_informed}
use Rattle.member_rules.proofs.Turns.{holds_suspicion, frames_suspicion}
use Rattle.member_core.specs.Member.{kept_by}
use Rattle.member_core.proofs.Outcomes.{member_of}
use Rattle.member_core.proofs.Processing.{seat_at}
use Rattle.member_core.proofs.member.Member.on_suspicion.Goals as goal

pub returns-clause-sound : goal.returns-clause-sound
returns-clause-sound g c =
    let G = g.O.Ordering in
    let k = kept_by c.args.self.now in
    let m = member_of c.args.self.now in
    let who = c.in-Some.member in
    let is : who ≡ c.args.who = c.in-Some.ensures.some in
    let value = c.as_slice.ensures.value in
    let x = Called (if c.args.on then Suspect who else Trust who) in
    let all = c.in_ok-modules.modules.items in
    let zip : AllZip (IsNext G x) k.modules all = subst (λ ms. AllZip (IsNext G x) ms all) value c.in_ok-modules.ensures.next in
    let other : who ≢ k.me = λ e. c.if-who-get.false (sym is ∙ e ∙ sym c.get.ensures.value) in
    record {
      reaches = let e = m.row in let f = c.if-who-self.false in omega arith;
      member = member_informed G x k all who c.args.on m zip other;
      made = omega arith;
      fits = all_grown (SentFits k.members) c.new-sent.result.items c.all_after_suspicion.new.sent.items c.new-sent.ensures.items
          (c.in_ok-modules.ensures.fits k.members (subst (λ ms. All (λ y. (G.seat y).members ≡ k.members) ms) (sym value) m.members_are));
    }

pub returns-clause-turn : goal.returns-clause-turn
returns-clause-turn g c = λ part h.
    let G = g.O.Ordering in
    let k = kept_by c.args.self.now in
    let m = member_of c.args.self.now in
    let L = g.met.O.Ordering g.world.𝓛 g.world.𝓜 g.world.𝓡 (like_self _ _) in
    let calm = calm_of G k m L.agreement L.integrity in
    let who = c.in-Some.member in
    let is : who ≡ c.args.who = c.in-Some.ensures.some in
    let value = c.as_slice.ensures.value in
    let x = Called (if c.args.on then Suspect who else Trust who) in
    let all = c.in_ok-modules.modules.items in
    let zip : AllZip (IsNext G x) k.modules all = subst (λ ms. AllZip (IsNext G x) ms all) value c.in_ok-modules.ensures.next in
    let lt : who < length k.suspected = let e = m.row in let f = c.if-who-self.false in omega arith in
    let stand : StandAt G c.as_slice.result.now (λ v. inputs_at v part.modules) = subst (λ ms. StandAt G ms (λ v. inputs_at v part.modules)) (sym value) h.modules_are.stand in
    record {
      holds = subst (λ w. Holds G (group_of G k) k.me (informed k all (set k.suspected who c.args.on)) (called (group_of G k) k.me part (suspicion c.args.on w) Done).part) is
          (holds_suspicion G (group_of G k) k.me c.args.on who k all part h calm m.first_served zip lt);
      frames = c.in_ok-modules.ensures.sent (λ v. inputs_at v part.modules) stand
          ∙ ap (λ fs. fs ++ sent_from G 0 c.as_slice.result.now (λ v. inputs_at v part.modules) x) c.new-sent.ensures.items
          ∙ ap (λ ms. sent_from G 0 ms (λ v. inputs_at v part.modules) x) value
          ∙ frames_suspicion G (group_of G k) k.me c.args.on who k.modules part h.modules_are h.in_order calm m.first_served refl (λ u y at. seat_at G k u y m at)
          ∙ ap (λ w. (called (group_of G k) k.me part (suspicion c.args.on w) Done).frames) is;
    }
