use Rattle.std.proofs.lemmas.List.{length-append}
use Rattle.std.proofs.Common.{[], ◌∷◌, ◌++◌, length, ℕ, ◌≡◌, ◌∙◌, sym, ap, arith, subst}
use Rattle.upd_base.specs.Kind.{KindFits}
use Rattle.upd_base.proofs.PlanFacts.{plan_facts}
use Rattle.member_core.specs.Member.{kept_by}
use Rattle.member_rules.specs.Stands.{Stands}
use Rattle.group_world.specs.Seen.{IsSeated}
use Rattle.group_world.proofs.Openings.{each_pushed}
use Rattle.group_world.proofs.fresh.fresh_members.Goals as goal
use Rattle.group_world.proofs.fresh.fresh_members.Goals.{in-Some+in_ok-start+in_ok-push, in_default}

pub start-requires-clause-few : goal.start-requires-clause-few
start-requires-clause-few g c κs within =
    let f = (plan_facts c.args.plan.now c.keeps_limits.ensures).few in
    let e = c.members.ensures in
    omega (arith, f, e)

pub start-requires-clause-kind_fits : goal.start-requires-clause-kind_fits
start-requires-clause-kind_fits g c κs within =
    let P : ℕ → Type 0 = λ n. KindFits n c.first.result in
    subst P (sym c.members.ensures) (subst (KindFits c.args.plan.now.members) (sym c.first.ensures) (plan_facts c.args.plan.now c.keeps_limits.ensures).first_fits)

pub loop-number-preserved : goal.loop-number-preserved
loop-number-preserved g c =
    elim c.match-new.branch [
      | in-Some+in_ok-start+in_ok-push w ↦
          let d = w.in_ok-start.ensures in
          let i = c.loop-number.invariant in
          let pushed : c.match-new.members.items ≡ c.loop-number.members.items ++ w.in_ok-start.field-0 ∷ [] = rw w.members-is w.in_ok-push.ensures.items in
          let me : w.in_ok-start.field-0.me ≡ length c.loop-number.members.items = d.me ∙ w.in-Some.ensures.some ∙ sym i.many in
          record {
            many = ap length pushed ∙ (let e = length-append c.loop-number.members.items (w.in_ok-start.field-0 ∷ []) in let m = i.many in omega (arith, e, m));
            seats = each_pushed (λ m. kept_by m) (IsSeated c.args.plan.now) c.loop-number.members.items c.match-new.members.items w.in_ok-start.field-0 pushed i.seats (d.members ∙ w.members.ensures, d.first ∙ w.first.ensures, me);
            stand = each_pushed (λ m. kept_by m) (λ i k. Stands g.O.Ordering k []) c.loop-number.members.items c.match-new.members.items w.in_ok-start.field-0 pushed i.stand d.stands;
          }
      | in_default w ↦
          let few = (plan_facts c.args.plan.now c.keeps_limits.ensures).few in
          let seven = w.in_default.ensures.none in
          let e = c.members-number-end.ensures in
          let t = c.loop-number-test.true in
          absurd (omega (arith, few, seven, e, t))
    ]
