use Rattle.std.proofs.Common.{arith, ap, subst}
use Rattle.member_rules.specs.Kept.{rules_of}
use Rattle.upd_base.proofs.PlanFacts.{open_facts}
use Rattle.group_run.specs.Run.{IsRelease}
use Rattle.run_journal.specs.Journal.{plan_of, past_of}
use Rattle.group_lines.specs.Visits.{IsIdle, IsNotFull, MadeOne}
use Rattle.group_lines.proofs.Going.{left_more, many_goes, many_then, one_goes}
use Rattle.group_lines.proofs.rounds.visit_members.Goals as goal

pub member_at-requires : goal.member_at-requires
member_at-requires g c =
    let f = (open_facts (plan_of c.args.journal.now) c.plan.ensures.run.of_plan).few in
    let e = ap (λ p. p.members) c.plan.ensures.value in
    omega arith

pub returns-in_err-visit_member-clause-made : goal.returns-in_err-visit_member-clause-made
returns-in_err-visit_member-clause-made g c =
    let i = c.loop-at.invariant in
    let old = past_of c.loop-at.journal in
    let new = past_of c.visit_member.new.journal in
    many_then (plan_of c.args.journal.now) (past_of c.args.journal.now) old new IsNotFull i.made (subst (λ p. MadeOne p old new IsNotFull) i.plan c.visit_member.ensures.made)

pub loop-at-preserved : goal.loop-at-preserved
loop-at-preserved g c =
    let i = c.loop-at.invariant in
    let r = rules_of g.O.Ordering in
    let plan = plan_of c.args.journal.now in
    let first = past_of c.args.journal.now in
    let old = past_of c.loop-at.journal in
    let new = past_of c.visit_member.new.journal in
    let one = subst (λ p. MadeOne p old new IsNotFull) i.plan c.visit_member.ensures.made in
    let here = subst (λ at. IsIdle plan old new → IsRelease r plan old at → ⊥) c.member_at.ensures
    (subst (λ p. IsIdle p old new → IsRelease r p old c.member_at.result → ⊥) i.plan c.in_ok-visit_member.ensures.left) in
    record {
      plan = cc;
      made = many_then plan first old new IsNotFull i.made one;
      left = left_more plan first old new (λ past at. IsRelease r plan past at → ⊥) c.loop-at.at (many_goes plan first old IsNotFull i.made) (one_goes plan old new IsNotFull one) i.left here;
    }
