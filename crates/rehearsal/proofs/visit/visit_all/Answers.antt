use Rattle.std.proofs.Common.{subst, sym, ◌∙◌, drop}
use Rattle.member_rules.specs.Kept.{rules_of}
use Rattle.run_journal.specs.Journal.{plan_of, past_of}
use Rattle.rehearsal.specs.Rounds.{all_visited}
use Rattle.rehearsal.specs.Ends.{IsOnTheWay}
use Rattle.rehearsal.proofs.Visits.{all_way, on_err, visited_next, visited_way, way_trans}
use Rattle.rehearsal.proofs.visit.visit_all.Goals as goal

pub returns-in_err-visit-clause-err : goal.returns-in_err-visit-clause-err
returns-in_err-visit-clause-err g c =
    let r = rules_of g.O.Ordering in
    let p = plan_of c.args.journal.now in
    let before = past_of c.loop-choice.journal in
    let cs = drop c.loop-choice.choice-index c.args.choices.now in
    on_err c.from_residual.result (subst (λ past. IsOnTheWay past (all_visited r p (past_of c.args.journal.now) c.args.choices.now)) (sym c.in_err-visit.ensures.err)
    (subst (λ whole. IsOnTheWay before whole) c.loop-choice.invariant.rest (all_way r p before cs)))

pub returns-in_err-visit-clause-grows : goal.returns-in_err-visit-clause-grows
returns-in_err-visit-clause-grows g c = subst (IsOnTheWay (past_of c.args.journal.now)) (sym c.in_err-visit.ensures.err) c.loop-choice.invariant.grows

pub loop-choice-preserved : goal.loop-choice-preserved
loop-choice-preserved g c =
    let r = rules_of g.O.Ordering in
    let before = past_of c.loop-choice.journal in
    let now = c.visit.new.journal in
    let i = c.loop-choice.invariant in
    record {
      plan = c.visit.ensures.plan ∙ i.plan;
      rest = visited_next r (plan_of c.args.journal.now) (plan_of c.loop-choice.journal) before (past_of now) (all_visited r (plan_of c.args.journal.now) (past_of c.args.journal.now) c.args.choices.now)
          c.args.choices.now c.loop-choice.choice-index c.choice-item.result c.loop-choice-test.true c.choice-item.is i.plan c.in_ok-visit.ensures.made i.rest;
      grows = way_trans (past_of c.args.journal.now) before (past_of now) i.grows
          (subst (IsOnTheWay before) (sym c.in_ok-visit.ensures.made) (visited_way r (plan_of c.loop-choice.journal) before c.choice-item.result));
    }
