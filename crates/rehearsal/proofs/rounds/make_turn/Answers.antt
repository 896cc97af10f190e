use Rattle.std.proofs.Common.{◌≡◌, ◌∙◌, arith, ap, subst}
use Rattle.member_rules.specs.Kept.{rules_of}
use Rattle.run_journal.specs.Journal.{plan_of, past_of}
use Rattle.rehearsal.specs.Rounds.{all_visited, forced_call, round, turn}
use Rattle.rehearsal.specs.Ends.{IsOnTheWay}
use Rattle.rehearsal.proofs.Visits.{either_way, on_err, way_trans}
use Rattle.rehearsal.proofs.AllChoices.{all_fit}
use Rattle.rehearsal.proofs.TurnLaws.{err_forced, forced_call_way, ok_forced, round_within}
use Rattle.rehearsal.proofs.rounds.make_turn.Goals as goal

pub visit_all-requires-after_bounds : goal.visit_all-requires-after_bounds
visit_all-requires-after_bounds g c = λ κs live. all_fit (plan_of c.args.journal.now) c.args.all.now c.requires

pub returns-in_err-visit_all-clause-err : goal.returns-in_err-visit_all-clause-err
returns-in_err-visit_all-clause-err g c =
    let r = rules_of g.O.Ordering in
    let p = plan_of c.args.journal.now in
    let old = past_of c.args.journal.now in
    let new = past_of c.visit_all.new.journal in
    on_err c.from_residual.result
    (way_trans new (round r p old) (turn r p old) (subst (λ cs. IsOnTheWay new (all_visited r p old cs)) c.requires c.in_err-visit_all.ensures.err) (round_within r p old))

pub returns-clause-made : goal.returns-clause-made
returns-clause-made g c =
    let r = rules_of g.O.Ordering in
    let p = plan_of c.args.journal.now in
    let old = past_of c.args.journal.now in
    let new = past_of c.visit_all.new.journal in
    let made : new ≡ round r p old = c.in_ok-visit_all.ensures.made ∙ ap (all_visited r p old) c.requires in
    ok_forced r p (plan_of c.visit_all.new.journal) old new (past_of c.force.new.journal) c.force.result c.visit_all.ensures.plan made
    (let f = c.if-len-before.false in let a = c.len.ensures.value in let b = c.len-before.ensures.value in omega arith) c.force.ensures.made

pub returns-clause-err : goal.returns-clause-err
returns-clause-err g c =
    let r = rules_of g.O.Ordering in
    let p = plan_of c.args.journal.now in
    let old = past_of c.args.journal.now in
    let new = past_of c.visit_all.new.journal in
    err_forced r p old new (past_of c.force.new.journal) c.force.result (c.in_ok-visit_all.ensures.made ∙ ap (all_visited r p old) c.requires) c.force.ensures.err

pub returns-clause-grows : goal.returns-clause-grows
returns-clause-grows g c =
    let r = rules_of g.O.Ordering in
    let new = past_of c.visit_all.new.journal in
    way_trans (past_of c.args.journal.now) new (past_of c.force.new.journal) c.visit_all.ensures.grows
    (either_way new (past_of c.force.new.journal) (forced_call r (plan_of c.visit_all.new.journal) new) c.force.result (forced_call_way r (plan_of c.visit_all.new.journal) new) c.force.ensures.made c.force.ensures.err)
