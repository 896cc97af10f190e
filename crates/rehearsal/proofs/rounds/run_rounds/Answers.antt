use Rattle.std.proofs.Common.{ℕ, ◌≡◌, ◌<◌, ◌≤◌, ◌+◌, ◌∙◌, arith, ap, subst, sym, length}
use Rattle.member_rules.specs.Kept.{rules_of}
use Rattle.upd_base.specs.Plan.{bound}
use Rattle.upd_base.proofs.PlanFacts.{open_facts}
use Rattle.run_journal.specs.Journal.{plan_of, past_of}
use Rattle.rehearsal.specs.Rounds.{round_robin, turn, turns}
use Rattle.rehearsal.specs.Ends.{IsOnTheWay}
use Rattle.rehearsal.proofs.Visits.{on_err, way_self, way_trans}
use Rattle.rehearsal.proofs.TurnLaws.{rest_after, turn_same, turn_settled, turn_within, turn_longer, turns_end, turns_way}
use Rattle.rehearsal.proofs.rounds.run_rounds.Goals as goal

pub choices-requires : goal.choices-requires
choices-requires g c = let f = (open_facts (plan_of c.args.journal.now) c.plan.ensures.run.of_plan).few in let e = ap (λ p. p.members) c.plan.ensures.value in omega arith

pub returns-in_err-choices-clause-err : goal.returns-in_err-choices-clause-err
returns-in_err-choices-clause-err g c =
    on_err c.from_residual.result (turns_way (rules_of g.O.Ordering) (plan_of c.args.journal.now) (bound (plan_of c.args.journal.now)) (past_of c.args.journal.now))

pub returns-in_err-make_turn-clause-err : goal.returns-in_err-make_turn-clause-err
returns-in_err-make_turn-clause-err g c =
    let r = rules_of g.O.Ordering in
    let p = plan_of c.args.journal.now in
    let before = past_of c.loop-choices.journal in
    let new = past_of c.make_turn.new.journal in
    let whole = round_robin r p (past_of c.args.journal.now) in
    let i = c.loop-choices.invariant in
    let way : IsOnTheWay new (turn r p before) = subst (λ q. IsOnTheWay new (turn r q before)) i.plan c.in_err-make_turn.ensures.err in
    on_err c.from_residual-in_err-make_turn.result
    (way_trans new (turn r p before) whole way (subst (λ w. IsOnTheWay (turn r p before) w) i.rest.2 (turn_within r p i.rest.0 before i.rest.1)))

pub returns-then-len-before-clause-made : goal.returns-then-len-before-clause-made
returns-then-len-before-clause-made g c =
    let r = rules_of g.O.Ordering in
    let p = plan_of c.args.journal.now in
    let before = past_of c.loop-choices.journal in
    let i = c.loop-choices.invariant in
    let made : past_of c.make_turn.new.journal ≡ turn r p before = c.in_ok-make_turn.ensures.made ∙ ap (λ q. turn r q before) i.plan in
    let le : length (turn r p before) ≤ length before = let e = ap length made in let t = c.if-len-before.true in let a = c.len.ensures.value in let b = c.len-before.ensures.value in omega arith in
    made ∙ turn_same r p before le ∙ sym (turns_end r p i.rest.0 before le) ∙ i.rest.2

pub returns-then-len-before-clause-rests : goal.returns-then-len-before-clause-rests
returns-then-len-before-clause-rests g c =
    let r = rules_of g.O.Ordering in
    let p = plan_of c.args.journal.now in
    let before = past_of c.loop-choices.journal in
    let i = c.loop-choices.invariant in
    let made : past_of c.make_turn.new.journal ≡ turn r p before = c.in_ok-make_turn.ensures.made ∙ ap (λ q. turn r q before) i.plan in
    let le : length (turn r p before) ≤ length before = let e = ap length made in let t = c.if-len-before.true in let a = c.len.ensures.value in let b = c.len-before.ensures.value in omega arith in
    let same : past_of c.make_turn.new.journal ≡ before = made ∙ turn_same r p before le in
    λ room. turn_settled r p (past_of c.make_turn.new.journal) room (ap (turn r p) same ∙ sym made)

pub loop-choices-smaller : goal.loop-choices-smaller
loop-choices-smaller g c =
    let r = rules_of g.O.Ordering in
    let p = plan_of c.args.journal.now in
    let before = past_of c.loop-choices.journal in
    let i = c.loop-choices.invariant in
    let made : past_of c.make_turn.new.journal ≡ turn r p before = c.in_ok-make_turn.ensures.made ∙ ap (λ q. turn r q before) i.plan in
    let longer = turn_longer r p before in
    let few : length (past_of c.make_turn.new.journal) ≤ bound p = (let f = c.len.ensures.few in let v = c.len.ensures.value in let e = ap bound (c.make_turn.ensures.plan ∙ i.plan) in omega arith) in
    (let e = ap length made in let t = c.if-len-before.false in let a = c.len.ensures.value in let b = c.len-before.ensures.value in omega arith)

pub loop-choices-preserved : goal.loop-choices-preserved
loop-choices-preserved g c =
    let r = rules_of g.O.Ordering in
    let p = plan_of c.args.journal.now in
    let before = past_of c.loop-choices.journal in
    let i = c.loop-choices.invariant in
    let whole = round_robin r p (past_of c.args.journal.now) in
    let made : past_of c.make_turn.new.journal ≡ turn r p before = c.in_ok-make_turn.ensures.made ∙ ap (λ q. turn r q before) i.plan in
    let longer = turn_longer r p before in
    let few : length (past_of c.make_turn.new.journal) ≤ bound p = (let f = c.len.ensures.few in let v = c.len.ensures.value in let e = ap bound (c.make_turn.ensures.plan ∙ i.plan) in omega arith) in
    let lt : length before < length (turn r p before) = (let e = ap length made in let t = c.if-len-before.false in let a = c.len.ensures.value in let b = c.len-before.ensures.value in omega arith) in
    record {
      plan = c.make_turn.ensures.plan ∙ i.plan;
      all = i.all;
      grows = way_trans (past_of c.args.journal.now) before (past_of c.make_turn.new.journal) i.grows c.make_turn.ensures.grows;
      few = few;
      rest = subst (λ past. (more : ℕ) × (bound p ≤ length past + more) × (turns r p more past ≡ whole)) (sym made)
          (rest_after r p before whole lt (let e = ap length made in omega arith) i.rest);
    }

pub returns-in_err-choices-clause-grows : goal.returns-in_err-choices-clause-grows
returns-in_err-choices-clause-grows g c = way_self (past_of c.args.journal.now)

pub returns-in_err-make_turn-clause-grows : goal.returns-in_err-make_turn-clause-grows
returns-in_err-make_turn-clause-grows g c =
    way_trans (past_of c.args.journal.now) (past_of c.loop-choices.journal) (past_of c.make_turn.new.journal) c.loop-choices.invariant.grows c.make_turn.ensures.grows

pub returns-then-len-before-clause-grows : goal.returns-then-len-before-clause-grows
returns-then-len-before-clause-grows g c =
    way_trans (past_of c.args.journal.now) (past_of c.loop-choices.journal) (past_of c.make_turn.new.journal) c.loop-choices.invariant.grows c.make_turn.ensures.grows
