use Rattle.std.proofs.Common.{◌≡◌, ◌<◌, ◌≤◌, ◌∙◌, arith, ap, subst, sym, length}
use Rattle.member_rules.specs.Kept.{rules_of}
use Rattle.upd_base.specs.Plan.{bound}
use Rattle.upd_base.proofs.PlanFacts.{open_facts}
use Rattle.group_run.specs.Run.{Events}
use Rattle.std.proofs.Common.{true}
use Rattle.group_run.specs.Settled.{IsSettled}
use Rattle.rehearsal.specs.Choices.{has_room}
use Rattle.run_journal.specs.Journal.{plan_of, past_of}
use Rattle.rehearsal.specs.Seeded.{drawn, seeded}
use Rattle.rehearsal.specs.Ends.{IsOnTheWay}
use Rattle.rehearsal.proofs.Visits.{on_err, way_self, way_trans}
use Rattle.rehearsal.proofs.DrawLaws.{draw_longer, draw_same, draw_settled, draw_way, drawn_is, draws_end, draws_way, rest_drawn}
use Rattle.rehearsal.proofs.draws.run_draws.Goals as goal

pub choices-requires : goal.choices-requires
choices-requires g c = let f = (open_facts (plan_of c.args.journal.now) c.plan.ensures.run.of_plan).few in let e = ap (λ p. p.members) c.plan.ensures.value in omega arith

pub returns-in_err-choices-clause-err : goal.returns-in_err-choices-clause-err
returns-in_err-choices-clause-err g c =
    on_err c.from_residual.result (draws_way (rules_of g.O.Ordering) (plan_of c.args.journal.now) (bound (plan_of c.args.journal.now)) (past_of c.args.journal.now) c.args.words.now)

pub returns-in_err-draw-clause-err : goal.returns-in_err-draw-clause-err
returns-in_err-draw-clause-err g c =
    let r = rules_of g.O.Ordering in
    let p = plan_of c.args.journal.now in
    let before = past_of c.loop-choices.journal in
    let whole = seeded r p (past_of c.args.journal.now) c.args.words.now in
    let i = c.loop-choices.invariant in
    on_err c.from_residual-in_err-draw.result
    (subst (λ past. IsOnTheWay past whole) (sym c.in_err-draw.ensures.err) (subst (λ w. IsOnTheWay before w) i.rest.2 (draws_way r p i.rest.0 before c.loop-choices.words)))

pub returns-then-len-before-clause-made : goal.returns-then-len-before-clause-made
returns-then-len-before-clause-made g c =
    let r = rules_of g.O.Ordering in
    let p = plan_of c.args.journal.now in
    let before = past_of c.loop-choices.journal in
    let words = c.loop-choices.words in
    let i = c.loop-choices.invariant in
    let made : past_of c.draw.new.journal ≡ (drawn r p before words).past = c.in_ok-draw.ensures.made ∙ ap (λ q. (drawn r q before words).past) i.plan in
    let le : length (drawn r p before words).past ≤ length before = let e = ap length made in let t = c.if-len-before.true in let a = c.len.ensures.value in let b = c.len-before.ensures.value in omega arith in
    made ∙ draw_same r p before words le ∙ sym (draws_end r p i.rest.0 before words le) ∙ i.rest.2

pub returns-then-len-before-clause-rests : goal.returns-then-len-before-clause-rests
returns-then-len-before-clause-rests g c =
    let r = rules_of g.O.Ordering in
    let p = plan_of c.args.journal.now in
    let before = past_of c.loop-choices.journal in
    let words = c.loop-choices.words in
    let i = c.loop-choices.invariant in
    let made : past_of c.draw.new.journal ≡ (drawn r p before words).past = c.in_ok-draw.ensures.made ∙ ap (λ q. (drawn r q before words).past) i.plan in
    let le : length (drawn r p before words).past ≤ length before = let e = ap length made in let t = c.if-len-before.true in let a = c.len.ensures.value in let b = c.len-before.ensures.value in omega arith in
    let same : past_of c.draw.new.journal ≡ before = made ∙ draw_same r p before words le in
    subst (λ (past : Events). has_room p past ≡ true → IsSettled r p past) (sym same) (λ room. draw_settled r p before words room (draw_same r p before words le))

pub loop-choices-preserved : goal.loop-choices-preserved
loop-choices-preserved g c =
    let r = rules_of g.O.Ordering in
    let p = plan_of c.args.journal.now in
    let before = past_of c.loop-choices.journal in
    let words = c.loop-choices.words in
    let i = c.loop-choices.invariant in
    let whole = seeded r p (past_of c.args.journal.now) c.args.words.now in
    let made : past_of c.draw.new.journal ≡ (drawn r p before words).past = c.in_ok-draw.ensures.made ∙ ap (λ q. (drawn r q before words).past) i.plan in
    let left : c.draw.new.words ≡ (drawn r p before words).words = c.in_ok-draw.ensures.words ∙ ap (λ q. (drawn r q before words).words) i.plan in
    let longer = draw_longer r p before words in
    let few : length (past_of c.draw.new.journal) ≤ bound p = (let f = c.len.ensures.few in let v = c.len.ensures.value in let e = ap bound (c.draw.ensures.plan ∙ i.plan) in omega arith) in
    let lt : length before < length (past_of c.draw.new.journal) = (let e = ap length made in let t = c.if-len-before.false in let a = c.len.ensures.value in let b = c.len-before.ensures.value in omega arith) in
    record {
      plan = c.draw.ensures.plan ∙ i.plan;
      all = i.all;
      limit = i.limit;
      grows = way_trans (past_of c.args.journal.now) before (past_of c.draw.new.journal) i.grows (subst (IsOnTheWay before) (sym made) (draw_way r p before words));
      few = few;
      rest = rest_drawn r p before whole words (record { past = past_of c.draw.new.journal; words = c.draw.new.words }) (drawn_is (drawn r p before words) (past_of c.draw.new.journal) c.draw.new.words made left) lt few i.rest;
    }

pub returns-in_err-choices-clause-grows : goal.returns-in_err-choices-clause-grows
returns-in_err-choices-clause-grows g c = way_self (past_of c.args.journal.now)

pub returns-in_err-draw-clause-grows : goal.returns-in_err-draw-clause-grows
returns-in_err-draw-clause-grows g c = subst (IsOnTheWay (past_of c.args.journal.now)) (sym c.in_err-draw.ensures.err) c.loop-choices.invariant.grows

pub returns-then-len-before-clause-grows : goal.returns-then-len-before-clause-grows
returns-then-len-before-clause-grows g c =
    let r = rules_of g.O.Ordering in
    let p = plan_of c.args.journal.now in
    let before = past_of c.loop-choices.journal in
    let words = c.loop-choices.words in
    let i = c.loop-choices.invariant in
    let made : past_of c.draw.new.journal ≡ (drawn r p before words).past = c.in_ok-draw.ensures.made ∙ ap (λ q. (drawn r q before words).past) i.plan in
    way_trans (past_of c.args.journal.now) before (past_of c.draw.new.journal) i.grows (subst (IsOnTheWay before) (sym made) (draw_way r p before words))
