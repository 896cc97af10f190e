use Rattle.std.proofs.Common.{ℕ, ◌≤◌, ◌*◌, arith, subst, sym}
use Rattle.member_rules.specs.Kept.{rules_of}
use Rattle.run_journal.specs.Journal.{plan_of, past_of}
use Rattle.line_rules.specs.Lines.{AreReady}
use Rattle.group_lines.specs.Visits.{IsIdle, IsLinkLeft, LinkStands, Went}
use Rattle.group_lines.proofs.Going.{went_trans}
use Rattle.group_lines.proofs.Turns.{all_left, links_left, went_goes}
use Rattle.group_lines.proofs.rounds.visit_links.Goals as goal

pub visit_link-requires-clause-ready : goal.visit_link-requires-clause-ready
visit_link-requires-clause-ready g c = λ κs live.
    subst (λ p. AreReady g.L.Line (rules_of g.O.Ordering) p (past_of c.loop-place.journal) c.loop-place.lines c.loop-place.states) (sym c.loop-place.invariant.plan) c.loop-place.invariant.ready

pub returns-in_err-visit_link-clause-went : goal.returns-in_err-visit_link-clause-went
returns-in_err-visit_link-clause-went g c =
    let i = c.loop-place.invariant in
    let r = rules_of g.O.Ordering in
    let plan = plan_of c.args.journal.now in
    let old = past_of c.loop-place.journal in
    let new = past_of c.visit_link.new.journal in
    went_trans g.L.Line r plan (past_of c.args.journal.now) old new c.args.lines.now c.loop-place.lines c.visit_link.new.lines c.args.states.now c.loop-place.states c.visit_link.new.states i.went
    (subst (λ p. Went g.L.Line r p old new c.loop-place.lines c.visit_link.new.lines c.loop-place.states c.visit_link.new.states) i.plan c.visit_link.ensures.went)

pub loop-place-preserved : goal.loop-place-preserved
loop-place-preserved g c =
    let i = c.loop-place.invariant in
    let r = rules_of g.O.Ordering in
    let plan = plan_of c.args.journal.now in
    let first = past_of c.args.journal.now in
    let old = past_of c.loop-place.journal in
    let new = past_of c.visit_link.new.journal in
    let went = subst (λ p. Went g.L.Line r p old new c.loop-place.lines c.visit_link.new.lines c.loop-place.states c.visit_link.new.states) i.plan c.visit_link.ensures.went in
    record {
      plan = cc;
      ready = subst (λ p. AreReady g.L.Line r p new c.visit_link.new.lines c.visit_link.new.states) i.plan c.in_ok-visit_link.ensures.ready;
      went = went_trans g.L.Line r plan first old new c.args.lines.now c.loop-place.lines c.visit_link.new.lines c.args.states.now c.loop-place.states c.visit_link.new.states i.went went;
      left = links_left r plan first old new c.loop-place.states c.visit_link.new.states c.loop-place.place
          (went_goes g.L.Line r plan first old c.args.lines.now c.loop-place.lines c.args.states.now c.loop-place.states i.went)
          (went_goes g.L.Line r plan old new c.loop-place.lines c.visit_link.new.lines c.loop-place.states c.visit_link.new.states went)
          went.aside i.left
          (subst (λ p. IsIdle p old new → (from to : ℕ) → LinkStands p.members from to c.loop-place.place → IsLinkLeft r p old c.visit_link.new.states from to) i.plan c.in_ok-visit_link.ensures.left);
    }

pub returns-clause-left : goal.returns-clause-left
returns-clause-left g c = λ idle.
    let i = c.loop-place.invariant in
    let plan = plan_of c.args.journal.now in
    let le : plan.members * plan.members ≤ c.loop-place.place = (let f = c.loop-place-test.false in let p = c.requires.ready.places in omega arith) in
    all_left (rules_of g.O.Ordering) plan (past_of c.args.journal.now) c.loop-place.states c.loop-place.place le (i.left idle)
