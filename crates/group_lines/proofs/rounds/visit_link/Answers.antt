use Rattle.std.proofs.Common.{◌∙◌, ◌<◌, None, arith, ap, get_or, subst, refl, length}
use Rattle.member_rules.specs.Kept.{rules_of}
use Rattle.upd_base.proofs.PlanFacts.{open_facts}
use Rattle.run_journal.specs.Journal.{plan_of, past_of}
use Rattle.group_lines.specs.Visits.{LinkStands}
use Rattle.group_lines.proofs.Ready.{later_one}
use Rattle.group_lines.proofs.OneLink.{get_any, left_link, ok_map, ready_link, went_link}
use Rattle.group_lines.proofs.rounds.visit_link.Goals as goal

pub link_at-from-requires-clause-few : goal.link_at-from-requires-clause-few
link_at-from-requires-clause-few g c =
    let f = (open_facts (plan_of c.args.journal.now) c.plan.ensures.run.of_plan).few in
    let e = ap (λ p. p.members) c.plan.ensures.value in
    omega arith

pub returns-clause-went : goal.returns-clause-went
returns-clause-went g c =
    let plan = plan_of c.args.journal.now in
    let from = c.link_at-from.result.0 in
    let to = c.link_at-from.result.1 in
    let s : LinkStands plan.members from to c.args.place = subst (λ n. LinkStands n from to c.args.place) (c.members.ensures ∙ ap (λ p. p.members) c.plan.ensures.value) c.link_at-from.ensures in
    went_link g.L.Line (rules_of g.O.Ordering) plan (past_of c.args.journal.now) (past_of c.visit_line.new.journal) c.args.lines.now c.args.states.now from to c.args.place
    (get_or c.args.lines.now c.args.place c.index-lines-place.result) c.visit_line.new.line _ c.visit_line.new.state
    s c.requires.place c.requires.ready.stated (get_any c.args.lines.now c.args.place c.index-lines-place.result None c.requires.place) refl c.visit_line.ensures.went

pub returns-clause-ready : goal.returns-clause-ready
returns-clause-ready g c =
    let r = rules_of g.O.Ordering in
    let plan = plan_of c.args.journal.now in
    let old = past_of c.args.journal.now in
    let new = past_of c.visit_line.new.journal in
    let from = c.link_at-from.result.0 in
    let to = c.link_at-from.result.1 in
    let s : LinkStands plan.members from to c.args.place = subst (λ n. LinkStands n from to c.args.place) (c.members.ensures ∙ ap (λ p. p.members) c.plan.ensures.value) c.link_at-from.ensures in
    ok_map c.visit_line.result
    (λ ready. ready_link g.L.Line r plan old new c.args.lines.now c.args.states.now from to c.args.place c.visit_line.new.line c.visit_line.new.state
    s c.requires.place c.requires.ready (later_one plan old new _ c.visit_line.ensures.went.made) ready)
    c.visit_line.ensures.ready

pub returns-clause-left : goal.returns-clause-left
returns-clause-left g c =
    let r = rules_of g.O.Ordering in
    let plan = plan_of c.args.journal.now in
    let old = past_of c.args.journal.now in
    let from = c.link_at-from.result.0 in
    let to = c.link_at-from.result.1 in
    let s : LinkStands plan.members from to c.args.place = subst (λ n. LinkStands n from to c.args.place) (c.members.ensures ∙ ap (λ p. p.members) c.plan.ensures.value) c.link_at-from.ensures in
    let lt : c.args.place < length c.args.states.now = (let a = c.requires.place in let b = c.requires.ready.stated in omega arith) in
    ok_map c.visit_line.result
    (λ left. λ idle i j t. left_link r plan old c.args.states.now from to i j c.args.place c.visit_line.new.state s t lt (left idle))
    c.visit_line.ensures.left
