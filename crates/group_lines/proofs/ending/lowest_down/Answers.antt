use Rattle.std.proofs.Common.{◌∙◌, ◌+◌, ◌*◌, arith, ap, subst}
use Rattle.member_rules.specs.Kept.{rules_of}
use Rattle.upd_base.proofs.PlanFacts.{open_facts}
use Rattle.run_journal.specs.Journal.{plan_of, past_of}
use Rattle.group_lines.specs.Visits.{LinkStands}
use Rattle.group_lines.proofs.OneLink.{place_within, stands}
use Rattle.group_lines.proofs.Ends.{down_more}
use Rattle.group_lines.proofs.ending.lowest_down.Goals as goal

pub link_at-from-requires-clause-few : goal.link_at-from-requires-clause-few
link_at-from-requires-clause-few g c =
    let f = (open_facts (plan_of c.args.journal.now) c.plan.ensures.run.of_plan).few in
    let e = ap (λ p. p.members) c.plan.ensures.value in
    omega arith

pub loop-place-preserved : goal.loop-place-preserved
loop-place-preserved g c =
    let plan = plan_of c.args.journal.now in
    let from = c.link_at-from.result.0 in
    let to = c.link_at-from.result.1 in
    let s : LinkStands plan.members from to c.loop-place.place = subst (λ n. LinkStands n from to c.loop-place.place) (c.members-members.ensures ∙ ap (λ p. p.members) c.plan.ensures.value) c.link_at-from.ensures in
    down_more (rules_of g.O.Ordering) plan (past_of c.args.journal.now) plan.members c.args.states.now c.loop-place.place from to s (c.is_down.ensures.none c.if-is_down.false) c.loop-place.invariant

pub returns-clause-none : goal.returns-clause-none
returns-clause-none g c = λ from to f t down.
    let n = (plan_of c.args.journal.now).members in
    c.loop-place.invariant (from * n + to) from to (let w = place_within n from to f t in let e = c.loop-place-test.false in let p = c.requires in omega arith) (stands n from to f t) down
