use Rattle.std.proofs.Common.{◌∙◌, ◌<◌, arith, ap, get_or, length, subst, sym}
use Rattle.member_rules.specs.Kept.{rules_of}
use Rattle.upd_base.specs.Plan.{bound}
use Rattle.upd_base.proofs.PlanFacts.{open_facts}
use Rattle.run_journal.specs.Journal.{plan_of, past_of}
use Rattle.line_rules.specs.declared.line_state.LineState.TheVariants.{Missing}
use Rattle.group_lines.specs.Visits.{LinkStands}
use Rattle.group_lines.specs.Told.{IsDownState}
use Rattle.group_lines.proofs.Ends.{held_down, held_settled, none_lied}
use Rattle.group_lines.proofs.ending.end_of.Goals as goal

pub link_at-from-requires-clause-few : goal.link_at-from-requires-clause-few
link_at-from-requires-clause-few g c =
    let f = (open_facts (plan_of c.args.journal.now) c.plan.ensures.run.of_plan).few in
    let e = ap (λ p. p.members) c.plan-2.ensures.value in
    omega arith

pub link_at-from-requires-in-Some-lowest_down-clause-few : goal.link_at-from-requires-in-Some-lowest_down-clause-few
link_at-from-requires-in-Some-lowest_down-clause-few g c =
    let f = (open_facts (plan_of c.args.journal.now) c.plan.ensures.run.of_plan).few in
    let e = ap (λ p. p.members) c.plan-2.ensures.value in
    omega arith

pub returns-in-Some-lowest_down : goal.returns-in-Some-lowest_down
returns-in-Some-lowest_down g c =
    let r = rules_of g.O.Ordering in
    let plan = plan_of c.args.journal.now in
    let past = past_of c.args.journal.now in
    let from = c.link_at-from-in-Some-lowest_down.result.0 in
    let to = c.link_at-from-in-Some-lowest_down.result.1 in
    let place = c.in-Some-lowest_down.place in
    let s : LinkStands plan.members from to place = subst (λ n. LinkStands n from to place) (c.members-members.ensures ∙ ap (λ p. p.members) c.plan-2.ensures.value) c.link_at-from-in-Some-lowest_down.ensures in
    let room : length past < bound plan = (let l = c.len.ensures.value in let b = c.bound.ensures in let e = ap bound c.plan.ensures.value in let f = c.if-len-bound.false in omega arith) in (
      record {
        left_off = record { not_settled = λ settled. let t = c.settled.ensures.1 settled in let f = c.if-settled.false in cc; room = room };
        from_member = s.from_member;
        to_member = s.to_member;
        held_up = held_down r plan past c.args.states.now c.in_default.ensures.none c.requires.places (c.requires.rest room);
      },
      subst (λ k. IsDownState (get_or c.args.states.now k Missing)) (sym s.there) c.in-Some-lowest_down.ensures.found,
      none_lied plan c.args.states.now c.in_default.ensures.none c.requires.places,
    )

pub unreachable-requires : goal.unreachable-requires
unreachable-requires g c =
    let r = rules_of g.O.Ordering in
    let plan = plan_of c.args.journal.now in
    let past = past_of c.args.journal.now in
    let room : length past < bound plan = (let l = c.len.ensures.value in let b = c.bound.ensures in let e = ap bound c.plan.ensures.value in let f = c.if-len-bound.false in omega arith) in
    let t = c.settled.ensures.1 (held_settled r plan past c.args.states.now c.in_default-lowest_down.ensures.none (held_down r plan past c.args.states.now c.in_default.ensures.none c.requires.places (c.requires.rest room))) in
    let f = c.if-settled.false in
    cc
