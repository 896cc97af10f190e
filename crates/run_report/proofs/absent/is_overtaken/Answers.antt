use Rattle.std.proofs.Common.{arith, ap}
use Rattle.member_rules.specs.Kept.{rules_of}
use Rattle.upd_base.specs.Item.{origin_of, number_of}
use Rattle.run_journal.specs.Asked.{accepted_by}
use Rattle.run_journal.specs.Journal.{plan_of, past_of}
use Rattle.run_report.proofs.Accepting.{numbered_below}
use Rattle.run_report.proofs.absent.is_overtaken.Goals as goal

pub asked_in-requires-clause-fits : goal.asked_in-requires-clause-fits
asked_in-requires-clause-fits g c =
    let j = c.args.journal.now in
    let r = rules_of g.O.Ordering in
    let n = numbered_below r (plan_of j) (past_of j) (c.accepted_items_are_kept.ensures r (plan_of j) (past_of j) c.plan.ensures.run) c.args.item.now c.requires in
    let o = ap origin_of c.in-Switch.is in
    let l = n.0 in
    omega (arith, o, l)

pub asked_in-requires-clause-accepted : goal.asked_in-requires-clause-accepted
asked_in-requires-clause-accepted g c =
    let j = c.args.journal.now in
    let r = rules_of g.O.Ordering in
    let n = numbered_below r (plan_of j) (past_of j) (c.accepted_items_are_kept.ensures r (plan_of j) (past_of j) c.plan.ensures.run) c.args.item.now c.requires in
    let o = ap origin_of c.in-Switch.is in
    let m = ap number_of c.in-Switch.is in
    let e = ap (accepted_by r (plan_of j) (past_of j)) o in
    let l = n.1 in
    omega (arith, o, m, e, l)
