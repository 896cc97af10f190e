use Rattle.std.proofs.Common.{arith, ap, subst, length}
use Rattle.member_rules.specs.Kept.{rules_of}
use Rattle.run_journal.specs.Journal.{plan_of, past_of}
use Rattle.group_lines.specs.Visits.{IsIdle, IsNotFull, IsThreadLeft, MadeOne}
use Rattle.group_lines.proofs.Going.{left_more, many_goes, many_then, one_goes}
use Rattle.group_lines.proofs.rounds.visit_threads.Goals as goal

pub visit_thread-requires-after_bounds : goal.visit_thread-requires-after_bounds
visit_thread-requires-after_bounds g c = λ κs live.
    let a = ap (λ p. length p.threads) c.plan.ensures.value in
    let b = ap (λ p. length p.threads) c.loop-thread.invariant.plan in
    omega arith

pub returns-in_err-visit_thread-clause-made : goal.returns-in_err-visit_thread-clause-made
returns-in_err-visit_thread-clause-made g c =
    let i = c.loop-thread.invariant in
    let old = past_of c.loop-thread.journal in
    let new = past_of c.visit_thread.new.journal in
    many_then (plan_of c.args.journal.now) (past_of c.args.journal.now) old new IsNotFull i.made (subst (λ p. MadeOne p old new IsNotFull) i.plan c.visit_thread.ensures.made)

pub loop-thread-preserved : goal.loop-thread-preserved
loop-thread-preserved g c =
    let i = c.loop-thread.invariant in
    let r = rules_of g.O.Ordering in
    let plan = plan_of c.args.journal.now in
    let first = past_of c.args.journal.now in
    let old = past_of c.loop-thread.journal in
    let new = past_of c.visit_thread.new.journal in
    let one = subst (λ p. MadeOne p old new IsNotFull) i.plan c.visit_thread.ensures.made in
    record {
      plan = cc;
      made = many_then plan first old new IsNotFull i.made one;
      left = left_more plan first old new (λ past thread. IsThreadLeft r plan past thread) c.loop-thread.thread (many_goes plan first old IsNotFull i.made) (one_goes plan old new IsNotFull one)
          i.left (subst (λ p. IsIdle p old new → IsThreadLeft r p old c.loop-thread.thread) i.plan c.in_ok-visit_thread.ensures.left);
    }
