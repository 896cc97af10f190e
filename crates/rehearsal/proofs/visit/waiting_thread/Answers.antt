use Rattle.std.proofs.Common.{arith, ◌<◌, ◌≡◌, ◌∙◌, length, ap, subst}
use Rattle.upd_base.specs.Plan.{steps_of}
use Rattle.run_journal.specs.Journal.{plan_of, past_of}
use Rattle.rehearsal.proofs.Waiting.{found, not_yet}
use Rattle.rehearsal.proofs.visit.waiting_thread.Goals as goal

pub returns-then-made-steps-clause-value : goal.returns-then-made-steps-clause-value
returns-then-made-steps-clause-value g c =
    let j = c.args.journal.now in
    let end : c.threads-thread-end.result ≡ length (plan_of j).threads = c.threads-thread-end.ensures ∙ ap (λ p. length p.threads) c.plan.ensures.value in
    let lt : c.loop-thread.thread < length (plan_of j).threads = let t = c.loop-thread-test.true in omega arith in
    let steps = subst (λ p. c.steps.result ≡ length (steps_of p c.loop-thread.thread)) c.plan-in-loop-thread.ensures.value c.steps.ensures in
    found (plan_of j) (past_of j) c.loop-thread.thread c.made.result c.steps.result lt c.loop-thread.invariant c.made.ensures steps c.if-made-steps.true

pub loop-thread-preserved : goal.loop-thread-preserved
loop-thread-preserved g c =
    let j = c.args.journal.now in
    let steps = subst (λ p. c.steps.result ≡ length (steps_of p c.loop-thread.thread)) c.plan-in-loop-thread.ensures.value c.steps.ensures in
    not_yet (plan_of j) (past_of j) c.loop-thread.thread c.made.result c.steps.result c.loop-thread.invariant c.made.ensures steps (let f = c.if-made-steps.false in omega arith)
