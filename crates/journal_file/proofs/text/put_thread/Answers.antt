use Rattle.std.proofs.Common.{◌≡◌, ◌∙◌, ◌<◌, arith, sym, ap, length, ◌++◌}
use Rattle.std.specs.Prelude.{map}
use Rattle.upd_base.specs.Plan.{steps_of}
use Rattle.upd_base.specs.declared.call.Step.{Step}
use Rattle.journal_file.specs.Grammar.{TextFits}
use Rattle.journal_file.specs.Text.{ended, step_line, text_of, thread_line}
use Rattle.journal_file.proofs.Joined.{all_more, all_of, lines_of, planned_step, wrote_all, wrote_more}
use Rattle.journal_file.proofs.text.put_thread.Goals as goal

pub loop-index-preserved : goal.loop-index-preserved
loop-index-preserved c =
    let steps = steps_of c.args.plan.now c.args.thread in
    let at = planned_step c.args.plan.now c.args.thread c.loop-index.index c.step.result.now c.step.ensures in
    let lt : c.loop-index.index < length steps = (let t = c.loop-index-test.true in let n = c.steps-steps.ensures in omega (arith, t, n)) in (
      wrote_more (λ s. ended (step_line s)) steps c.loop-index.index c.step.result.now c.put_thread_head.new.out.items c.loop-index.out.items c.put_step.new.out.items
          at lt c.loop-index.invariant.0 c.in_ok-put_step.ensures.out,
      all_more (λ (s : Step). TextFits s.call) steps c.loop-index.index c.step.result.now at lt c.loop-index.invariant.1 c.in_ok-put_step.ensures.fits,
    )

pub returns-clause-out : goal.returns-clause-out
returns-clause-out c =
    let steps = steps_of c.args.plan.now c.args.thread in
    wrote_all (λ s. ended (step_line s)) steps c.loop-index.index c.args.out.now.items c.put_thread_head.new.out.items c.loop-index.out.items
    (ended (thread_line (length steps))) (text_of (map step_line steps))
    (let t = c.loop-index-test.false in let n = c.steps-steps.ensures in omega (arith, t, n))
    (c.in_ok-put_thread_head.ensures ∙ ap (λ n. c.args.out.now.items ++ ended (thread_line n)) c.steps-steps.ensures) c.loop-index.invariant.0 (sym (lines_of step_line steps))

pub returns-clause-fits : goal.returns-clause-fits
returns-clause-fits c =
    all_of (λ (s : Step). TextFits s.call) (steps_of c.args.plan.now c.args.thread) c.loop-index.index (let t = c.loop-index-test.false in let n = c.steps-steps.ensures in omega (arith, t, n)) c.loop-index.invariant.1
