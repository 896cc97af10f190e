use Rattle.std.proofs.Common.{◌++◌, ◌+◌, ◌∙◌, ap, drop, get_or, refl}
use Rattle.scenario_gen.proofs.Loops.{left, step_passed, step_written}
use Rattle.scenario_gen.proofs.write.write_thread.Goals.{then-call-thread+in_ok-write_step, else-call-thread}
use Rattle.scenario_gen.proofs.write.write_thread.Goals as goal

pub loop-call-preserved : goal.loop-call-preserved
loop-call-preserved c =
    let ws = c.args.words.now in
    let i = c.loop-call.call in
    let whole = c.begin_array.new.self.tokens ++ left c.args.thread 0 ws in
    elim c.if-call-thread.branch [
      | then-call-thread+in_ok-write_step w ↦ record {
        before = ap (λ o. o.before) w.out-is ∙ w.in_ok-write_step.ensures.before ∙ c.loop-call.invariant.before;
        tokens = step_written c.args.thread i (get_or ws i 0) ws c.loop-call.out.tokens c.if-call-thread.out.tokens whole c.loop-call-test.true refl w.if-call-thread.true
            (ap (λ o. o.tokens) w.out-is ∙ w.in_ok-write_step.ensures.tokens) c.loop-call.invariant.tokens;
      }
      | else-call-thread w ↦ record {
        before = ap (λ o. o.before) w.out-is ∙ c.loop-call.invariant.before;
        tokens = ap (λ o. o.tokens ++ left c.args.thread (i + 1) (drop (i + 1) ws)) w.out-is
            ∙ step_passed c.args.thread i (get_or ws i 0) ws c.loop-call.out.tokens whole c.loop-call-test.true refl w.if-call-thread.false c.loop-call.invariant.tokens;
      }
    ]
