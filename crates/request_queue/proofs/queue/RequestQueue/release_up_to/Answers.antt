use Rattle.std.proofs.Common.{◌≡◌, ◌∙◌, ◌++◌, List, rules}
use Rattle.request_queue.specs.declared.request.Request.{Request}
use Rattle.request_queue.proofs.Limits.{over_popped, upto_popped, gone_more, over_done, upto_done}
use Rattle.request_queue.proofs.queue.RequestQueue.release_up_to.Goals as goal

pub loop-request-preserved : goal.loop-request-preserved
loop-request-preserved c = record {
  gone = gone_more c.in-Some.request c.args.self.now c.loop-request.invariant.gone.0 c.loop-request.self c.pop_up_to.new.self c.loop-request.invariant.gone.1 c.in-Some.ensures.first;
  kept = over_popped c.args.limit c.in-Some.request c.loop-request.self c.pop_up_to.new.self c.in-Some.ensures.first c.in-Some.ensures.within ∙ c.loop-request.invariant.kept;
  released = upto_popped c.args.limit c.in-Some.request c.loop-request.self c.pop_up_to.new.self c.loop-request.items.items c.push.new.self.items
      c.in-Some.ensures.first c.in-Some.ensures.within c.in_ok-push.ensures.items ∙ c.loop-request.invariant.released;
}

pub returns-in_err-push-clause-err : goal.returns-in_err-push-clause-err
returns-in_err-push-clause-err c =
    let gone : (more : List Request) × (c.args.self.now ≡ more ++ c.pop_up_to.new.self) =
    gone_more c.in-Some.request c.args.self.now c.loop-request.invariant.gone.0 c.loop-request.self c.pop_up_to.new.self c.loop-request.invariant.gone.1 c.in-Some.ensures.first in
    search rules

pub returns-clause-kept : goal.returns-clause-kept
returns-clause-kept c = over_done c.args.limit c.args.self.now c.loop-request.self c.pop_up_to.new.self c.in_default.ensures.first c.in_default.ensures.none c.loop-request.invariant.kept

pub returns-clause-released : goal.returns-clause-released
returns-clause-released c = upto_done c.args.limit c.args.self.now c.loop-request.self c.args.items.now.items c.loop-request.items.items c.in_default.ensures.none c.loop-request.invariant.released
