use Rattle.std.proofs.Common.{◌<◌, subst, rules}
use Rattle.std.specs.List.{All}
use Rattle.request_queue.proofs.Order.{all_over}
use Rattle.request_queue.proofs.queue.RequestQueue.pop_up_to.Goals as goal

pub returns-then-branch-limit-clause-none : goal.returns-then-branch-limit-clause-none
returns-then-branch-limit-clause-none c =
    subst (All (λ v. c.args.limit < v.stamp)) c.self.view_is
    (all_over c.args.limit c.in_ok-front.field-0.now c.self.inside.requests.items c.self.invariant (search rules) (search rules) c.if-branch-limit.true)
