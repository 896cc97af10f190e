use Rattle.std.proofs.Common.{◌≡◌, ◌++◌, List, length, map, not, leb}
use Rattle.std.specs.List.{filter}
use Rattle.request_queue.specs.declared.request.Request.{Request}
use Rattle.request_queue.proofs.queue.RequestQueue.release_up_to.Given as goal

-- what is left is the end of the queue; what is yet to go and to stay is as it was
abbrev pub invariant-loop-request : goal.invariant-loop-request
invariant-loop-request l = record {
  gone : (gone : List Request) × (l.fn.self ≡ gone ++ l.self);
  kept : filter (λ w. not (leb w.stamp l.limit)) l.self ≡ filter (λ w. not (leb w.stamp l.limit)) l.fn.self;
  released : l.items.items ++ map (λ w. w.item) (filter (λ w. leb w.stamp l.limit) l.self)
      ≡ l.fn.items.items ++ map (λ w. w.item) (filter (λ w. leb w.stamp l.limit) l.fn.self);
}

abbrev pub decreases-loop-request : goal.decreases-loop-request
decreases-loop-request l = length l.self
