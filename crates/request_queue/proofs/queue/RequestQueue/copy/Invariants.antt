use Rattle.std.proofs.Common.{◌≡◌, take}
use Rattle.request_queue.proofs.queue.RequestQueue.copy.Given as goal

abbrev pub invariant-loop-place : goal.invariant-loop-place
invariant-loop-place l = l.requests.items ≡ take l.place l.self
