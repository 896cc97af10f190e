use Rattle.std.proofs.Common.{◌≡◌, map, take}
use Rattle.upd_base.proofs.plan.copies_of.Given as goal

abbrev pub invariant-loop-thread : goal.invariant-loop-thread
invariant-loop-thread l = map (λ t. t.items) l.copies.items ≡ map (λ t. t.items) (take l.thread-index l.threads)
