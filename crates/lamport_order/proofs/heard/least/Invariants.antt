use Rattle.std.proofs.Common.{◌≡◌, get_or}
use Rattle.lamport_rules.specs.Lamport.{least_below}
use Rattle.lamport_order.proofs.heard.least.Given as goal

abbrev pub invariant-loop-stamp : goal.invariant-loop-stamp
invariant-loop-stamp l = l.low ≡ least_below l.stamp-index (λ j. get_or l.heard j 0)
