use Rattle.std.proofs.Common.{◌≡◌, ◌<◌, ◌≤◌, ℕ, length}
use Rattle.fifo_net.specs.Net.{bodies_to}
use Rattle.fifo_link.specs.Links.{spare_of}
use Rattle.group_world.proofs.ready.reserve_for.Given as goal

abbrev pub invariant-loop-number : goal.invariant-loop-number
invariant-loop-number l = record {
  members : l.links.members ≡ l.fn.links.members;
  same : l.links.waiting ≡ l.fn.links.waiting;
  room : (to : ℕ) → to < l.number → length (bodies_to to l.sent) ≤ spare_of l.links l.from to;
}
