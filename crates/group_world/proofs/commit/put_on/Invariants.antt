use Rattle.std.proofs.Common.{◌≡◌, ◌<◌, ◌≤◌, ◌++◌, ◌==◌, ℕ, [], if◌then◌else◌, length}
use Rattle.std.specs.Prelude.{All}
use Rattle.fifo_net.specs.Net.{bodies_to}
use Rattle.fifo_link.specs.Links.{on_link, spare_of}
use Rattle.group_world.proofs.commit.put_on.Given as goal

abbrev pub invariant-loop-to : goal.invariant-loop-to
invariant-loop-to l = record {
  members : l.links.members ≡ l.fn.links.members;
  receivers : All (λ s. s.0 < l.fn.links.members) l.sent;
  room : (to : ℕ) → to < l.fn.links.members → length (bodies_to to l.sent) ≤ spare_of l.links l.from to;
  added : (i j : ℕ) → i < l.fn.links.members → j < l.fn.links.members →
      on_link l.links i j ++ (if l.from == i then bodies_to j l.sent else []) ≡ on_link l.fn.links i j ++ (if l.from == i then bodies_to j l.fn.sent else []);
}

abbrev pub decreases-loop-to : goal.decreases-loop-to
decreases-loop-to l = length l.sent
