use Rattle.std.proofs.Common.{◌≡◌, ◌<◌, ◌≤◌, ◌+◌, ◌++◌, All, AllPairs}
use Rattle.std.specs.VecDeque.{deque_len, deque_capacity}
use Rattle.early_frames.specs.Arrivals.{frames_of, Precedes}
use Rattle.early_frames.proofs.numbers.renumber.Given as goal

abbrev pub invariant-loop-frame : goal.invariant-loop-frame
invariant-loop-frame l = record {
  frames : frames_of l.initial.kept.items ≡ frames_of l.fresh.items ++ frames_of l.kept.items;
  all : deque_len l.fresh + deque_len l.kept ≡ deque_len l.initial.kept;
  room : deque_len l.initial.kept ≤ deque_capacity l.fresh;
  next : l.next ≡ deque_len l.fresh;
  left : AllPairs Precedes l.kept.items;
  ordered : AllPairs Precedes l.fresh.items;
  numbered : All (λ a. a.number < l.next) l.fresh.items;
}

abbrev pub decreases-loop-frame : goal.decreases-loop-frame
decreases-loop-frame l = deque_len l.kept
