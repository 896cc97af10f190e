use Rattle.std.proofs.Common.{◌<◌, ◌≤◌, ◌-◌, length}
use Rattle.early_frames.specs.Arrivals.{IsEarliest}
use Rattle.early_frames.proofs.arrivals.first_place.Given as goal

abbrev pub invariant-loop-at : goal.invariant-loop-at
invariant-loop-at l = record {
  within : l.at ≤ length l.kept.items;
  counted : l.first < l.count;
  earliest : IsEarliest l.kept.items l.at l.first;
}

abbrev pub decreases-loop-at : goal.decreases-loop-at
decreases-loop-at l = l.count - l.at
