use Rattle.std.proofs.Common.{◌≡◌, ◌≤◌, length, false}
use Rattle.std.specs.List.{AllWithin}
use Rattle.early_frames.specs.Arrivals.{version_of}
use Rattle.early_frames.proofs.Order.{matches}
use Rattle.early_frames.proofs.arrivals.waits_among.Given as goal

abbrev pub invariant-loop-at : goal.invariant-loop-at
invariant-loop-at l = record {
  within : l.at ≤ length l.kept.items;
  below : AllWithin (λ a. version_of a ≤ l.version) l.kept.items 0 l.at;
  none : AllWithin (λ a. matches l.from l.version a ≡ false) l.kept.items l.at (length l.kept.items);
}

abbrev pub decreases-loop-at : goal.decreases-loop-at
decreases-loop-at l = l.at
