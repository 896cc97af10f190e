use Rattle.std.proofs.Common.{◌≡◌, ℕ, ◌<◌, true, get_or}
use Rattle.upd_base.specs.Text.{is_printable}
use Rattle.upd_frame.proofs.reading.unprintable.Given as goal

abbrev pub invariant-loop-i : goal.invariant-loop-i
invariant-loop-i l = (k : ℕ) → k < l.i → is_printable (get_or l.bytes k 0) ≡ true
