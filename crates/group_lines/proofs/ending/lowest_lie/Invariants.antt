use Rattle.std.proofs.Common.{ℕ, ◌<◌, slice_index_or}
use Rattle.line_rules.specs.declared.line_state.LineState.TheVariants.{Missing}
use Rattle.group_lines.specs.Told.{IsLyingState}
use Rattle.group_lines.proofs.ending.lowest_lie.Given as goal

abbrev pub invariant-loop-place : goal.invariant-loop-place
invariant-loop-place l = (k : ℕ) → k < l.place → IsLyingState (slice_index_or l.states k Missing) → ⊥
