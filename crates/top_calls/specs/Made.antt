-- The lines that a maker makes for a group.
use Rattle.std.specs.Prelude.{ℕ, ◌≡◌, ◌*◌, ◌<◌, List, length, Option, Some, None}
use Rattle.upd_base.specs.Edge.{Rose}
use Rattle.upd_lines.specs.Line.{IsFresh}
use Rattle.upd_lines.specs.declared.line.Line.{Ghosts}
use Rattle.line_rules.specs.Lines.{line_at}

-- A new line without faults; or none, where the maker's count of faults of that pair rose.
abbrev pub IsMade : {L : Type 0} → Ghosts L → ℕ → ℕ → Option L → Type 0
IsMade G before now None = Rose before now
IsMade G before now (Some line) = IsFresh (G.told line) × (G.faults line ≡ 0)

-- Such a line for each link of n members, at from*n + to.
pub record AreMade {L : Type 0} (G : Ghosts L) (n : ℕ) (before now : ℕ → ℕ → ℕ) (lines : List (Option L)) : Type 0 where
  pub places : length lines ≡ n * n
  pub each : (from to : ℕ) → from < n → to < n → IsMade G (before from to) (now from to) (line_at n lines from to)
