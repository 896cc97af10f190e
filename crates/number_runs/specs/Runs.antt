-- Sets of numbers by row, as runs of successive numbers.
use Rattle.std.specs.Prelude.{ℕ, Bool, ◌==◌, ◌&&◌, nat_le, List}
use Rattle.std.specs.List.{list_any}
use Rattle.number_runs.specs.declared.runs.Run.{Run}

-- the same row and number
abbrev pub is_pair : ℕ × ℕ → ℕ × ℕ → Bool
is_pair a b = (a.0 == b.0) && (a.1 == b.1)

-- whether a number of a row is in a run
abbrev pub covers : Run → ℕ × ℕ → Bool
covers run q = (run.row == q.0) && (nat_le run.first q.1 && nat_le q.1 run.last)

-- or in one of these
abbrev pub holds : List Run → ℕ × ℕ → Bool
holds runs q = list_any (λ run. covers run q) runs

-- the run that ends at this number
abbrev pub longer : Run → ℕ → Run
longer run number = record { row = run.row; first = run.first; last = number }
