-- What a line over a connection tells, and why that is sound.
use Rattle.std.specs.Prelude.{ℕ, false, ◌≤◌, None}
use Rattle.std.proofs.lemmas.Bool.{false≢true}
use Rattle.upd_lines.specs.Line.{Told, IsSound}

-- how many bytes were put and got, and nothing of the bytes; the line isn't faithful
abbrev pub counts : ℕ → ℕ → Told
counts put got = record { put = put; got = got; bytes = None; faithful = false }

pub counts_are_sound : (put got : ℕ) → got ≤ put → IsSound (counts put got)
counts_are_sound put got order = record {
  order = order;
  counts = tt;
  faithful = λ is. absurd (false≢true is);
}
