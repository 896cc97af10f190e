-- Payloads of the rows.
use Rattle.std.specs.Prelude.{ℕ, List, [], ◌∷◌}

-- the texts a and b, as their bytes
abbrev pub a : List ℕ
a = 97 ∷ []

abbrev pub b : List ℕ
b = 98 ∷ []
