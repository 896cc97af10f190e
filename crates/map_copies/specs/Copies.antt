-- Maps that are copied entry by entry.
use Rattle.std.specs.Prelude.{◌≡◌, List, [], ◌∷◌, Option, Some, None}

-- the same keys in the same order, each with a copy of its value; R says what a copy is
abbrev pub Mirrors : {K V : Type 0} → (V → V → Type 0) → List (K × V) → List (K × V) → Type 0
Mirrors R [] [] = Unit {0}
Mirrors R [] (y ∷ ys) = ⊥
Mirrors R (x ∷ xs) [] = ⊥
Mirrors R (x ∷ xs) (y ∷ ys) = (x.0 ≡ y.0) × R x.1 y.1 × Mirrors R xs ys

-- nothing, or a value and its copy
abbrev pub MayCopy : {V : Type 0} → (V → V → Type 0) → Option V → Option V → Type 0
MayCopy R None None = Unit {0}
MayCopy R None (Some y) = ⊥
MayCopy R (Some x) None = ⊥
MayCopy R (Some x) (Some y) = R x y
