-- What contracts say of two lists of entries.
use Rattle.std.specs.Prelude.{◌≡◌, ◌⊎◌, nat_lt, cond, List, [], ◌∷◌, ◌++◌, length}

-- xs is the beginning of ys, or all of it
abbrev pub IsPrefix : {A : Type 0} → List A → List A → Type 0
IsPrefix {A} xs ys = (rest : List A) × (ys ≡ xs ++ rest)

-- the longer of two lists, and the first where they are as long
abbrev pub longer : {A : Type 0} → List A → List A → List A
longer xs ys = cond (nat_lt (length xs) (length ys)) ys xs

-- ys is xs, or xs with one entry more at its end
abbrev pub AddsAtMostOne : {A : Type 0} → List A → List A → Type 0
AddsAtMostOne {A} xs ys = (ys ≡ xs) ⊎ ((x : A) × (ys ≡ xs ++ x ∷ []))
