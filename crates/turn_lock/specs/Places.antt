-- Places of entries in a list, counted from 0.
use Rattle.std.specs.Prelude.{ℕ, zero, suc, ◌-◌, ◌<◌, ◌≤◌, ◌==◌, nat_lt, nat_le, ◌&&◌, cond, List, [], ◌∷◌, length, ⊤}
use Rattle.std.specs.List.{count_by}
use Rattle.std.specs.Coded.{×_prop, Unit-prop, le_prop}

-- n places, from low on
abbrev pub places_from : ℕ → ℕ → List ℕ
places_from low zero = []
places_from low (suc n) = low ∷ places_from (suc low) n

-- the places of the entries that ys has past the length of xs
abbrev pub new_places : {A : Type 0} → List A → List A → List ℕ
new_places xs ys = places_from (length xs) (length ys - length xs)

-- the places rise, each above the one before it, from low on, and all are below high
abbrev pub Ascends : ℕ → ℕ → List ℕ → Type 0
Ascends low high [] = ⊤
Ascends low high (p ∷ ps) = ((low ≤ p) × (p < high)) × Ascends (suc p) high ps

pub Ascends-prop : (low high : ℕ) (ps : List ℕ) → IsProp (Ascends low high ps)
Ascends-prop low high [] = Unit-prop
Ascends-prop low high (p ∷ ps) = ×_prop (×_prop le_prop le_prop) (Ascends-prop (suc p) high ps)

abbrev pub insert_place : ℕ → List ℕ → List ℕ
insert_place p [] = p ∷ []
insert_place p (q ∷ qs) = cond (nat_lt p q) (p ∷ q ∷ qs) (q ∷ insert_place p qs)

-- the places of both, in order
abbrev pub merged : List ℕ → List ℕ → List ℕ
merged [] qs = qs
merged (p ∷ ps) qs = insert_place p (merged ps qs)

-- how often p is among the places
abbrev pub times : ℕ → List ℕ → ℕ
times p ps = count_by (λ q. q == p) ps

-- 1 for a place from low on and below high, and 0 for any other
abbrev pub within : ℕ → ℕ → ℕ → ℕ
within low high p = cond (nat_le low p && nat_lt p high) 1 0
