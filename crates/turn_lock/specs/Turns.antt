-- What a turn that adds an entry does to a pass.
use Rattle.std.specs.Prelude.{◌≡◌, ℕ, List, [], ◌∷◌, ◌++◌, length}
use Rattle.turn_lock.specs.Lists.{IsPrefix}

-- The entry is the last that was seen, behind a list that begins with what had been seen before, and its place is one
-- more of the pass's own.
abbrev pub Adds : {E : Type 0} → E → List E → List ℕ → List E → List ℕ → Type 0
Adds {E} entry seen own seen' own' = (before : List E) × IsPrefix seen before × (seen' ≡ before ++ entry ∷ []) × (own' ≡ own ++ length before ∷ [])
