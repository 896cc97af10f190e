-- Items in rows, one row for each origin.
use Rattle.std.specs.Prelude.{ℕ, suc, ◌≡◌, Bool, true, ◌&&◌, ◌==◌, List, [], ◌∷◌, ◌++◌, length}
use Rattle.std.specs.List.{list_all}
use Rattle.upd_base.specs.Item.{origin_of}
use Rattle.upd_base.specs.Batch.{ascends}
use Rattle.upd_base.specs.declared.item.Item.{Item}
use Rattle.upd_base.specs.declared.limits.TheConstants.{MAX_MEMBERS}

-- the rows, one behind the other
abbrev pub joined : List (List Item) → List Item
joined [] = []
joined (row ∷ rows) = row ++ joined rows

-- each of the items is of this origin
abbrev pub of_origin : ℕ → List Item → Bool
of_origin origin items = list_all (λ x. origin_of x == origin) items

-- the first row is of this origin, the second of the next, and so on
abbrev pub by_origin : ℕ → List (List Item) → Bool
by_origin origin [] = true
by_origin origin (row ∷ rows) = of_origin origin row && by_origin (suc origin) rows

-- a row for each member, of its items in ascending order
abbrev pub AreRows : List (List Item) → Type 0
AreRows rows = (length rows ≡ MAX_MEMBERS) × (by_origin 0 rows ≡ true) × (ascends (joined rows) ≡ true)
