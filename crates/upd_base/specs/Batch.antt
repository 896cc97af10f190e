-- Batches: what one consensus instance decides.
use Rattle.std.specs.Prelude.{Bool, true, ◌&&◌, nat_le, if◌then◌else◌, List, [], ◌∷◌, length, Option, Some, None}
use Rattle.upd_base.specs.Item.{stands_before}
use Rattle.upd_base.specs.declared.item.Item.{Item}
use Rattle.upd_base.specs.declared.limits.TheConstants.{MAX_BATCH}

-- an item stands before the first of these, where there is one
abbrev pub comes_first : Item → List Item → Bool
comes_first x [] = true
comes_first x (y ∷ rest) = stands_before x y

-- each item stands before the next by (origin, number)
abbrev pub ascends : List Item → Bool
ascends [] = true
ascends (x ∷ rest) = comes_first x rest && ascends rest

-- 1 to 32 items, each above the one before it
abbrev pub is_batch : List Item → Bool
is_batch items = nat_le 1 (length items) && nat_le (length items) MAX_BATCH && ascends items

-- the items, where they are a batch
abbrev pub batch : List Item → Option (List Item)
batch items = if is_batch items then Some items else None
