-- Items by their origin and number.
use Rattle.std.specs.Prelude.{not, List, [], ◌∷◌, take, Option, Some, None}
use Rattle.std.specs.List.{filter}
use Rattle.upd_base.specs.declared.item.Item.{Item}
use Rattle.upd_base.specs.declared.limits.TheConstants.{MAX_BATCH}
use Rattle.consensus_rules.specs.Items.{knows}

-- the items that are not known by origin and number
abbrev pub apart_from : List Item → List Item → List Item
apart_from known items = filter (λ x. not (knows known x)) items

-- the first 32 of them as a batch, where there is one
abbrev pub first_of : List Item → Option (List Item)
first_of [] = None
first_of (x ∷ rest) = Some (take MAX_BATCH (x ∷ rest))
