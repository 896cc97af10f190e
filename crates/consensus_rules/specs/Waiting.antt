-- What waits to be decided.
use Rattle.std.specs.Prelude.{if◌then◌else◌, not, [], ◌∷◌, take}
use Rattle.std.specs.List.{filter}
use Rattle.upd_base.specs.Item.{stands_before}
use Rattle.upd_base.specs.declared.item.Item.{Item}
use Rattle.upd_base.specs.declared.limits.TheConstants.{MAX_BATCH}
use Rattle.order_trait.specs.Runs.{Inputs}
use Rattle.instance_rules.specs.Say.{Items}
use Rattle.consensus_rules.specs.Items.{knows, received}
use Rattle.consensus_rules.specs.Delivered.{delivers_by}

-- received and not delivered
abbrev pub waiting : Inputs → Items
waiting inputs = filter (λ x. not (knows (delivers_by 0 0 inputs) x)) (received inputs)

-- among ascending items, behind those that stand before it
abbrev pub insert : Item → Items → Items
insert x [] = x ∷ []
insert x (y ∷ ys) = if stands_before y x then y ∷ insert x ys else x ∷ y ∷ ys

-- one after the other
abbrev pub insert_all : Items → Items → Items
insert_all sorted [] = sorted
insert_all sorted (x ∷ xs) = insert_all (insert x sorted) xs

-- the items by (origin, number)
abbrev pub in_order : Items → Items
in_order items = insert_all [] items

-- the first 32 of them that wait
abbrev pub next_batch : Inputs → Items
next_batch inputs = take MAX_BATCH (in_order (waiting inputs))
