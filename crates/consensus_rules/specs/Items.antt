-- What a member has received, and what it has broadcast itself.
use Rattle.std.specs.Prelude.{Bool, if◌then◌else◌, [], ◌∷◌, ◌++◌}
use Rattle.std.specs.List.{list_any}
use Rattle.fifo_net.specs.Net.{Called, Took}
use Rattle.upd_base.specs.Item.{id_of, has_id}
use Rattle.upd_base.specs.declared.item.Item.{Item}
use Rattle.upd_base.specs.declared.body.Body.{Body}
use Rattle.upd_base.specs.declared.body.Body.TheVariants.{Rb}
use Rattle.order_trait.specs.Runs.{Order, Broadcast, Suspect, Trust, Inputs}
use Rattle.instance_rules.specs.Say.{Items}

-- one of the items has this one's origin and number
abbrev pub knows : Items → Item → Bool
knows items x = list_any (has_id (id_of x)) items

-- the items, and behind them those of xs whose origin and number are new
abbrev pub add_new : Items → Items → Items
add_new items [] = items
add_new items (x ∷ xs) = add_new (if knows items x then items else items ++ x ∷ []) xs

abbrev pub rb_item : Body → Items
rb_item (Rb item) = item ∷ []
rb_item body = []

-- received: the first item of each origin and number that was taken in an Rb
abbrev pub received : Inputs → Items
received [] = []
received (Called order ∷ past) = received past
received (Took from body ∷ past) = add_new (received past) (rb_item body)

abbrev pub begun_at : Order → Items
begun_at (Broadcast item) = item ∷ []
begun_at (Suspect who) = []
begun_at (Trust who) = []

-- the items whose broadcast it has begun itself
abbrev pub begun : Inputs → Items
begun [] = []
begun (Called order ∷ past) = begun past ++ begun_at order
begun (Took from body ∷ past) = begun past
