-- Items: what modules order.
use Rattle.std.specs.Prelude.{ℕ, Bool, true, false, ◌≡◌, nat_lt, ◌==◌, ◌&&◌, ◌||◌, Option, Some, None}
use Rattle.upd_base.specs.Kind.{kind_fits}
use Rattle.upd_base.specs.declared.kind.Kind.{Kind}
use Rattle.upd_base.specs.declared.item.Item.{Item}
use Rattle.upd_base.specs.declared.item.Item.TheVariants.{Msg, Switch}

-- each member that an item names is below n
abbrev pub item_fits : ℕ → Item → Bool
item_fits n (Msg origin number payload) = nat_lt origin n
item_fits n (Switch origin number kind) = nat_lt origin n && kind_fits n kind

-- the same as a fact
abbrev pub ItemFits : ℕ → Item → Type 0
ItemFits n item = item_fits n item ≡ true

-- the member that made an item
abbrev pub origin_of : Item → ℕ
origin_of (Msg origin number payload) = origin
origin_of (Switch origin number kind) = origin

-- its number among its origin's items
abbrev pub number_of : Item → ℕ
number_of (Msg origin number payload) = number
number_of (Switch origin number kind) = number

-- origin and number, which name an item
abbrev pub id_of : Item → ℕ × ℕ
id_of item = (origin_of item, number_of item)

-- the item has this origin and number
abbrev pub has_id : ℕ × ℕ → Item → Bool
has_id id item = (origin_of item == id.0) && (number_of item == id.1)

-- a message, and no switch
abbrev pub is_message : Item → Bool
is_message (Msg origin number payload) = true
is_message (Switch origin number kind) = false

-- the kind that a switch names
abbrev pub switch_of : Item → Option Kind
switch_of (Msg origin number payload) = None
switch_of (Switch origin number kind) = Some kind

-- the order by (origin, number)
abbrev pub stands_before : Item → Item → Bool
stands_before x y = nat_lt (origin_of x) (origin_of y) || ((origin_of x == origin_of y) && nat_lt (number_of x) (number_of y))
