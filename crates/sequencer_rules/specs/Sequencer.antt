-- The fixed sequencer (the class of that name of Défago, Schiper and Urbán, 2004): whoever broadcasts asks
-- one member, the sequencer, which gives each item its place.
use Rattle.std.specs.Prelude.{ℕ, Bool, true, false, ◌==◌, ◌+◌, ◌-◌, ◌^◌, min, if◌then◌else◌, List, [], ◌∷◌, ◌++◌, length}
use Rattle.std.specs.List.{flat_map}
use Rattle.fifo_net.specs.Net.{Called, Took, taken}
use Rattle.upd_base.specs.declared.kind.Kind.{Kind}
use Rattle.upd_base.specs.declared.kind.Kind.TheVariants.{Sequencer, Lamport, Consensus}
use Rattle.upd_base.specs.declared.item.Item.{Item}
use Rattle.upd_base.specs.declared.body.Body.{Body}
use Rattle.upd_base.specs.declared.body.Body.TheVariants.{Ask, Ord}
use Rattle.order_trait.specs.Runs.{Broadcast, Suspect, Trust, Inputs, KindSends, KindDelivers}
use Rattle.order_trait.specs.Outbox.{to_all}

abbrev pub is_sequencer : Kind → Bool
is_sequencer (Sequencer s) = true
is_sequencer Lamport = false
is_sequencer Consensus = false

-- the item that a body asks to be ordered, and the item that a body orders
abbrev pub ask_item : Body → List Item
ask_item (Ask item) = item ∷ []
ask_item body = []

abbrev pub ord_item : Body → List Item
ord_item (Ord place item) = item ∷ []
ord_item body = []

-- the items of the Asks that were taken, whoever sent them, oldest first
abbrev pub asked : Inputs → List Item
asked [] = []
asked (Called order ∷ past) = asked past
asked (Took from body ∷ past) = asked past ++ ask_item body

-- a place is a u64, which stays at the greatest
abbrev pub place_of : ℕ → ℕ
place_of j = min j (2 ^ 64 - 1)

-- what the sequencer sends where it takes a body as its j-th Ask: the item with this place, to all
abbrev pub passes_on : ℕ → ℕ → Body → List (ℕ × Body)
passes_on n j (Ask item) = to_all n (Ord (place_of j) item)
passes_on n j body = []

-- With the sequencer s: a broadcast asks s, and s gives the item of the j-th Ask that it takes the place j.
-- Nothing else sends; places count from 1.
abbrev pub sends_by : ℕ → ℕ → ℕ → Inputs → List (ℕ × Body)
sends_by s n me [] = []
sends_by s n me (Called (Broadcast item) ∷ past) = (s, Ask item) ∷ []
sends_by s n me (Called (Suspect who) ∷ past) = []
sends_by s n me (Called (Trust who) ∷ past) = []
sends_by s n me (Took from body ∷ past) = if me == s then passes_on n (length (asked past) + 1) body else []

-- Delivered: the items of the Ords that were taken from s, in that order.
abbrev pub delivers_by : ℕ → Inputs → List Item
delivers_by s inputs = flat_map ord_item (taken s inputs)

-- the two functions of each kind that is served
abbrev pub sends_of : Kind → KindSends
sends_of (Sequencer s) = sends_by s
sends_of Lamport = λ n me inputs. []
sends_of Consensus = λ n me inputs. []

abbrev pub delivers_of : Kind → KindDelivers
delivers_of (Sequencer s) = λ n me inputs. delivers_by s inputs
delivers_of Lamport = λ n me inputs. []
delivers_of Consensus = λ n me inputs. []
