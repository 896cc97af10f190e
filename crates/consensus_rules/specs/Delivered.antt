-- What was decided, and what is delivered.
use Rattle.std.specs.Prelude.{ℕ, zero, suc, ◌==◌, ◌+◌, if◌then◌else◌, List, [], ◌∷◌, ◌++◌, length, max, Option, Some, None}
use Rattle.std.specs.List.{flat_map}
use Rattle.fifo_net.specs.Net.{Called, Took}
use Rattle.upd_base.specs.declared.body.Body.{Body}
use Rattle.upd_base.specs.declared.body.Body.TheVariants.{Decide}
use Rattle.order_trait.specs.Runs.{Inputs}
use Rattle.instance_rules.specs.Say.{Items}
use Rattle.consensus_rules.specs.Items.{add_new}

-- the Decides that were taken, each with the number of its instance, oldest first
abbrev pub decide_in : Body → List (ℕ × Items)
decide_in (Decide instance batch) = (instance, batch) ∷ []
decide_in body = []

abbrev pub decisions : Inputs → List (ℕ × Items)
decisions [] = []
decisions (Called order ∷ past) = decisions past
decisions (Took from body ∷ past) = decisions past ++ decide_in body

-- the batch that was decided in instance k: that of its first Decide
abbrev pub decision : ℕ → List (ℕ × Items) → Option Items
decision k [] = None
decision k (d ∷ ds) = if d.0 == k then Some d.1 else decision k ds

abbrev pub and_on : Option Items → List Items → List Items
and_on None batches = []
and_on (Some batch) batches = batch ∷ batches

-- the batches of at most so many instances from k on, up to the first that is not decided
abbrev pub batches_from : ℕ → ℕ → List (ℕ × Items) → List Items
batches_from zero k ds = []
batches_from (suc more) k ds = and_on (decision k ds) (batches_from more (k + 1) ds)

abbrev pub greatest_number : List (ℕ × Items) → ℕ
greatest_number [] = 0
greatest_number (d ∷ ds) = max d.0 (greatest_number ds)

-- the batches of the instances from 1 on, up to the first that is not decided
abbrev pub batches : List (ℕ × Items) → List Items
batches ds = batches_from (greatest_number ds) 1 ds

-- the items of these batches in order, each origin and number at its first
abbrev pub items_of : List Items → Items
items_of bs = add_new [] (flat_map (λ batch. batch) bs)

-- Delivered: the items of the decided instances in order.
abbrev pub delivers_by : ℕ → ℕ → Inputs → Items
delivers_by n me inputs = items_of (batches (decisions inputs))

-- the instance that a member delivers next
abbrev pub next : Inputs → ℕ
next inputs = 1 + length (batches (decisions inputs))
