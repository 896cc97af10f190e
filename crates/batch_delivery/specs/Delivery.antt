-- For which received items and decisions a delivery stands.
use Rattle.std.specs.Prelude.{ℕ, ◌≡◌, ◌<◌, ◌≤◌, ◌^◌, if◌then◌else◌, List, [], ◌∷◌, ◌++◌, length, take, None}
use Rattle.std.specs.Ordering.{nat_cmp}
use Rattle.std.specs.BTreeMap.{get}
use Rattle.upd_base.specs.Item.{id_of}
use Rattle.upd_base.specs.declared.item.Item.{Item}
use Rattle.instance_rules.specs.Say.{Items}
use Rattle.consensus_rules.specs.Items.{knows}
use Rattle.consensus_rules.specs.Delivered.{decision, batches, items_of}
use Rattle.consensus_rules.specs.Waiting.{in_order}
use Rattle.number_runs.specs.Runs.{holds}
use Rattle.number_runs.specs.declared.runs.Run.{Run}
use Rattle.waiting_items.specs.Ids.{apart_from}
use Rattle.batch_delivery.specs.declared.delivery.Delivery.{Delivery}

-- the items of xs that are not known, each origin and number at its first
abbrev pub news : Items → Items → Items
news known [] = []
news known (x ∷ xs) = if knows known x then news known xs else x ∷ news (known ++ x ∷ []) xs

-- the origins and numbers that are kept are those of the known items
abbrev pub AreIdsOf : List Run → Items → Type 0
AreIdsOf ids known = (x : Item) → holds ids (id_of x) ≡ knows known x

-- Of these decisions so many instances were delivered that these items are known, and of the received items the
-- others wait. No decision is of an instance that a u64 cannot number.
pub record IsUpTo (d : Delivery) (known items : Items) (ds : List (ℕ × Items)) : Type 0 where
  pub reached : d.count ≤ length (batches ds)
  pub known_are : known ≡ items_of (take d.count (batches ds))
  pub ahead : (k : ℕ) → d.count < k → get nat_cmp d.ahead k ≡ decision k ds
  pub ids : AreIdsOf d.ids known
  pub waiting : d.waiting ≡ in_order (apart_from known items)
  pub numbered : (k : ℕ) → 2 ^ 64 ≤ k → decision k ds ≡ None

-- All that these decisions let be delivered is.
pub record StandsFor (d : Delivery) (items : Items) (ds : List (ℕ × Items)) : Type 0 where
  pub up_to : IsUpTo d (items_of (batches ds)) items ds
  pub all : d.count ≡ length (batches ds)

-- how many members there are
abbrev pub members_of : Delivery → ℕ
members_of d = d.members
