-- Modules of one kind, their runs, and the laws that a kind keeps.
use Rattle.std.specs.Prelude.{ℕ, ◌≡◌, ◌≢◌, ◌+◌, ◌*◌, ◌<◌, ◌≤◌, ◌^◌, ◌⊎◌, true, not, List, [], ◌∷◌, ◌++◌, length, count_by, Contains}
use Rattle.std.specs.List.{list_all}
use Rattle.fifo_net.specs.Net.{Input, Called, Took, Step, Sends, IsRun, IsPrefix, inputs_of, taken_on, sent_on}
use Rattle.upd_base.specs.Item.{id_of, has_id, origin_of, ItemFits}
use Rattle.upd_base.specs.Body.{is_past}
use Rattle.upd_base.specs.Kind.{KindFits}
use Rattle.upd_base.specs.declared.kind.Kind.{Kind}
use Rattle.upd_base.specs.declared.item.Item.{Item}
use Rattle.upd_base.specs.declared.body.Body.{Body}

-- What comes to a module from its own member: an item to broadcast, a suspicion, the end of one.
pub data Order : Type 0 where
  Broadcast : (item : Item) → Order
  Suspect : (who : ℕ) → Order
  Trust : (who : ℕ) → Order

-- The inputs of a module and the steps of a run of modules, the newest first.
abbrev pub Inputs : Type 0
Inputs = List (Input Order Body)

abbrev pub Steps : Type 0
Steps = List (Step Order Body)

-- What a module is made with: its kind, the number of members, and its own member.
pub record Seat : Type 0 where
  pub kind : Kind
  pub members : ℕ
  pub me : ℕ

-- Of one kind, by the number of members, the member and its inputs: what a module sends at the newest of
-- its inputs, and all that it has delivered, oldest first.
abbrev pub KindSends : Type 0
KindSends = ℕ → Sends Order Body

abbrev pub KindDelivers : Type 0
KindDelivers = ℕ → ℕ → Inputs → List Item

-- a function of the kind, the number of members and the member, at a seat
abbrev pub at_seat : {A : Type 0} → (Kind → ℕ → ℕ → A) → Seat → A
at_seat f s = f s.kind s.members s.me

-- the item that an input broadcasts
abbrev pub broadcast_at : Input Order Body → List Item
broadcast_at (Called (Broadcast item)) = item ∷ []
broadcast_at (Called (Suspect who)) = []
broadcast_at (Called (Trust who)) = []
broadcast_at (Took from body) = []

-- the items that members have broadcast, newest first
abbrev pub broadcast_in : Steps → List Item
broadcast_in [] = []
broadcast_in (s ∷ past) = broadcast_at s.input ++ broadcast_in past

-- A member of n may have this input after these steps: what it broadcasts is its own and new.
abbrev pub InputFits : ℕ → Steps → ℕ → Input Order Body → Type 0
InputFits n past at (Called (Broadcast item)) = (origin_of item ≡ at) × ItemFits n item × (count_by (has_id (id_of item)) (broadcast_in past) ≡ 0)
InputFits n past at (Called (Suspect who)) = (who < n) × (who ≢ at)
InputFits n past at (Called (Trust who)) = (who < n) × (who ≢ at)
InputFits n past at (Took from body) = from < n

abbrev pub StepsFit : ℕ → Steps → Type 0
StepsFit n [] = Unit {0}
StepsFit n (s ∷ past) = (s.at < n) × InputFits n past s.at s.input × StepsFit n past

-- A run of n modules of one kind: 1 to 7 members, which the kind fits; fewer than 2 ^ 40 steps; each step
-- one of a member, with an input that it may have; each link first in, first out.
pub record IsModuleRun (sends : KindSends) (kind : Kind) (n : ℕ) (past : Steps) : Type 0 where
  pub some : 1 ≤ n
  pub few : n ≤ 7
  pub kind_fits : KindFits n kind
  pub short : length past < 2 ^ 40
  pub fit : StepsFit n past
  pub fifo : IsRun (sends n) past

-- what a member has delivered in a run
abbrev pub delivered_in : KindDelivers → ℕ → Steps → ℕ → List Item
delivered_in delivers n past m = delivers n m (inputs_of m past)

-- one of the two lists begins the other
abbrev pub Agree : {A : Type 0} → List A → List A → Type 0
Agree xs ys = IsPrefix xs ys ⊎ IsPrefix ys xs

-- Agreement: of what two members delivered one list begins the other; what a member delivered stays; and
-- only a body that it takes adds to it, at every list of inputs.
pub record KeepsAgreement (sends : KindSends) (delivers : KindDelivers) (kind : Kind) : Type 0 where
  pub agree : (n : ℕ) (past : Steps) → IsModuleRun sends kind n past → (i j : ℕ) → i < n → j < n
      → Agree (delivered_in delivers n past i) (delivered_in delivers n past j)
  pub grows : (n : ℕ) (s : Step Order Body) (past : Steps) → IsModuleRun sends kind n (s ∷ past) → (i : ℕ) → i < n
      → IsPrefix (delivered_in delivers n past i) (delivered_in delivers n (s ∷ past) i)
  pub takes : (n m : ℕ) (order : Order) (inputs : Inputs)
      → delivers n m (Called order ∷ inputs) ≡ delivers n m inputs

-- Integrity: each delivered item was broadcast, and no member delivers an item twice.
pub record KeepsIntegrity (sends : KindSends) (delivers : KindDelivers) (kind : Kind) : Type 0 where
  pub broadcast : (n : ℕ) (past : Steps) → IsModuleRun sends kind n past → (i : ℕ) → i < n
      → (item : Item) → Contains (delivered_in delivers n past i) item → Contains (broadcast_in past) item
  pub once : (n : ℕ) (past : Steps) → IsModuleRun sends kind n past → (i : ℕ) → i < n
      → (id : ℕ × ℕ) → count_by (has_id id) (delivered_in delivers n past i) ≤ 1

-- how many of the steps are suspicions
abbrev pub suspects : Input Order Body → ℕ
suspects (Called (Broadcast item)) = 0
suspects (Called (Suspect who)) = 1
suspects (Called (Trust who)) = 0
suspects (Took from body) = 0

abbrev pub suspects_in : Steps → ℕ
suspects_in [] = 0
suspects_in (s ∷ past) = suspects s.input + suspects_in past

-- every body that was sent was taken
abbrev pub IsDrained : KindSends → ℕ → Steps → Type 0
IsDrained sends n past = (i j : ℕ) → i < n → j < n → sent_on (sends n) i j past ≡ taken_on i j past

-- Fulfilment: without suspicion, and with every sent body taken, every broadcast item is delivered everywhere.
abbrev pub KeepsFulfilment : KindSends → KindDelivers → Kind → Type 0
KeepsFulfilment sends delivers kind = (n : ℕ) (past : Steps) → IsModuleRun sends kind n past → suspects_in past ≡ 0 → IsDrained sends n past
    → (i : ℕ) → i < n → (item : Item) → Contains (broadcast_in past) item → Contains (delivered_in delivers n past i) item

-- how many bodies were sent
abbrev pub sent_in : Sends Order Body → Steps → ℕ
sent_in sends [] = 0
sent_in sends (s ∷ past) = length (sends s.at (s.input ∷ inputs_of s.at past)) + sent_in sends past

-- Bound: without suspicion, at most 2·n·n + 3·n bodies are sent for each broadcast.
abbrev pub KeepsBound : KindSends → Kind → Type 0
KeepsBound sends kind = (n : ℕ) (past : Steps) → IsModuleRun sends kind n past → suspects_in past ≡ 0
    → sent_in (sends n) past ≤ (2 * n * n + 3 * n) * length (broadcast_in past)

-- At no list of inputs does a module say that a version is past: members say that.
abbrev pub NeverSaysPast : KindSends → Type 0
NeverSaysPast sends = (n m : ℕ) (inputs : Inputs) → list_all (λ s. not (is_past s.1)) (sends n m inputs) ≡ true
