-- What one input makes of what a member keeps, in the words in which the code says it.
use Rattle.std.specs.Prelude.{ℕ, suc, Bool, true, false, ◌≡◌, ◌<◌, ◌≤◌, ◌⊎◌, if◌then◌else◌, Option, Some, None, List, [], ◌∷◌, ◌++◌, map, slice_get}
use Rattle.fifo_net.specs.Net.{Input, Called, Took, IsPrefix}
use Rattle.order_trait.specs.Runs.{Order, Broadcast, Inputs, at_seat}
use Rattle.order_trait.specs.declared.ordering.Ordering.{Ghosts}
use Rattle.upd_base.specs.Kind.{KindFits}
use Rattle.upd_base.specs.Body.{BodyFits, is_body}
use Rattle.upd_base.specs.declared.body.Body.{Body}
use Rattle.upd_base.specs.declared.kind.Kind.{Kind}
use Rattle.upd_base.specs.declared.item.Item.{Item}
use Rattle.upd_base.specs.declared.entry.Entry.{Entry}
use Rattle.upd_base.specs.declared.frame.Frame.{Frame}
use Rattle.upd_base.specs.declared.call.Call.{Call}
use Rattle.upd_base.specs.declared.call.Call.TheVariants.{Suspect, Trust}
use Rattle.upd_base.specs.declared.limits.TheConstants.{MAX_VERSION}
use Rattle.group_run.specs.Group.{Group, Outer, Makes, Releases}
use Rattle.group_run.specs.Version.{kind_at, inputs_at, entries, next_kind}
use Rattle.group_run.specs.Part.{Part, version, with_held}
use Rattle.group_run.specs.Held.{is_early, first_ready, without_ready}
use Rattle.group_run.specs.Turn.{framed}
use Rattle.group_run.specs.Growing.{NextIsNew, TakesMore}
use Rattle.replacement.specs.Repl.{State, left, state_after}
use Rattle.member_rules.specs.Kept.{Kept}
use Rattle.member_rules.specs.Acts.{counting, suspicions_in, orders_after, orders_sent}

-- Members that differ -----------------------------------------------------------------------------------

-- a member with other modules, another replacement, other held frames and another log
abbrev pub moved : {O : Type 0} → Kept O → List O → State → List (ℕ × Frame) → List Entry → Kept O
moved k modules repl held entries = record { members = k.members; me = k.me; first = k.first; modules = modules; repl = repl; held = held; entries = entries; suspected = k.suspected; crashed = k.crashed }

-- with other modules and suspicions
abbrev pub informed : {O : Type 0} → Kept O → List O → List Bool → Kept O
informed k modules suspected = record { members = k.members; me = k.me; first = k.first; modules = modules; repl = k.repl; held = k.held; entries = k.entries; suspected = suspected; crashed = k.crashed }

-- One step in a module ----------------------------------------------------------------------------------

-- a module that is another one after an input
abbrev pub IsNext : {O : Type 0} (G : Ghosts O) → Input Order Body → O → O → Type 0
IsNext G x m next = (G.seat next ≡ G.seat m) × ((past : Inputs) → G.stands m past → G.stands next (x ∷ past))

-- modules by version that stand for these inputs
abbrev pub StandAt : {O : Type 0} (G : Ghosts O) → List O → (ℕ → Inputs) → Type 0
StandAt {O} G modules inputs = (v : ℕ) (m : O) → slice_get modules v ≡ Some m → G.stands m (inputs v)

-- what these modules, from a version on, send at one input more
abbrev pub sent_from : {O : Type 0} (G : Ghosts O) → ℕ → List O → (ℕ → Inputs) → Input Order Body → List (ℕ × Frame)
sent_from G v [] inputs x = []
sent_from G v (m ∷ modules) inputs x = framed v (at_seat G.sends (G.seat m) (x ∷ inputs v)) ++ sent_from G (suc v) modules inputs x

-- what a module of a version delivered stays in front at one input more
abbrev pub Lasts : Group → ℕ → List Inputs → ℕ → Input Order Body → Type 0
Lasts g me ms v x = IsPrefix (g.rules.delivers (kind_at g me v ms) g.members me (inputs_at v ms)) (g.rules.delivers (kind_at g me v ms) g.members me (x ∷ inputs_at v ms))

-- What the laws give for each kind of a group: an order delivers nothing, nor has a fresh module.
pub record Calm (g : Group) (me : ℕ) : Type 0 where
  pub takes : (kind : Kind) → g.rules.serves kind ≡ true → (order : Order) (inputs : Inputs)
      → g.rules.delivers kind g.members me (Called order ∷ inputs) ≡ g.rules.delivers kind g.members me inputs
  pub fresh : (kind : Kind) → g.rules.serves kind ≡ true → KindFits g.members kind → g.rules.delivers kind g.members me [] ≡ []

-- the call by which a suspicion comes or goes
abbrev pub suspicion : Bool → ℕ → Call
suspicion on who = if on then Suspect who else Trust who

-- What is sent -------------------------------------------------------------------------------------------

-- a frame that goes to a member of n and fits them
abbrev pub SentFits : ℕ → ℕ × Frame → Type 0
SentFits n s = (s.0 < n) × BodyFits n s.1.body × (is_body s.1.body ≡ true) × (s.1.version ≤ MAX_VERSION)

-- What is delivered -------------------------------------------------------------------------------------

-- What a version delivered came to a replacement: it had a later version, or this one.
abbrev pub Came : (Kind → Bool) → State → State → ℕ → List Item → List Entry → Option Kind → List Item → Type 0
Came serves s s2 v delivered es bound again =
    ((v < s.version) × (s2 ≡ s) × (es ≡ []) × (bound ≡ None))
    ⊎ ((v ≡ s.version) × (s2 ≡ state_after s (counting serves v delivered)) × (es ≡ entries v (counting serves v delivered)) × (bound ≡ next_kind (counting serves v delivered))
    × ((kind : Kind) → bound ≡ Some kind → again ≡ left s.undelivered (counting serves v delivered)))

-- A held frame, and a version that is entered -------------------------------------------------------------

-- the part where a held frame is processed: it is held no longer
abbrev pub releasing : Bool → Part → Part
releasing releases part = with_held part (if releases then without_ready (version part) part.held else part.held)

-- what the module of a version that is entered is told: the suspicions, and then the messages that are undelivered
abbrev pub fresh_orders : List Bool → List Item → List Order
fresh_orders suspected again = suspicions_in 0 suspected ++ map (λ item. Broadcast item) again

-- a fresh module is bound where there is a next kind, and it was told so
abbrev pub Enters : {O : Type 0} (G : Ghosts O) → ℕ → ℕ → List Order → Option Kind → Option O → Type 0
Enters G n me orders None None = Unit {0}
Enters G n me orders None (Some m) = ⊥
Enters G n me orders (Some kind) None = ⊥
Enters G n me orders (Some kind) (Some m) = (G.seat m ≡ record { kind = kind; members = n; me = me }) × G.stands m (orders_after orders [])

-- what it sends
abbrev pub entering : {O : Type 0} (G : Ghosts O) → ℕ → ℕ → ℕ → List Order → Option Kind → List (ℕ × Frame)
entering G n me version orders None = []
entering G n me version orders (Some kind) = framed version (orders_sent (G.sends kind n me) orders [])

-- What may come -------------------------------------------------------------------------------------------

-- what a member that has come to a part relies on at its next input
abbrev pub MayMake : Group → ℕ → Part → Input Outer Frame → Type 0
MayMake g me part (Called (Makes call)) = NextIsNew g me part
MayMake g me part (Called Releases) = (h : ℕ × Frame) → first_ready (version part) part.held ≡ Some h → TakesMore g me part h.0 h.1
MayMake g me part (Took from frame) = is_early part from frame ≡ false → TakesMore g me part from frame
