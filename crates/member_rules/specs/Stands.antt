-- For which inputs a member stands: what it keeps is what the definition of a member says of them.
use Rattle.std.specs.Prelude.{ℕ, suc, false, ◌≡◌, ◌<◌, ◌≤◌, Some, List, ◌∷◌, length, slice_get}
use Rattle.fifo_net.specs.Net.{Input}
use Rattle.order_trait.specs.Runs.{Inputs}
use Rattle.order_trait.specs.declared.ordering.Ordering.{Ghosts}
use Rattle.upd_base.specs.declared.kind.Kind.{Kind}
use Rattle.upd_base.specs.declared.item.Item.{Item}
use Rattle.upd_base.specs.declared.frame.Frame.{Frame}
use Rattle.group_run.specs.Group.{Group, Outer}
use Rattle.group_run.specs.Version.{segment, next_kind, kind_at, inputs_at, has_ended}
use Rattle.group_run.specs.Part.{Part, log, present_kind, undelivered, is_suspected}
use Rattle.group_run.specs.Turn.{turn_of}
use Rattle.group_run.specs.Growing.{DeliverMore, NextIsNew}
use Rattle.member_rules.specs.Kept.{Kept, group_of}

-- Modules, by version, that stand for these inputs, those of the newest version first.
pub record AreModules {O : Type 0} (G : Ghosts O) (g : Group) (me : ℕ) (modules : List O) (ms : List Inputs) : Type 0 where
  pub many : length modules ≡ length ms
  pub kinds : (v : ℕ) (m : O) → slice_get modules v ≡ Some m → (G.seat m).kind ≡ kind_at g me v ms
  pub stand : (v : ℕ) (m : O) → slice_get modules v ≡ Some m → G.stands m (inputs_at v ms)

-- what counts of the items of a version
abbrev pub segment_at : Group → ℕ → ℕ → List Inputs → List Item
segment_at g me v ms = segment g v (g.rules.delivers (kind_at g me v ms) g.members me (inputs_at v ms))

-- All versions but the newest have ended.
pub record InOrder (g : Group) (me : ℕ) (ms : List Inputs) : Type 0 where
  pub some : 1 ≤ length ms
  pub ended : (v : ℕ) → suc v < length ms → (kind : Kind) × (next_kind (segment_at g me v ms) ≡ Some kind)
  pub open_yet : has_ended g me ms ≡ false

-- What a member keeps is what it has come to by the definition.
pub record Holds {O : Type 0} (G : Ghosts O) (g : Group) (me : ℕ) (k : Kept O) (part : Part) : Type 0 where
  pub modules_are : AreModules G g me k.modules part.modules
  pub in_order : InOrder g me part.modules
  pub kind_is : k.repl.kind ≡ present_kind g me part
  pub made_is : k.repl.made ≡ length part.accepted
  pub undelivered_is : k.repl.undelivered ≡ undelivered g me part
  pub held_is : k.held ≡ part.held
  pub log_is : k.entries ≡ log g me part
  pub suspected_is : (who : ℕ) → who < g.members → slice_get k.suspected who ≡ Some (is_suspected who part.suspects)
  pub crashed_is : k.crashed ≡ part.crashed

-- what the definition says that a member has come to after these inputs
abbrev pub part_of : {O : Type 0} (G : Ghosts O) → Kept O → List (Input Outer Frame) → Part
part_of G k past = (turn_of (group_of G k) k.me past).part

-- The member is as these inputs, the newest first, leave it.
abbrev pub Stands : {O : Type 0} (G : Ghosts O) → Kept O → List (Input Outer Frame) → Type 0
Stands G k past = Holds G (group_of G k) k.me k (part_of G k past)

-- What a member relies on at its next input: what each of its modules has delivered stays in front of what it delivers
-- then, and the next number is in no entry of its log. Every group run of kinds that keep agreement and integrity gives it.
abbrev pub Grows : Group → ℕ → List (Input Outer Frame) → Input Outer Frame → Type 0
Grows g me past x = DeliverMore g me (turn_of g me past).part.modules (turn_of g me (x ∷ past)).part.modules × NextIsNew g me (turn_of g me past).part
