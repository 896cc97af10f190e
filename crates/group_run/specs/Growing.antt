-- What a member may rely on at each of its inputs: the premise of its contract, which every group run meets.
use Rattle.std.specs.Prelude.{ℕ, false, Some, ◌≡◌, ◌<◌, List, [], ◌∷◌, length}
use Rattle.std.specs.List.{list_any}
use Rattle.fifo_net.specs.Net.{Input, Called, Took, IsPrefix}
use Rattle.order_trait.specs.Runs.{Inputs}
use Rattle.upd_base.specs.Item.{has_id}
use Rattle.upd_base.specs.declared.frame.Frame.{Frame}
use Rattle.group_run.specs.Group.{Group, Outer, Releases}
use Rattle.group_run.specs.Version.{kind_at, inputs_at}
use Rattle.group_run.specs.Part.{Part, version, log}
use Rattle.group_run.specs.Held.{is_early, first_ready}
use Rattle.group_run.specs.Turn.{turn_of}

-- What each of these modules has delivered stays in front of what it has delivered with the later inputs.
abbrev pub DeliverMore : Group → ℕ → List Inputs → List Inputs → Type 0
DeliverMore g me ms ns = (v : ℕ) → v < length ms →
    IsPrefix (g.rules.delivers (kind_at g me v ms) g.members me (inputs_at v ms)) (g.rules.delivers (kind_at g me v ms) g.members me (inputs_at v ns))

-- The number that the member gives next is in no entry of its log.
abbrev pub NextIsNew : Group → ℕ → Part → Type 0
NextIsNew g me p = list_any (λ e. has_id (me, length p.accepted) e.item) (log g me p) ≡ false

-- At each of these inputs of a member: what each module has delivered stays in front of what it delivers after, and
-- the next number was new.
abbrev pub IsGrowing : Group → ℕ → List (Input Outer Frame) → Type 0
IsGrowing g me [] = Unit {0}
IsGrowing g me (x ∷ past) =
    DeliverMore g me (turn_of g me past).part.modules (turn_of g me (x ∷ past)).part.modules × NextIsNew g me (turn_of g me past).part × IsGrowing g me past

-- the module of a frame's version has delivered what it had, and maybe more, where it takes the frame's body
abbrev pub TakesMore : Group → ℕ → Part → ℕ → Frame → Type 0
TakesMore g me p from frame = IsPrefix (g.rules.delivers (kind_at g me frame.version p.modules) g.members me (inputs_at frame.version p.modules))
    (g.rules.delivers (kind_at g me frame.version p.modules) g.members me (Took from frame.body ∷ inputs_at frame.version p.modules))

-- Where a member whose inputs are growing processes a frame that it received, the module of its version delivers so.
abbrev pub ReceiptsAdd : Type 0
ReceiptsAdd = (g : Group) (me : ℕ) (past : List (Input Outer Frame)) (from : ℕ) (frame : Frame) → is_early (turn_of g me past).part from frame ≡ false →
    IsGrowing g me (Took from frame ∷ past) → TakesMore g me (turn_of g me past).part from frame

-- and where it processes a frame that it held
abbrev pub ReleasesAdd : Type 0
ReleasesAdd = (g : Group) (me : ℕ) (past : List (Input Outer Frame)) (h : ℕ × Frame) → first_ready (version (turn_of g me past).part) (turn_of g me past).part.held ≡ Some h →
    IsGrowing g me (Called Releases ∷ past) → TakesMore g me (turn_of g me past).part h.0 h.1
