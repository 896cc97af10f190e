-- What comes to a member.
use Rattle.std.specs.Prelude.{ℕ, Bool, true, false, ◌≡◌, ◌<◌, ◌&&◌, not, nat_le, length, IsSome, Option, Some, None}
use Rattle.fifo_net.specs.Net.{Input as NetInput, Called, Took}
use Rattle.order_trait.specs.declared.ordering.Ordering.{Ghosts}
use Rattle.upd_base.specs.Body.{BodyFits, is_body}
use Rattle.upd_base.specs.declared.kind.Kind.{Kind}
use Rattle.upd_base.specs.declared.frame.Frame.{Frame}
use Rattle.upd_base.specs.declared.call.Call.{Call as PlannedCall}
use Rattle.upd_base.specs.declared.call.Call.TheVariants.{Change}
use Rattle.upd_base.specs.declared.answer.Answer.{Answer}
use Rattle.upd_base.specs.declared.limits.TheConstants.{MAX_UNDELIVERED}
use Rattle.group_run.specs.Group.{Group, Outer, Makes, Releases}
use Rattle.group_run.specs.Part.{Part, undelivered}
use Rattle.group_run.specs.Held.{first_ready}
use Rattle.group_run.specs.Answer.{answer}
use Rattle.member_rules.specs.Kept.{Kept, group_of}
use Rattle.member_core.specs.declared.input.Input.{Input}
use Rattle.member_core.specs.declared.input.Input.TheVariants.{Call, Receive, Release}

-- the input of the definition
abbrev pub input_of : Input → NetInput Outer Frame
input_of (Call call) = Called (Makes call)
input_of (Receive from frame) = Took from frame
input_of Release = Called Releases

-- how many items an input makes at most
abbrev pub items_by : Input → ℕ
items_by (Call call) = 1
items_by (Receive from frame) = 0
items_by Release = 0

-- How many items a member makes at most.
abbrev pub MAX_MADE : ℕ
MAX_MADE = 1000000

-- The member may be called so: it has made fewer items than the most, and a change asks for a kind that is served.
pub record MayCall {O : Type 0} (G : Ghosts O) (k : Kept O) (call : PlannedCall) : Type 0 where
  pub made : k.repl.made < MAX_MADE
  pub served : (kind : Kind) → call ≡ Change kind → G.is_served kind ≡ true

-- The member may take this frame: it is up, and the frame comes from a member and fits the group.
pub record MayTake {O : Type 0} (k : Kept O) (from : ℕ) (frame : Frame) : Type 0 where
  pub up : k.crashed ≡ false
  pub from_fits : from < k.members
  pub frame_fits : BodyFits k.members frame.body
  pub frame_counts : is_body frame.body ≡ true

-- The member may release: it is up, and holds a frame whose version it has reached.
pub record MayRelease {O : Type 0} (k : Kept O) : Type 0 where
  pub up : k.crashed ≡ false
  pub ready : IsSome (first_ready k.repl.version k.held)

-- what is asked of a member before an input is prepared
abbrev pub MayHave : {O : Type 0} (G : Ghosts O) → Kept O → Input → Type 0
MayHave G k (Call call) = MayCall G k call
MayHave G k (Receive from frame) = MayTake k from frame
MayHave G k Release = MayRelease k

-- a call alone is answered
abbrev pub is_call : Input → Bool
is_call (Call call) = true
is_call (Receive from frame) = false
is_call Release = false

-- what a member that has come to this answers to an input
abbrev pub answer_to : {O : Type 0} (G : Ghosts O) → Kept O → Part → Input → Option Answer
answer_to G k part (Call call) = Some (answer (group_of G k) k.me part call)
answer_to G k part (Receive from frame) = None
answer_to G k part Release = None

-- a message would be answered as full: the member is up, and has no room among its undelivered messages
abbrev pub would_fill : Group → ℕ → Part → Bool
would_fill g me part = not part.crashed && nat_le MAX_UNDELIVERED (length (undelivered g me part))
