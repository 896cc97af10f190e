-- Moves: what may be chosen next in a group.
use Rattle.std.specs.Prelude.{ℕ, Bool, true, false, ◌≡◌, ◌<◌, ◌&&◌, not, nat_lt, Option, Some, None, IsSome, is_some, List, length, slice_get}
use Rattle.upd_base.specs.Plan.{Planned, planned}
use Rattle.upd_base.specs.declared.event.Event.{Event}
use Rattle.upd_base.specs.declared.event.Event.TheVariants.{Call as CallEvent, Receive as ReceiveEvent, Release as ReleaseEvent}
use Rattle.group_run.specs.Group.{Rules}
use Rattle.group_run.specs.Held.{first_ready}
use Rattle.group_run.specs.Run.{Events, IsReceipt, IsRelease, calls_made}
use Rattle.member_rules.specs.Kept.{Kept}
use Rattle.group_world.specs.declared.moves.Move.{Move}
use Rattle.group_world.specs.declared.moves.Move.TheVariants.{Call, Receive, Release}
use Rattle.group_world.specs.Seen.{Seen, frames_on, made_by}

-- The move may come after these events: a thread's next call, a receipt, a release.
abbrev pub MayMove : Rules → Planned → Events → Move → Type 0
MayMove rules plan past (Call thread) = IsSome (planned plan thread (calls_made thread past))
MayMove rules plan past (Receive from to) = IsReceipt rules plan past from to
MayMove rules plan past (Release at) = IsRelease rules plan past at

-- the same of a world
abbrev pub is_up : {O : Type 0} → Option (Kept O) → Bool
is_up None = false
is_up (Some k) = not k.crashed

abbrev pub is_ready : {O : Type 0} → Option (Kept O) → Bool
is_ready None = false
is_ready (Some k) = not k.crashed && is_some (first_ready k.repl.version k.held)

abbrev pub can_receive : {O : Type 0} → Seen O → ℕ → ℕ → Bool
can_receive s from to = nat_lt from s.width && is_up (slice_get s.members to) && is_some (slice_get (frames_on s from to) 0)

abbrev pub is_enabled : {O : Type 0} → Planned → Seen O → Move → Bool
is_enabled plan s (Call thread) = is_some (planned plan thread (made_by s thread))
is_enabled plan s (Receive from to) = can_receive s from to
is_enabled plan s (Release at) = is_ready (slice_get s.members at)

-- The event is one that the move makes.
abbrev pub IsMove : Move → Event → Type 0
IsMove (Call thread) (CallEvent t index member given) = t ≡ thread
IsMove (Receive from to) (ReceiveEvent f t) = (f ≡ from) × (t ≡ to)
IsMove (Release at) (ReleaseEvent a) = a ≡ at
IsMove mv event = ⊥

-- the thread of a call has a count
abbrev pub HasThreadOf : Move → List ℕ → Type 0
HasThreadOf (Call thread) made = thread < length made
HasThreadOf (Receive from to) made = Unit {0}
HasThreadOf (Release at) made = Unit {0}

-- a call alone is answered
abbrev pub is_call_move : Move → Bool
is_call_move (Call thread) = true
is_call_move (Receive from to) = false
is_call_move (Release at) = false
