-- A prepared move: the world once it is committed, and the room that this takes.
use Rattle.std.specs.Prelude.{ℕ, suc, ◌≡◌, ◌==◌, ◌&&◌, ◌<◌, ◌≤◌, if◌then◌else◌, Some, List, [], ◌++◌, length, set, drop, All, slice_get}
use Rattle.fifo_net.specs.Net.{bodies_to}
use Rattle.order_trait.specs.declared.ordering.Ordering.{Ghosts}
use Rattle.upd_base.specs.declared.frame.Frame.{Frame}
use Rattle.upd_base.specs.declared.event.Event.{Event}
use Rattle.upd_base.specs.declared.event.Event.TheVariants.{Call as CallEvent, Receive, Release}
use Rattle.fifo_link.specs.Links.{spare_of}
use Rattle.member_rules.specs.Kept.{Kept}
use Rattle.member_core.specs.declared.member.Member.{Member}
use Rattle.member_core.specs.declared.prepared.Prepared.{Prepared}
use Rattle.member_core.specs.Prepared.{committed, sent_of, IsReady as MemberIsReady}
use Rattle.group_world.specs.declared.world.World.{World}
use Rattle.group_world.specs.declared.prepared.PreparedMove.{PreparedMove}
use Rattle.group_world.specs.Seen.{Seen, frames_on, made_by}

-- the event that a prepared move makes, and the member at which it happens
abbrev pub event_of : {O : Type 0} → PreparedMove O → Event
event_of p = p.event

abbrev pub place_of : Event → ℕ
place_of (CallEvent thread index member given) = member
place_of (Receive from to) = to
place_of (Release at) = at

-- what is left on a link once an event has taken what it takes
abbrev pub left_on : Event → ℕ → ℕ → List Frame → List Frame
left_on (CallEvent thread index member given) from to waiting = waiting
left_on (Receive f t) from to waiting = if (f == from) && (t == to) then drop 1 waiting else waiting
left_on (Release at) from to waiting = waiting

-- what a member sends to another in an event
abbrev pub added_on : {O : Type 0} → PreparedMove O → ℕ → ℕ → List Frame
added_on p from to = if place_of p.event == from then bodies_to to (sent_of p.member) else []

-- the calls made by a thread, after an event
abbrev pub made_after : Event → ℕ → ℕ → ℕ
made_after (CallEvent t index member given) thread made = if t == thread then suc made else made
made_after (Receive from to) thread made = made
made_after (Release at) thread made = made

-- The world after a prepared move: its member is another one, what it takes is off its link and what it sends is on the
-- links, and the thread's call is made.
pub record IsAfter {O : Type 0} (p : PreparedMove O) (old new : Seen O) : Type 0 where
  pub width : new.width ≡ old.width
  pub members : (k : Kept O) → slice_get old.members (place_of p.event) ≡ Some k → new.members ≡ set old.members (place_of p.event) (committed k p.member)
  pub links : (from to : ℕ) → from < old.width → to < old.width → frames_on new from to ≡ left_on p.event from to (frames_on old from to) ++ added_on p from to
  pub threads : length new.made ≡ length old.made
  pub made : (thread : ℕ) → thread < length old.made → made_by new thread ≡ made_after p.event thread (made_by old thread)

-- A member at a place is ready for what was prepared on it.
abbrev pub MemberHasRoom : {O : Type 0} (G : Ghosts O) → List (Member O G) → ℕ → Prepared O → Type 0
MemberHasRoom {O} G members at p = (m : Member O G) × (slice_get members at ≡ Some m) × MemberIsReady G m p

-- So is the member of a world, whose links have room for the frames that this sends.
pub record HasRoomAt {O : Type 0} (G : Ghosts O) (w : World O G) (at : ℕ) (p : Prepared O) : Type 0 where
  pub member : MemberHasRoom G w.members.items at p
  pub room : (to : ℕ) → to < w.links.members → length (bodies_to to (sent_of p)) ≤ spare_of w.links at to

-- the link of a receipt is one of these members'
abbrev pub HasSender : Event → ℕ → Type 0
HasSender (CallEvent thread index member given) n = Unit {0}
HasSender (Receive from to) n = (from < n) × (to < n)
HasSender (Release at) n = Unit {0}

-- the index of a call is how many calls its thread made, and one more can be counted
abbrev pub HasThread : Event → List ℕ → Type 0
HasThread (CallEvent thread index member given) made = (thread < length made) × (slice_get made thread ≡ Some index) × (index < 1000)
HasThread (Receive from to) made = Unit {0}
HasThread (Release at) made = Unit {0}

-- The world has room for a prepared move.
pub record IsReady {O : Type 0} (G : Ghosts O) (w : World O G) (p : PreparedMove O) : Type 0 where
  pub width : length w.members.items ≡ w.links.members
  pub member : MemberHasRoom G w.members.items (place_of p.event) p.member
  pub receivers : All (λ s. s.0 < w.links.members) (sent_of p.member)
  pub room : (to : ℕ) → to < w.links.members → length (bodies_to to (sent_of p.member)) ≤ spare_of w.links (place_of p.event) to
  pub sender : HasSender p.event w.links.members
  pub thread : HasThread p.event w.made.items
