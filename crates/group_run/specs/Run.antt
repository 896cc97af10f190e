-- A group run: the members of a plan, joined by links of frames, event by event.
use Rattle.std.specs.Prelude.{ℕ, suc, Bool, true, false, ◌≡◌, ◌==◌, ◌<◌, ◌^◌, if◌then◌else◌, Option, Some, None, IsSome, List, [], ◌∷◌, length, slice_get}
use Rattle.fifo_net.specs.Net.{Called, Took, Step, inputs_of, taken_on, sent_on}
use Rattle.upd_base.specs.Plan.{Planned, is_open, planned}
use Rattle.upd_base.specs.declared.kind.Kind.{Kind}
use Rattle.upd_base.specs.declared.frame.Frame.{Frame}
use Rattle.upd_base.specs.declared.entry.Entry.{Entry}
use Rattle.upd_base.specs.declared.event.Event.{Event}
use Rattle.upd_base.specs.declared.event.Event.TheVariants.{Call as CallEvent, Receive, Release}
use Rattle.upd_base.specs.declared.call.Step.{Step as PlannedStep}
use Rattle.upd_base.specs.declared.answer.Answer.{Answer}
use Rattle.group_run.specs.Group.{Rules, Group, Outer, Makes, Releases}
use Rattle.group_run.specs.Part.{Part, log, version, present_kind}
use Rattle.group_run.specs.Held.{first_ready}
use Rattle.group_run.specs.Answer.{answer}
use Rattle.group_run.specs.Turn.{Turn, turn_of, member_sends}

-- The events of a run, the newest first.
abbrev pub Events : Type 0
Events = List Event

-- What came to the members, the newest first: the steps of the network of frames. Every member has a link to every
-- member, itself included; a link is first in, first out, and keeps what was not received.
abbrev pub Moves : Type 0
Moves = List (Step Outer Frame)

-- the group that runs a plan
abbrev pub group : Rules → Planned → Group
group rules plan = record { rules = rules; members = plan.members; first = plan.first }

-- a member's newest turn, after these moves of the group
abbrev pub turn_at : Group → Moves → ℕ → Turn
turn_at g ms i = turn_of g i (inputs_of i ms)

-- the frame that a link has next: the first that was sent and not received
abbrev pub next_on : Group → Moves → ℕ → ℕ → Option Frame
next_on g ms from to = slice_get (sent_on (member_sends g) from to ms) (length (taken_on from to ms))

-- The moves that events make: a call is the planned step, a receipt takes the frame that is next, a release is one.
abbrev pub call_made : ℕ → Option PlannedStep → Moves → Moves
call_made at None ms = ms
call_made at (Some s) ms = record { at = at; input = Called (Makes s.call) } ∷ ms

abbrev pub frame_taken : ℕ → ℕ → Option Frame → Moves → Moves
frame_taken from to None ms = ms
frame_taken from to (Some frame) ms = record { at = to; input = Took from frame } ∷ ms

abbrev pub moves : Group → Planned → Events → Moves
moves g plan [] = []
moves g plan (CallEvent thread index member answer ∷ past) = call_made member (planned plan thread index) (moves g plan past)
moves g plan (Receive from to ∷ past) = frame_taken from to (next_on g (moves g plan past) from to) (moves g plan past)
moves g plan (Release at ∷ past) = record { at = at; input = Called Releases } ∷ moves g plan past

-- What can be read after events ---------------------------------------------------------------------------

-- the moves, each member's part, and the next frame of a link
abbrev pub moves_in : Rules → Planned → Events → Moves
moves_in rules plan past = moves (group rules plan) plan past

abbrev pub part : Rules → Planned → Events → ℕ → Part
part rules plan past i = (turn_at (group rules plan) (moves_in rules plan past) i).part

abbrev pub next_frame : Rules → Planned → Events → ℕ → ℕ → Option Frame
next_frame rules plan past from to = next_on (group rules plan) (moves_in rules plan past) from to

-- the log, the version, the kind and the held frames of member i, and whether it has crashed
abbrev pub log_in : Rules → Planned → Events → ℕ → List Entry
log_in rules plan past i = log (group rules plan) i (part rules plan past i)

abbrev pub version_in : Rules → Planned → Events → ℕ → ℕ
version_in rules plan past i = version (part rules plan past i)

abbrev pub kind_in : Rules → Planned → Events → ℕ → Kind
kind_in rules plan past i = present_kind (group rules plan) i (part rules plan past i)

abbrev pub held_in : Rules → Planned → Events → ℕ → List (ℕ × Frame)
held_in rules plan past i = (part rules plan past i).held

abbrev pub crashed_in : Rules → Planned → Events → ℕ → Bool
crashed_in rules plan past i = (part rules plan past i).crashed

-- how many calls of a thread were made
abbrev pub calls_made : ℕ → Events → ℕ
calls_made thread [] = 0
calls_made thread (CallEvent other index member answer ∷ past) = if other == thread then suc (calls_made thread past) else calls_made thread past
calls_made thread (Receive from to ∷ past) = calls_made thread past
calls_made thread (Release at ∷ past) = calls_made thread past

-- Which events may come next ------------------------------------------------------------------------------

-- A call: the planned step is the next of its thread, the event names its member, and the answer is the one that the
-- member gives. A crashed member is called too.
pub record IsNextCall (rules : Rules) (plan : Planned) (past : Events) (thread index member : ℕ) (given : Answer) (s : PlannedStep) : Type 0 where
  pub next : index ≡ calls_made thread past
  pub at : member ≡ s.at
  pub answered : given ≡ answer (group rules plan) member (part rules plan past member) s.call

abbrev pub IsCall : Rules → Planned → Events → ℕ → ℕ → ℕ → Answer → Option PlannedStep → Type 0
IsCall rules plan past thread index member given None = ⊥
IsCall rules plan past thread index member given (Some s) = IsNextCall rules plan past thread index member given s

-- A receipt: the receiver is up, and the link has a frame that was not received. The sender may have crashed.
pub record IsReceipt (rules : Rules) (plan : Planned) (past : Events) (from to : ℕ) : Type 0 where
  pub from_member : from < plan.members
  pub to_member : to < plan.members
  pub up : crashed_in rules plan past to ≡ false
  pub frame : IsSome (next_frame rules plan past from to)

-- A release: the member is up, and holds a frame whose version it has reached.
pub record IsRelease (rules : Rules) (plan : Planned) (past : Events) (at : ℕ) : Type 0 where
  pub member : at < plan.members
  pub up : crashed_in rules plan past at ≡ false
  pub ready : IsSome (first_ready (version_in rules plan past at) (held_in rules plan past at))

-- an event may come after these
abbrev pub IsEnabled : Rules → Planned → Events → Event → Type 0
IsEnabled rules plan past (CallEvent thread index member given) = IsCall rules plan past thread index member given (planned plan thread index)
IsEnabled rules plan past (Receive from to) = IsReceipt rules plan past from to
IsEnabled rules plan past (Release at) = IsRelease rules plan past at

-- each event could come at its place
abbrev pub AreEnabled : Rules → Planned → Events → Type 0
AreEnabled rules plan [] = Unit {0}
AreEnabled rules plan (e ∷ past) = IsEnabled rules plan past e × AreEnabled rules plan past

-- A group run of a plan: a list of events, each enabled at its place, from the opening, at which nothing was accepted,
-- sent, held or crashed.
pub record IsGroupRun (rules : Rules) (plan : Planned) (past : Events) : Type 0 where
  pub of_plan : is_open plan ≡ true
  pub short : length past < 2 ^ 30
  pub enabled : AreEnabled rules plan past
