-- A turn: what one input makes of a member. It is the atomic step of a group run.
use Rattle.std.specs.Prelude.{ℕ, if◌then◌else◌, Option, Some, None, List, [], ◌∷◌, ◌++◌, length, map}
use Rattle.fifo_net.specs.Net.{Input, Called, Took}
use Rattle.order_trait.specs.Runs.{Order, Broadcast, Suspect as SuspectOrder, Trust as TrustOrder}
use Rattle.upd_base.specs.declared.item.Item.{Item}
use Rattle.upd_base.specs.declared.item.Item.TheVariants.{Msg, Switch}
use Rattle.upd_base.specs.declared.body.Body.{Body}
use Rattle.upd_base.specs.declared.frame.Frame.{Frame}
use Rattle.upd_base.specs.declared.call.Call.{Call}
use Rattle.upd_base.specs.declared.call.Call.TheVariants.{Send, Change, Suspect, Trust, Crash}
use Rattle.upd_base.specs.declared.answer.Answer.{Answer}
use Rattle.upd_base.specs.declared.answer.Answer.TheVariants.{Accepted, Done}
use Rattle.group_run.specs.Group.{Group, Outer, Makes, Releases}
use Rattle.group_run.specs.Version.{has_ended, kind_at, inputs_at, given}
use Rattle.group_run.specs.Part.{Part, opening, with_modules, with_accepted, with_suspects, with_held, stopped, version, undelivered, without, below, suspicions}
use Rattle.group_run.specs.Held.{is_early, first_ready, without_ready}
use Rattle.group_run.specs.Answer.{answer}

-- an input of the module of a version
pub record ModuleStep : Type 0 where
  pub version : ℕ
  pub input : Input Order Body

-- What a member has come to, with what its newest input made: the steps in its modules, the newest first, and the
-- frames, each with its receiver, in the order of sending.
pub record Turn : Type 0 where
  pub part : Part
  pub steps : List ModuleStep
  pub frames : List (ℕ × Frame)

-- a turn without a step
abbrev pub still : Part → Turn
still part = record { part = part; steps = []; frames = [] }

-- Steps in modules --------------------------------------------------------------------------------------

-- the bodies that a module sends, as frames of its version
abbrev pub framed : ℕ → List (ℕ × Body) → List (ℕ × Frame)
framed version bodies = map (λ s. (s.0, record { version = version; body = s.1 })) bodies

-- what a module sends at a further input
abbrev pub sent_at : Group → ℕ → Part → ModuleStep → List (ℕ × Frame)
sent_at g me part s = framed s.version (g.rules.sends (kind_at g me s.version part.modules) g.members me (s.input ∷ inputs_at s.version part.modules))

-- One step in a module: it gets the input, and what it sends goes out behind what was sent.
abbrev pub stepped : Group → ℕ → Turn → ModuleStep → Turn
stepped g me t s = record {
  part = with_modules t.part (given s.version s.input t.part.modules);
  steps = s ∷ t.steps;
  frames = t.frames ++ sent_at g me t.part s;
}

-- an order to the module of a version
abbrev pub order_step : ℕ × Order → ModuleStep
order_step o = record { version = o.0; input = Called o.1 }

-- several orders, one after another
abbrev pub all_told : Group → ℕ → Turn → List (ℕ × Order) → Turn
all_told g me t [] = t
all_told g me t (o ∷ os) = all_told g me (stepped g me t (order_step o)) os

-- these orders to the module of a version
abbrev pub in_module : ℕ → List Order → List (ℕ × Order)
in_module v orders = map (λ order. (v, order)) orders

-- an order to each module, by ascending version
abbrev pub in_each : Part → Order → List (ℕ × Order)
in_each part order = map (λ v. (v, order)) (below (length part.modules))

-- Entering a version ------------------------------------------------------------------------------------

-- a fresh module is bound
abbrev pub opened : Turn → Turn
opened t = record { part = with_modules t.part ([] ∷ t.part.modules); steps = t.steps; frames = t.frames }

-- what a fresh module is told: each present suspicion, by member, and then each of the member's accepted messages that
-- are absent from its log, by number
abbrev pub first_orders : Group → ℕ → Part → List Order
first_orders g me part = map (λ who. SuspectOrder who) (suspicions g part) ++ map (λ item. Broadcast item) (undelivered g me part)

-- Where the newest version has ended, the next is entered in the same turn.
abbrev pub entered : Group → ℕ → Turn → Turn
entered g me t =
    if has_ended g me t.part.modules
    then all_told g me (opened t) (in_module (length t.part.modules) (first_orders g me t.part))
    else t

-- The inputs of a member --------------------------------------------------------------------------------

-- a frame is processed: the module of its version takes its body
abbrev pub processed : Group → ℕ → Part → ℕ → Frame → Turn
processed g me part from frame = entered g me (stepped g me (still part) (record { version = frame.version; input = Took from frame.body }))

-- an item is accepted, and broadcast in the module of the present version
abbrev pub issued : Group → ℕ → Part → Item → Turn
issued g me part item = all_told g me (still (with_accepted part item)) (in_module (version part) (Broadcast item ∷ []))

-- the suspicions change, and each module is told
abbrev pub told : Group → ℕ → Part → List ℕ → Order → Turn
told g me part suspects order = all_told g me (still (with_suspects part suspects)) (in_each part order)

-- a call, by its answer; what is refused makes nothing
abbrev pub called : Group → ℕ → Part → Call → Answer → Turn
called g me part (Send text) (Accepted number) = issued g me part (Msg me number text)
called g me part (Change kind) (Accepted number) = issued g me part (Switch me number kind)
called g me part (Suspect who) Done = told g me part (who ∷ without who part.suspects) (SuspectOrder who)
called g me part (Trust who) Done = told g me part (without who part.suspects) (TrustOrder who)
called g me part Crash Done = still (stopped part)
called g me part call refusal = still part

-- a receipt: an early frame is held, any other is processed
abbrev pub took : Group → ℕ → Part → ℕ → Frame → Turn
took g me part from frame =
    if is_early part from frame
    then still (with_held part (part.held ++ (from, frame) ∷ []))
    else processed g me part from frame

-- a release of the frame that is first ready, where one is
abbrev pub released : Group → ℕ → Part → Option (ℕ × Frame) → Turn
released g me part None = still part
released g me part (Some h) = processed g me (with_held part (without_ready (version part) part.held)) h.0 h.1

-- the turn that an input makes
abbrev pub turn_after : Group → ℕ → Part → Input Outer Frame → Turn
turn_after g me part (Called (Makes call)) = called g me part call (answer g me part call)
turn_after g me part (Called Releases) = released g me part (first_ready (version part) part.held)
turn_after g me part (Took from frame) = took g me part from frame

-- The newest turn of a member that had these inputs, the newest first.
abbrev pub turn_of : Group → ℕ → List (Input Outer Frame) → Turn
turn_of g me [] = still opening
turn_of g me (x ∷ past) = turn_after g me (turn_of g me past).part x

-- A member as a part of a network of frames: what it sends at the newest of its inputs.
abbrev pub member_sends : Group → ℕ → List (Input Outer Frame) → List (ℕ × Frame)
member_sends g me inputs = (turn_of g me inputs).frames
