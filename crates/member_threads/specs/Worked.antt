-- How far the line of a link has come by the events of one worker.
use Rattle.std.specs.Prelude.{ℕ, Bool, true, ◌≡◌, ◌⊎◌, ◌+◌, ◌*◌, ◌<◌, ◌≤◌, List, [], ◌∷◌, length, reverse, Option, Some, All}
use Rattle.upd_base.specs.Plan.{Planned, bound}
use Rattle.upd_base.specs.declared.frame.Frame.{Frame}
use Rattle.upd_base.specs.declared.event.Event.{Event}
use Rattle.group_run.specs.Group.{Rules}
use Rattle.group_run.specs.Run.{next_frame}
use Rattle.run_journal.specs.Causes.{ReceiveCause}
use Rattle.run_journal.specs.declared.faults.ReceiveFault.{ReceiveFault}
use Rattle.run_journal.specs.declared.faults.ReceiveFault.TheVariants.{NoMemory}
use Rattle.turn_lock.specs.Lists.{IsPrefix}
use Rattle.upd_lines.specs.declared.line.Line.{Ghosts}
use Rattle.line_rules.specs.declared.line_state.TheConstants.{MAX_FRAME}
use Rattle.line_rules.specs.declared.line_state.LineState.{LineState}
use Rattle.line_rules.specs.declared.line_state.LineState.TheVariants.{Missing, Serving, Down, Lied, Stopped}
use Rattle.line_rules.specs.LineState.{HasCome}
use Rattle.line_rules.specs.Lines.{line_at, state_at}
use Rattle.member_threads.specs.Brought.{brought, frame_at}

-- A frame was found as the link's next one, after these events, and no own event took a frame from the link since.
pub record Awaits (rules : Rules) (plan : Planned) (began seen : List Event) (own : List ℕ) (from to : ℕ) (next : List Frame) : Type 0 where
  pub found : List Event
  pub goes_on : IsPrefix began found
  pub was_seen : IsPrefix found seen
  pub frame : Frame
  pub is_next : next_frame rules plan (reverse found) from to ≡ Some frame
  pub one : next ≡ frame ∷ []
  pub older : (events : List Event) → IsPrefix seen events → All (λ place. length found ≤ place → frame_at rules plan events from to place ≡ []) own

-- That frame was not received for this cause; want of memory is told.
pub record IsRefused (rules : Rules) (plan : Planned) (found seen : List Event) (from to : ℕ) (frame : Frame) (wanted : Bool) : Type 0 where
  pub later : List Event
  pub goes_on : IsPrefix found later
  pub was_seen : IsPrefix later seen
  pub fault : ReceiveFault
  pub cause : ReceiveCause rules plan (reverse later) from to frame fault
  pub memory : fault ≡ NoMemory → wanted ≡ true

-- A line that stopped: memory was wanted, or the frame was not received.
abbrev pub IsHalted : Rules → Planned → List Event → List Event → List ℕ → ℕ → ℕ → Bool → List Frame → Type 0
IsHalted rules plan began seen own from to wanted next =
    (a : Awaits rules plan began seen own from to next) × ((wanted ≡ true) ⊎ IsRefused rules plan a.found seen from to a.frame wanted)

-- By the line's state: it serves, and has carried no more than so many frames have; or the frame is known that was next.
abbrev pub Rests : Rules → Planned → List Event → List Event → List ℕ → ℕ → ℕ → Bool → List Frame → LineState → Type 0
Rests rules plan began seen own from to wanted next Missing = Unit {0}
Rests rules plan began seen own from to wanted next (Serving count) = (count ≤ MAX_FRAME * length seen) × (count ≤ MAX_FRAME * bound plan)
Rests rules plan began seen own from to wanted next Down = Awaits rules plan began seen own from to next
Rests rules plan began seen own from to wanted next (Lied lie) = Awaits rules plan began seen own from to next
Rests rules plan began seen own from to wanted next Stopped = IsHalted rules plan began seen own from to wanted next

-- The line has come as far as the frames that the own events took from the link.
pub record Worked {L : Type 0} (G : Ghosts L) (rules : Rules) (plan : Planned) (began seen : List Event) (own : List ℕ) (from to : ℕ) (wanted : Bool) (old new : Option L) (state : LineState) : Type 0 where
  pub frames : List Frame
  pub next : List Frame
  pub took : (events : List Event) → IsPrefix seen events → brought rules plan events own from to ≡ frames
  pub come : HasCome G frames next old new state
  pub rests : Rests rules plan began seen own from to wanted next state

-- The lines of all links of this number and above.
pub record AreWorked {L : Type 0} (G : Ghosts L) (rules : Rules) (plan : Planned) (began seen : List Event) (own : List ℕ) (low : ℕ) (wanted : Bool) (old new : List (Option L)) (states : List LineState) : Type 0 where
  pub same : length new ≡ length old
  pub stated : length states ≡ length old
  pub each : (from to : ℕ) → from < plan.members → to < plan.members → low ≤ from * plan.members + to
      → Worked G rules plan began seen own from to wanted (line_at plan.members old from to) (line_at plan.members new from to) (state_at plan.members states from to)
