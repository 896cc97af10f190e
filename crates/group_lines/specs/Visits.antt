-- What a visit of a round does to the run and to the lines.
use Rattle.std.specs.Prelude.{ℕ, true, ◌≡◌, ◌⊎◌, ◌+◌, ◌*◌, ◌<◌, Option, None, List, [], ◌∷◌, ◌++◌, length, slice_index_or}
use Rattle.upd_base.specs.Plan.{Planned, bound}
use Rattle.upd_base.specs.declared.event.Event.{Event}
use Rattle.upd_base.specs.declared.event.Event.TheVariants.{Call as CallEvent, Receive, Release}
use Rattle.upd_base.specs.declared.answer.Answer.TheVariants.{Full}
use Rattle.group_run.specs.Group.{Rules}
use Rattle.group_run.specs.Run.{Events, IsReceipt, next_frame}
use Rattle.run_journal.specs.Causes.{answer_next, next_call, would_be_full}
use Rattle.upd_lines.specs.declared.line.Line.{Ghosts}
use Rattle.line_rules.specs.Received.{GoesOn, listed, received_since}
use Rattle.line_rules.specs.LineState.{HasCome, IsSetAside}
use Rattle.line_rules.specs.Lines.{AreOnTheWay, state_at}
use Rattle.line_rules.specs.Rest.{GoesOnFullAtRestBut, IsAtRestBut}
use Rattle.line_rules.specs.declared.line_state.LineState.{LineState}
use Rattle.line_rules.specs.declared.line_state.LineState.TheVariants.{Missing}

-- What is left --------------------------------------------------------------------------------------------------

-- there was room for an event, and none was made
abbrev pub IsIdle : Planned → Events → Events → Type 0
IsIdle plan old new = (length old < bound plan) × (new ≡ old)

-- a thread makes no call of its own: it has none, or one that would be answered as full
abbrev pub IsThreadLeft : Rules → Planned → Events → ℕ → Type 0
IsThreadLeft rules plan past thread = (next_call plan past thread ≡ None) ⊎ (would_be_full (answer_next rules plan past (next_call plan past thread)) ≡ true)

-- the line of a link is set aside
abbrev pub IsLeftOut : Planned → List LineState → ℕ → ℕ → Type 0
IsLeftOut plan states from to = IsSetAside (state_at plan.members states from to)

-- a link is left: nothing can be received there, or its line is set aside
abbrev pub IsLinkLeft : Rules → Planned → Events → List LineState → ℕ → ℕ → Type 0
IsLinkLeft rules plan past states from to = IsReceipt rules plan past from to → IsLeftOut plan states from to

-- no thread makes a call of its own, nothing is received but on links whose lines are set aside, and nothing is released
pub record IsRoundLeft (rules : Rules) (plan : Planned) (past : Events) (states : List LineState) : Type 0 where
  pub threads : (thread : ℕ) → thread < length plan.threads → IsThreadLeft rules plan past thread
  pub rest : IsAtRestBut (IsLeftOut plan states) rules plan past

-- What is made --------------------------------------------------------------------------------------------------

-- a call, or a release
abbrev pub IsNoReceipt : Event → Type 0
IsNoReceipt (CallEvent thread index member given) = Unit {0}
IsNoReceipt (Receive from to) = ⊥
IsNoReceipt (Release at) = Unit {0}

-- a call that was not answered as full, or a release
abbrev pub IsNotFull : Event → Type 0
IsNotFull (CallEvent thread index member Full) = ⊥
IsNotFull (CallEvent thread index member given) = Unit {0}
IsNotFull (Receive from to) = ⊥
IsNotFull (Release at) = Unit {0}

-- at most one event was made, where there was room for it, and it is such
abbrev pub MadeOne : Planned → Events → Events → (Event → Type 0) → Type 0
MadeOne plan old new P = (new ≡ old) ⊎ ((event : Event) × (new ≡ event ∷ old) × (length old < bound plan) × P event)

-- each of these events is such
abbrev pub AllSuch : List Event → (Event → Type 0) → Type 0
AllSuch [] P = Unit {0}
AllSuch (event ∷ newer) P = P event × AllSuch newer P

-- events were made, where there was room for the first, and each is such
abbrev pub MadeMany : Planned → Events → Events → (Event → Type 0) → Type 0
MadeMany plan old new P = (newer : Events) × (new ≡ newer ++ old) × (length old < length new → length old < bound plan) × AllSuch newer P

-- the line of a link stands at this place
pub record LinkStands (members from to place : ℕ) : Type 0 where
  pub from_member : from < members
  pub to_member : to < members
  pub there : from * members + to ≡ place

-- How lines go on -----------------------------------------------------------------------------------------------

-- Of a link: at most a receipt there was made. What was set aside stays so. However the line was used since a start, its state
-- still tells it.
pub record LinkWent {L : Type 0} (G : Ghosts L) (rules : Rules) (plan : Planned) (old new : Events) (from to : ℕ) (line new_line : Option L) (state new_state : LineState) : Type 0 where
  pub made : MadeOne plan old new (λ event. event ≡ Receive from to)
  pub aside : IsSetAside state → new_state ≡ state
  pub way : (start : Events) (first : Option L) → GoesOn start old
      → HasCome G (received_since rules plan start old from to) (listed (next_frame rules plan old from to)) first line state
      → HasCome G (received_since rules plan start new from to) (listed (next_frame rules plan new from to)) first new_line new_state

-- what was set aside stays as it is
abbrev pub StaysAside : List LineState → List LineState → Type 0
StaysAside old new = (place : ℕ) → IsSetAside (slice_index_or old place Missing) → slice_index_or new place Missing ≡ slice_index_or old place Missing

-- Of a group: what was set aside stays so. However the lines were used since a start, their states still tell it. A call was
-- answered as full only where the group was at rest but for links whose lines are set aside.
pub record Went {L : Type 0} (G : Ghosts L) (rules : Rules) (plan : Planned) (old new : Events) (lines new_lines : List (Option L)) (states new_states : List LineState) : Type 0 where
  pub aside : StaysAside states new_states
  pub way : (start : Events) (first : List (Option L)) → GoesOn start old → AreOnTheWay G rules plan start old first lines states → AreOnTheWay G rules plan start new first new_lines new_states
  pub full : GoesOnFullAtRestBut (IsLeftOut plan new_states) rules plan old new
