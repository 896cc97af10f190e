-- The states of lines: the first ones, and what they tell of the end of a run.
use Rattle.std.specs.Prelude.{ℕ, ◌≡◌, ◌<◌, length, List, Option, Some, None}
use Rattle.upd_base.specs.Plan.{Planned, bound}
use Rattle.group_run.specs.Group.{Rules}
use Rattle.group_run.specs.Run.{Events}
use Rattle.group_run.specs.Settled.{IsSettled}
use Rattle.line_rules.specs.Ends.{IsLeftOff}
use Rattle.line_rules.specs.Lines.{state_at}
use Rattle.line_rules.specs.Rest.{IsHeldUp}
use Rattle.line_rules.specs.declared.line_state.LineState.{LineState}
use Rattle.line_rules.specs.declared.line_state.LineState.TheVariants as states
use Rattle.line_rules.specs.declared.run_end.RunEnd.{RunEnd}
use Rattle.line_rules.specs.declared.run_end.RunEnd.TheVariants.{Settled, Spent, Lied, Down, NoMemory}
use Rattle.group_lines.specs.Visits.{IsLeftOut}

-- a line that no frame came over yet serves
abbrev pub first_state : {L : Type 0} → Option L → LineState
first_state None = states.Missing
first_state (Some line) = states.Serving 0

abbrev pub IsLyingState : LineState → Type 0
IsLyingState (states.Lied lie) = Unit {0}
IsLyingState state = ⊥

-- the line is down, or not there
abbrev pub IsDownState : LineState → Type 0
IsDownState states.Missing = Unit {0}
IsDownState states.Down = Unit {0}
IsDownState state = ⊥

abbrev pub IsDownLink : Planned → List LineState → ℕ → ℕ → Type 0
IsDownLink plan states from to = IsDownState (state_at plan.members states from to)

-- no line is known to have lied
abbrev pub NoneLied : Planned → List LineState → Type 0
NoneLied plan states = (from to : ℕ) → from < plan.members → to < plan.members → IsLyingState (state_at plan.members states from to) → ⊥

-- The run is left off, and held up but for links that are left out.
pub record IsHeldOff (left_out : ℕ → ℕ → Type 0) (rules : Rules) (plan : Planned) (past : Events) (from to : ℕ) : Type 0 where
  pub left_off : IsLeftOff rules plan past
  pub from_member : from < plan.members
  pub to_member : to < plan.members
  pub held_up : IsHeldUp left_out rules plan past

-- What an end says of the run and of the states of its lines.
abbrev pub TellsEnd : Rules → Planned → Events → List LineState → RunEnd → Type 0
TellsEnd rules plan past all Settled = IsSettled rules plan past
TellsEnd rules plan past all Spent = (length past ≡ bound plan) × (IsSettled rules plan past → ⊥)
TellsEnd rules plan past all (Lied from to at put got) = IsHeldOff (IsLeftOut plan all) rules plan past from to × (state_at plan.members all from to ≡ states.Lied (record { at = at; put = put; got = got }))
TellsEnd rules plan past all (Down from to) = IsHeldOff (IsDownLink plan all) rules plan past from to × IsDownLink plan all from to × NoneLied plan all
TellsEnd rules plan past all NoMemory = Unit {0}
