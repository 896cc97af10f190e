-- How a run over lines ends.
use Rattle.std.specs.Prelude.{ℕ, ◌≡◌, ◌<◌, ◌++◌, length, List, Option, Some}
use Rattle.fifo_net.specs.Net.{IsPrefix}
use Rattle.upd_base.specs.Plan.{Planned, bound}
use Rattle.upd_lines.specs.declared.line.Line.{Ghosts}
use Rattle.group_run.specs.Group.{Rules}
use Rattle.group_run.specs.Run.{Events}
use Rattle.group_run.specs.Settled.{IsSettled}
use Rattle.line_rules.specs.Given.{GaveBytes}
use Rattle.line_rules.specs.Received.{carried, next_bytes}
use Rattle.line_rules.specs.LineState.{IsLie}
use Rattle.line_rules.specs.Lines.{IsAside, IsDown, line_at}
use Rattle.line_rules.specs.Rest.{IsHeldUp}
use Rattle.line_rules.specs.declared.line_state.Lie.{Lie}
use Rattle.line_rules.specs.declared.run_end.RunEnd.{RunEnd}
use Rattle.line_rules.specs.declared.run_end.RunEnd.TheVariants.{Settled, Spent, Lied, Down, NoMemory}

-- The run is neither settled nor as long as its plan's bound.
pub record IsLeftOff (rules : Rules) (plan : Planned) (past : Events) : Type 0 where
  pub not_settled : IsSettled rules plan past → ⊥
  pub room : length past < bound plan

-- the line of a link told this lie
abbrev pub ToldLie : {L : Type 0} → Ghosts L → List ℕ → List ℕ → Option L → Option L → Lie → Type 0
ToldLie G carried next (Some old) (Some new) lie = IsLie carried next (G.told old) (G.told new) lie
ToldLie G carried next old new lie = ⊥

-- A line that lied holds the run up: what is left could only be received on links whose lines are aside.
pub record IsLyingEnd {L : Type 0} (G : Ghosts L) (rules : Rules) (plan : Planned) (start past : Events) (old new : List (Option L)) (from to : ℕ) (lie : Lie) : Type 0 where
  pub left_off : IsLeftOff rules plan past
  pub from_member : from < plan.members
  pub to_member : to < plan.members
  pub told : ToldLie G (carried rules plan start past from to) (next_bytes rules plan past from to) (line_at plan.members old from to) (line_at plan.members new from to) lie
  pub held_up : IsHeldUp (IsAside G rules plan start past old new) rules plan past

-- a line that tells its bytes gave none but those that were put: of the frames received on its link, and of the next one
abbrev pub IsHonestLine : {L : Type 0} → Ghosts L → List ℕ → List ℕ → Option L → Option L → Type 0
IsHonestLine G carried next (Some old) (Some new) = GaveBytes (G.told old).bytes (G.told new).bytes (λ given. IsPrefix given (carried ++ next))
IsHonestLine G carried next old new = Unit {0}

-- A line that is down holds the run up: what is left could only be received on links whose lines are down. None has lied.
pub record IsDownEnd {L : Type 0} (G : Ghosts L) (rules : Rules) (plan : Planned) (start past : Events) (old new : List (Option L)) (from to : ℕ) : Type 0 where
  pub left_off : IsLeftOff rules plan past
  pub from_member : from < plan.members
  pub to_member : to < plan.members
  pub is_down : IsDown G plan old new from to
  pub held_up : IsHeldUp (IsDown G plan old new) rules plan past
  pub honest : (i j : ℕ) → i < plan.members → j < plan.members
      → IsHonestLine G (carried rules plan start past i j) (next_bytes rules plan past i j) (line_at plan.members old i j) (line_at plan.members new i j)

-- What an end says of the run and of the lines.
abbrev pub EndsRun : {L : Type 0} → Ghosts L → Rules → Planned → Events → Events → List (Option L) → List (Option L) → RunEnd → Type 0
EndsRun G rules plan start past old new Settled = IsSettled rules plan past
EndsRun G rules plan start past old new Spent = (length past ≡ bound plan) × (IsSettled rules plan past → ⊥)
EndsRun G rules plan start past old new (Lied from to at put got) = IsLyingEnd G rules plan start past old new from to (record { at = at; put = put; got = got })
EndsRun G rules plan start past old new (Down from to) = IsDownEnd G rules plan start past old new from to
EndsRun G rules plan start past old new NoMemory = Unit {0}
