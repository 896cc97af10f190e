-- Plans that go on from one another, and what a run of the one is to the other.
use Rattle.std.specs.Prelude.{ℕ, zero, suc, ◌≡◌, ◌↔◌, Some, List, [], ◌∷◌, ◌++◌, length}
use Rattle.upd_base.specs.Plan.{Planned, planned, steps_of}
use Rattle.upd_base.specs.declared.call.Step.{Step as PlannedStep}
use Rattle.group_run.specs.Group.{Rules}
use Rattle.group_run.specs.Run.{Events, calls_made, moves_in, part, next_frame, log_in, version_in, kind_in, held_in, crashed_in}
use Rattle.group_run.specs.Projection.{projection}
use Rattle.group_run.specs.Ordered.{accepted_in}
use Rattle.group_run.specs.Settled.{IsQuiet, IsTrusting}

-- A plan goes on from another: it has the same members and first kind, and each planned call of the other at its place.
pub record GoesOn (old new : Planned) : Type 0 where
  pub members : new.members ≡ old.members
  pub first : new.first ≡ old.first
  pub calls : (thread index : ℕ) (s : PlannedStep) → planned old thread index ≡ Some s → planned new thread index ≡ Some s

-- Everything that is read of these events is the same by either plan.
pub record ReadsAlike (rules : Rules) (old new : Planned) (past : Events) : Type 0 where
  pub moves_alike : moves_in rules new past ≡ moves_in rules old past
  pub parts : (i : ℕ) → part rules new past i ≡ part rules old past i
  pub frames : (from to : ℕ) → next_frame rules new past from to ≡ next_frame rules old past from to
  pub logs : (i : ℕ) → log_in rules new past i ≡ log_in rules old past i
  pub versions : (i : ℕ) → version_in rules new past i ≡ version_in rules old past i
  pub kinds : (i : ℕ) → kind_in rules new past i ≡ kind_in rules old past i
  pub held : (i : ℕ) → held_in rules new past i ≡ held_in rules old past i
  pub crashes : (i : ℕ) → crashed_in rules new past i ≡ crashed_in rules old past i
  pub projections : (v : ℕ) → projection rules new past v ≡ projection rules old past v
  pub accepted : accepted_in new past ≡ accepted_in old past
  pub quiet : IsQuiet new past ↔ IsQuiet old past
  pub trusting : IsTrusting new past ↔ IsTrusting old past

-- Each planned call was made.
abbrev pub AllMade : Planned → Events → Type 0
AllMade plan past = (thread : ℕ) → calls_made thread past ≡ length (steps_of plan thread)

-- the threads, of which one has a call more at its end
abbrev pub said_in : ℕ → PlannedStep → List (List PlannedStep) → List (List PlannedStep)
said_in thread s [] = []
said_in zero s (steps ∷ threads) = (steps ++ s ∷ []) ∷ threads
said_in (suc thread) s (steps ∷ threads) = steps ∷ said_in thread s threads

-- the plan with a call more
abbrev pub said : Planned → ℕ → PlannedStep → Planned
said plan thread s = record { members = plan.members; first = plan.first; threads = said_in thread s plan.threads }
