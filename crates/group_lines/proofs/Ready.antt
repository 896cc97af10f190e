-- Lines that are ready stay so as events are made.
use Rattle.std.proofs.Common.{ℕ, ◌≡◌, ◌<◌, ◌≤◌, ◌⊎◌, inl, inr, true, List, [], ◌∷◌, ◌++◌, length, sym, ap, subst, arith, Option, Some, None, length-append}
use Rattle.std.proofs.Math.Nat.{mul-le-mul_left}
use Rattle.std.proofs.lemmas.Bool.{cases_lt}
use Rattle.upd_base.specs.Plan.{Planned, bound}
use Rattle.upd_base.specs.declared.event.Event.{Event}
use Rattle.group_run.specs.Group.{Rules}
use Rattle.group_run.specs.Run.{Events, crashed_in}
use Rattle.upd_lines.specs.declared.line.Line.{Ghosts}
use Rattle.line_rules.specs.Lines.{AreReady, IsReadyAt, line_at, state_at}
use Rattle.line_rules.specs.declared.line_state.LineState.{LineState}
use Rattle.line_rules.specs.declared.line_state.LineState.TheVariants.{Missing, Serving, Down, Lied, Stopped}
use Rattle.line_rules.specs.declared.line_state.TheConstants.{MAX_FRAME}
use Rattle.group_lines.specs.Visits.{MadeMany, MadeOne}
use Rattle.group_lines.proofs.Crashes.{crash_stays}

-- The run goes on, and there was room where it grew.
pub record Later (plan : Planned) (old new : Events) : Type 0 where
  pub newer : Events
  pub is : new ≡ newer ++ old
  pub room : length old < length new → length old < bound plan

pub later_one : (plan : Planned) (old new : Events) (P : Event → Type 0) → MadeOne plan old new P → Later plan old new
later_one plan old new P (inl e) = record { newer = []; is = e; room = λ lt. absurd (let l = ap length e in omega arith) }
later_one plan old new P (inr (event, is, room, such)) = record { newer = event ∷ []; is = is; room = λ lt. room }

pub later_many : (plan : Planned) (old new : Events) (P : Event → Type 0) → MadeMany plan old new P → Later plan old new
later_many plan old new P (newer, is, room, such) = record { newer = newer; is = is; room = room }

pub later_length : (plan : Planned) (old new : Events) → Later plan old new → length old ≤ length new
later_length plan old new later = let l = ap length later.is in let m = length-append later.newer old in omega arith

stopped_more : (rules : Rules) (plan : Planned) (old new : Events) (to : ℕ) → Later plan old new → (length old ≡ bound plan) ⊎ (crashed_in rules plan old to ≡ true)
    → (length new ≡ bound plan) ⊎ (crashed_in rules plan new to ≡ true)
stopped_more rules plan old new to later (inl full) =
    let le = later_length plan old new later in
    elim (cases_lt (length old) (length new)) [
      | inl lt ↦ absurd (let room = later.room lt in omega arith)
      | inr ge ↦ inl (let same : length new ≡ bound plan = omega arith in same)
    ]
stopped_more rules plan old new to later (inr down) = inr (subst (λ past. crashed_in rules plan past to ≡ true) (sym later.is) (crash_stays rules plan old later.newer to down))

pub ready_at_more : {L : Type 0} (G : Ghosts L) (rules : Rules) (plan : Planned) (old new : Events) (to : ℕ) (line : Option L) (state : LineState) → Later plan old new
    → IsReadyAt G rules plan old to line state → IsReadyAt G rules plan new to line state
ready_at_more G rules plan old new to None Missing later r = r
ready_at_more G rules plan old new to None (Serving count) later r = r
ready_at_more G rules plan old new to None Down later r = r
ready_at_more G rules plan old new to None (Lied lie) later r = r
ready_at_more G rules plan old new to None Stopped later r = r
ready_at_more G rules plan old new to (Some line) Missing later r = r
ready_at_more G rules plan old new to (Some line) (Serving count) later (even, few) =
    (even, (let more = mul-le-mul_left MAX_FRAME (later_length plan old new later) in omega arith))
ready_at_more G rules plan old new to (Some line) Down later r = r
ready_at_more G rules plan old new to (Some line) (Lied lie) later r = r
ready_at_more G rules plan old new to (Some line) Stopped later r = stopped_more rules plan old new to later r

pub ready_more : {L : Type 0} (G : Ghosts L) (rules : Rules) (plan : Planned) (old new : Events) (lines : List (Option L)) (states : List LineState) → Later plan old new
    → AreReady G rules plan old lines states → AreReady G rules plan new lines states
ready_more G rules plan old new lines states later r = record {
  places = r.places;
  stated = r.stated;
  each = λ from to f t. ready_at_more G rules plan old new to (line_at plan.members lines from to) (state_at plan.members states from to) later (r.each from to f t);
}
