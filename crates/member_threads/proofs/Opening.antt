-- Lines at the start of a run, on which all that was put was got.
use Rattle.std.proofs.Common.{◌≡◌, ℕ, ◌*◌, ◌≤◌, ◌+◌, List, [], length, map, refl, sym, subst, arith, Option, Some, None, lt_of_not-le}
use native.Mathlib.Decide.{dec_le}
use Rattle.std.specs.Prelude.{All, slice_index_or}
use Rattle.std.proofs.lemmas.List.{length-map}
use Rattle.std.proofs.lemmas.List.Elements.{All-get_or}
use Rattle.std.proofs.Math.ListN.{get_or-map, get_or-eq_default}
use Rattle.upd_base.specs.Plan.{Planned}
use Rattle.upd_base.specs.declared.frame.Frame.{Frame}
use Rattle.group_run.specs.Group.{Rules}
use Rattle.group_run.specs.Run.{Events, next_frame}
use Rattle.upd_lines.specs.declared.line.Line.{Ghosts}
use Rattle.line_rules.specs.Received.{listed}
use Rattle.line_rules.specs.LineState.{HasCome}
use Rattle.line_rules.specs.Lines.{ComeBack, IsEvenLine, line_at, state_at}
use Rattle.line_rules.specs.declared.line_state.LineState.{LineState}
use Rattle.line_rules.specs.declared.line_state.LineState.TheVariants.{Missing, Serving}
use Rattle.line_rules.proofs.Receiving.{received_none}
use Rattle.member_threads.proofs.Working.{serves_none}
use Rattle.group_lines.proofs.Ends.{come_back}

first_state : {L : Type 0} → Option L → LineState
first_state None = Missing
first_state (Some line) = Serving 0

module _ {L : Type 0} (G : Ghosts L) where
  pub even_each : (lines : List (Option L)) → All (IsEvenLine G) lines → (p : ℕ) → IsEvenLine G (slice_index_or lines p None)
  even_each lines even p = by (dec_le (length lines) p)
    where
      by : Dec (length lines ≤ p) → IsEvenLine G (slice_index_or lines p None)
      by (yes d) = subst (IsEvenLine G) (sym (get_or-eq_default lines None d)) tt
      by (no d) = All-get_or (IsEvenLine G) lines p None (lt_of_not-le d) even

  come_first : (rules : Rules) (plan : Planned) (next : List Frame) (line : Option L) → IsEvenLine G line → HasCome G [] next line line (first_state line)
  unfolding first_state
  come_first rules plan next None even = tt
  come_first rules plan next (Some line) even = (serves_none rules plan 0 0 [] G (G.told line) even, omega arith)

  pub start_back : (rules : Rules) (plan : Planned) (start : Events) (lines : List (Option L)) → length lines ≡ plan.members * plan.members → All (IsEvenLine G) lines → ComeBack G rules plan start start lines lines
  unfolding first_state
  start_back rules plan start lines places even =
      come_back G rules plan start start lines lines (map first_state lines) (record {
        places = places;
        same = refl;
        stated = length-map lines first_state;
        each = λ from to f t.
            subst (λ z. HasCome G z (listed (next_frame rules plan start from to)) (line_at plan.members lines from to) (line_at plan.members lines from to) (state_at plan.members (map first_state lines) from to)) (sym (received_none rules plan start from to))
            (subst (λ z. HasCome G [] (listed (next_frame rules plan start from to)) (line_at plan.members lines from to) (line_at plan.members lines from to) z) (sym (get_or-map first_state lines (from * plan.members + to) None))
            (come_first rules plan (listed (next_frame rules plan start from to)) (line_at plan.members lines from to) (even_each lines even (from * plan.members + to))));
      })
