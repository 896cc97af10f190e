-- Lines that no frame came over yet.
use Rattle.std.proofs.Common.{ℕ, zero, suc, ◌≡◌, ◌+◌, ◌*◌, inl, inr, List, [], ◌∷◌, length, map, refl, sym, subst, arith, Option, Some, None, append-nil, get_or}
use Rattle.std.specs.Prelude.{All}
use Rattle.std.proofs.lemmas.Bool.{cases_lt}
use Rattle.std.proofs.lemmas.List.{get_or_past, length-map}
use Rattle.std.proofs.lemmas.List.Elements.{All-get_or}
use Rattle.upd_base.specs.Plan.{Planned}
use Rattle.upd_base.specs.declared.frame.Frame.{Frame}
use Rattle.group_run.specs.Group.{Rules}
use Rattle.group_run.specs.Run.{Events, next_frame}
use Rattle.upd_lines.specs.Line.{Carried, Told}
use Rattle.upd_lines.specs.declared.line.Line.{Ghosts}
use Rattle.line_rules.specs.Given.{GaveBytes}
use Rattle.line_rules.specs.Received.{listed}
use Rattle.line_rules.specs.LineState.{HasCome, IsServing}
use Rattle.line_rules.specs.Lines.{AreOnTheWay, AreReady, IsEvenLine, IsReadyAt, line_at, state_at}
use Rattle.line_rules.specs.declared.line_state.LineState.TheVariants.{Missing}
use Rattle.line_rules.proofs.Receiving.{received_none}
use Rattle.group_lines.specs.Told.{first_state}

first_at : {L : Type 0} (lines : List (Option L)) (k : ℕ) → get_or (map first_state lines) k Missing ≡ first_state (get_or lines k None)
first_at [] k = refl
first_at (line ∷ lines) zero = refl
first_at (line ∷ lines) (suc k) = first_at lines k

even_at : {L : Type 0} (G : Ghosts L) (lines : List (Option L)) (k : ℕ) → All (IsEvenLine G) lines → IsEvenLine G (get_or lines k None)
even_at G lines k all = elim (cases_lt k (length lines)) [
  | inl lt ↦ All-get_or (IsEvenLine G) lines k None lt all
  | inr ge ↦ subst (IsEvenLine G) (sym (get_or_past lines k None ge)) tt
]

ready_line : {L : Type 0} (G : Ghosts L) (rules : Rules) (plan : Planned) (past : Events) (to : ℕ) (line : Option L) → IsEvenLine G line → IsReadyAt G rules plan past to line (first_state line)
ready_line G rules plan past to None even = tt
ready_line G rules plan past to (Some line) even = (even, omega arith)

pub first_ready : {L : Type 0} (G : Ghosts L) (rules : Rules) (plan : Planned) (past : Events) (lines : List (Option L)) → length lines ≡ plan.members * plan.members → All (IsEvenLine G) lines → AreReady G rules plan past lines (map first_state lines)
first_ready G rules plan past lines places even = record {
  places = places;
  stated = length-map lines first_state;
  each = λ from to f t. subst (IsReadyAt G rules plan past to (line_at plan.members lines from to)) (sym (first_at lines (from * plan.members + to)))
      (ready_line G rules plan past to (line_at plan.members lines from to) (even_at G lines (from * plan.members + to) even));
}

no_bytes : (o : Option Carried) → GaveBytes o o (λ given. given ≡ [])
no_bytes None = tt
no_bytes (Some c) = ([], sym (append-nil c.got), refl)

first_come : {L : Type 0} (G : Ghosts L) (next : List Frame) (line : Option L) → IsEvenLine G line → HasCome G [] next line line (first_state line)
first_come G next None even = tt
first_come G next (Some line) even =
    let t : Told = G.told line in
    let serving : IsServing [] t t 0 = record { gave = record { count = omega arith; bytes = no_bytes t.bytes; faithful = refl }; even = even; counted = refl } in
    (serving, omega arith)

pub first_way : {L : Type 0} (G : Ghosts L) (rules : Rules) (plan : Planned) (past : Events) (lines : List (Option L)) → length lines ≡ plan.members * plan.members → All (IsEvenLine G) lines
    → AreOnTheWay G rules plan past past lines lines (map first_state lines)
first_way G rules plan past lines places even = record {
  places = places;
  same = refl;
  stated = length-map lines first_state;
  each = λ from to f t.
      let next : List Frame = listed (next_frame rules plan past from to) in
      let line = line_at plan.members lines from to in
      subst (λ frames. HasCome G frames next line line (state_at plan.members (map first_state lines) from to)) (sym (received_none rules plan past from to))
      (subst (HasCome G [] next line line) (sym (first_at lines (from * plan.members + to))) (first_come G next line (even_at G lines (from * plan.members + to) even)));
}
