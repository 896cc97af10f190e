-- What the states of lines tell of the lines that come back, and of the end of a run.
use Rattle.std.proofs.Common.{ℕ, ◌≡◌, ◌+◌, ◌*◌, ◌<◌, inl, inr, false, List, [], ◌∷◌, ◌++◌, length, refl, sym, ◌∙◌, ap, subst, arith, Option, Some, None, append-nil, get_or}
use Rattle.std.specs.Prelude.{IsSome}
use Rattle.std.proofs.lemmas.Bool.{cases_lt}
use Rattle.fifo_net.specs.Net.{IsPrefix}
use Rattle.upd_base.specs.Plan.{Planned}
use Rattle.upd_base.specs.declared.frame.Frame.{Frame}
use Rattle.group_run.specs.Group.{Rules}
use Rattle.group_run.specs.Run.{Events, crashed_in, next_frame}
use Rattle.group_run.specs.Settled.{IsSettled}
use Rattle.run_journal.specs.Causes.{open_frame}
use Rattle.upd_lines.specs.Line.{Told}
use Rattle.upd_lines.specs.declared.line.Line.{Ghosts}
use Rattle.line_rules.specs.Given.{GaveBytes, GaveExactly}
use Rattle.line_rules.specs.Received.{bytes_of, carried, listed, next_bytes, received_since}
use Rattle.line_rules.specs.LineState.{HasCome, IsAt, IsLie, IsSetAside}
use Rattle.line_rules.specs.Lines.{AreOnTheWay, CameBack, ComeBack, HasCarried, IsAside, IsAsideLine, IsDown, IsDownLine, IsLying, line_at, state_at}
use Rattle.line_rules.specs.Rest.{GoesOnFullAtRestBut, IsHeldUp}
use Rattle.line_rules.specs.Ends.{EndsRun, IsHonestLine, ToldLie}
use Rattle.line_rules.specs.declared.line_state.Lie.{Lie}
use Rattle.line_rules.specs.declared.line_state.LineState.{LineState}
use Rattle.line_rules.specs.declared.line_state.LineState.TheVariants.{Missing, Serving, Down, Lied, Stopped}
use Rattle.line_rules.specs.declared.run_end.RunEnd.{RunEnd}
use Rattle.line_rules.specs.declared.run_end.RunEnd.TheVariants as ends
use Rattle.line_rules.proofs.Receiving.{prefix_more}
use Rattle.group_lines.specs.Visits.{IsLeftOut, LinkStands}
use Rattle.group_lines.specs.Told.{IsDownLink, IsDownState, IsLyingState, NoneLied, TellsEnd}
use Rattle.group_lines.proofs.Giving.{bytes_map}
use Rattle.group_lines.proofs.Going.{full_trans, full_wider, rest_wider}
use Rattle.group_lines.proofs.OneLink.{place_within, receipt_open, same_link}

-- Lines that come back ---------------------------------------------------------------------------------------------

none_of : (o : Option Frame) → (IsSome o → ⊥) → o ≡ None
none_of None h = refl
none_of (Some frame) h = absurd (h refl)

nil_front : (xs ys : List ℕ) → [] ≡ xs ++ ys → xs ≡ []
nil_front [] ys e = refl
nil_front (x ∷ xs) ys e = absurd (let l = ap length e in omega arith)

-- a settled run has no next frame for a member that is up
no_part : (rules : Rules) (plan : Planned) (past : Events) (from to : ℕ) (part : List ℕ) → from < plan.members → to < plan.members → IsPrefix part (next_bytes rules plan past from to)
    → IsSettled rules plan past → crashed_in rules plan past to ≡ false → part ≡ []
no_part rules plan past from to part f t front settled up =
    let none : next_frame rules plan past from to ≡ None =
    none_of (next_frame rules plan past from to) (λ some. settled.receipts from to (record { from_member = f; to_member = t; up = up; frame = some })) in
    nil_front part front.0 (sym (ap (λ o. bytes_of (listed o)) none) ∙ front.1)

lying : (carried next : List ℕ) (old new : Told) (lie : Lie) → IsLie carried next old new lie → IsLying carried next old new
lying carried next old new lie l = record {
  not_faithful = l.not_faithful;
  more = (let a = l.behind in let b = l.given in omega arith);
  differs = bytes_map old.bytes new.bytes _ _ (λ x e. (lie.at, lie.put, lie.got, e, l.put_there, l.differs)) l.got_there;
}

part_carried : (rules : Rules) (plan : Planned) (start past : Events) (from to : ℕ) (old new : Told) (part : List ℕ) → from < plan.members → to < plan.members → IsPrefix part (next_bytes rules plan past from to)
    → GaveExactly old new (carried rules plan start past from to ++ part) → HasCarried rules plan start past from to old new
part_carried rules plan start past from to old new part f t front gave = record {
  part = part;
  front = front;
  count = gave.count;
  begins = bytes_map old.bytes new.bytes _ _ (λ x e. (part, e)) gave.bytes;
  exact = inr gave.bytes;
  faithful = gave.faithful;
  settled = no_part rules plan past from to part f t front;
}

state_carried : (rules : Rules) (plan : Planned) (start past : Events) (from to : ℕ) (old new : Told) (before now : ℕ) (state : LineState) → from < plan.members → to < plan.members
    → IsAt (received_since rules plan start past from to) (listed (next_frame rules plan past from to)) old new before now state → HasCarried rules plan start past from to old new
state_carried rules plan start past from to old new before now Missing f t at = absurd at
state_carried rules plan start past from to old new before now (Serving count) f t at =
    part_carried rules plan start past from to old new [] f t (next_bytes rules plan past from to, refl) (subst (GaveExactly old new) (sym (append-nil (carried rules plan start past from to))) at.gave)
state_carried rules plan start past from to old new before now Down f t (rose, (part, front, gave)) = part_carried rules plan start past from to old new part f t front gave
state_carried rules plan start past from to old new before now (Lied lie) f t (told, (part, front, gave)) = record {
  part = part;
  front = front;
  count = gave.count;
  begins = gave.bytes;
  exact = inl (lying (carried rules plan start past from to) (next_bytes rules plan past from to) old new lie told);
  faithful = gave.faithful;
  settled = no_part rules plan past from to part f t front;
}
state_carried rules plan start past from to old new before now Stopped f t (part, front, gave) = part_carried rules plan start past from to old new part f t front gave

line_back : {L : Type 0} (G : Ghosts L) (rules : Rules) (plan : Planned) (start past : Events) (from to : ℕ) (old new : Option L) (state : LineState) → from < plan.members → to < plan.members
    → HasCome G (received_since rules plan start past from to) (listed (next_frame rules plan past from to)) old new state → CameBack G rules plan start past from to old new
line_back G rules plan start past from to None None state f t come = tt
line_back G rules plan start past from to None (Some new) state f t come = absurd come
line_back G rules plan start past from to (Some old) None state f t come = absurd come
line_back G rules plan start past from to (Some old) (Some new) state f t (at, later) =
    (state_carried rules plan start past from to (G.told old) (G.told new) (G.faults old) (G.faults new) state f t at, later)

pub come_back : {L : Type 0} (G : Ghosts L) (rules : Rules) (plan : Planned) (start past : Events) (first lines : List (Option L)) (states : List LineState)
    → AreOnTheWay G rules plan start past first lines states → ComeBack G rules plan start past first lines
come_back G rules plan start past first lines states way = record {
  places = way.same;
  each = λ from to f t. line_back G rules plan start past from to (line_at plan.members first from to) (line_at plan.members lines from to) (state_at plan.members states from to) f t (way.each from to f t);
}

-- Links that are left out --------------------------------------------------------------------------------------------

line_aside : {L : Type 0} (G : Ghosts L) (frames next : List Frame) (old new : Option L) (state : LineState) → HasCome G frames next old new state → IsSetAside state → IsAsideLine G (bytes_of frames) (bytes_of next) old new
line_aside G frames next None new state come aside = tt
line_aside G frames next (Some old) None state come aside = absurd come
line_aside G frames next (Some old) (Some new) Missing come aside = absurd come.0
line_aside G frames next (Some old) (Some new) (Serving count) come aside = absurd aside
line_aside G frames next (Some old) (Some new) Down come aside = inl come.0.0
line_aside G frames next (Some old) (Some new) (Lied lie) come aside = inr (lying (bytes_of frames) (bytes_of next) (G.told old) (G.told new) lie come.0.0)
line_aside G frames next (Some old) (Some new) Stopped come aside = absurd aside

pub is_aside : {L : Type 0} (G : Ghosts L) (rules : Rules) (plan : Planned) (start past : Events) (first lines : List (Option L)) (states : List LineState) → AreOnTheWay G rules plan start past first lines states
    → (from to : ℕ) → from < plan.members → to < plan.members → IsLeftOut plan states from to → IsAside G rules plan start past first lines from to
is_aside G rules plan start past first lines states way from to f t aside =
    line_aside G (received_since rules plan start past from to) (listed (next_frame rules plan past from to)) (line_at plan.members first from to) (line_at plan.members lines from to) (state_at plan.members states from to)
    (way.each from to f t) aside

line_down : {L : Type 0} (G : Ghosts L) (frames next : List Frame) (old new : Option L) (state : LineState) → HasCome G frames next old new state → IsDownState state → IsDownLine G old new
line_down G frames next None new state come down = tt
line_down G frames next (Some old) None state come down = absurd come
line_down G frames next (Some old) (Some new) Missing come down = absurd come.0
line_down G frames next (Some old) (Some new) (Serving count) come down = absurd down
line_down G frames next (Some old) (Some new) Down come down = come.0.0
line_down G frames next (Some old) (Some new) (Lied lie) come down = absurd down
line_down G frames next (Some old) (Some new) Stopped come down = absurd down

is_down : {L : Type 0} (G : Ghosts L) (rules : Rules) (plan : Planned) (start past : Events) (first lines : List (Option L)) (states : List LineState) → AreOnTheWay G rules plan start past first lines states
    → (from to : ℕ) → from < plan.members → to < plan.members → IsDownLink plan states from to → IsDown G plan first lines from to
is_down G rules plan start past first lines states way from to f t down =
    line_down G (received_since rules plan start past from to) (listed (next_frame rules plan past from to)) (line_at plan.members first from to) (line_at plan.members lines from to) (state_at plan.members states from to)
    (way.each from to f t) down

part_honest : (carried next part : List ℕ) (old new : Told) → IsPrefix part next → GaveExactly old new (carried ++ part) → GaveBytes old.bytes new.bytes (λ given. IsPrefix given (carried ++ next))
part_honest carried next part old new front gave =
    bytes_map old.bytes new.bytes _ _ (λ x e. subst (λ (given : List ℕ). IsPrefix given (carried ++ next)) (sym e) (prefix_more carried part next front)) gave.bytes

line_honest : {L : Type 0} (G : Ghosts L) (frames next : List Frame) (old new : Option L) (state : LineState) → HasCome G frames next old new state → (IsLyingState state → ⊥) → IsHonestLine G (bytes_of frames) (bytes_of next) old new
line_honest G frames next None None state come honest = tt
line_honest G frames next None (Some new) state come honest = tt
line_honest G frames next (Some old) None state come honest = tt
line_honest G frames next (Some old) (Some new) Missing come honest = absurd come.0
line_honest G frames next (Some old) (Some new) (Serving count) come honest =
    part_honest (bytes_of frames) (bytes_of next) [] (G.told old) (G.told new) (bytes_of next, refl) (subst (GaveExactly (G.told old) (G.told new)) (sym (append-nil (bytes_of frames))) come.0.gave)
line_honest G frames next (Some old) (Some new) Down ((rose, (part, front, gave)), later) honest = part_honest (bytes_of frames) (bytes_of next) part (G.told old) (G.told new) front gave
line_honest G frames next (Some old) (Some new) (Lied lie) come honest = absurd (honest tt)
line_honest G frames next (Some old) (Some new) Stopped ((part, front, gave), later) honest = part_honest (bytes_of frames) (bytes_of next) part (G.told old) (G.told new) front gave

-- The end of a run ---------------------------------------------------------------------------------------------------

told_lie : {L : Type 0} (G : Ghosts L) (frames next : List Frame) (old new : Option L) (lie : Lie) → HasCome G frames next old new (Lied lie) → ToldLie G (bytes_of frames) (bytes_of next) old new lie
told_lie G frames next None None lie come = absurd come
told_lie G frames next None (Some new) lie come = absurd come
told_lie G frames next (Some old) None lie come = absurd come
told_lie G frames next (Some old) (Some new) lie come = come.0.0

held_wider : (few many : ℕ → ℕ → Type 0) (rules : Rules) (plan : Planned) (past : Events) → ((from to : ℕ) → from < plan.members → to < plan.members → few from to → many from to) → IsHeldUp few rules plan past → IsHeldUp many rules plan past
held_wider few many rules plan past wider held = record { calls = held.calls; rest = rest_wider few many rules plan past wider held.rest }

pub ends_run : {L : Type 0} (G : Ghosts L) (rules : Rules) (plan : Planned) (start past : Events) (first lines : List (Option L)) (states : List LineState) (end : RunEnd) → AreOnTheWay G rules plan start past first lines states
    → TellsEnd rules plan past states end → EndsRun G rules plan start past first lines end
ends_run G rules plan start past first lines states ends.Settled way told = told
ends_run G rules plan start past first lines states ends.Spent way told = told
ends_run G rules plan start past first lines states (ends.Lied from to at put got) way (held, is) = record {
  left_off = held.left_off;
  from_member = held.from_member;
  to_member = held.to_member;
  told = told_lie G (received_since rules plan start past from to) (listed (next_frame rules plan past from to)) (line_at plan.members first from to) (line_at plan.members lines from to) _
      (subst (HasCome G (received_since rules plan start past from to) (listed (next_frame rules plan past from to)) (line_at plan.members first from to) (line_at plan.members lines from to)) is
      (way.each from to held.from_member held.to_member));
  held_up = held_wider (IsLeftOut plan states) (IsAside G rules plan start past first lines) rules plan past (is_aside G rules plan start past first lines states way) held.held_up;
}
ends_run G rules plan start past first lines states (ends.Down from to) way (held, down, honest) = record {
  left_off = held.left_off;
  from_member = held.from_member;
  to_member = held.to_member;
  is_down = is_down G rules plan start past first lines states way from to held.from_member held.to_member down;
  held_up = held_wider (IsDownLink plan states) (IsDown G plan first lines) rules plan past (is_down G rules plan start past first lines states way) held.held_up;
  honest = λ i j f t.
      line_honest G (received_since rules plan start past i j) (listed (next_frame rules plan past i j)) (line_at plan.members first i j) (line_at plan.members lines i j) (state_at plan.members states i j)
      (way.each i j f t) (honest i j f t);
}
ends_run G rules plan start past first lines states ends.NoMemory way told = tt

-- a call that goes on from a start
pub full_since : {L : Type 0} (G : Ghosts L) (rules : Rules) (plan : Planned) (start old new : Events) (first lines : List (Option L)) (states : List LineState) → AreOnTheWay G rules plan start new first lines states
    → GoesOnFullAtRestBut (λ _ _. ⊥) rules plan start old → GoesOnFullAtRestBut (IsLeftOut plan states) rules plan old new → GoesOnFullAtRestBut (IsAside G rules plan start new first lines) rules plan start new
full_since G rules plan start old new first lines states way before after =
    full_trans (IsAside G rules plan start new first lines) rules plan start old new
    (full_wider (λ _ _. ⊥) (IsAside G rules plan start new first lines) rules plan start old (λ from to f t h. absurd h) before)
    (full_wider (IsLeftOut plan states) (IsAside G rules plan start new first lines) rules plan old new (is_aside G rules plan start new first lines states way) after)

-- By the states of the lines -----------------------------------------------------------------------------------------

aside_down : (state : LineState) → IsSetAside state → (IsLyingState state → ⊥) → IsDownState state
aside_down Missing aside honest = tt
aside_down (Serving count) aside honest = absurd aside
aside_down Down aside honest = tt
aside_down (Lied lie) aside honest = absurd (honest tt)
aside_down Stopped aside honest = absurd aside

-- where no state is that of a line that lied, no link's is
pub none_lied : (plan : Planned) (states : List LineState) → ((place : ℕ) → place < length states → IsLyingState (get_or states place Missing) → ⊥) → length states ≡ plan.members * plan.members → NoneLied plan states
none_lied plan states honest places from to f t = honest (from * plan.members + to) (let w = place_within plan.members from to f t in omega arith)

-- where no line lied, those that are set aside are down
pub held_down : (rules : Rules) (plan : Planned) (past : Events) (states : List LineState) → ((place : ℕ) → place < length states → IsLyingState (get_or states place Missing) → ⊥) → length states ≡ plan.members * plan.members
    → IsHeldUp (IsLeftOut plan states) rules plan past → IsHeldUp (IsDownLink plan states) rules plan past
held_down rules plan past states honest places held =
    held_wider (IsLeftOut plan states) (IsDownLink plan states) rules plan past
    (λ from to f t aside. aside_down (state_at plan.members states from to) aside (none_lied plan states honest places from to f t)) held

-- a run that is held up only where nothing can be received is settled
pub held_settled : (rules : Rules) (plan : Planned) (past : Events) (states : List LineState)
    → ((from to : ℕ) → from < plan.members → to < plan.members → IsDownLink plan states from to → open_frame rules plan past from to ≡ None)
    → IsHeldUp (IsDownLink plan states) rules plan past → IsSettled rules plan past
held_settled rules plan past states none held = record {
  calls = held.calls;
  receipts = λ from to r.
      let shut : next_frame rules plan past from to ≡ None = sym (receipt_open rules plan past from to r) ∙ none from to r.from_member r.to_member (held.rest.receipts from to r) in
      let some : IsSome {T = Frame} None = subst (IsSome {T = Frame}) shut r.frame in
      cc;
  releases = held.rest.releases;
}

-- the lines that are down so far have no frame to be received
pub down_more : (rules : Rules) (plan : Planned) (past : Events) (n : ℕ) (states : List LineState) (place i j : ℕ) → LinkStands n i j place
    → (IsDownState (get_or states place Missing) → open_frame rules plan past i j ≡ None)
    → ((k from to : ℕ) → k < place → LinkStands n from to k → IsDownState (get_or states k Missing) → open_frame rules plan past from to ≡ None)
    → (k from to : ℕ) → k < place + 1 → LinkStands n from to k → IsDownState (get_or states k Missing) → open_frame rules plan past from to ≡ None
down_more rules plan past n states place i j s here before k from to lt t down = elim (cases_lt k place) [
  | inl less ↦ before k from to less t down
  | inr ge ↦
      let is : k ≡ place = omega arith in
      let e = same_link n from to i j place (subst (LinkStands n from to) is t) s in
      subst (λ m. open_frame rules plan past m to ≡ None) e.0 (subst (λ m. open_frame rules plan past i m ≡ None) e.1 (here (subst (λ m. IsDownState (get_or states m Missing)) is down)))
]
