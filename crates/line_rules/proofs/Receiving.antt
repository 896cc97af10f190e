-- What one event more does to what was received on a link, to the frame that is next there, and to what came over its line.
use Rattle.std.proofs.Common.{ℕ, zero, suc, ◌≡◌, inl, inr, ◌≤◌, ◌-◌, ◌&&◌, ◌==◌, List, [], ◌∷◌, ◌++◌, length, refl, sym, ◌∙◌, ap, subst, arith, Option, Some, None, append_assoc, append-nil, take, length-append}
use Rattle.std.specs.Prelude.{slice_get}
use Rattle.std.proofs.Math.Seq.{take-append_seam}
use Rattle.fifo_net.specs.Net.{Called, Took, Step, IsPrefix, inputs_of, taken, taken_on, sent_on}
use Rattle.fifo_net.proofs.Links.{IsPrefix-self, IsPrefix-trans, inputs_here, inputs_away, taken_away, sent_on-grows}
use Rattle.upd_base.specs.Plan.{Planned, planned}
use Rattle.upd_base.specs.declared.frame.Frame.{Frame}
use Rattle.upd_base.specs.declared.call.Step.{Step as PlannedStep}
use Rattle.upd_base.specs.declared.event.Event.{Event}
use Rattle.upd_base.specs.declared.event.Event.TheVariants.{Call as CallEvent, Receive, Release}
use Rattle.group_run.specs.Group.{Rules, Group, Outer}
use Rattle.group_run.specs.Turn.{member_sends}
use Rattle.group_run.specs.Run.{Events, Moves, call_made, frame_taken, group, moves_in, next_frame, next_on}
use Rattle.group_run.proofs.Lists.{tested, eqb_self, eqb_other, same_or}
use Rattle.upd_lines.specs.Line.{Told}
use Rattle.upd_lines.specs.declared.line.Line.{Ghosts}
use Rattle.line_rules.specs.Received.{GoesOn, bytes_of, listed, newer_than, received, received_since, taken_by}
use Rattle.line_rules.specs.LineState.{HasCome, IsAt, IsLie}
use Rattle.line_rules.specs.declared.line_state.LineState.{LineState}
use Rattle.line_rules.specs.declared.line_state.LineState.TheVariants.{Missing, Serving, Down, Lied, Stopped}

-- The next frame ---------------------------------------------------------------------------------------------

pub get_front : {A : Type 0} (xs ys : List A) (i : ℕ) (x : A) → slice_get xs i ≡ Some x → slice_get (xs ++ ys) i ≡ Some x
get_front [] ys i x e = absurd (let q : None ≡ Some x = e in cc)
get_front (y ∷ xs) ys zero x e = e
get_front (y ∷ xs) ys (suc i) x e = get_front xs ys i x e

-- a step that takes nothing from the link leaves the frame that is next there
next_step : (g : Group) (ms : Moves) (s : Step Outer Frame) (from to : ℕ) (frame : Frame) → taken_on from to (s ∷ ms) ≡ taken_on from to ms → next_on g ms from to ≡ Some frame → next_on g (s ∷ ms) from to ≡ Some frame
next_step g ms s from to frame same e =
    let sent : List Frame = sent_on (member_sends g) from to ms in
    let grows = sent_on-grows (member_sends g) from to s ms in
    ap (λ xs. slice_get xs (length (taken_on from to (s ∷ ms)))) grows.1
    ∙ ap (λ xs. slice_get (sent ++ grows.0) (length xs)) same
    ∙ get_front sent grows.0 (length (taken_on from to ms)) frame e

called_takes_none : (ms : Moves) (at : ℕ) (call : Outer) (from to : ℕ) → taken_on from to (record { at = at; input = Called call } ∷ ms) ≡ taken_on from to ms
called_takes_none ms at call from to = elim (same_or at to) [
  | inl e ↦ ap (taken from) (inputs_here to (record { at = at; input = Called call }) ms e)
  | inr ne ↦ ap (taken from) (inputs_away to (record { at = at; input = Called call }) ms ne)
]

took_elsewhere : (ms : Moves) (i j : ℕ) (frame : Frame) (from to : ℕ) → ((i ≡ from) → (j ≡ to) → ⊥) → taken_on from to (record { at = j; input = Took i frame } ∷ ms) ≡ taken_on from to ms
took_elsewhere ms i j frame from to other = elim (same_or j to) [
  | inl e ↦ ap (taken from) (inputs_here to (record { at = j; input = Took i frame }) ms e) ∙ taken_away from i frame (inputs_of to ms) (λ p. other p e)
  | inr ne ↦ ap (taken from) (inputs_away to (record { at = j; input = Took i frame }) ms ne)
]

stays_called : (g : Group) (ms : Moves) (at : ℕ) (o : Option PlannedStep) (from to : ℕ) (frame : Frame) → next_on g ms from to ≡ Some frame → next_on g (call_made at o ms) from to ≡ Some frame
stays_called g ms at None from to frame e = e
stays_called g ms at (Some s) from to frame e = next_step g ms _ from to frame (called_takes_none ms at _ from to) e

stays_taken : (g : Group) (ms : Moves) (i j : ℕ) (o : Option Frame) (from to : ℕ) (frame : Frame) → ((i ≡ from) → (j ≡ to) → ⊥) → next_on g ms from to ≡ Some frame → next_on g (frame_taken i j o ms) from to ≡ Some frame
stays_taken g ms i j None from to frame other e = e
stays_taken g ms i j (Some taken_there) from to frame other e = next_step g ms _ from to frame (took_elsewhere ms i j taken_there from to other) e

-- An event that is no receipt on the link leaves the frame that is next there.
pub next_stays : (rules : Rules) (plan : Planned) (past : Events) (event : Event) (from to : ℕ) (frame : Frame) → (event ≡ Receive from to → ⊥) → next_frame rules plan past from to ≡ Some frame → next_frame rules plan (event ∷ past) from to ≡ Some frame
next_stays rules plan past (CallEvent thread index member given) from to frame other e = stays_called (group rules plan) (moves_in rules plan past) member (planned plan thread index) from to frame e
next_stays rules plan past (Receive i j) from to frame other e =
    stays_taken (group rules plan) (moves_in rules plan past) i j (next_frame rules plan past i j) from to frame (λ p q. other (ap (λ k. Receive k j) p ∙ ap (λ k. Receive from k) q)) e
next_stays rules plan past (Release at) from to frame other e = next_step (group rules plan) (moves_in rules plan past) _ from to frame (called_takes_none (moves_in rules plan past) at _ from to) e

-- Frames received --------------------------------------------------------------------------------------------

pub newer_is : (start past newer : Events) → past ≡ newer ++ start → newer_than start past ≡ newer
newer_is start past newer e =
    let n : length past - length start ≡ length newer = (let l = ap length e in let m = length-append newer start in omega arith) in
    ap (λ k. take k past) n ∙ ap (take (length newer)) e ∙ take-append_seam newer start

-- one event more adds the frame that it took
pub received_step : (rules : Rules) (plan : Planned) (start past : Events) (event : Event) (from to : ℕ) → GoesOn start past →
    received_since rules plan start (event ∷ past) from to ≡ received_since rules plan start past from to ++ taken_by rules plan past event from to
received_step rules plan start past event from to (newer, e) =
    ap (λ n. received rules plan start n from to) (newer_is start (event ∷ past) (event ∷ newer) (ap (λ p. event ∷ p) e))
    ∙ ap (λ p. received rules plan start newer from to ++ taken_by rules plan p event from to) (sym e)
    ∙ ap (λ n. received rules plan start n from to ++ taken_by rules plan past event from to) (sym (newer_is start past newer e))

-- at the start nothing was received
pub received_none : (rules : Rules) (plan : Planned) (start : Events) (from to : ℕ) → received_since rules plan start start from to ≡ []
received_none rules plan start from to = ap (λ n. received rules plan start n from to) (newer_is start start [] refl)

pub taken_elsewhere : (rules : Rules) (plan : Planned) (past : Events) (event : Event) (from to : ℕ) → (event ≡ Receive from to → ⊥) → taken_by rules plan past event from to ≡ []
taken_elsewhere rules plan past (CallEvent thread index member given) from to other = refl
taken_elsewhere rules plan past (Receive i j) from to other = elim (same_or i from) [
  | inr ne ↦ rw (eqb_other i from ne) refl
  | inl p ↦ elim (same_or j to) [
    | inr ne ↦ elim (tested (i == from)) [ inl e ↦ rw (e, eqb_other j to ne) refl | inr e ↦ rw e refl ]
    | inl q ↦ absurd (other (ap (λ k. Receive k j) p ∙ ap (λ k. Receive from k) q))
  ]
]
taken_elsewhere rules plan past (Release at) from to other = refl

pub taken_there : (rules : Rules) (plan : Planned) (past : Events) (from to : ℕ) → taken_by rules plan past (Receive from to) from to ≡ listed (next_frame rules plan past from to)
taken_there rules plan past from to = rw (eqb_self from, eqb_self to) refl

-- an event elsewhere adds none
pub received_elsewhere : (rules : Rules) (plan : Planned) (start past : Events) (event : Event) (from to : ℕ) → (event ≡ Receive from to → ⊥) → GoesOn start past →
    received_since rules plan start (event ∷ past) from to ≡ received_since rules plan start past from to
received_elsewhere rules plan start past event from to other on =
    received_step rules plan start past event from to on ∙ ap (λ fs. received_since rules plan start past from to ++ fs) (taken_elsewhere rules plan past event from to other) ∙ append-nil _

-- a receipt adds the frame that was next
pub received_there : (rules : Rules) (plan : Planned) (start past : Events) (from to : ℕ) (frame : Frame) → GoesOn start past → next_frame rules plan past from to ≡ Some frame →
    received_since rules plan start (Receive from to ∷ past) from to ≡ received_since rules plan start past from to ++ frame ∷ []
received_there rules plan start past from to frame on e =
    received_step rules plan start past (Receive from to) from to on
    ∙ ap (λ fs. received_since rules plan start past from to ++ fs) (taken_there rules plan past from to ∙ ap listed e)

listed-few : (o : Option Frame) → length (listed o) ≤ 1
listed-few None = omega arith
listed-few (Some frame) = omega arith

taken-few : (rules : Rules) (plan : Planned) (past : Events) (event : Event) (from to : ℕ) → length (taken_by rules plan past event from to) ≤ 1
taken-few rules plan past (CallEvent thread index member given) from to = omega arith
taken-few rules plan past (Receive i j) from to = elim (tested ((i == from) && (j == to))) [
  | inl e ↦ rw e (listed-few (next_frame rules plan past from to))
  | inr e ↦ rw e (let z : 0 ≤ 1 = omega arith in z)
]
taken-few rules plan past (Release at) from to = omega arith

pub received-few : (rules : Rules) (plan : Planned) (start newer : Events) (from to : ℕ) → length (received rules plan start newer from to) ≤ length newer
received-few rules plan start [] from to = omega arith
received-few rules plan start (event ∷ newer) from to =
    let rest = received-few rules plan start newer from to in
    let one = taken-few rules plan (newer ++ start) event from to in
    let sum = length-append (received rules plan start newer from to) (taken_by rules plan (newer ++ start) event from to) in
    omega arith

-- What came over a line --------------------------------------------------------------------------------------

pub prefix_more : {A : Type 0} (xs ys zs : List A) → IsPrefix ys zs → IsPrefix (xs ++ ys) (xs ++ zs)
prefix_more xs ys zs (rest, e) = (rest, ap (λ l. xs ++ l) e ∙ sym (append_assoc xs ys rest))

get_prefix : {A : Type 0} (xs ys : List A) (i : ℕ) (x : A) → IsPrefix xs ys → slice_get xs i ≡ Some x → slice_get ys i ≡ Some x
get_prefix xs ys i x (rest, e) got = ap (λ l. slice_get l i) e ∙ get_front xs rest i x got

lie_more : (carried next other : List ℕ) (old new : Told) (lie : _) → IsPrefix next other → IsLie carried next old new lie → IsLie carried other old new lie
lie_more carried next other old new lie more l = record {
  differs = l.differs;
  put_there = get_prefix (carried ++ next) (carried ++ other) _ _ (prefix_more carried next other more) l.put_there;
  behind = l.behind;
  given = l.given;
  not_faithful = l.not_faithful;
  got_there = l.got_there;
}

-- where more bytes are to come, the same has come
pub at_more : (frames next other : List Frame) (old new : Told) (before now : ℕ) (state : LineState) → IsPrefix (bytes_of next) (bytes_of other) → IsAt frames next old new before now state → IsAt frames other old new before now state
at_more frames next other old new before now Missing more at = at
at_more frames next other old new before now (Serving count) more at = at
at_more frames next other old new before now Down more (rose, (part, front, gave)) = (rose, (part, IsPrefix-trans part (bytes_of next) (bytes_of other) front more, gave))
at_more frames next other old new before now (Lied lie) more (told, (part, front, gave)) = (lie_more (bytes_of frames) (bytes_of next) (bytes_of other) old new lie more told, (part, IsPrefix-trans part (bytes_of next) (bytes_of other) front more, gave))
at_more frames next other old new before now Stopped more (part, front, gave) = (part, IsPrefix-trans part (bytes_of next) (bytes_of other) front more, gave)

pub come_more : {L : Type 0} (G : Ghosts L) (frames next other : List Frame) (old new : Option L) (state : LineState) → IsPrefix (bytes_of next) (bytes_of other) → HasCome G frames next old new state → HasCome G frames other old new state
come_more G frames next other None None Missing more come = come
come_more G frames next other None None (Serving count) more come = come
come_more G frames next other None None Down more come = come
come_more G frames next other None None (Lied lie) more come = come
come_more G frames next other None None Stopped more come = come
come_more G frames next other None (Some line) state more come = come
come_more G frames next other (Some line) None state more come = come
come_more G frames next other (Some old) (Some new) state more (at, later) = (at_more frames next other (G.told old) (G.told new) (G.faults old) (G.faults new) state more at, later)

next_more : (a b : Option Frame) → ((frame : Frame) → a ≡ Some frame → b ≡ Some frame) → IsPrefix (bytes_of (listed a)) (bytes_of (listed b))
next_more None b stays = (bytes_of (listed b), refl)
next_more (Some frame) b stays = subst (λ o. IsPrefix (bytes_of (listed (Some frame))) (bytes_of (listed o))) (sym (stays frame refl)) (IsPrefix-self (bytes_of (listed (Some frame))))

-- An event elsewhere leaves what came over the line of a link.
pub came_elsewhere : {L : Type 0} (G : Ghosts L) (rules : Rules) (plan : Planned) (start past : Events) (event : Event) (from to : ℕ) (old new : Option L) (state : LineState) → (event ≡ Receive from to → ⊥) → GoesOn start past →
    HasCome G (received_since rules plan start past from to) (listed (next_frame rules plan past from to)) old new state →
    HasCome G (received_since rules plan start (event ∷ past) from to) (listed (next_frame rules plan (event ∷ past) from to)) old new state
came_elsewhere G rules plan start past event from to old new state other on come =
    subst (λ fs. HasCome G fs (listed (next_frame rules plan (event ∷ past) from to)) old new state) (sym (received_elsewhere rules plan start past event from to other on))
    (come_more G (received_since rules plan start past from to) (listed (next_frame rules plan past from to)) (listed (next_frame rules plan (event ∷ past) from to)) old new state
    (next_more (next_frame rules plan past from to) (next_frame rules plan (event ∷ past) from to) (λ frame e. next_stays rules plan past event from to frame other e)) come)
