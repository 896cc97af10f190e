-- The moves of a group are a run of its network of frames; and what was sent on a link is what was processed, what is
-- held and what was not received.
use Rattle.std.proofs.Common.{ℕ, ◌≡◌, List, [], ◌∷◌, ◌++◌, length, refl, sym, ◌∙◌, ap, Option, Some, None, append_assoc}
use Rattle.std.specs.Prelude.{slice_get}
use Rattle.fifo_net.specs.Net.{Took, IsRun, MayCome, inputs_of, taken_on, sent_on}
use Rattle.fifo_net.proofs.Links.{taken_on-begins}
use Rattle.upd_base.specs.Plan.{Planned, planned}
use Rattle.upd_base.specs.declared.frame.Frame.{Frame}
use Rattle.upd_base.specs.declared.call.Step.{Step as PlannedStep}
use Rattle.upd_base.specs.declared.event.Event.TheVariants.{Call as CallEvent, Receive, Release}
use Rattle.group_run.specs.Group.{Group}
use Rattle.group_run.specs.Turn.{member_sends}
use Rattle.group_run.specs.Run.{Events, Moves, moves, call_made, frame_taken, next_on, turn_at}
use Rattle.group_run.specs.Link.{bodies_of, held_from, processed_from}
use Rattle.group_links.proofs.Taken.{bodies_of-append, in_order}

first_left : {B : Type 0} (xs ys : List B) (b : B) → slice_get (xs ++ ys) (length xs) ≡ Some b → (zs : List B) × (ys ≡ b ∷ zs)
first_left [] [] b e = absurd (let p : None ≡ Some b = e in cc)
first_left [] (y ∷ ys) b e = let p : Some y ≡ Some b = e in let q : y ≡ b = cc in (ys, ap (λ c. c ∷ ys) q)
first_left (x ∷ xs) ys b e = first_left xs ys b e

-- the frame that is next may be taken
next_may : (g : Group) (ms : Moves) → IsRun (member_sends g) ms → (from to : ℕ) (frame : Frame) → next_on g ms from to ≡ Some frame → MayCome (member_sends g) ms to (Took from frame)
next_may g ms run from to frame e =
    let b = taken_on-begins (member_sends g) ms run from to in
    let took : List Frame = taken_on from to ms in
    let k = first_left took b.0 frame (sym (ap (λ xs. slice_get xs (length took)) b.1) ∙ e) in
    (k.0, b.1 ∙ ap (λ ys. took ++ ys) k.1 ∙ sym (append_assoc took (frame ∷ []) k.0))

run_called : (g : Group) (at : ℕ) (o : Option PlannedStep) (ms : Moves) → IsRun (member_sends g) ms → IsRun (member_sends g) (call_made at o ms)
run_called g at None ms r = r
run_called g at (Some s) ms r = (tt, r)

run_taken : (g : Group) (from to : ℕ) (o : Option Frame) (ms : Moves) → next_on g ms from to ≡ o → IsRun (member_sends g) ms → IsRun (member_sends g) (frame_taken from to o ms)
run_taken g from to None ms e r = r
run_taken g from to (Some frame) ms e r = (next_may g ms r from to frame e, r)

-- For every list of events.
pub moves_run : (g : Group) (plan : Planned) (past : Events) → IsRun (member_sends g) (moves g plan past)
moves_run g plan [] = tt
moves_run g plan (CallEvent thread index member given ∷ past) = run_called g member (planned plan thread index) (moves g plan past) (moves_run g plan past)
moves_run g plan (Receive from to ∷ past) = run_taken g from to (next_on g (moves g plan past) from to) (moves g plan past) refl (moves_run g plan past)
moves_run g plan (Release at ∷ past) = (tt, moves_run g plan past)

-- what was sent of a version: processed, held, and not yet received
pub link_parts : (g : Group) (ms : Moves) → IsRun (member_sends g) ms → (from to v : ℕ) → (unread : List Frame)
    × (sent_on (member_sends g) from to ms ≡ taken_on from to ms ++ unread)
    × (bodies_of v (sent_on (member_sends g) from to ms) ≡ (processed_from from v (turn_at g ms to).part ++ held_from from v (turn_at g ms to).part.held) ++ bodies_of v unread)
link_parts g ms run from to v =
    let b = taken_on-begins (member_sends g) ms run from to in (
      b.0,
      b.1,
      ap (bodies_of v) b.1 ∙ bodies_of-append v (taken_on from to ms) b.0 ∙ ap (λ xs. xs ++ bodies_of v b.0) (in_order g to (inputs_of to ms) from v),
    )
