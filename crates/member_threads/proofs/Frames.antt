-- What places bring: all new places bring what was received since the start.
use Rattle.std.proofs.Common.{◌≡◌, ℕ, zero, suc, ◌-◌, ◌+◌, List, [], ◌∷◌, ◌++◌, length, take, refl, sym, ap, ◌∙◌, arith, append_assoc, length-append, Some}
use Rattle.std.specs.Prelude.{reverse, slice_get}
use Rattle.std.proofs.lemmas.List.{append-nil, length-reverse, reverse-append, reverse-reverse}
use Rattle.std.proofs.Math.Seq.{take-append_seam}
use Rattle.fifo_net.proofs.Lists.{flat_map_push}
use Rattle.upd_base.specs.Plan.{Planned}
use Rattle.upd_base.specs.declared.event.Event.{Event}
use Rattle.group_run.specs.Group.{Rules}
use Rattle.group_run.specs.Run.{Events}
use Rattle.turn_lock.specs.Lists.{IsPrefix}
use Rattle.turn_lock.specs.Places.{new_places, places_from}
use Rattle.line_rules.specs.Received.{received, taken_by}
use Rattle.member_threads.specs.Brought.{taken_where, frame_at, brought}

get_seam : {A : Type 0} (xs ys : List A) (x : A) → slice_get (xs ++ x ∷ ys) (length xs) ≡ Some x
get_seam [] ys x = refl
get_seam (z ∷ xs) ys x = get_seam xs ys x

-- the event behind these
pub event_seam : {A : Type 0} (before events : List A) (e : A) → IsPrefix (before ++ e ∷ []) events → slice_get events (length before) ≡ Some e
event_seam before events e p = ap (λ z. slice_get z (length before)) (p.1 ∙ append_assoc before (e ∷ []) p.0) ∙ get_seam before p.0 e

pub before_seam : {A : Type 0} (before events : List A) (e : A) → IsPrefix (before ++ e ∷ []) events → take (length before) events ≡ before
before_seam before events e p = ap (take (length before)) (p.1 ∙ append_assoc before (e ∷ []) p.0) ∙ take-append_seam before (e ∷ p.0)

module _ (rules : Rules) (plan : Planned) (from to : ℕ) where
  -- the newest event's place brings what that event took
  pub frame_new : (before events : List Event) (e : Event) → IsPrefix (before ++ e ∷ []) events → frame_at rules plan events from to (length before) ≡ taken_by rules plan (reverse before) e from to
  frame_new before events e p =
      ap (λ z. taken_where rules plan (reverse z) (slice_get events (length before)) from to) (before_seam before events e p)
      ∙ ap (λ z. taken_where rules plan (reverse before) z from to) (event_seam before events e p)

  pub brought_push : (events : List Event) (own : List ℕ) (p : ℕ) → brought rules plan events (own ++ p ∷ []) from to ≡ brought rules plan events own from to ++ frame_at rules plan events from to p
  brought_push events own p = flat_map_push (frame_at rules plan events from to) own p

  places_last : (low n : ℕ) → places_from low (suc n) ≡ places_from low n ++ (low + n) ∷ []
  places_last low zero = let e : low ≡ low + 0 = omega arith in ap (λ z. z ∷ []) e
  places_last low (suc n) = let e : suc low + n ≡ low + suc n = omega arith in ap (λ z. low ∷ z) (places_last (suc low) n ∙ ap (λ z. places_from (suc low) n ++ z ∷ []) e)

  -- the places of the newer events bring what these received
  brought_places : (opening : List Event) (newer : Events) (events : List Event) → IsPrefix (opening ++ reverse newer) events
      → brought rules plan events (places_from (length opening) (length newer)) from to ≡ received rules plan (reverse opening) newer from to
  brought_places opening [] events p = refl
  brought_places opening (e ∷ newer) events p =
      let before : List Event = opening ++ reverse newer in
      let whole : opening ++ reverse (e ∷ newer) ≡ before ++ e ∷ [] = ap (λ z. opening ++ z) (reverse-append (e ∷ []) newer) ∙ sym (append_assoc opening (reverse newer) (e ∷ [])) in
      let p' : IsPrefix (before ++ e ∷ []) events = (p.0, p.1 ∙ ap (λ z. z ++ p.0) whole) in
      let shorter : IsPrefix before events = (e ∷ p.0, p'.1 ∙ append_assoc before (e ∷ []) p.0) in
      let back : reverse before ≡ newer ++ reverse opening = reverse-append opening (reverse newer) ∙ ap (λ z. z ++ reverse opening) (reverse-reverse newer) in
      let at : length opening + length newer ≡ length before = let a = length-append opening (reverse newer) in let b = length-reverse newer in omega arith in
      ap (λ z. brought rules plan events z from to) (places_last (length opening) (length newer))
      ∙ (brought_push events (places_from (length opening) (length newer)) (length opening + length newer)
      ∙ (ap (λ z. z ++ frame_at rules plan events from to (length opening + length newer)) (brought_places opening newer events shorter)
      ∙ ap (λ z. received rules plan (reverse opening) newer from to ++ z) (ap (frame_at rules plan events from to) at ∙ (frame_new before events e p' ∙ ap (λ z. taken_by rules plan z e from to) back))))

  -- (d) all new places bring what was received since the start
  pub brought_all : (opening closed : List Event) (newer : Events) → reverse closed ≡ newer ++ reverse opening → brought rules plan closed (new_places opening closed) from to ≡ received rules plan (reverse opening) newer from to
  brought_all opening closed newer e =
      let whole : closed ≡ opening ++ reverse newer = sym (reverse-reverse closed) ∙ (ap reverse e ∙ (reverse-append newer (reverse opening) ∙ ap (λ z. z ++ reverse newer) (reverse-reverse opening))) in
      let n : length closed - length opening ≡ length newer = let l = ap length whole in let a = length-append opening (reverse newer) in let b = length-reverse newer in omega arith in
      ap (λ z. brought rules plan closed (places_from (length opening) z) from to) n
      ∙ brought_places opening newer closed ([], sym (append-nil (opening ++ reverse newer) ∙ sym whole))
