-- What the workers leave, where the journal has just the events that they made.
use Rattle.std.proofs.Common.{◌≡◌, ℕ, zero, suc, ◌-◌, ◌+◌, ◌*◌, ◌<◌, ◌≤◌, ◌⊎◌, inl, inr, Bool, true, false, List, [], ◌∷◌, ◌++◌, length, refl, sym, ap, ◌∙◌, subst, append_assoc, length-append, arith, Option, Some, None, lt_of_not-le}
use native.Mathlib.Decide.{dec_le}
use Rattle.std.specs.Prelude.{All, reverse}
use Rattle.std.proofs.lemmas.List.Elements.{All-head, All-tail}
use Rattle.std.proofs.lemmas.List.{append-nil, length-reverse, reverse-append, reverse-reverse}
use Rattle.upd_base.specs.Plan.{Planned, bound}
use Rattle.upd_base.specs.declared.frame.Frame.{Frame}
use Rattle.upd_base.specs.declared.event.Event.{Event}
use Rattle.upd_base.specs.declared.event.Event.TheVariants.{Call as CallEvent, Receive, Release}
use Rattle.upd_base.specs.declared.answer.Answer.TheVariants.{Accepted, Done, Full, Crashed, VersionLimit, BadKind, BadMember}
use Rattle.group_run.specs.Group.{Rules}
use Rattle.group_run.specs.Run.{Events, crashed_in, next_frame}
use Rattle.run_journal.specs.Causes.{ReceiveCause}
use Rattle.run_journal.specs.declared.faults.ReceiveFault.{ReceiveFault}
use Rattle.run_journal.specs.declared.faults.ReceiveFault.TheVariants as receipts
use Rattle.turn_lock.specs.Lists.{IsPrefix}
use Rattle.turn_lock.specs.Places.{places_from, new_places}
use Rattle.turn_lock.proofs.Lists.{IsPrefix-trans, IsPrefix-length}
use Rattle.upd_lines.specs.declared.line.Line.{Ghosts}
use Rattle.line_rules.specs.Received.{GoesOn, listed, received, received_since, taken_by}
use Rattle.line_rules.specs.Lines.{AreOnTheWay, AreReady, IsReadyAt, line_at, state_at}
use Rattle.line_rules.specs.Rest.{FullAtRestBut, FullOnlyAtRestBut, GoesOnFullAtRestBut}
use Rattle.line_rules.specs.LineState.{HasCome}
use Rattle.line_rules.specs.declared.line_state.LineState.{LineState}
use Rattle.line_rules.specs.declared.line_state.LineState.TheVariants.{Missing, Serving, Down, Lied, Stopped}
use Rattle.line_rules.specs.declared.line_state.TheConstants.{MAX_FRAME}
use Rattle.line_rules.proofs.Receiving.{newer_is, next_stays, taken_there}
use Rattle.member_threads.specs.Brought.{brought, frame_at}
use Rattle.member_threads.specs.Knows.{KeepsTo, Knows}
use Rattle.member_threads.specs.Worked.{Awaits, IsRefused, Rests, Worked, AreWorked}
use Rattle.member_threads.proofs.Frames.{brought_all, event_seam, frame_new}
use Rattle.group_lines.proofs.Crashes.{crash_stays}

All-places : (P : ℕ → Type 0) (low n : ℕ) → All P (places_from low n) → (p : ℕ) → low ≤ p → p < low + n → P p
All-places P low zero h p le l = absurd (omega arith)
All-places P low (suc n) h p le l = by (dec_le (suc low) p) (λ above. All-places P (suc low) n (All-tail P low (places_from (suc low) n) h) p above (omega arith))
  where
    by : Dec (suc low ≤ p) → (suc low ≤ p → P p) → P p
    by (yes d) rest = rest d
    by (no d) rest = let e : low ≡ p = (let q = lt_of_not-le d in omega arith) in subst P e (All-head P low (places_from (suc low) n) h)

-- a beginning leaves the newer events
goes_on : (start all : List Event) (p : IsPrefix start all) → reverse all ≡ reverse p.0 ++ reverse start
goes_on start all p = ap reverse p.1 ∙ reverse-append start p.0

module _ (rules : Rules) (plan : Planned) where
  -- a fact of each newer event, by its place
  each_newer : (P : Events → Type 0) (found events : List Event) → P []
      → ((newer : Events) (e : Event) → IsPrefix ((found ++ reverse newer) ++ e ∷ []) events → P newer → P (e ∷ newer)) → (newer : Events) → IsPrefix (found ++ reverse newer) events → P newer
  each_newer P found events start step [] p = start
  each_newer P found events start step (e ∷ newer) p =
      let whole : found ++ reverse (e ∷ newer) ≡ (found ++ reverse newer) ++ e ∷ [] = ap (λ z. found ++ z) (reverse-append (e ∷ []) newer) ∙ sym (append_assoc found (reverse newer) (e ∷ [])) in
      let p' : IsPrefix ((found ++ reverse newer) ++ e ∷ []) events = (p.0, p.1 ∙ ap (λ z. z ++ p.0) whole) in
      let shorter : IsPrefix (found ++ reverse newer) events = (e ∷ p.0, p'.1 ∙ append_assoc (found ++ reverse newer) (e ∷ []) p.0) in
      step newer e p' (each_newer P found events start step newer shorter)

  back_is : (found : List Event) (newer : Events) → reverse (found ++ reverse newer) ≡ newer ++ reverse found
  back_is found newer = reverse-append found (reverse newer) ∙ ap (λ z. z ++ reverse found) (reverse-reverse newer)

  within : (before events : List Event) (e : Event) → IsPrefix (before ++ e ∷ []) events → length before < length events
  within before events e p = let l = IsPrefix-length (before ++ e ∷ []) events p in let a = length-append before (e ∷ []) in omega arith

  -- a frame that is next stays so where nothing is taken from the link
  next_stays_in : (found later events : List Event) (from to : ℕ) (frame : Frame) → IsPrefix found later → IsPrefix later events → ((place : ℕ) → length found ≤ place → place < length events → frame_at rules plan events from to place ≡ [])
      → next_frame rules plan (reverse found) from to ≡ Some frame → next_frame rules plan (reverse later) from to ≡ Some frame
  next_stays_in found later events from to frame p q nothing is_next =
      let rest : reverse (reverse p.0) ≡ p.0 = reverse-reverse p.0 in
      let q' : IsPrefix (found ++ reverse (reverse p.0)) events = (q.0, q.1 ∙ ap (λ z. z ++ q.0) (p.1 ∙ ap (λ z. found ++ z) (sym rest))) in
      let all = each_newer (λ newer. next_frame rules plan (newer ++ reverse found) from to ≡ Some frame) found events is_next
      (λ newer e s was.
      let before : List Event = found ++ reverse newer in
      let le : length found ≤ length before = let a = length-append found (reverse newer) in omega arith in
      let none_taken : taken_by rules plan (newer ++ reverse found) e from to ≡ [] =
      ap (λ z. taken_by rules plan z e from to) (sym (back_is found newer)) ∙ (sym (frame_new rules plan from to before events e s) ∙ nothing (length before) le (within before events e s)) in
      next_stays rules plan (newer ++ reverse found) e from to frame
      (λ same. let one : frame ∷ [] ≡ [] = ap listed (sym was) ∙ (sym (taken_there rules plan (newer ++ reverse found) from to) ∙ (ap (λ z. taken_by rules plan (newer ++ reverse found) z from to) (sym same) ∙ none_taken)) in absurd (cc (one))) was)
      (reverse p.0) q' in
      ap (λ z. next_frame rules plan z from to) (goes_on found later p) ∙ all

  -- no newer event is a call that was answered as full
  not_full_of : (left_out : ℕ → ℕ → Type 0) (past : Events) (e : Event) → ((thread index member : ℕ) → e ≡ CallEvent thread index member Full → ⊥) → FullOnlyAtRestBut left_out rules plan past e
  not_full_of left_out past (CallEvent thread index member (Accepted number)) other = tt
  not_full_of left_out past (CallEvent thread index member Done) other = tt
  not_full_of left_out past (CallEvent thread index member Full) other = absurd (other thread index member refl)
  not_full_of left_out past (CallEvent thread index member Crashed) other = tt
  not_full_of left_out past (CallEvent thread index member VersionLimit) other = tt
  not_full_of left_out past (CallEvent thread index member BadKind) other = tt
  not_full_of left_out past (CallEvent thread index member BadMember) other = tt
  not_full_of left_out past (Receive from to) other = tt
  not_full_of left_out past (Release at) other = tt

module _ (rules : Rules) (plan : Planned) (began seen events : List Event) (own : List ℕ) (opening : IsPrefix began events) (was_seen : IsPrefix seen events) (all_own : own ≡ new_places began events) where
  many : length began + (length events - length began) ≡ length events
  many = let l = IsPrefix-length began events opening in omega arith

  -- what holds of all own places holds of all places past the opening
  at_places : (P : ℕ → Type 0) → All P own → (p : ℕ) → length began ≤ p → p < length events → P p
  at_places P h p le l = let m = many in All-places P (length began) (length events - length began) (subst (All P) all_own h) p le (omega arith)

  pub full_of : Knows rules plan began (λ k. 0 ≤ k) seen own → (left_out : ℕ → ℕ → Type 0) → GoesOnFullAtRestBut left_out rules plan (reverse began) (reverse events)
  full_of knows left_out =
      let rest : reverse (reverse opening.0) ≡ opening.0 = reverse-reverse opening.0 in
      let whole : IsPrefix (began ++ reverse (reverse opening.0)) events = ([], sym (append-nil (began ++ reverse (reverse opening.0)) ∙ (ap (λ z. began ++ z) rest ∙ sym opening.1))) in (
        reverse opening.0,
        goes_on began events opening,
        each_newer rules plan (λ newer. FullAtRestBut left_out rules plan (reverse began) newer) began events tt
            (λ newer e s was.
            let before : List Event = began ++ reverse newer in
            let le : length began ≤ length before = let a = length-append began (reverse newer) in omega arith in
            let k : KeepsTo rules plan (λ k. 0 ≤ k) events (length before) = at_places (KeepsTo rules plan (λ k. 0 ≤ k) events) (knows.keeps events was_seen) (length before) le (within rules plan before events e s) in
            (not_full_of rules plan left_out (newer ++ reverse began) e (λ t i m same. k.not_full t i m (event_seam before events e s ∙ ap Some same)), was)) (reverse opening.0) whole,
      )

  -- the frame that was found is next at the end, and at each moment in between
  next_is : (from to : ℕ) (next : List Frame) (a : Awaits rules plan began seen own from to next) (later : List Event) → IsPrefix a.found later → IsPrefix later events → next_frame rules plan (reverse later) from to ≡ Some a.frame
  next_is from to next a later p q =
      let low : length began ≤ length a.found = IsPrefix-length began a.found a.goes_on in
      next_stays_in rules plan a.found later events from to a.frame p q
      (λ place le l. at_places (λ x. length a.found ≤ x → frame_at rules plan events from to x ≡ []) (a.older events was_seen) place (omega arith) l le) a.is_next

  ends_next : (from to : ℕ) (next : List Frame) → Awaits rules plan began seen own from to next → next ≡ listed (next_frame rules plan (reverse events) from to)
  ends_next from to next a =
      let e = next_is from to next a events (IsPrefix-trans a.found seen events a.was_seen was_seen) ([], sym (append-nil events)) in
      a.one ∙ ap listed (sym e)

  module _ {L : Type 0} (G : Ghosts L) (from to : ℕ) (wanted : Bool) where
    come_at : (frames next other : List Frame) (old new : Option L) (state : LineState) → Rests rules plan began seen own from to wanted next state → ((Awaits rules plan began seen own from to next) → next ≡ other)
        → HasCome G frames next old new state → HasCome G frames other old new state
    come_at frames next other None None Missing rests same come = come
    come_at frames next other None None (Serving count) rests same come = come
    come_at frames next other None None Down rests same come = come
    come_at frames next other None None (Lied lie) rests same come = come
    come_at frames next other None None Stopped rests same come = come
    come_at frames next other None (Some line) state rests same come = come
    come_at frames next other (Some line) None state rests same come = come
    come_at frames next other (Some old) (Some new) Missing rests same come = come
    come_at frames next other (Some old) (Some new) (Serving count) rests same come = come
    come_at frames next other (Some old) (Some new) Down rests same come = subst (λ z. HasCome G frames z (Some old) (Some new) Down) (same rests) come
    come_at frames next other (Some old) (Some new) (Lied lie) rests same come = subst (λ z. HasCome G frames z (Some old) (Some new) (Lied lie)) (same rests) come
    come_at frames next other (Some old) (Some new) Stopped rests same come = subst (λ z. HasCome G frames z (Some old) (Some new) Stopped) (same rests.0) come

    received_is : (frames : List Frame) → brought rules plan events own from to ≡ frames → received_since rules plan (reverse began) (reverse events) from to ≡ frames
    received_is frames took =
        let newer = reverse opening.0 in
        let e = goes_on began events opening in
        ap (λ z. received rules plan (reverse began) z from to) (newer_is (reverse began) (reverse events) newer e)
        ∙ (sym (brought_all rules plan from to began events newer e) ∙ (ap (λ z. brought rules plan events z from to) (sym all_own) ∙ took))

    way_of : (old new : Option L) (state : LineState) → Worked G rules plan began seen own from to wanted old new state
        → HasCome G (received_since rules plan (reverse began) (reverse events) from to) (listed (next_frame rules plan (reverse events) from to)) old new state
    way_of old new state k =
        subst (λ z. HasCome G z (listed (next_frame rules plan (reverse events) from to)) old new state) (sym (received_is k.frames (k.took events was_seen)))
        (come_at k.frames k.next (listed (next_frame rules plan (reverse events) from to)) old new state k.rests (ends_next from to k.next) k.come)

    refused_at : (next : List Frame) (a : Awaits rules plan began seen own from to next) → length (reverse events) ≤ bound plan → wanted ≡ false → IsRefused rules plan a.found seen from to a.frame wanted
        → (length (reverse events) ≡ bound plan) ⊎ (crashed_in rules plan (reverse events) to ≡ true)
    refused_at next a few none_wanted r =
        let up : IsPrefix r.later events = IsPrefix-trans r.later seen events r.was_seen was_seen in
        by r.later (reverse up.0) r.fault r.cause r.memory (next_is from to next a r.later r.goes_on up) (goes_on r.later events up) (IsPrefix-length r.later events up)
      where
        by : (later : List Event) (more : Events) (fault : ReceiveFault) → ReceiveCause rules plan (reverse later) from to a.frame fault → (fault ≡ receipts.NoMemory → wanted ≡ true) → next_frame rules plan (reverse later) from to ≡ Some a.frame
            → reverse events ≡ more ++ reverse later → length later ≤ length events → (length (reverse events) ≡ bound plan) ⊎ (crashed_in rules plan (reverse events) to ≡ true)
        by later more receipts.Crashed cause memory is_next whole le = inr (subst (λ z. crashed_in rules plan z to ≡ true) (sym whole) (crash_stays rules plan (reverse later) more to cause))
        by later more receipts.Nothing cause memory is_next whole le = absurd (cc (cause.1, is_next))
        by later more (receipts.Differs sent given) cause memory is_next whole le = absurd (cause.2 (let e : Some sent ≡ Some a.frame = sym cause.1 ∙ is_next in cc))
        by later more receipts.Spent cause memory is_next whole le = let n = length-reverse later in let m = length-reverse events in let c = cause.2 in inl (omega arith)
        by later more receipts.NoMemory cause memory is_next whole le = absurd (let t : true ≡ false = sym (memory refl) ∙ none_wanted in cc (t))

    ready_of : (old new : Option L) (state : LineState) → length (reverse events) ≤ bound plan → wanted ≡ false → Worked G rules plan began seen own from to wanted old new state → IsReadyAt G rules plan (reverse events) to new state
    ready_of old new state few none_wanted k = by k.frames k.next old new state k.come k.rests
      where
        by : (frames next : List Frame) (old new : Option L) (state : LineState) → HasCome G frames next old new state → Rests rules plan began seen own from to wanted next state → IsReadyAt G rules plan (reverse events) to new state
        by frames next None None Missing come rests = tt
        by frames next None None (Serving count) come rests = absurd come
        by frames next None None Down come rests = absurd come
        by frames next None None (Lied lie) come rests = absurd come
        by frames next None None Stopped come rests = absurd come
        by frames next None (Some line) state come rests = absurd come
        by frames next (Some line) None state come rests = absurd come
        by frames next (Some old) (Some new) Missing come rests = absurd come.0
        by frames next (Some old) (Some new) (Serving count) come rests =
            let le = IsPrefix-length seen events was_seen in
            let n = length-reverse events in
            let up : MAX_FRAME * length seen ≤ MAX_FRAME * length (reverse events) = omega arith in
            (come.0.even, omega (arith, rests.0, up))
        by frames next (Some old) (Some new) Down come rests = tt
        by frames next (Some old) (Some new) (Lied lie) come rests = tt
        by frames next (Some old) (Some new) Stopped come rests = halted rests.1
          where
            halted : (wanted ≡ true) ⊎ IsRefused rules plan rests.0.found seen from to rests.0.frame wanted → (length (reverse events) ≡ bound plan) ⊎ (crashed_in rules plan (reverse events) to ≡ true)
            halted (inl told) = absurd (let t : true ≡ false = sym told ∙ none_wanted in cc (t))
            halted (inr r) = refused_at next rests.0 few none_wanted r

  module _ {L : Type 0} (G : Ghosts L) (wanted : Bool) (old new : List (Option L)) (states : List LineState) (k : AreWorked G rules plan began seen own 0 wanted old new states) (places : length old ≡ plan.members * plan.members) where
    pub on_the_way : AreOnTheWay G rules plan (reverse began) (reverse events) old new states
    on_the_way = record {
      places = places;
      same = k.same;
      stated = k.stated;
      each = λ from to f t. way_of G from to wanted (line_at plan.members old from to) (line_at plan.members new from to) (state_at plan.members states from to) (k.each from to f t (omega arith));
    }

    pub are_ready : length (reverse events) ≤ bound plan → wanted ≡ false → AreReady G rules plan (reverse events) new states
    are_ready few none_wanted = record {
      places = k.same ∙ places;
      stated = k.stated ∙ sym k.same;
      each = λ from to f t. ready_of G from to wanted (line_at plan.members old from to) (line_at plan.members new from to) (state_at plan.members states from to) few none_wanted (k.each from to f t (omega arith));
    }

    pub run_goes_on : GoesOn (reverse began) (reverse events)
    run_goes_on = (reverse opening.0, goes_on began events opening)
