-- How what is known of a line's way stays, and goes on by a frame.
use Rattle.std.proofs.Common.{◌≡◌, ℕ, suc, ◌+◌, ◌*◌, ◌<◌, ◌≤◌, ◌⊎◌, inl, inr, Bool, true, false, List, [], ◌∷◌, ◌++◌, length, refl, sym, ap, ◌∙◌, subst, append_assoc, arith, Option, Some, None, Result, Ok, Err}
use Rattle.std.specs.Prelude.{All, if◌then◌else◌, reverse, IfOk, OnErr, IsTrue}
use Rattle.std.proofs.lemmas.List.Elements.{All-nil, All-cons, All-append}
use Rattle.std.proofs.lemmas.Grind.{flat_map-append}
use Rattle.upd_frame.specs.Spelling.{spelling}
use Rattle.std.proofs.lemmas.List.{append-nil, length-reverse, reverse-reverse}
use Rattle.upd_base.specs.Plan.{Planned, bound, is_plan}
use Rattle.run_journal.proofs.Bounds.{bound-le}
use Rattle.upd_base.specs.declared.frame.Frame.{Frame}
use Rattle.upd_base.specs.declared.event.Event.{Event}
use Rattle.upd_base.specs.declared.event.Event.TheVariants.{Receive, Release}
use Rattle.group_run.specs.Group.{Rules}
use Rattle.group_run.specs.Run.{Events, next_frame, crashed_in}
use Rattle.run_journal.specs.Causes.{ReceiveCause, open_frame}
use Rattle.run_journal.specs.declared.faults.ReceiveFault.{ReceiveFault}
use Rattle.run_journal.specs.declared.faults.ReceiveFault.TheVariants.{NoMemory}
use Rattle.run_journal.specs.declared.faults.ReleaseFault.{ReleaseFault}
use Rattle.turn_lock.specs.Lists.{IsPrefix}
use Rattle.turn_lock.specs.Places.{Ascends, merged}
use Rattle.turn_lock.proofs.Lists.{IsPrefix-self, IsPrefix-trans, IsPrefix-length}
use Rattle.turn_lock.specs.declared.kept.Kept.{Ghosts as KeptGhosts}
use Rattle.turn_lock.specs.declared.pass.Pass.{Pass}
use Rattle.live_group.specs.declared.recorded.Recorded.{Recorded}
use Rattle.live_group.specs.Pass.{events_seen, past_before, places}
use Rattle.live_group.specs.Turns.{MakesOne}
use Rattle.upd_lines.specs.Line.{Told, Carried}
use Rattle.upd_lines.specs.declared.line.Line.{Ghosts}
use Rattle.line_rules.specs.Received.{bytes_of, listed, taken_by}
use Rattle.line_rules.specs.Given.{GaveBytes, GaveExactly, IsEven}
use Rattle.line_rules.specs.LineState.{IsAt, IsServing, IsSetAside}
use Rattle.line_rules.specs.declared.line_state.LineState.{LineState}
use Rattle.line_rules.specs.declared.line_state.LineState.TheVariants.{Missing, Serving, Down, Lied, Stopped}
use Rattle.line_rules.specs.declared.line_state.TheConstants.{MAX_FRAME}
use Rattle.line_rules.proofs.Receiving.{taken_there}
use Rattle.member_threads.specs.Brought.{brought, frame_at}
use Rattle.member_threads.specs.Knows.{BringsNoMore}
use Rattle.member_threads.specs.Worked.{Awaits, IsRefused, Rests, Worked}
use Rattle.member_threads.proofs.Places.{All-imply, All-below, All-merged, merged_none, none_merged}
use Rattle.member_threads.proofs.Frames.{brought_push, frame_new}
use Rattle.member_threads.proofs.Knowing.{last_event}

module _ (rules : Rules) (plan : Planned) (from to : ℕ) where
  -- no event of one's own was made
  pub none_still : (seen seen' : List Event) (own own' : List ℕ) → IsPrefix seen seen' → own' ≡ own → BringsNoMore rules plan from to seen own seen' own'
  none_still seen seen' own own' more same = record {
    goes_on = more;
    same = λ events p. ap (λ z. brought rules plan events z from to) same;
    older = λ events low p all. subst (All (λ place. low ≤ place → frame_at rules plan events from to place ≡ [])) (sym same) all;
  }

  pub none_after : (a b c : List Event) (x y z : List ℕ) → BringsNoMore rules plan from to a x b y → BringsNoMore rules plan from to b y c z → BringsNoMore rules plan from to a x c z
  none_after a b c x y z p q = record {
    goes_on = IsPrefix-trans a b c p.goes_on q.goes_on;
    same = λ events r. q.same events r ∙ p.same events (IsPrefix-trans b c events q.goes_on r);
    older = λ events low r all. q.older events low r (p.older events low (IsPrefix-trans b c events q.goes_on r) all);
  }

  -- one event was made, which took nothing from the link
  pub none_made : (seen seen' : List Event) (own own' : List ℕ) (before : Events) (e : Event) → IsPrefix seen (reverse before) → reverse seen' ≡ e ∷ before → own' ≡ own ++ length before ∷ [] → taken_by rules plan before e from to ≡ []
      → BringsNoMore rules plan from to seen own seen' own'
  none_made seen seen' own own' before e more is placed none_taken =
      let last : seen' ≡ reverse before ++ e ∷ [] = last_event seen' before e is in
      let here : (events : List Event) → IsPrefix seen' events → frame_at rules plan events from to (length before) ≡ [] = λ events p.
      ap (frame_at rules plan events from to) (sym (length-reverse before))
      ∙ (frame_new rules plan from to (reverse before) events e (p.0, p.1 ∙ ap (λ z. z ++ p.0) last) ∙ (ap (λ z. taken_by rules plan z e from to) (reverse-reverse before) ∙ none_taken)) in
      record {
        goes_on = (more.0 ++ e ∷ [], last ∙ (ap (λ z. z ++ e ∷ []) more.1 ∙ append_assoc seen more.0 (e ∷ [])));
        same = λ events p.
            ap (λ z. brought rules plan events z from to) placed
            ∙ (brought_push rules plan from to events own (length before) ∙ (ap (λ z. brought rules plan events own from to ++ z) (here events p) ∙ append-nil (brought rules plan events own from to)));
        older = λ events low p all.
            let P : ℕ → Type 0 = λ place. low ≤ place → frame_at rules plan events from to place ≡ [] in
            subst (All P) (sym placed) (All-append P own (length before ∷ []) all (All-cons P (length before) [] (λ le. here events p) (All-nil P)));
      }

  none_over : (events : List Event) (low : ℕ) (own : List ℕ) → All (λ p. frame_at rules plan events from to p ≡ []) own → All (λ place. low ≤ place → frame_at rules plan events from to place ≡ []) own
  none_over events low own all = All-imply (λ p. frame_at rules plan events from to p ≡ []) (λ place. low ≤ place → frame_at rules plan events from to place ≡ []) own (λ p e le. e) all

  -- others were joined in that bring nothing
  pub none_joined : (seen seen' : List Event) (own theirs : List ℕ) (high : ℕ) → Ascends 0 high own → IsPrefix seen seen' → ((events : List Event) → IsPrefix seen' events → All (λ p. frame_at rules plan events from to p ≡ []) theirs)
      → BringsNoMore rules plan from to seen own seen' (merged own theirs)
  none_joined seen seen' own theirs high up more nothing = record {
    goes_on = more;
    same = λ events p. none_merged (frame_at rules plan events from to) 0 high own theirs up (nothing events p);
    older = λ events low p all. All-merged (λ place. low ≤ place → frame_at rules plan events from to place ≡ []) own theirs all (none_over events low theirs (nothing events p));
  }

  pub joined_none : (seen seen' : List Event) (own theirs : List ℕ) → IsPrefix seen seen' → ((events : List Event) → IsPrefix seen' events → All (λ p. frame_at rules plan events from to p ≡ []) theirs)
      → BringsNoMore rules plan from to seen own seen' (merged theirs own)
  joined_none seen seen' own theirs more nothing = record {
    goes_on = more;
    same = λ events p. merged_none (frame_at rules plan events from to) theirs own (nothing events p);
    older = λ events low p all. All-merged (λ place. low ≤ place → frame_at rules plan events from to place ≡ []) theirs own (none_over events low theirs (nothing events p)) all;
  }

  module _ (began : List Event) where
    awaits_still : (seen seen' : List Event) (own own' : List ℕ) (next : List Frame) → BringsNoMore rules plan from to seen own seen' own' → Awaits rules plan began seen own from to next → Awaits rules plan began seen' own' from to next
    awaits_still seen seen' own own' next b a = record {
      found = a.found;
      goes_on = a.goes_on;
      was_seen = IsPrefix-trans a.found seen seen' a.was_seen b.goes_on;
      frame = a.frame;
      is_next = a.is_next;
      one = a.one;
      older = λ events p. b.older events (length a.found) p (a.older events (IsPrefix-trans seen seen' events b.goes_on p));
    }

    refused_still : (found seen seen' : List Event) (frame : Frame) (wanted wanted' : Bool) → IsPrefix seen seen' → (wanted ≡ true → wanted' ≡ true) → IsRefused rules plan found seen from to frame wanted → IsRefused rules plan found seen' from to frame wanted'
    refused_still found seen seen' frame wanted wanted' more w r = record { later = r.later; goes_on = r.goes_on; was_seen = IsPrefix-trans r.later seen seen' r.was_seen more; fault = r.fault; cause = r.cause; memory = λ e. w (r.memory e) }

    rests_still : (seen seen' : List Event) (own own' : List ℕ) (next : List Frame) (wanted wanted' : Bool) (state : LineState) → BringsNoMore rules plan from to seen own seen' own' → (wanted ≡ true → wanted' ≡ true)
        → Rests rules plan began seen own from to wanted next state → Rests rules plan began seen' own' from to wanted' next state
    unfolding awaits_still
    rests_still seen seen' own own' next wanted wanted' Missing b w r = tt
    rests_still seen seen' own own' next wanted wanted' (Serving count) b w r =
        let le : length seen ≤ length seen' = IsPrefix-length seen seen' b.goes_on in
        let few : count ≤ MAX_FRAME * length seen = r.0 in
        let up : MAX_FRAME * length seen ≤ MAX_FRAME * length seen' = omega arith in
        (omega arith, r.1)
    rests_still seen seen' own own' next wanted wanted' Down b w r = awaits_still seen seen' own own' next b r
    rests_still seen seen' own own' next wanted wanted' (Lied lie) b w r = awaits_still seen seen' own own' next b r
    rests_still seen seen' own own' next wanted wanted' Stopped b w (a, inl told) = (awaits_still seen seen' own own' next b a, inl (w told))
    rests_still seen seen' own own' next wanted wanted' Stopped b w (a, inr r) = (awaits_still seen seen' own own' next b a, inr (refused_still a.found seen seen' a.frame wanted wanted' b.goes_on w r))

    module _ {L : Type 0} (G : Ghosts L) where
      -- where nothing more was brought, the line's way is the same
      pub worked_still : (seen seen' : List Event) (own own' : List ℕ) (wanted wanted' : Bool) (old new : Option L) (state : LineState) → BringsNoMore rules plan from to seen own seen' own' → (wanted ≡ true → wanted' ≡ true)
          → Worked G rules plan began seen own from to wanted old new state → Worked G rules plan began seen' own' from to wanted' old new state
      worked_still seen seen' own own' wanted wanted' old new state b w k = record {
        frames = k.frames;
        next = k.next;
        took = λ events p. b.same events p ∙ k.took events (IsPrefix-trans seen seen' events b.goes_on p);
        come = k.come;
        rests = rests_still seen seen' own own' k.next wanted wanted' state b w k.rests;
      }

      gave_none : (o : Option Carried) → GaveBytes o o (λ given. given ≡ [])
      gave_none None = tt
      gave_none (Some c) = ([], sym (append-nil c.got), refl)

      pub serves_none : (t : Told) → IsEven t → IsServing [] t t 0
      serves_none t even = record { gave = record { count = omega arith; bytes = gave_none t.bytes; faithful = refl }; even = even; counted = refl }

      -- at the start
      pub worked_start : (seen : List Event) (own : List ℕ) (wanted : Bool) (line : L) → own ≡ [] → IsEven (G.told line) → Worked G rules plan began seen own from to wanted (Some line) (Some line) (Serving 0)
      worked_start seen own wanted line fresh even = record {
        frames = [];
        next = [];
        took = λ events p. ap (λ z. brought rules plan events z from to) fresh;
        come = (serves_none (G.told line) even, omega arith);
        rests = (omega arith, omega arith);
      }

      -- a frame was found
      pub awaits_found : (seen : List Event) (own : List ℕ) (frame : Frame) → IsPrefix began seen → Ascends 0 (length seen) own → next_frame rules plan (reverse seen) from to ≡ Some frame → Awaits rules plan began seen own from to (frame ∷ [])
      awaits_found seen own frame goes_on up is_next = record {
        found = seen;
        goes_on = goes_on;
        was_seen = IsPrefix-self seen;
        frame = frame;
        is_next = is_next;
        one = refl;
        older = λ events p. All-imply (λ p. p < length seen) (λ place. length seen ≤ place → frame_at rules plan events from to place ≡ []) own (λ p l le. absurd (omega arith)) (All-below 0 (length seen) own up);
      }

      rests_aside : (seen : List Event) (own : List ℕ) (frame : Frame) (wanted : Bool) (state : LineState) → IsSetAside state → Awaits rules plan began seen own from to (frame ∷ []) → Rests rules plan began seen own from to wanted (frame ∷ []) state
      rests_aside seen own frame wanted Missing aside a = tt
      rests_aside seen own frame wanted (Serving count) aside a = absurd aside
      rests_aside seen own frame wanted Down aside a = a
      rests_aside seen own frame wanted (Lied lie) aside a = a
      rests_aside seen own frame wanted Stopped aside a = absurd aside

      -- the line was set aside over it, or stopped
      pub worked_aside : (seen : List Event) (own : List ℕ) (count : ℕ) (wanted wanted' : Bool) (frame : Frame) (start old new : L) (state : LineState) → IsPrefix began seen → Ascends 0 (length seen) own → next_frame rules plan (reverse seen) from to ≡ Some frame
          → ((t : Told) (before : ℕ) (frames : List Frame) → before ≤ G.faults old → IsServing frames t (G.told old) count → IsAt frames (frame ∷ []) t (G.told new) before (G.faults new) state) → G.faults old ≤ G.faults new
          → IsSetAside state ⊎ ((state ≡ Stopped) × (wanted' ≡ true))
          → Worked G rules plan began seen own from to wanted (Some start) (Some old) (Serving count) → Worked G rules plan began seen own from to wanted' (Some start) (Some new) state
      worked_aside seen own count wanted wanted' frame start old new state goes_on up is_next at later how k =
          let a = awaits_found seen own frame goes_on up is_next in
          let le : G.faults start ≤ G.faults old = k.come.1 in
          record { frames = k.frames; next = frame ∷ []; took = k.took; come = (at (G.told start) (G.faults start) k.frames le k.come.0, omega (arith, le, later)); rests = by state how a }
        where
          by : (s : LineState) → IsSetAside s ⊎ ((s ≡ Stopped) × (wanted' ≡ true)) → Awaits rules plan began seen own from to (frame ∷ []) → Rests rules plan began seen own from to wanted' (frame ∷ []) s
          by s (inl aside) a = rests_aside seen own frame wanted' s aside a
          by s (inr (e, told)) a = subst (λ z. Rests rules plan began seen own from to wanted' (frame ∷ []) z) (sym e) (a, inl told)

      -- it came whole, and was not received
      pub worked_refused : (seen seen' : List Event) (own own' : List ℕ) (count count' : ℕ) (wanted wanted' : Bool) (frame came : Frame) (fault : ReceiveFault) (start old new : L) → IsPrefix began seen → Ascends 0 (length seen) own
          → next_frame rules plan (reverse seen) from to ≡ Some frame → IsPrefix seen seen' → own' ≡ own → came ≡ frame
          → ((t : Told) (before : ℕ) (frames : List Frame) → IsServing frames t (G.told old) count → IsServing (frames ++ frame ∷ []) t (G.told new) count') → G.faults old ≤ G.faults new
          → ReceiveCause rules plan (reverse seen') from to came fault → (fault ≡ NoMemory → wanted' ≡ true)
          → Worked G rules plan began seen own from to wanted (Some start) (Some old) (Serving count) → Worked G rules plan began seen' own' from to wanted' (Some start) (Some new) Stopped
      unfolding awaits_still awaits_found
      worked_refused seen seen' own own' count count' wanted wanted' frame came fault start old new goes_on up is_next more same is whole later cause memory k =
          let b = none_still seen seen' own own' more same in
          let a = awaits_found seen own frame goes_on up is_next in
          let le : G.faults start ≤ G.faults old = k.come.1 in
          let s = whole (G.told start) (G.faults start) k.frames k.come.0 in
          let bytes : bytes_of (k.frames ++ frame ∷ []) ≡ bytes_of k.frames ++ bytes_of (frame ∷ []) = flat_map-append spelling k.frames (frame ∷ []) in
          record {
            frames = k.frames;
            next = frame ∷ [];
            took = λ events p. b.same events p ∙ k.took events (IsPrefix-trans seen seen' events more p);
            come = ((bytes_of (frame ∷ []), ([], sym (append-nil (bytes_of (frame ∷ [])))), subst (λ z. GaveExactly (G.told start) (G.told new) z) bytes s.gave), omega (arith, le, later));
            rests = (awaits_still seen seen' own own' (frame ∷ []) b a, inr (record { later = seen'; goes_on = more; was_seen = IsPrefix-self seen'; fault = fault; cause = subst (λ z. ReceiveCause rules plan (reverse seen') from to z fault) is cause; memory = memory }));
          }

      open_next : (past : Events) (frame : Frame) → open_frame rules plan past from to ≡ Some frame → next_frame rules plan past from to ≡ Some frame
      open_next past frame e = by (crashed_in rules plan past to) e
        where
          by : (b : Bool) → (if b then None else next_frame rules plan past from to) ≡ Some frame → next_frame rules plan past from to ≡ Some frame
          by true q = absurd (cc (q))
          by false q = q

      -- it came whole, and was received
      pub worked_more : (seen seen' : List Event) (own own' : List ℕ) (before : Events) (count bytes : ℕ) (wanted wanted' : Bool) (frame : Frame) (start old new : L) → IsPrefix seen (reverse before) → reverse seen' ≡ Receive from to ∷ before
          → own' ≡ own ++ length before ∷ [] → next_frame rules plan before from to ≡ Some frame → length before < bound plan
          → ((t : Told) (faults : ℕ) (frames : List Frame) → IsServing frames t (G.told old) count → IsServing (frames ++ frame ∷ []) t (G.told new) (count + bytes)) → G.faults old ≤ G.faults new → bytes ≤ MAX_FRAME
          → Worked G rules plan began seen own from to wanted (Some start) (Some old) (Serving count) → Worked G rules plan began seen' own' from to wanted' (Some start) (Some new) (Serving (count + bytes))
      worked_more seen seen' own own' before count bytes wanted wanted' frame start old new more is placed is_next room whole later few k =
          let last : seen' ≡ reverse before ++ Receive from to ∷ [] = last_event seen' before (Receive from to) is in
          let up : IsPrefix seen seen' = (more.0 ++ Receive from to ∷ [], last ∙ (ap (λ z. z ++ Receive from to ∷ []) more.1 ∙ append_assoc seen more.0 (Receive from to ∷ []))) in
          let here : (events : List Event) → IsPrefix seen' events → frame_at rules plan events from to (length before) ≡ frame ∷ [] = λ events p.
          ap (frame_at rules plan events from to) (sym (length-reverse before))
          ∙ (frame_new rules plan from to (reverse before) events (Receive from to) (p.0, p.1 ∙ ap (λ z. z ++ p.0) last)
          ∙ (ap (λ z. taken_by rules plan z (Receive from to) from to) (reverse-reverse before) ∙ (taken_there rules plan before from to ∙ ap listed is_next))) in
          let n : length seen' ≡ suc (length before) = sym (length-reverse seen') ∙ ap length is in
          let m : length seen ≤ length before = let l = IsPrefix-length seen (reverse before) more in let r = length-reverse before in omega arith in
          let le : G.faults start ≤ G.faults old = k.come.1 in
          record {
            frames = k.frames ++ frame ∷ [];
            next = [];
            took = λ events p.
                ap (λ z. brought rules plan events z from to) placed
                ∙ (brought_push rules plan from to events own (length before) ∙ (ap (λ z. z ++ frame_at rules plan events from to (length before)) (k.took events (IsPrefix-trans seen seen' events up p)) ∙ ap (λ z. k.frames ++ z) (here events p)));
            come = (whole (G.told start) (G.faults start) k.frames k.come.0, omega (arith, le, later));
            rests = fits (length seen) (length before) (length seen') (bound plan) n m room k.rests.0;
          }
        where
          fits : (a b c d : ℕ) → c ≡ suc b → a ≤ b → b < d → count ≤ MAX_FRAME * a → (count + bytes ≤ MAX_FRAME * c) × (count + bytes ≤ MAX_FRAME * d)
          fits a b c d n m room le =
              let up : MAX_FRAME * a ≤ MAX_FRAME * b = omega arith in
              let one : MAX_FRAME * c ≡ MAX_FRAME * b + MAX_FRAME = omega arith in
              let high : MAX_FRAME * c ≤ MAX_FRAME * d = omega arith in
              (omega arith, omega arith)

      -- the same by the state that the line has
      pub worked_more_at : (seen seen' : List Event) (own own' : List ℕ) (before : Events) (count : ℕ) (wanted wanted' : Bool) (frame came : Frame) (start old new : L) (was state : LineState) → was ≡ Serving count → IsPrefix seen (reverse before)
          → reverse seen' ≡ Receive from to ∷ before → own' ≡ own ++ length before ∷ [] → came ≡ frame → open_frame rules plan before from to ≡ Some came → length before < bound plan
          → ((t : Told) (faults : ℕ) (frames : List Frame) → IsServing frames t (G.told old) count → IsAt (frames ++ frame ∷ []) [] t (G.told new) faults (G.faults new) state) → G.faults old ≤ G.faults new
          → ((bytes : ℕ) × (bytes ≤ MAX_FRAME) × (state ≡ Serving (count + bytes)))
          → Worked G rules plan began seen own from to wanted (Some start) (Some old) was → Worked G rules plan began seen' own' from to wanted' (Some start) (Some new) state
      worked_more_at seen seen' own own' before count wanted wanted' frame came start old new was state serving more is placed same opened room whole later (bytes, few, counted) k =
          subst (λ z. Worked G rules plan began seen' own' from to wanted' (Some start) (Some new) z) (sym counted)
          (worked_more seen seen' own own' before count bytes wanted wanted' frame start old new more is placed (open_next before came opened ∙ ap Some same) room
          (λ t faults frames s. subst (λ z. IsAt (frames ++ frame ∷ []) [] t (G.told new) faults (G.faults new) z) counted (whole t faults frames s)) later few
          (subst (λ z. Worked G rules plan began seen own from to wanted (Some start) (Some old) z) serving k))

      pub worked_refused_at : (seen seen' : List Event) (own own' : List ℕ) (count : ℕ) (wanted wanted' : Bool) (frame came : Frame) (fault : ReceiveFault) (start old new : L) (was state : LineState) → was ≡ Serving count → IsPrefix began seen → Ascends 0 (length seen) own
          → next_frame rules plan (reverse seen) from to ≡ Some frame → IsPrefix seen seen' → own' ≡ own → came ≡ frame
          → ((t : Told) (faults : ℕ) (frames : List Frame) → IsServing frames t (G.told old) count → IsAt (frames ++ frame ∷ []) [] t (G.told new) faults (G.faults new) state) → G.faults old ≤ G.faults new
          → ((bytes : ℕ) × (bytes ≤ MAX_FRAME) × (state ≡ Serving (count + bytes)))
          → ReceiveCause rules plan (reverse seen') from to came fault → (fault ≡ NoMemory → wanted' ≡ true)
          → Worked G rules plan began seen own from to wanted (Some start) (Some old) was → Worked G rules plan began seen' own' from to wanted' (Some start) (Some new) Stopped
      worked_refused_at seen seen' own own' count wanted wanted' frame came fault start old new was state serving goes_on up is_next more same is whole later (bytes, few, counted) cause memory k =
          worked_refused seen seen' own own' count (count + bytes) wanted wanted' frame came fault start old new goes_on up is_next more same is
          (λ t faults frames s. subst (λ z. IsAt (frames ++ frame ∷ []) [] t (G.told new) faults (G.faults new) z) counted (whole t faults frames s)) later cause memory
          (subst (λ z. Worked G rules plan began seen own from to wanted (Some start) (Some old) z) serving k)

      -- a further frame's bytes can be counted
      pub few_left : (seen : List Event) (own : List ℕ) (wanted : Bool) (old new : Option L) (was : LineState) (count : ℕ) → is_plan plan ≡ true → was ≡ Serving count → Worked G rules plan began seen own from to wanted old new was → count + MAX_FRAME < 18446744073709551616
      few_left seen own wanted old new was count fits serving k =
          let r : Rests rules plan began seen own from to wanted k.next (Serving count) = subst (λ z. Rests rules plan began seen own from to wanted k.next z) serving k.rests in
          let b = bound-le plan fits in
          let l : count ≤ MAX_FRAME * bound plan = r.1 in
          omega arith

module _ {T : Type 0} {K : KeptGhosts T Recorded} (rules : Rules) (plan : Planned) (from to : ℕ) (old new : Pass T Recorded K) where
  -- whatever became of a release
  pub none_freed : (at : ℕ) (r : Result Bool ReleaseFault) → IsPrefix (events_seen old) (events_seen new) → IfOk r (λ b. IsTrue b → MakesOne (Some (Release at)) old new) → IfOk r (λ b. b ≡ false → places new ≡ places old) → OnErr r (places new ≡ places old)
      → BringsNoMore rules plan from to (events_seen old) (places old) (events_seen new) (places new)
  none_freed at (Ok true) more made unmade err = let m = made refl in none_made rules plan from to (events_seen old) (events_seen new) (places old) (places new) (past_before new) (Release at) m.goes_on m.made m.place refl
  none_freed at (Ok false) more made unmade err = none_still rules plan from to (events_seen old) (events_seen new) (places old) (places new) more (unmade refl)
  none_freed at (Err f) more made unmade err = none_still rules plan from to (events_seen old) (events_seen new) (places old) (places new) more err
