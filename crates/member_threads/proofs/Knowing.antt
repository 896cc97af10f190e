-- What a worker knows of its own events stays, and grows by one event.
use Rattle.std.proofs.Common.{◌≡◌, ℕ, ◌+◌, ◌*◌, List, [], ◌∷◌, ◌++◌, length, refl, sym, ap, ◌∙◌, subst, append_assoc, Option, Some, None, Bool, true, false, Result, Ok, Err, ◌≢◌}
use Rattle.std.specs.Prelude.{All, reverse, slice_get, IfOk, OnOk, OnErr, IsTrue}
use Rattle.std.proofs.lemmas.List.Elements.{All-nil, All-cons, All-append}
use Rattle.std.proofs.lemmas.List.{length-reverse, reverse-append, reverse-reverse}
use Rattle.upd_base.specs.Plan.{Planned}
use Rattle.upd_base.specs.declared.event.Event.{Event}
use Rattle.upd_base.specs.declared.event.Event.TheVariants.{Call as CallEvent, Receive, Release}
use Rattle.upd_base.specs.declared.answer.Answer.{Answer}
use Rattle.upd_base.specs.declared.answer.Answer.TheVariants.{Full}
use Rattle.upd_base.specs.declared.call.Step.{Step as PlannedStep}
use Rattle.group_run.specs.Group.{Rules}
use Rattle.group_run.specs.Run.{Events}
use Rattle.run_journal.specs.Causes.{IsMade, call_event, next_call}
use Rattle.run_journal.specs.declared.faults.CallFault.{CallFault}
use Rattle.run_journal.specs.declared.faults.ReceiveFault.{ReceiveFault}
use Rattle.run_journal.specs.declared.faults.ReleaseFault.{ReleaseFault}
use Rattle.turn_lock.specs.declared.kept.Kept.{Ghosts}
use Rattle.turn_lock.specs.declared.pass.Pass.{Pass}
use Rattle.live_group.specs.declared.recorded.Recorded.{Recorded}
use Rattle.live_group.specs.declared.offer.Offer.{Offer}
use Rattle.live_group.specs.declared.offer.Offer.TheVariants.{Answered, NotNow}
use Rattle.live_group.specs.Calls.{IfAnswered, UnlessAnswered, next_event}
use Rattle.live_group.specs.Pass.{events_seen, past_before, places}
use Rattle.live_group.specs.Turns.{MakesOne}
use Rattle.turn_lock.specs.Lists.{IsPrefix}
use Rattle.turn_lock.specs.Places.{merged}
use Rattle.turn_lock.proofs.Lists.{IsPrefix-trans}
use Rattle.line_rules.specs.Received.{taken_by}
use Rattle.line_rules.proofs.Receiving.{taken_elsewhere}
use Rattle.member_threads.specs.Brought.{frame_at}
use Rattle.member_threads.specs.Knows.{KeepsTo, Knows}
use Rattle.member_threads.proofs.Places.{All-imply, All-merged}
use Rattle.member_threads.proofs.Frames.{event_seam, frame_new}

-- the newest event is the last
pub last_event : (seen : List Event) (before : Events) (e : Event) → reverse seen ≡ e ∷ before → seen ≡ reverse before ++ e ∷ []
last_event seen before e is = sym (reverse-reverse seen) ∙ (ap reverse is ∙ reverse-append (e ∷ []) before)

module _ (rules : Rules) (plan : Planned) (began : List Event) (mine : ℕ → Type 0) where
  pub knows_nothing : (seen : List Event) → IsPrefix began seen → Knows rules plan began mine seen []
  knows_nothing seen p = record { goes_on = p; keeps = λ events q. All-nil (KeepsTo rules plan mine events) }

  -- where no event of one's own was made
  pub knows_still : (seen seen' : List Event) (own own' : List ℕ) → IsPrefix seen seen' → own' ≡ own → Knows rules plan began mine seen own → Knows rules plan began mine seen' own'
  knows_still seen seen' own own' more same k = record {
    goes_on = IsPrefix-trans began seen seen' k.goes_on more;
    keeps = λ events p. subst (All (KeepsTo rules plan mine events)) (sym same) (k.keeps events (IsPrefix-trans seen seen' events more p));
  }

  -- where one event was made
  pub knows_made : (seen seen' : List Event) (own own' : List ℕ) (before : Events) (e : Event) → IsPrefix seen (reverse before) → reverse seen' ≡ e ∷ before → own' ≡ own ++ length before ∷ []
      → ((from to : ℕ) → (mine (from * plan.members + to) → ⊥) → taken_by rules plan before e from to ≡ []) → ((thread index member : ℕ) → e ≡ CallEvent thread index member Full → ⊥)
      → Knows rules plan began mine seen own → Knows rules plan began mine seen' own'
  knows_made seen seen' own own' before e more is placed elsewhere not_full k =
      let last : seen' ≡ reverse before ++ e ∷ [] = last_event seen' before e is in
      let up : IsPrefix seen seen' = (more.0 ++ e ∷ [], last ∙ (ap (λ z. z ++ e ∷ []) more.1 ∙ append_assoc seen more.0 (e ∷ []))) in
      record {
        goes_on = IsPrefix-trans began seen seen' k.goes_on up;
        keeps = λ events p.
            let q : IsPrefix (reverse before ++ e ∷ []) events = (p.0, p.1 ∙ ap (λ z. z ++ p.0) last) in
            let older : All (KeepsTo rules plan mine events) own = k.keeps events (IsPrefix-trans seen seen' events up p) in
            let here : KeepsTo rules plan mine events (length before) = record {
              elsewhere = λ from to other.
                  ap (frame_at rules plan events from to) (sym (length-reverse before))
                  ∙ (frame_new rules plan from to (reverse before) events e q ∙ (ap (λ z. taken_by rules plan z e from to) (reverse-reverse before) ∙ elsewhere from to other));
              not_full = λ thread index member found.
                  let there : slice_get events (length before) ≡ Some e = ap (slice_get events) (sym (length-reverse before)) ∙ event_seam (reverse before) events e q in
                  let both : Some e ≡ Some (CallEvent thread index member Full) = sym there ∙ found in
                  not_full thread index member cc;
            } in
            subst (All (KeepsTo rules plan mine events)) (sym placed) (All-append (KeepsTo rules plan mine events) own (length before ∷ []) older (All-cons (KeepsTo rules plan mine events) (length before) [] here (All-nil (KeepsTo rules plan mine events))));
      }

  -- a call that was not answered as full
  pub knows_called : (seen seen' : List Event) (own own' : List ℕ) (before : Events) (thread : ℕ) (o : Option PlannedStep) (a : Answer) → IsPrefix seen (reverse before) → IsMade (call_event plan before thread o a) before (reverse seen')
      → own' ≡ own ++ length before ∷ [] → (a ≡ Full → ⊥) → Knows rules plan began mine seen own → Knows rules plan began mine seen' own'
  knows_called seen seen' own own' before thread None a more made placed not_full k = absurd made
  knows_called seen seen' own own' before thread (Some s) a more made placed not_full k =
      knows_made seen seen' own own' before _ more made placed (λ from to other. refl) (λ t i m e. not_full cc) k

  -- a release
  pub knows_released : (seen seen' : List Event) (own own' : List ℕ) (before : Events) (at : ℕ) → IsPrefix seen (reverse before) → reverse seen' ≡ Release at ∷ before → own' ≡ own ++ length before ∷ []
      → Knows rules plan began mine seen own → Knows rules plan began mine seen' own'
  knows_released seen seen' own own' before at more made placed k =
      knows_made seen seen' own own' before (Release at) more made placed (λ from to other. refl) (λ t i m e. absurd (cc (e))) k

  -- a receipt on one of these links
  pub knows_received : (seen seen' : List Event) (own own' : List ℕ) (before : Events) (i j : ℕ) → mine (i * plan.members + j) → IsPrefix seen (reverse before) → reverse seen' ≡ Receive i j ∷ before → own' ≡ own ++ length before ∷ []
      → Knows rules plan began mine seen own → Knows rules plan began mine seen' own'
  knows_received seen seen' own own' before i j is_mine more made placed k =
      knows_made seen seen' own own' before (Receive i j) more made placed
      (λ from to other. taken_elsewhere rules plan before (Receive i j) from to (λ e. other (let p : i ≡ from = cc in let q : j ≡ to = cc in subst (λ z. mine (z * plan.members + to)) p (subst (λ z. mine (i * plan.members + z)) q is_mine))))
      (λ t x m e. absurd (cc (e))) k

-- what is known of fewer links is known of more
pub knows_wider : (rules : Rules) (plan : Planned) (began : List Event) (mine other : ℕ → Type 0) (seen : List Event) (own : List ℕ) → ((k : ℕ) → mine k → other k) → Knows rules plan began mine seen own → Knows rules plan began other seen own
knows_wider rules plan began mine other seen own wider k = record {
  goes_on = k.goes_on;
  keeps = λ events p. All-imply (KeepsTo rules plan mine events) (KeepsTo rules plan other events) own (λ x h. record { elsewhere = λ from to no_other. h.elsewhere from to (λ m. no_other (wider _ m)); not_full = h.not_full }) (k.keeps events p);
}

-- after a join
pub knows_joined : (rules : Rules) (plan : Planned) (began : List Event) (mine : ℕ → Type 0) (seen other joined : List Event) (own theirs : List ℕ) → IsPrefix seen joined → IsPrefix other joined
    → Knows rules plan began mine seen own → Knows rules plan began mine other theirs → Knows rules plan began mine joined (merged own theirs)
knows_joined rules plan began mine seen other joined own theirs p q k h = record {
  goes_on = IsPrefix-trans began seen joined k.goes_on p;
  keeps = λ events r. All-merged (KeepsTo rules plan mine events) own theirs (k.keeps events (IsPrefix-trans seen joined events p r)) (h.keeps events (IsPrefix-trans other joined events q r));
}

module _ {T : Type 0} {K : Ghosts T Recorded} (rules : Rules) (plan : Planned) (began : List Event) (mine : ℕ → Type 0) (old new : Pass T Recorded K) (more : IsPrefix (events_seen old) (events_seen new)) (k : Knows rules plan began mine (events_seen old) (places old)) where
  -- whatever became of a call
  pub knows_offered : (thread : ℕ) (r : Result Offer CallFault) → IfAnswered r (λ a. MakesOne (next_event plan (past_before new) thread a) old new) → IfAnswered r (λ a. a ≢ Full) → UnlessAnswered r (places new ≡ places old)
      → Knows rules plan began mine (events_seen new) (places new)
  knows_offered thread (Ok (Answered a)) made not_full unmade =
      knows_called rules plan began mine (events_seen old) (events_seen new) (places old) (places new) (past_before new) thread (next_call plan (past_before new) thread) a made.goes_on made.made made.place not_full k
  knows_offered thread (Ok NotNow) made not_full unmade = knows_still rules plan began mine (events_seen old) (events_seen new) (places old) (places new) more unmade k
  knows_offered thread (Err f) made not_full unmade = knows_still rules plan began mine (events_seen old) (events_seen new) (places old) (places new) more unmade k

  -- whatever became of a release
  pub knows_freed : (at : ℕ) (r : Result Bool ReleaseFault) → IfOk r (λ b. IsTrue b → MakesOne (Some (Release at)) old new) → IfOk r (λ b. b ≡ false → places new ≡ places old) → OnErr r (places new ≡ places old)
      → Knows rules plan began mine (events_seen new) (places new)
  knows_freed at (Ok true) made unmade err = let m = made refl in knows_released rules plan began mine (events_seen old) (events_seen new) (places old) (places new) (past_before new) at m.goes_on m.made m.place k
  knows_freed at (Ok false) made unmade err = knows_still rules plan began mine (events_seen old) (events_seen new) (places old) (places new) more (unmade refl) k
  knows_freed at (Err f) made unmade err = knows_still rules plan began mine (events_seen old) (events_seen new) (places old) (places new) more err k

  -- whatever became of a receipt
  pub knows_taken : {U : Type 0} (i j : ℕ) → mine (i * plan.members + j) → (r : Result U ReceiveFault) → OnOk r (MakesOne (Some (Receive i j)) old new) → OnErr r (places new ≡ places old)
      → Knows rules plan began mine (events_seen new) (places new)
  knows_taken i j is_mine (Ok u) made err = knows_received rules plan began mine (events_seen old) (events_seen new) (places old) (places new) (past_before new) i j is_mine made.goes_on made.made made.place k
  knows_taken i j is_mine (Err f) made err = knows_still rules plan began mine (events_seen old) (events_seen new) (places old) (places new) more err k
