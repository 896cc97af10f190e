-- What a pass knows after a turn in which the journal made one event, or none.
use Rattle.std.proofs.Common.{◌≡◌, ℕ, ◌+◌, Bool, true, false, Option, Some, None, Result, Ok, Err, List, [], ◌∷◌, ◌++◌, length, drop, reverse, length-append, refl, sym, ap, ◌∙◌, append_assoc, subst, inl, inr}
use Rattle.std.proofs.lemmas.List.{append-nil, length-reverse, reverse-append, reverse-reverse}
use Rattle.std.specs.Prelude.{IfOk, IsErr, OnOk, OnErr, IsTrue}
use Rattle.upd_base.specs.Plan.{Planned}
use Rattle.upd_base.specs.declared.event.Event.{Event}
use Rattle.upd_base.specs.declared.answer.Answer.{Answer}
use Rattle.group_run.specs.Run.{Events}
use Rattle.run_journal.specs.declared.faults.CallFault.{CallFault}
use Rattle.run_journal.specs.Causes.{IsMade, call_event, next_call}
use Rattle.turn_lock.specs.declared.kept.Kept.{Ghosts}
use Rattle.turn_lock.specs.declared.pass.Pass.{Pass}
use Rattle.turn_lock.specs.Pass.{own, noted}
use Rattle.turn_lock.specs.Lists.{IsPrefix, AddsAtMostOne}
use Rattle.turn_lock.specs.Places.{new_places}
use Rattle.turn_lock.proofs.Lists.{new_places-none, new_places-one}
use Rattle.live_group.specs.declared.recorded.Recorded.{Recorded}
use Rattle.live_group.specs.declared.offer.Offer.{Offer}
use Rattle.live_group.specs.declared.offer.Offer.TheVariants.{Answered, NotNow}
use Rattle.live_group.specs.Calls.{UnlessAnswered}
use Rattle.live_group.specs.Recorded.{entries, events_in, event_places}
use Rattle.live_group.specs.Pass.{events_seen, past_seen, past_before, places}
use Rattle.live_group.specs.Turns.{MakesOne}
use Rattle.live_group.proofs.Entries.{events_made}

-- the event of a call, by equal plans and pasts
pub same_event : (plan plan' : Planned) (past past' : Events) (thread : ℕ) (a : Answer) → plan ≡ plan' → past' ≡ past
    → call_event plan past thread (next_call plan past thread) a ≡ call_event plan' past' thread (next_call plan' past' thread) a
same_event plan plan' past past' thread a same same' =
    ap (λ p. call_event p past thread (next_call p past thread) a) same ∙ ap (λ p. call_event plan' p thread (next_call plan' p thread) a) (sym same')

-- the list that a turn noted is of the plan that the journal still has
pub noted_plan : (list : List Recorded) (plan plan' : Planned) (es : List Event) → list ≡ entries plan es → plan' ≡ plan → list ≡ entries plan' (events_in list)
noted_plan list plan plan' es is same = is ∙ (ap (λ z. entries z es) (sym same) ∙ ap (entries plan') (sym (ap events_in is ∙ events_made es)))

noted_events : (list : List Recorded) (plan : Planned) (es : List Event) → list ≡ entries plan es → events_in list ≡ es
noted_events list plan es is = ap events_in is ∙ events_made es

-- the newest event is the last
last_event : (es es' : List Event) (e : Event) → reverse es' ≡ e ∷ reverse es → es' ≡ es ++ e ∷ []
last_event es es' e more = sym (reverse-reverse es') ∙ (ap reverse more ∙ (reverse-append (e ∷ []) (reverse es) ∙ ap (λ z. z ++ e ∷ []) (reverse-reverse es)))

same_events : (es es' : List Event) → reverse es' ≡ reverse es → es' ≡ es
same_events es es' same = sym (reverse-reverse es') ∙ (ap reverse same ∙ reverse-reverse es)

pub adds_none : (list : List Recorded) (plan : Planned) (es es' : List Event) → list ≡ entries plan es → reverse es' ≡ reverse es → AddsAtMostOne (events_in list) es'
adds_none list plan es es' is same = inl (same_events es es' same ∙ sym (noted_events list plan es is))

pub adds_one : (list : List Recorded) (plan : Planned) (es es' : List Event) (event : Option Event) → list ≡ entries plan es → IsMade event (reverse es) (reverse es') → AddsAtMostOne (events_in list) es'
adds_one list plan es es' None is made = absurd made
adds_one list plan es es' (Some e) is made = inr (e, last_event es es' e made ∙ ap (λ z. z ++ e ∷ []) (sym (noted_events list plan es is)))

-- by the journal's answer: an event was made, or none was
pub adds_by : {A F : Type 0} (list : List Recorded) (plan : Planned) (es es' : List Event) (answer : Result A F) (event : A → Option Event) → list ≡ entries plan es
    → IfOk answer (λ a. IsMade (event a) (reverse es) (reverse es')) → OnErr answer (reverse es' ≡ reverse es) → AddsAtMostOne (events_in list) es'
adds_by list plan es es' (Ok a) event is made err = adds_one list plan es es' (event a) is made
adds_by list plan es es' (Err f) event is made err = adds_none list plan es es' is err

pub adds_where : {F : Type 0} (list : List Recorded) (plan : Planned) (es es' : List Event) (answer : Result Bool F) (e : Event) → list ≡ entries plan es
    → IfOk answer (λ b. IsTrue b → reverse es' ≡ e ∷ reverse es) → IfOk answer (λ b. b ≡ false → reverse es' ≡ reverse es) → OnErr answer (reverse es' ≡ reverse es) → AddsAtMostOne (events_in list) es'
adds_where list plan es es' (Ok true) e is made none err = adds_one list plan es es' (Some e) is (made refl)
adds_where list plan es es' (Ok false) e is made none err = adds_none list plan es es' is (none refl)
adds_where list plan es es' (Err f) e is made none err = adds_none list plan es es' is err

module _ {T : Type 0} {K : Ghosts T Recorded} (new : Pass T Recorded K) where
  -- the past before the newest event is the one that the turn found
  pub before_is : (es es' : List Event) (event : Option Event) → events_seen new ≡ es' → IsMade event (reverse es) (reverse es') → past_before new ≡ reverse es
  before_is es es' None seen made = absurd made
  before_is es es' (Some e) seen made = ap (λ z. drop 1 (reverse z)) seen ∙ ap (drop 1) made

  pub seen_is : (es es' : List Event) → events_seen new ≡ es' → reverse es' ≡ reverse es → past_seen new ≡ reverse es
  seen_is es es' seen same = ap reverse seen ∙ same

module _ {T : Type 0} {K : Ghosts T Recorded} (old mid new : Pass T Recorded K) (plan : Planned) (es es' : List Event) (is : noted mid ≡ entries plan es) (mine : own mid ≡ own old)
    (goes_on : IsPrefix (events_seen old) es) (seen : events_seen new ≡ es') (placed : places new ≡ places mid ++ new_places (events_in (noted mid)) es') where
  pub makes_one : (event event' : Option Event) → IsMade event (reverse es) (reverse es') → event ≡ event' → MakesOne event' old new
  makes_one event event' made same = subst (λ z. MakesOne z old new) same (of event made)
    where
      of : (event : Option Event) → IsMade event (reverse es) (reverse es') → MakesOne event old new
      of None made = absurd made
      of (Some e) made =
          let before : past_before new ≡ reverse es = before_is new es es' (Some e) seen made in
          let found : reverse (past_before new) ≡ es = ap reverse before ∙ reverse-reverse es in
          let count : length (past_before new) ≡ length (events_in (noted mid)) = ap length before ∙ (length-reverse es ∙ ap length (sym (noted_events (noted mid) plan es is))) in
          let more : length es' ≡ length (events_in (noted mid)) + 1 = ap length (last_event es es' e made) ∙ (length-append es (e ∷ []) ∙ ap (λ z. length z + 1) (sym (noted_events (noted mid) plan es is))) in
          record {
            goes_on = subst (λ z. IsPrefix (events_seen old) z) (sym found) goes_on;
            made = ap reverse seen ∙ (made ∙ ap (λ z. e ∷ z) (sym before));
            place = placed ∙ ((λ j. event_places (mine j) ++ new_places-one (events_in (noted mid)) es' more j) ∙ ap (λ n. places old ++ n ∷ []) (sym count));
          }

  pub same_places : reverse es' ≡ reverse es → places new ≡ places old
  same_places same =
      let none : length es' ≡ length (events_in (noted mid)) = ap length (same_events es es' same ∙ sym (noted_events (noted mid) plan es is)) in
      placed ∙ ((λ j. event_places (mine j) ++ new_places-none (events_in (noted mid)) es' none j) ∙ append-nil (places old))

module _ {T : Type 0} {K : Ghosts T Recorded} (old new : Pass T Recorded K) (es es' : List Event) (goes_on : IsPrefix (events_seen old) es) (seen : events_seen new ≡ es') where
  pub seen_none : reverse es' ≡ reverse es → IsPrefix (events_seen old) (events_seen new)
  seen_none same = subst (λ z. IsPrefix (events_seen old) z) (sym (seen ∙ same_events es es' same)) goes_on

  pub seen_one : (event : Option Event) → IsMade event (reverse es) (reverse es') → IsPrefix (events_seen old) (events_seen new)
  seen_one None made = absurd made
  seen_one (Some e) made =
      let more : events_seen new ≡ events_seen old ++ (goes_on.0 ++ e ∷ []) =
      seen ∙ (last_event es es' e made ∙ (ap (λ z. z ++ e ∷ []) goes_on.1 ∙ append_assoc (events_seen old) goes_on.0 (e ∷ []))) in
      (goes_on.0 ++ e ∷ [], more)

  -- by the journal's answer
  pub seen_by : {A F : Type 0} (answer : Result A F) (event : A → Option Event) → IfOk answer (λ a. IsMade (event a) (reverse es) (reverse es')) → OnErr answer (reverse es' ≡ reverse es) → IsPrefix (events_seen old) (events_seen new)
  seen_by (Ok a) event made err = seen_one (event a) made
  seen_by (Err f) event made err = seen_none err

  pub seen_where : {F : Type 0} (answer : Result Bool F) (e : Event) → IfOk answer (λ b. IsTrue b → reverse es' ≡ e ∷ reverse es) → IfOk answer (λ b. b ≡ false → reverse es' ≡ reverse es) → OnErr answer (reverse es' ≡ reverse es)
      → IsPrefix (events_seen old) (events_seen new)
  seen_where (Ok true) e made none err = seen_one (Some e) (made refl)
  seen_where (Ok false) e made none err = seen_none (none refl)
  seen_where (Err f) e made none err = seen_none err

-- what follows from what was made follows in the same case of an answer
module _ {X P : Type 0} (then : X → P) where
  pub on_ok : {A F : Type 0} (r : Result A F) → OnOk r X → OnOk r P
  on_ok (Ok a) x = then x
  on_ok (Err f) x = x

  pub on_err : {A F : Type 0} (r : Result A F) → OnErr r X → OnErr r P
  on_err (Ok a) x = x
  on_err (Err f) x = then x

  pub if_bool : {F : Type 0} (Q : Bool → Type 0) (r : Result Bool F) → IfOk r (λ b. Q b → X) → IfOk r (λ b. Q b → P)
  if_bool Q (Ok b) x = λ q. then (x q)
  if_bool Q (Err f) x = x

pub unless_err : {P : Type 0} (r : Result Offer CallFault) → IsErr r → P → UnlessAnswered r P
unless_err (Ok (Answered a)) err p = tt
unless_err (Ok NotNow) err p = p
unless_err (Err f) err p = p
