-- What an event makes of a journal.
use Rattle.std.proofs.Common.{ℕ, ◌≡◌, ◌<◌, ◌≤◌, List, [], ◌∷◌, ◌++◌, length, reverse, refl, sym, ◌∙◌, ap, subst, arith, Option, Some, None, Result, Ok, Err, IfOk, OnErr}
use Rattle.std.proofs.Math.Logic.{∥∥₁_elim, ∥∥₁_prop}
use Rattle.std.proofs.lemmas.List.{length-reverse}
use Rattle.order_trait.specs.declared.ordering.Ordering.{Ghosts}
use Rattle.upd_base.specs.Plan.{Planned, planned, bound}
use Rattle.upd_base.specs.declared.answer.Answer.{Answer}
use Rattle.upd_base.specs.declared.call.Step.{Step as PlannedStep}
use Rattle.upd_base.specs.declared.event.Event.{Event}
use Rattle.upd_base.specs.declared.event.Event.TheVariants.{Call as CallEvent, Receive, Release}
use Rattle.group_run.specs.Group.{Rules}
use Rattle.group_run.specs.Answer.{answer}
use Rattle.group_run.specs.Run.{Events, IsCall, IsEnabled, calls_made, group, part, version_in}
use Rattle.member_rules.specs.Kept.{rules_of}
use Rattle.group_world.specs.Seen.{Seen, IsWorldOf}
use Rattle.group_world.specs.Moves.{IsMove}
use Rattle.group_world.specs.declared.moves.Move.TheVariants as move
use Rattle.group_world.specs.Stands.{Stands, IsShort}
use Rattle.run_journal.specs.Asked.{AreAsked, IsCallEvent, answer_in, listed}
use Rattle.upd_base.specs.declared.no_memory.NoMemory.{NoMemory}
use Rattle.run_journal.specs.Causes.{next_call, answer_next, call_event, IsMade}
use Rattle.run_journal.proofs.Bounds.{short}
use Rattle.run_journal.proofs.Lists.{newest_first}
use Rattle.run_journal.proofs.Reading.{run_of}
use Rattle.run_journal.proofs.Accepting.{asked_received, asked_released, asked_called}

-- the world after an event stands for the events with it
pub stands_more : {O : Type 0} (G : Ghosts O) (plan : Planned) (s new : Seen O) (items more : List Event) (e : Event) → IsWorldOf G plan s → length (reverse items) < bound plan →
    ((past : Events) → Stands G plan s past → IsShort past → Stands G plan new (e ∷ past)) → more ≡ items ++ e ∷ [] →
    ∥ Stands G plan s (reverse items) ∥₁ → ∥ Stands G plan new (reverse more) ∥₁
stands_more {O} G plan s new items more e w l h q t =
    subst (λ (xs : Events). ∥ Stands G plan new xs ∥₁) (sym (newest_first items more e q))
    (∥∥₁_elim t ∥∥₁_prop (λ st. ∣ h (reverse items) st (short plan (reverse items) w.of_plan l) ∣₁))

pub few_more : (plan : Planned) (items more : List Event) (e : Event) → length (reverse items) < bound plan → more ≡ items ++ e ∷ [] → length more ≤ bound plan
few_more plan items more e l q =
    let a = ap length (newest_first items more e q) in
    let b = length-reverse more in
    omega arith

-- the event of a receipt, and that of a release
pub receipt_of : (from to : ℕ) (e : Event) → IsMove (move.Receive from to) e → e ≡ Receive from to
receipt_of from to (CallEvent thread index member given) m = absurd m
receipt_of from to (Receive f t) m = λ i. Receive (m.0 i) (m.1 i)
receipt_of from to (Release at) m = absurd m

pub release_of : (at : ℕ) (e : Event) → IsMove (move.Release at) e → e ≡ Release at
release_of at (CallEvent thread index member given) m = absurd m
release_of at (Receive f t) m = absurd m
release_of at (Release a) m = ap Release m

pub call_of : (thread : ℕ) (e : Event) → IsMove (move.Call thread) e → IsCallEvent e
call_of thread (CallEvent t index member given) m = tt
call_of thread (Receive f t) m = absurd m
call_of thread (Release a) m = absurd m

-- What an enabled call of a thread is: the planned step, at its member, with its answer.
pub record CallIs (rules : Rules) (plan : Planned) (past : Events) (thread : ℕ) (s : PlannedStep) (given : Answer) (e : Event) : Type 0 where
  pub event : e ≡ CallEvent thread (calls_made thread past) s.at given
  pub answered : given ≡ answer (group rules plan) s.at (part rules plan past s.at) s.call
  pub step : planned plan thread (calls_made thread past) ≡ Some s

pub call_is : (rules : Rules) (plan : Planned) (past : Events) (thread : ℕ) (s : PlannedStep) (given : Answer) (e : Event) →
    next_call plan past thread ≡ Some s → IsMove (move.Call thread) e → IsEnabled rules plan past e → answer_in e given → CallIs rules plan past thread s given e
call_is rules plan past thread s given (CallEvent t index member a) q m n h = go (planned plan t index) refl n
  where
    go : (o : Option PlannedStep) → planned plan t index ≡ o → IsCall rules plan past t index member a o → CallIs rules plan past thread s given (CallEvent t index member a)
    go None p c = absurd c
    go (Some u) p c =
        let at_index : index ≡ calls_made thread past = c.next ∙ ap (λ k. calls_made k past) m in
        let there : planned plan t index ≡ planned plan thread (calls_made thread past) = λ i. planned plan (m i) (at_index i) in
        let some : Some u ≡ Some s = sym p ∙ there ∙ q in
        let is : u ≡ s = cc in
        let at : member ≡ s.at = c.at ∙ ap (λ x. x.at) is in
        record {
          event = λ i. CallEvent (m i) (at_index i) (at i) (sym h i);
          answered = h ∙ c.answered ∙ (λ i. answer (group rules plan) (at i) (part rules plan past (at i)) (is i).call);
          step = q;
        }
call_is rules plan past thread s given (Receive f t) q m n h = absurd m
call_is rules plan past thread s given (Release a) q m n h = absurd m

-- what is said of it where it was made
pub call_made_so : (rules : Rules) (plan : Planned) (past new : Events) (thread : ℕ) (s : PlannedStep) (given : Answer) (e : Event) → CallIs rules plan past thread s given e → new ≡ e ∷ past →
    IsMade (call_event plan past thread (next_call plan past thread) given) past new
call_made_so rules plan past new thread s given e c q =
    subst (λ (o : Option PlannedStep). IsMade (call_event plan past thread o given) past new) (sym c.step) (q ∙ ap (λ x. x ∷ past) c.event)

pub call_answered : (rules : Rules) (plan : Planned) (past : Events) (thread : ℕ) (s : PlannedStep) (given : Answer) (e : Event) → CallIs rules plan past thread s given e →
    answer_next rules plan past (next_call plan past thread) ≡ Some given
call_answered rules plan past thread s given e c = ap (λ o. answer_next rules plan past o) c.step ∙ ap (λ a. Some a) (sym c.answered)

-- After an attempt --------------------------------------------------------------------------------------------

-- what was attempted left the world standing, whether it was made or wanted memory
pub stands_after : {O : Type 0} (G : Ghosts O) (plan : Planned) (s new : Seen O) (items more : List Event) (r : Result Event NoMemory) → IsWorldOf G plan s → length (reverse items) < bound plan →
    IfOk r (λ e. (past : Events) → Stands G plan s past → IsShort past → Stands G plan new (e ∷ past)) → IfOk r (λ e. more ≡ items ++ e ∷ []) → OnErr r ((new ≡ s) × (more ≡ items)) →
    ∥ Stands G plan s (reverse items) ∥₁ → ∥ Stands G plan new (reverse more) ∥₁
stands_after G plan s new items more (Ok e) w l h q f t = stands_more G plan s new items more e w l h q t
stands_after {O} G plan s new items more (Err x) w l h q f t =
    subst (λ (xs : List Event). ∥ Stands G plan new (reverse xs) ∥₁) (sym f.1) (subst (λ (z : Seen O). ∥ Stands G plan z (reverse items) ∥₁) (sym f.0) t)

pub few_after : (plan : Planned) (items more : List Event) (r : Result Event NoMemory) (P : Type 0) → length (reverse items) < bound plan → IfOk r (λ e. more ≡ items ++ e ∷ []) → OnErr r (P × (more ≡ items)) → length more ≤ bound plan
few_after plan items more (Ok e) P l q f = few_more plan items more e l q
few_after plan items more (Err x) P l q f =
    let a = ap length f.1 in
    let b = length-reverse items in
    omega arith

-- the lists of versions, after events that accept nothing
pub asked_after : (rules : Rules) (plan : Planned) (items more : List Event) (asked : List (List ℕ)) (r : Result Event NoMemory) (P : Type 0) →
    ((e : Event) → r ≡ Ok e → AreAsked rules plan (reverse items) asked → AreAsked rules plan (e ∷ reverse items) asked) → IfOk r (λ e. more ≡ items ++ e ∷ []) → OnErr r (P × (more ≡ items)) →
    AreAsked rules plan (reverse items) asked → AreAsked rules plan (reverse more) asked
asked_after rules plan items more asked (Ok e) P h q f a = subst (λ (xs : Events). AreAsked rules plan xs asked) (sym (newest_first items more e q)) (h e refl a)
asked_after rules plan items more asked (Err x) P h q f a = subst (λ (xs : List Event). AreAsked rules plan (reverse xs) asked) (sym f.1) a

pub receipt_kept : (rules : Rules) (plan : Planned) (past : Events) (from to : ℕ) (asked : List (List ℕ)) (r : Result Event NoMemory) → IfOk r (λ e. IsMove (move.Receive from to) e) →
    (e : Event) → r ≡ Ok e → AreAsked rules plan past asked → AreAsked rules plan (e ∷ past) asked
receipt_kept rules plan past from to asked r m e q a =
    let is : e ≡ Receive from to = receipt_of from to e (subst (λ (x : Result Event NoMemory). IfOk x (λ y. IsMove (move.Receive from to) y)) q m) in
    subst (λ (x : Event). AreAsked rules plan (x ∷ past) asked) (sym is) (asked_received rules plan past from to asked a)

pub release_kept : (rules : Rules) (plan : Planned) (past : Events) (at : ℕ) (asked : List (List ℕ)) (r : Result Event NoMemory) → IfOk r (λ e. IsMove (move.Release at) e) →
    (e : Event) → r ≡ Ok e → AreAsked rules plan past asked → AreAsked rules plan (e ∷ past) asked
release_kept rules plan past at asked r m e q a =
    let is : e ≡ Release at = release_of at e (subst (λ (x : Result Event NoMemory). IfOk x (λ y. IsMove (move.Release at) y)) q m) in
    subst (λ (x : Event). AreAsked rules plan (x ∷ past) asked) (sym is) (asked_released rules plan past at asked a)

-- A call that was made -----------------------------------------------------------------------------------------

pub enabled_of : {O : Type 0} (G : Ghosts O) (plan : Planned) (s new : Seen O) (past : Events) (e : Event) → IsWorldOf G plan s → length past < bound plan →
    ((past : Events) → Stands G plan s past → IsShort past → Stands G plan new (e ∷ past)) → ∥ Stands G plan s past ∥₁ → IsEnabled (rules_of G) plan past e
enabled_of G plan s new past e w l h t =
    (run_of G plan new (e ∷ past) (∥∥₁_elim t ∥∥₁_prop (λ st. ∣ h past st (short plan past w.of_plan l) ∣₁))).enabled.0

pub asked_more : (rules : Rules) (plan : Planned) (items more : List Event) (e : Event) (thread version : ℕ) (s : PlannedStep) (given : Answer) (asked new : List (List ℕ)) →
    CallIs rules plan (reverse items) thread s given e → more ≡ items ++ e ∷ [] → s.at < plan.members → version ≡ version_in rules plan (reverse items) s.at → new ≡ listed given s.at version asked →
    AreAsked rules plan (reverse items) asked → AreAsked rules plan (reverse more) new
asked_more rules plan items more e thread version s given asked new c q fits v n a =
    let past : Events = reverse items in
    let made : AreAsked rules plan (CallEvent thread (calls_made thread past) s.at given ∷ past) (listed given s.at version asked) = asked_called rules plan past thread (calls_made thread past) version given s asked fits v c.step c.answered a in
    let at_event : AreAsked rules plan (e ∷ past) (listed given s.at version asked) = subst (λ (x : Event). AreAsked rules plan (x ∷ past) (listed given s.at version asked)) (sym c.event) made in
    subst (λ (xs : Events). AreAsked rules plan xs new) (sym (newest_first items more e q)) (subst (λ (z : List (List ℕ)). AreAsked rules plan (e ∷ past) z) (sym n) at_event)

pub the_call : {O : Type 0} (G : Ghosts O) (plan : Planned) (s new : Seen O) (past : Events) (thread : ℕ) (step : PlannedStep) (given : Answer) (e : Event) → IsWorldOf G plan s → length past < bound plan →
    next_call plan past thread ≡ Some step → IsMove (move.Call thread) e → ((past : Events) → Stands G plan s past → IsShort past → Stands G plan new (e ∷ past)) → answer_in e given → ∥ Stands G plan s past ∥₁ →
    CallIs (rules_of G) plan past thread step given e
the_call G plan s new past thread step given e w l q m h a t = call_is (rules_of G) plan past thread step given e q m (enabled_of G plan s new past e w l h t) a
