-- Calls that a pass made stand in the closed journal.
use Rattle.std.proofs.Common.{◌≡◌, ℕ, zero, suc, ◌<◌, Option, Some, None, List, [], ◌∷◌, ◌++◌, length, reverse, refl, sym, ap, ◌∙◌, subst, arith}
use Rattle.std.proofs.lemmas.List.{length-reverse, reverse-append, reverse-reverse}
use Rattle.std.specs.Prelude.{slice_get}
use Rattle.upd_base.specs.Plan.{Planned}
use Rattle.upd_base.specs.declared.answer.Answer.{Answer}
use Rattle.upd_base.specs.declared.call.Step.{Step}
use Rattle.upd_base.specs.declared.event.Event.{Event}
use Rattle.upd_base.specs.declared.event.Event.TheVariants.{Call as CallEvent}
use Rattle.group_run.specs.Run.{Events, calls_made}
use Rattle.run_journal.specs.Causes.{IsMade, call_event, next_call}
use Rattle.turn_lock.specs.Lists.{IsPrefix}
use Rattle.turn_lock.proofs.Lists.{IsPrefix-trans, IsPrefix-length}
use Rattle.live_group.specs.Calls.{StandsAt, StandInOrder}

-- what stands in a beginning of a list stands in the list
get_prefix : (xs ys : List Event) (k : ℕ) (e : Event) → IsPrefix xs ys → slice_get xs k ≡ Some e → slice_get ys k ≡ Some e
get_prefix [] ys k e begins at = absurd (cc (at))
get_prefix (x ∷ xs) [] k e begins at = absurd (cc (begins.1))
get_prefix (x ∷ xs) (y ∷ ys) zero e begins at = let heads : y ≡ x = cc (begins.1) in ap Some heads ∙ at
get_prefix (x ∷ xs) (y ∷ ys) (suc k) e begins at = get_prefix xs ys k e (begins.0, cc (begins.1)) at

get_last : (xs : List Event) (e : Event) → slice_get (xs ++ e ∷ []) (length xs) ≡ Some e
get_last [] e = refl
get_last (x ∷ xs) e = get_last xs e

-- the newest call of a past is the last event
stands_last : (plan : Planned) (events : List Event) (before : Events) (thread : ℕ) (a : Answer) (step : Option Step) → IsMade (call_event plan before thread step a) before (reverse events) → StandsAt events (length before) thread a
stands_last plan events before thread a None made = absurd made
stands_last plan events before thread a (Some s) made =
    let event : Event = CallEvent thread (calls_made thread before) s.at a in
    let is : events ≡ reverse before ++ event ∷ [] = sym (reverse-reverse events) ∙ (ap reverse made ∙ reverse-append (event ∷ []) before) in
    (calls_made thread before, s.at, subst (λ z. slice_get z (length before) ≡ Some event) (sym is) (subst (λ k. slice_get (reverse before ++ event ∷ []) k ≡ Some event) (length-reverse before) (get_last (reverse before) event)))

stands_on : (xs ys : List Event) (k thread : ℕ) (a : Answer) → IsPrefix xs ys → StandsAt xs k thread a → StandsAt ys k thread a
stands_on xs ys k thread a begins at = (at.0, at.1, get_prefix xs ys k (CallEvent thread at.0 at.1 a) begins at.2)

-- The first call is the last event that was seen after it. The second is the last of a list that begins with that one,
-- and the closed journal's events begin with this.
pub stand_in_order : (plan : Planned) (one two joined events : List Event) (before before' : Events) (thread : ℕ) (a b : Answer)
    → IsMade (call_event plan before thread (next_call plan before thread) a) before (reverse one) → IsMade (call_event plan before' thread (next_call plan before' thread) b) before' (reverse two)
    → IsPrefix one (reverse before') → IsPrefix one two → IsPrefix two joined → IsPrefix joined events → StandInOrder events thread a b
stand_in_order plan one two joined events before before' thread a b made made' goes_on grows joins closes =
    let first = stands_last plan one before thread a (next_call plan before thread) made in
    let second = stands_last plan two before' thread b (next_call plan before' thread) made' in
    let whole = IsPrefix-trans two joined events joins closes in (
      length before,
      length before',
      less,
      stands_on one events (length before) thread a (IsPrefix-trans one two events grows whole) first,
      stands_on two events (length before') thread b whole second,
    )
  where
    more : (event : Option Event) → IsMade event before (reverse one) → length (reverse one) ≡ suc (length before)
    more None m = absurd m
    more (Some e) m = ap length m

    less : length before < length before'
    less =
        let l = IsPrefix-length one (reverse before') goes_on in
        let m = more (call_event plan before thread (next_call plan before thread) a) made in
        omega (arith, length-reverse one, length-reverse before', m, l)
