-- The planned calls that stand in a run.
use Rattle.std.proofs.Common.{ℕ, zero, suc, ◌≡◌, ◌<◌, ◌≤◌, ◌+◌, ◌==◌, ◌&&◌, ◌∙◌, inl, inr, Bool, true, false, cond, if◌then◌else◌, List, [], ◌∷◌, ◌++◌, Option, Some, None, refl, ap, arith, count_by, nat_lt, slice_get}
use Rattle.std.specs.Prelude.{Contains}
use Rattle.std.proofs.lemmas.Bool.{eqb-true}
use Rattle.std.proofs.lemmas.Bool.Decides.{nat_tests}
use Rattle.std.proofs.lemmas.List.Elements.{Contains-append_cases}
use Rattle.std.proofs.lemmas.List.Sums.{sum_by-cons}
use Rattle.upd_base.specs.Plan.{Planned, planned, step_in}
use Rattle.upd_base.specs.declared.answer.Answer.{Answer}
use Rattle.upd_base.specs.declared.call.Call.{Call as PlannedCall}
use Rattle.upd_base.specs.declared.call.Call.TheVariants as calls
use Rattle.upd_base.specs.declared.call.Step.{Step}
use Rattle.upd_base.specs.declared.event.Event.{Event}
use Rattle.upd_base.specs.declared.event.Event.TheVariants.{Call, Receive, Release}
use Rattle.group_run.specs.Group.{Rules}
use Rattle.group_run.specs.Part.{below}
use Rattle.group_run.specs.Run.{Events, AreEnabled, IsCall, IsGroupRun, calls_made}
use Rattle.group_run.specs.Settled.{IsQuiet, IsSettled, IsTrusting, is_loud, is_made, is_suspicion}
use Rattle.group_run.proofs.Lists.{nothing, only}
use Rattle.planned_calls.specs.Calls.{HasNo, MakesEach, MakesPlanned, is_call_at, is_crash, is_suspect, places_of}

-- an enabled call is the planned one of its place, the next of its thread
enabled_call : (rules : Rules) (plan : Planned) (past : Events) (thread index member : ℕ) (given : Answer) (o : Option Step) → IsCall rules plan past thread index member given o
    → (index ≡ calls_made thread past) × ((s : Step) × (o ≡ Some s) × (member ≡ s.at))
enabled_call rules plan past thread index member given None h = absurd h
enabled_call rules plan past thread index member given (Some s) h = (h.next, (s, refl, h.at))

-- Places --------------------------------------------------------------------------------------------------------

next_place : (b : Bool) (xs : List ℕ) (index n : ℕ) → xs ≡ below n → (b ≡ true → index ≡ n) → (if b then xs ++ index ∷ [] else xs) ≡ below (if b then suc n else n)
next_place true xs index n e next = ap (λ ys. ys ++ index ∷ []) e ∙ ap (λ i. below n ++ i ∷ []) (next refl)
next_place false xs index n e next = e

in_order : (rules : Rules) (plan : Planned) (past : Events) → AreEnabled rules plan past → (thread : ℕ) → places_of thread past ≡ below (calls_made thread past)
in_order rules plan [] en thread = refl
in_order rules plan (Call other index member given ∷ past) en thread =
    let next = (enabled_call rules plan past other index member given (planned plan other index) en.0).0 in
    next_place (other == thread) (places_of thread past) index (calls_made thread past) (in_order rules plan past en.1 thread)
    (λ e. next ∙ ap (λ t. calls_made t past) (eqb-true other thread e))
in_order rules plan (Receive from to ∷ past) en thread = in_order rules plan past en.1 thread
in_order rules plan (Release at ∷ past) en thread = in_order rules plan past en.1 thread

-- How often a call stands there -----------------------------------------------------------------------------------

next_count : (b : Bool) (index place n k : ℕ) → k ≡ (if nat_lt index n then 1 else 0) → (b ≡ true → place ≡ n)
    → cond (b && (place == index)) 1 0 + k ≡ (if nat_lt index (if b then suc n else n) then 1 else 0)
next_count false index place n k e next = grind arith
next_count true index place n k e next = let p : place ≡ n = next refl in counted index place n k p e
  where
    counted : (index place n k : ℕ) → place ≡ n → k ≡ (if nat_lt index n then 1 else 0) → cond (place == index) 1 0 + k ≡ (if nat_lt index (suc n) then 1 else 0)
    counted index place n k p e = grind (arith, nat_tests)

counted_more : (p : Event → Bool) (e : Event) (past : Events) (n : ℕ) → cond (p e) 1 0 + count_by p past ≡ n → count_by p (e ∷ past) ≡ n
counted_more p e past n is = sum_by-cons (λ x. cond (p x) 1 0) e past ∙ is

zero_more : {a b : ℕ} → a ≡ b → 0 + a ≡ b
zero_more e = omega arith

pub count_is : (rules : Rules) (plan : Planned) (past : Events) → AreEnabled rules plan past → (thread index : ℕ)
    → count_by (is_call_at thread index) past ≡ (if nat_lt index (calls_made thread past) then 1 else 0)
count_is rules plan [] en thread index = grind (arith, nat_tests)
count_is rules plan (Call other place member given ∷ past) en thread index =
    let next = (enabled_call rules plan past other place member given (planned plan other place) en.0).0 in
    counted_more (is_call_at thread index) (Call other place member given) past _
    (next_count (other == thread) index place (calls_made thread past) (count_by (is_call_at thread index) past) (count_is rules plan past en.1 thread index)
    (λ e. next ∙ ap (λ t. calls_made t past) (eqb-true other thread e)))
count_is rules plan (Receive from to ∷ past) en thread index =
    counted_more (is_call_at thread index) (Receive from to) past _ (zero_more (count_is rules plan past en.1 thread index))
count_is rules plan (Release at ∷ past) en thread index =
    counted_more (is_call_at thread index) (Release at) past _ (zero_more (count_is rules plan past en.1 thread index))

at_most_one : (b : Bool) (k : ℕ) → k ≡ (if b then 1 else 0) → k ≤ 1
at_most_one true k e = omega arith
at_most_one false k e = omega arith

-- Each is planned -------------------------------------------------------------------------------------------------

head_or_rest : {A : Type 0} (x : A) (xs : List A) (y : A) (P : A → Type 0) → P x → (Contains xs y → P y) → Contains (x ∷ xs) y → P y
head_or_rest x xs y P own rest h = elim (Contains-append_cases (x ∷ []) xs y h) [
  | inl p ↦ only P x y own p
  | inr q ↦ rest q
]

-- what an event is in the plan, where it is a call
IsOfPlan : Planned → Event → Type 0
IsOfPlan plan (Call thread index member given) = (s : Step) × (planned plan thread index ≡ Some s) × (member ≡ s.at)
IsOfPlan plan (Receive from to) = Unit {0}
IsOfPlan plan (Release at) = Unit {0}

each_of_plan : (rules : Rules) (plan : Planned) (past : Events) → AreEnabled rules plan past → (e : Event) → Contains past e → IsOfPlan plan e
unfolding IsOfPlan
each_of_plan rules plan [] en e h = absurd (nothing e h)
each_of_plan rules plan (Call thread index member given ∷ past) en e h =
    head_or_rest (Call thread index member given) past e (IsOfPlan plan) (enabled_call rules plan past thread index member given (planned plan thread index) en.0).1 (each_of_plan rules plan past en.1 e) h
each_of_plan rules plan (Receive from to ∷ past) en e h = head_or_rest (Receive from to) past e (IsOfPlan plan) tt (each_of_plan rules plan past en.1 e) h
each_of_plan rules plan (Release at ∷ past) en e h = head_or_rest (Release at) past e (IsOfPlan plan) tt (each_of_plan rules plan past en.1 e) h

pub makes_planned : (rules : Rules) (plan : Planned) (past : Events) → IsGroupRun rules plan past → MakesPlanned plan past
unfolding IsOfPlan
makes_planned rules plan past run = record {
  of_plan = λ thread index member given h. each_of_plan rules plan past run.enabled (Call thread index member given) h;
  in_order = in_order rules plan past run.enabled;
  once = λ thread index. at_most_one (nat_lt index (calls_made thread past)) (count_by (is_call_at thread index) past) (count_is rules plan past run.enabled thread index);
}

-- Once all are made -----------------------------------------------------------------------------------------------

there : (xs : List Step) (i n : ℕ) (s : Step) → slice_get xs i ≡ Some s → slice_get xs n ≡ None → i < n
there [] i n s e none = absurd (let no : None ≡ Some s = e in cc)
there (x ∷ xs) i zero s e none = absurd (let no : Some x ≡ None = none in cc)
there (x ∷ xs) zero (suc n) s e none = omega arith
there (x ∷ xs) (suc i) (suc n) s e none = let lt = there xs i n s e none in omega arith

pub before_end : (o : Option (List Step)) (i n : ℕ) (s : Step) → step_in o i ≡ Some s → step_in o n ≡ None → i < n
before_end None i n s e none = absurd (let no : None ≡ Some s = e in cc)
before_end (Some steps) i n s e none = there steps i n s e none

pub makes_each : (rules : Rules) (plan : Planned) (past : Events) → IsGroupRun rules plan past → IsSettled rules plan past → MakesEach plan past
makes_each rules plan past run settled thread index s e =
    let lt = before_end (slice_get plan.threads thread) index (calls_made thread past) s e (settled.calls thread) in
    let b : nat_lt index (calls_made thread past) ≡ true = grind (arith, nat_tests) in
    count_is rules plan past run.enabled thread index ∙ ap (λ x. if x then 1 else 0) b

-- Plans without suspicion -----------------------------------------------------------------------------------------

no_suspicion : (o : Option Step) (given : Answer) → ((s : Step) → o ≡ Some s → is_suspect s.call ≡ false) → is_made is_suspicion o given ≡ false
no_suspicion None given h = refl
no_suspicion (Some s) given h = by_call s.call given (h s refl)
  where
    by_call : (call : PlannedCall) (given : Answer) → is_suspect call ≡ false → is_suspicion call given ≡ false
    by_call (calls.Send text) given e = refl
    by_call (calls.Change kind) given e = refl
    by_call (calls.Suspect who) given e = absurd (let no : true ≡ false = e in cc)
    by_call (calls.Trust who) given e = refl
    by_call calls.Crash given e = refl

pub trusting : (plan : Planned) (past : Events) → HasNo is_suspect plan → IsTrusting plan past
trusting plan [] h = tt
trusting plan (Call thread index member given ∷ past) h = (no_suspicion (planned plan thread index) given (h thread index), trusting plan past h)
trusting plan (Receive from to ∷ past) h = trusting plan past h
trusting plan (Release at ∷ past) h = trusting plan past h

not_loud : (o : Option Step) (given : Answer) → ((s : Step) → o ≡ Some s → is_suspect s.call ≡ false) → ((s : Step) → o ≡ Some s → is_crash s.call ≡ false) → is_made is_loud o given ≡ false
not_loud None given h k = refl
not_loud (Some s) given h k = by_call s.call given (h s refl) (k s refl)
  where
    by_call : (call : PlannedCall) (given : Answer) → is_suspect call ≡ false → is_crash call ≡ false → is_loud call given ≡ false
    by_call (calls.Send text) given e k = refl
    by_call (calls.Change kind) given e k = refl
    by_call (calls.Suspect who) given e k = absurd (let no : true ≡ false = e in cc)
    by_call (calls.Trust who) given e k = refl
    by_call calls.Crash given e k = absurd (let no : true ≡ false = k in cc)

pub quiet : (plan : Planned) (past : Events) → HasNo is_suspect plan → HasNo is_crash plan → IsQuiet plan past
quiet plan [] h k = tt
quiet plan (Call thread index member given ∷ past) h k = (not_loud (planned plan thread index) given (h thread index) (k thread index), quiet plan past h k)
quiet plan (Receive from to ∷ past) h k = quiet plan past h k
quiet plan (Release at ∷ past) h k = quiet plan past h k
