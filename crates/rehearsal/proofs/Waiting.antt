-- The lowest thread that has a call.
use Rattle.std.proofs.Common.{ℕ, zero, suc, ◌≡◌, ◌<◌, ◌≤◌, ◌+◌, true, false, List, [], ◌∷◌, ◌++◌, length, refl, sym, ◌∙◌, ap, arith, Option, Some, None, add-one, inl, inr}
use Rattle.std.specs.Prelude.{is_some, slice_get, unwrap_or}
use Rattle.upd_base.specs.Plan.{Planned, steps_of, step_in}
use Rattle.upd_base.specs.declared.call.Step.{Step as PlannedStep}
use Rattle.group_run.specs.Part.{below}
use Rattle.group_run.specs.Run.{Events, calls_made}
use Rattle.std.proofs.Common.{◌==◌, append_assoc}
use Rattle.std.proofs.lemmas.Bool.{eqb-true, eq-eqb}
use Rattle.group_run.proofs.Lists.{tested}
use Rattle.run_journal.specs.Causes.{next_call}
use Rattle.rehearsal.specs.Choices.{lowest_of, waiting_thread}

-- a place of a list is there exactly where it is below the length
get_there : {A : Type 0} (xs : List A) (i : ℕ) → i < length xs → is_some (slice_get xs i) ≡ true
get_there [] i lt = absurd (omega arith)
get_there (x ∷ xs) zero lt = refl
get_there (x ∷ xs) (suc i) lt = get_there xs i (omega arith)

get_beyond : {A : Type 0} (xs : List A) (i : ℕ) → length xs ≤ i → is_some (slice_get xs i) ≡ false
get_beyond [] i le = refl
get_beyond (x ∷ xs) zero le = absurd (omega arith)
get_beyond (x ∷ xs) (suc i) le = get_beyond xs i (omega arith)

step_there : (o : Option (List PlannedStep)) (i : ℕ) → is_some (step_in o i) ≡ is_some (slice_get (unwrap_or o []) i)
step_there None i = refl
step_there (Some steps) i = refl

-- a thread has a next call exactly where it made fewer than it has
pub has_next : (plan : Planned) (past : Events) (thread made steps : ℕ) → made ≡ calls_made thread past → steps ≡ length (steps_of plan thread) → made < steps → is_some (next_call plan past thread) ≡ true
has_next plan past thread made steps m s lt =
    step_there (slice_get plan.threads thread) (calls_made thread past) ∙ get_there (steps_of plan thread) (calls_made thread past) (omega arith)

pub no_next : (plan : Planned) (past : Events) (thread made steps : ℕ) → made ≡ calls_made thread past → steps ≡ length (steps_of plan thread) → steps ≤ made → is_some (next_call plan past thread) ≡ false
no_next plan past thread made steps m s le =
    step_there (slice_get plan.threads thread) (calls_made thread past) ∙ get_beyond (steps_of plan thread) (calls_made thread past) (omega arith)

lowest_found : (plan : Planned) (past : Events) (xs ys : List ℕ) (t : ℕ) → lowest_of plan past xs ≡ None → is_some (next_call plan past t) ≡ true → lowest_of plan past (xs ++ t ∷ ys) ≡ Some t
lowest_found plan past [] ys t none some = rw some refl
lowest_found plan past (x ∷ xs) ys t none some = elim (tested (is_some (next_call plan past x))) [
  | inl e ↦ absurd (let n : Some x ≡ None = rw e at none in cc)
  | inr e ↦ rw e (lowest_found plan past xs ys t (let n : lowest_of plan past xs ≡ None = rw e at none in n) some)
]

lowest_none : (plan : Planned) (past : Events) (xs : List ℕ) (t : ℕ) → lowest_of plan past xs ≡ None → is_some (next_call plan past t) ≡ false → lowest_of plan past (xs ++ t ∷ []) ≡ None
lowest_none plan past [] t none closed = rw closed refl
lowest_none plan past (x ∷ xs) t none closed = elim (tested (is_some (next_call plan past x))) [
  | inl e ↦ absurd (let n : Some x ≡ None = rw e at none in cc)
  | inr e ↦ rw e (lowest_none plan past xs t (let n : lowest_of plan past xs ≡ None = rw e at none in n) closed)
]

-- below n begins with the numbers below t, and then t, where t is below n
below_splits : (n t : ℕ) → t < n → (rest : List ℕ) × (below n ≡ below t ++ t ∷ rest)
below_splits zero t lt = absurd (omega arith)
below_splits (suc n) t lt = elim (tested (t == n)) [
  | inl e ↦ let is : t ≡ n = eqb-true t n e in ([], rw is refl)
  | inr e ↦
      let r = below_splits n t (let ne : (t ≡ n → ⊥) = λ p. let q = eq-eqb t n p in cc in omega arith) in
      (r.0 ++ n ∷ [], ap (λ xs. xs ++ n ∷ []) r.1 ∙ append_assoc (below t) (t ∷ r.0) (n ∷ []))
]

pub found : (plan : Planned) (past : Events) (t made steps : ℕ) → t < length plan.threads → lowest_of plan past (below t) ≡ None
    → made ≡ calls_made t past → steps ≡ length (steps_of plan t) → made < steps → Some t ≡ waiting_thread plan past
found plan past t made steps lt none m s less =
    let b = below_splits (length plan.threads) t lt in
    sym (ap (lowest_of plan past) b.1 ∙ lowest_found plan past (below t) b.0 t none (has_next plan past t made steps m s less))

pub not_yet : (plan : Planned) (past : Events) (t made steps : ℕ) → lowest_of plan past (below t) ≡ None
    → made ≡ calls_made t past → steps ≡ length (steps_of plan t) → steps ≤ made → lowest_of plan past (below (t + 1)) ≡ None
not_yet plan past t made steps none m s more =
    ap (λ k. lowest_of plan past (below k)) (add-one t) ∙ lowest_none plan past (below t) t none (no_next plan past t made steps m s more)
