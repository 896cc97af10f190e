-- Plans with a call more.
use Rattle.std.proofs.lemmas.Bool.{and_parts}
use Rattle.std.proofs.lemmas.Bool.Decides.{nat_tests}
use Rattle.std.specs.List.{list_all}
use Rattle.std.proofs.Common.{ℕ, zero, suc, ◌≡◌, ◌<◌, ◌≤◌, ◌&&◌, Bool, true, nat_le, List, [], ◌∷◌, ◌++◌, length, refl, ap, arith, Some, None}
use Rattle.std.specs.Prelude.{slice_get, unwrap_or}
use Rattle.upd_base.specs.Plan.{Planned, planned, step_in, steps_of, is_open, all_fit, step_fits}
use Rattle.upd_base.specs.Kind.{kind_fits}
use Rattle.upd_base.proofs.PlanFacts.{open_facts}
use Rattle.upd_base.specs.declared.call.Step.{Step as PlannedStep}
use Rattle.group_growth.specs.Growth.{said, said_in}
use Rattle.group_growth.specs.Laws.{SaidGoesOn, SaidIsOpen}

-- what stands in a list stands there with more behind it
get_before : {A : Type 0} (xs ys : List A) (i : ℕ) (x : A) → slice_get xs i ≡ Some x → slice_get (xs ++ ys) i ≡ Some x
get_before [] ys i x e = absurd (let q : None ≡ Some x = e in cc)
get_before (y ∷ xs) ys zero x e = e
get_before (y ∷ xs) ys (suc i) x e = get_before xs ys i x e

-- and what is behind a list comes next
get_behind : {A : Type 0} (xs : List A) (y : A) → slice_get (xs ++ y ∷ []) (length xs) ≡ Some y
get_behind [] y = refl
get_behind (x ∷ xs) y = get_behind xs y

said_keeps : (threads : List (List PlannedStep)) (at thread index : ℕ) (s t : PlannedStep) → step_in (slice_get threads thread) index ≡ Some t → step_in (slice_get (said_in at s threads) thread) index ≡ Some t
said_keeps [] at thread index s t e = e
said_keeps (steps ∷ threads) zero zero index s t e = get_before steps (s ∷ []) index t e
said_keeps (steps ∷ threads) zero (suc thread) index s t e = e
said_keeps (steps ∷ threads) (suc at) zero index s t e = e
said_keeps (steps ∷ threads) (suc at) (suc thread) index s t e = said_keeps threads at thread index s t e

pub said_goes_on : SaidGoesOn
said_goes_on = λ plan thread s. record {
  members = refl;
  first = refl;
  calls = λ other index t e. said_keeps plan.threads thread other index s t e;
}

-- the call more is the next of its thread
said_last : (threads : List (List PlannedStep)) (at : ℕ) (s : PlannedStep) → at < length threads → step_in (slice_get (said_in at s threads) at) (length (unwrap_or (slice_get threads at) [])) ≡ Some s
said_last [] at s h = absurd (omega arith)
said_last (steps ∷ threads) zero s h = get_behind steps s
said_last (steps ∷ threads) (suc at) s h = said_last threads at s (omega arith)

pub planned_last : (plan : Planned) (thread : ℕ) (s : PlannedStep) → thread < length plan.threads → planned (said plan thread s) thread (length (steps_of plan thread)) ≡ Some s
planned_last plan thread s h = said_last plan.threads thread s h

-- The rules of a plan -----------------------------------------------------------------------------------------------

pub both : (a b : Bool) → a ≡ true → b ≡ true → (a && b) ≡ true
both a b p q = rw (p, q) refl

below_true : (a b : ℕ) → a ≤ b → nat_le a b ≡ true
below_true a b h = grind (arith, nat_tests)

pub opens : (p : Planned) → 1 ≤ p.members → p.members ≤ 7 → kind_fits p.members p.first ≡ true → 1 ≤ length p.threads → length p.threads ≤ 16 → all_fit p.members p.threads ≡ true → is_open p ≡ true
unfolding is_open
opens p a b c d e f = both _ _ (both _ _ (both _ _ (both _ _ (both _ _ (below_true 1 p.members a) (below_true p.members 7 b)) c) (below_true 1 (length p.threads) d)) (below_true (length p.threads) 16 e)) f

fit_more : (n : ℕ) (steps : List PlannedStep) (s : PlannedStep) → list_all (step_fits n) steps ≡ true → step_fits n s ≡ true → list_all (step_fits n) (steps ++ s ∷ []) ≡ true
fit_more n [] s h f = both (step_fits n s) true f refl
fit_more n (t ∷ steps) s h f =
    let x = and_parts (step_fits n t) (list_all (step_fits n) steps) h in
    both (step_fits n t) (list_all (step_fits n) (steps ++ s ∷ [])) x.0 (fit_more n steps s x.1 f)

fit_said : (n : ℕ) (threads : List (List PlannedStep)) (thread : ℕ) (s : PlannedStep) → all_fit n threads ≡ true → step_fits n s ≡ true → all_fit n (said_in thread s threads) ≡ true
fit_said n [] thread s h f = refl
fit_said n (steps ∷ threads) zero s h f =
    let x = and_parts (list_all (step_fits n) steps) (all_fit n threads) h in
    both (list_all (step_fits n) (steps ++ s ∷ [])) (all_fit n threads) (fit_more n steps s x.0 f) x.1
fit_said n (steps ∷ threads) (suc thread) s h f =
    let x = and_parts (list_all (step_fits n) steps) (all_fit n threads) h in
    both (list_all (step_fits n) steps) (all_fit n (said_in thread s threads)) x.0 (fit_said n threads thread s x.1 f)

pub many_said : (threads : List (List PlannedStep)) (thread : ℕ) (s : PlannedStep) → length (said_in thread s threads) ≡ length threads
many_said [] thread s = refl
many_said (steps ∷ threads) zero s = refl
many_said (steps ∷ threads) (suc thread) s = ap suc (many_said threads thread s)

pub said_is_open : SaidIsOpen
said_is_open = λ plan thread s o f.
    let k = open_facts plan o in
    let m = many_said plan.threads thread s in
    let q : Planned = said plan thread s in
    opens q k.some k.few k.first_fits (let a = k.some_threads in omega arith) (let a = k.few_threads in omega arith) (fit_said plan.members plan.threads thread s k.fit f)
