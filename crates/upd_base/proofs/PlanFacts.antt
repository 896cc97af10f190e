-- What a plan is known by.
use Rattle.std.proofs.Common.{ℕ, zero, suc, ◌≡◌, ◌<◌, ◌≤◌, ◌&&◌, Bool, true, List, [], ◌∷◌, length, subst, Option, Some, None}
use Rattle.std.specs.Prelude.{slice_get, nat_le, nat_lt, sum_by}
use Rattle.std.specs.List.{list_all}
use Rattle.std.proofs.Common.{arith, refl, ◌∙◌, ◌+◌, lit≤}
use Rattle.std.proofs.lemmas.List.Sums.{sum_by-cons}
use Rattle.std.proofs.lemmas.Bool.{and_parts}
use Rattle.std.proofs.lemmas.Bool.Decides.{nat_tests}
use Rattle.upd_base.specs.Kind.{KindFits, kind_fits}
use Rattle.upd_base.specs.Plan.{Planned, is_open, is_plan, planned, step_in, step_fits, call_fits, all_fit, steps_in, sends_in, changes_in, send_count, change_count}
use Rattle.upd_base.specs.declared.call.Step.{Step}
use Rattle.upd_base.specs.declared.call.Call.TheVariants.{Send, Change, Suspect, Trust, Crash}
use Rattle.upd_base.proofs.Fits.{nat_lt-true}

nat_le-true : (a b : ℕ) → nat_le a b ≡ true → a ≤ b
nat_le-true a b e = grind (arith, nat_tests)

-- what the rules of a plan of any length say
pub record OpenFacts (p : Planned) : Type 0 where
  pub some : 1 ≤ p.members
  pub few : p.members ≤ 7
  pub first_fits : KindFits p.members p.first
  pub fit : all_fit p.members p.threads ≡ true
  pub some_threads : 1 ≤ length p.threads
  pub few_threads : length p.threads ≤ 16

-- and those of a scenario
pub record PlanFacts (p : Planned) : Type 0 where
  pub open_plan : OpenFacts p
  pub few : p.members ≤ 7
  pub some : 1 ≤ p.members
  pub first_fits : KindFits p.members p.first
  pub fit : all_fit p.members p.threads ≡ true
  pub few_threads : length p.threads ≤ 16
  pub few_calls : sum_by steps_in p.threads ≤ 1000
  pub few_changes : sum_by changes_in p.threads ≤ 32

pub open_facts : (p : Planned) → is_open p ≡ true → OpenFacts p
unfolding is_open
open_facts p e = parts (nat_le 1 p.members) (nat_le p.members 7) (kind_fits p.members p.first) (nat_le 1 (length p.threads)) (nat_le (length p.threads) 16)
    (all_fit p.members p.threads) e refl refl refl refl refl refl
  where
    parts : (a b c d e f : Bool) → (a && b && c && d && e && f) ≡ true → nat_le 1 p.members ≡ a → nat_le p.members 7 ≡ b → kind_fits p.members p.first ≡ c → nat_le 1 (length p.threads) ≡ d → nat_le (length p.threads) 16 ≡ e →
        all_fit p.members p.threads ≡ f → OpenFacts p
    parts a b c d e f all pa pb pc pd pe pf =
        let x5 = and_parts (a && b && c && d && e) f all in
        let x4 = and_parts (a && b && c && d) e x5.0 in
        let x3 = and_parts (a && b && c) d x4.0 in
        let x2 = and_parts (a && b) c x3.0 in
        let x1 = and_parts a b x2.0 in
        record {
          some = nat_le-true 1 p.members (pa ∙ x1.0);
          few = nat_le-true p.members 7 (pb ∙ x1.1);
          first_fits = pc ∙ x2.1;
          fit = pf ∙ x5.1;
          some_threads = nat_le-true 1 (length p.threads) (pd ∙ x3.1);
          few_threads = nat_le-true (length p.threads) 16 (pe ∙ x4.1);
        }

-- a plan keeps the rules of one of any length
pub plan_opens : (p : Planned) → is_plan p ≡ true → is_open p ≡ true
unfolding is_plan
plan_opens p e = (and_parts (is_open p) (nat_le (sum_by steps_in p.threads) 1000) (and_parts (is_open p && nat_le (sum_by steps_in p.threads) 1000) (nat_le (sum_by changes_in p.threads) 32) e).0).0

pub plan_facts : (p : Planned) → is_plan p ≡ true → PlanFacts p
unfolding is_plan
plan_facts p e =
    let x = and_parts (is_open p && nat_le (sum_by steps_in p.threads) 1000) (nat_le (sum_by changes_in p.threads) 32) e in
    let y = and_parts (is_open p) (nat_le (sum_by steps_in p.threads) 1000) x.0 in
    let f = open_facts p y.0 in
    record {
      open_plan = f;
      few = f.few;
      some = f.some;
      first_fits = f.first_fits;
      fit = f.fit;
      few_threads = f.few_threads;
      few_calls = nat_le-true (sum_by steps_in p.threads) 1000 y.1;
      few_changes = nat_le-true (sum_by changes_in p.threads) 32 x.1;
    }

pub all_at : {A : Type 0} (test : A → Bool) (xs : List A) (i : ℕ) (x : A) → list_all test xs ≡ true → slice_get xs i ≡ Some x → test x ≡ true
all_at test [] i x h e = absurd (let q : None ≡ Some x = e in cc)
all_at {A} test (y ∷ ys) zero x h e =
    let q : Some y ≡ Some x = e in
    let r : y ≡ x = cc in
    let P : A → Type 0 = λ z. test z ≡ true in
    subst P r (and_parts (test y) (list_all test ys) h).0
all_at test (y ∷ ys) (suc i) x h e = all_at test ys i x (and_parts (test y) (list_all test ys) h).1 e

step_found : (n : ℕ) (o : Option (List Step)) (index : ℕ) (s : Step) → ((t : List Step) → o ≡ Some t → list_all (step_fits n) t ≡ true) → step_in o index ≡ Some s → step_fits n s ≡ true
step_found n None index s h e = absurd (let q : None ≡ Some s = e in cc)
step_found n (Some t) index s h e = all_at (step_fits n) t index s (h t (λ i. Some t)) e

-- a planned step fits, and its member is one
pub planned_fits : (p : Planned) → OpenFacts p → (thread index : ℕ) (s : Step) → planned p thread index ≡ Some s → step_fits p.members s ≡ true
planned_fits p f thread index s e =
    step_found p.members (slice_get p.threads thread) index s (λ t q. all_at (list_all (step_fits p.members)) p.threads thread t f.fit q) e

pub planned_member : (p : Planned) → OpenFacts p → (thread index : ℕ) (s : Step) → planned p thread index ≡ Some s → s.at < p.members
planned_member p f thread index s e = nat_lt-true s.at p.members (and_parts (nat_lt s.at p.members) (call_fits p.members s.at s.call) (planned_fits p f thread index s e)).0

-- each element adds its part to a sum
pub part_below : {A : Type 0} (f : A → ℕ) (xs : List A) (i : ℕ) (x : A) → slice_get xs i ≡ Some x → f x ≤ sum_by f xs
part_below f [] i x e = absurd (let q : None ≡ Some x = e in cc)
part_below {A} f (y ∷ ys) zero x e =
    let q : Some y ≡ Some x = e in
    let r : y ≡ x = cc in
    let c = sum_by-cons f y ys in
    let P : A → Type 0 = λ z. f z ≤ sum_by f (y ∷ ys) in
    subst P r (omega (arith, c))
part_below f (y ∷ ys) (suc i) x e =
    let c = sum_by-cons f y ys in
    let l = part_below f ys i x e in
    omega (arith, c, l)

-- a sum of two parts is below the sum of the wholes
pub parts_below : {A : Type 0} (f g h : A → ℕ) (xs : List A) → ((x : A) → f x + g x ≤ h x) → sum_by f xs + sum_by g xs ≤ sum_by h xs
parts_below f g h [] le = omega arith
parts_below f g h (x ∷ xs) le =
    let a = sum_by-cons f x xs in
    let b = sum_by-cons g x xs in
    let c = sum_by-cons h x xs in
    let l = parts_below f g h xs le in
    let k = le x in
    omega (arith, a, b, c, l, k)

-- a thread of a plan has at most 1,000 calls
pub thread_within : (p : Planned) → PlanFacts p → (thread : ℕ) (steps : List Step) → slice_get p.threads thread ≡ Some steps → length steps ≤ 1000
thread_within p f thread steps e =
    let l = part_below steps_in p.threads thread steps e in
    let k = f.few_calls in
    omega (arith, l, k)

-- a step sends, changes, or does neither
broadcast_once : (s : Step) → send_count s.call + change_count s.call ≤ 1
broadcast_once s = elim s.call as (λ c. send_count c + change_count c ≤ 1) [ Send text ↦ lit≤ tt | Change kind ↦ lit≤ tt | Suspect who ↦ lit≤ tt | Trust who ↦ lit≤ tt | Crash ↦ lit≤ tt ]

ones : (steps : List Step) → sum_by (λ s. 1) steps ≡ length steps
ones [] = refl
ones (s ∷ steps) =
    let c = sum_by-cons (λ s. 1) s steps in
    let l = ones steps in
    omega (arith, c, l)

broadcasts_in : (steps : List Step) → sends_in steps + changes_in steps ≤ steps_in steps
broadcasts_in steps =
    let l = parts_below (λ s. send_count s.call) (λ s. change_count s.call) (λ s. 1) steps broadcast_once in
    let k = ones steps in
    omega (arith, l, k)

-- messages and changes are among the calls
pub broadcasts_within : (threads : List (List Step)) → sum_by sends_in threads + sum_by changes_in threads ≤ sum_by steps_in threads
broadcasts_within threads = parts_below sends_in changes_in steps_in threads broadcasts_in
