-- The limits of a plan, over the vectors of its threads.
use Rattle.std.proofs.Common.{◌≡◌, ℕ, ◌+◌, ◌&&◌, List, [], ◌∷◌, map, length, refl, ap, Vec, true, ◌≤◌, arith}
use Rattle.std.specs.List.{list_all, sum_by, fold}
use Rattle.std.proofs.lemmas.List.{length-map}
use Rattle.std.specs.declared.alloc.Global.{Global}
use Rattle.upd_base.specs.Plan.{all_fit, step_fits, sends_in, changes_in, steps_in, is_open, is_plan, plan_of}
use Rattle.upd_base.specs.Kind.{kind_fits}
use Rattle.upd_base.specs.declared.kind.Kind.{Kind}
use Rattle.std.proofs.lemmas.Grind.{common_steps}
use Rattle.upd_base.specs.declared.call.Step.{Step}
use Rattle.upd_base.proofs.PlanFacts.{plan_facts, broadcasts_within}

pub record InMaps (n : ℕ) (ts : List (Vec Step Global)) : Type 0 where
  pub count : length (map (λ t. t.items) ts) ≡ length ts
  pub fit : all_fit n (map (λ t. t.items) ts) ≡ list_all (λ t. list_all (step_fits n) t.items) ts
  pub steps : sum_by steps_in (map (λ t. t.items) ts) ≡ sum_by (λ t. length t.items) ts
  pub sends : sum_by sends_in (map (λ t. t.items) ts) ≡ sum_by (λ t. sends_in t.items) ts
  pub changes : sum_by changes_in (map (λ t. t.items) ts) ≡ sum_by (λ t. changes_in t.items) ts

fold_map : (g : List Step → ℕ) (a : ℕ) (ts : List (Vec Step Global)) → fold (λ b t. b + g t) a (map (λ t. t.items) ts) ≡ fold (λ b t. b + g t.items) a ts
fold_map g a [] = refl
fold_map g a (t ∷ ts) = fold_map g (a + g t.items) ts

fit_map : (n : ℕ) (ts : List (Vec Step Global)) → all_fit n (map (λ t. t.items) ts) ≡ list_all (λ t. list_all (step_fits n) t.items) ts
fit_map n [] = refl
fit_map n (t ∷ ts) = ap (λ b. list_all (step_fits n) t.items && b) (fit_map n ts)

pub in_maps : (n : ℕ) (ts : List (Vec Step Global)) → InMaps n ts
in_maps n ts = record {
  count = length-map ts (λ t. t.items);
  fit = fit_map n ts;
  steps = fold_map steps_in 0 ts;
  sends = fold_map sends_in 0 ts;
  changes = fold_map changes_in 0 ts;
}

-- what is within each limit is a plan
pub is_plan_within : (n : ℕ) (first : Kind) (ts : List (Vec Step Global)) → 1 ≤ n → n ≤ 7 → kind_fits n first ≡ true → 1 ≤ length ts → length ts ≤ 16
    → list_all (λ t. list_all (step_fits n) t.items) ts ≡ true → sum_by (λ t. length t.items) ts ≤ 1000 → sum_by (λ t. changes_in t.items) ts ≤ 32
    → is_plan (plan_of n first (map (λ t. t.items) ts)) ≡ true
unfolding is_plan is_open
is_plan_within n first ts some few k one most fit steps changes =
    let m = in_maps n ts in grind (arith, common_steps, m.count, m.fit, m.steps, m.changes)

-- what the vectors of a plan's threads hold
pub record Counts (ts : List (Vec Step Global)) : Type 0 where
  pub calls : sum_by (λ t. length t.items) ts ≤ 1000
  pub broadcasts : sum_by (λ t. sends_in t.items) ts + sum_by (λ t. changes_in t.items) ts ≤ sum_by (λ t. length t.items) ts
  pub changes : sum_by (λ t. changes_in t.items) ts ≤ 32

pub counts : (n : ℕ) (first : Kind) (ts : List (Vec Step Global)) → is_plan (plan_of n first (map (λ t. t.items) ts)) ≡ true → Counts ts
counts n first ts e =
    let f = plan_facts (plan_of n first (map (λ t. t.items) ts)) e in
    let m = in_maps n ts in
    let steps = m.steps in
    let sends = m.sends in
    let changes = m.changes in
    let few_calls = f.few_calls in
    let few_changes = f.few_changes in
    let within = broadcasts_within (map (λ t. t.items) ts) in
    record {
      calls = omega (arith, steps, few_calls);
      broadcasts = omega (arith, steps, sends, changes, within);
      changes = omega (arith, changes, few_changes);
    }
