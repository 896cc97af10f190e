-- One more item at the end of a list, against tests and sums over it.
use Rattle.std.proofs.Common.{◌≡◌, ℕ, ◌+◌, Bool, true, List, [], ◌∷◌, ◌++◌, length, refl, ap, ◌∙◌, arith}
use Rattle.std.specs.List.{list_all, sum_by}
use Rattle.std.proofs.lemmas.List.Folds.{list_all-append}
use Rattle.std.proofs.lemmas.Grind.{common_steps}
use Rattle.upd_base.specs.Plan.{change_count, changes_in}
use Rattle.upd_base.specs.declared.call.Step.{Step}

pub all_more : {X : Type 0} (p : X → Bool) (xs ys : List X) (x : X) → ys ≡ xs ++ x ∷ [] → list_all p xs ≡ true → p x ≡ true → list_all p ys ≡ true
all_more p xs ys x e h q = grind (arith, common_steps, ap (list_all p) e, list_all-append p xs (x ∷ []))

pub count_more : {X : Type 0} (xs ys : List X) (x : X) (i : ℕ) → ys ≡ xs ++ x ∷ [] → length xs ≡ i → length ys ≡ i + 1
count_more xs ys x i e h = ap length e ∙ grind (arith, common_steps)

sum_more : {X : Type 0} (f : X → ℕ) (xs ys : List X) (x : X) → ys ≡ xs ++ x ∷ [] → sum_by f ys ≡ sum_by f xs + f x
sum_more f xs ys x e = ap (sum_by f) e ∙ grind (arith, common_steps)

pub sums_more : {X : Type 0} (f : X → ℕ) (xs ys : List X) (x : X) (old new : ℕ) → ys ≡ xs ++ x ∷ [] → old ≡ sum_by f xs → new ≡ old + f x → new ≡ sum_by f ys
sums_more f xs ys x old new e h k = let m = sum_more f xs ys x e in cc

pub steps_more : {X : Type 0} (xs ys : List X) (x : X) (first old new : ℕ) → ys ≡ xs ++ x ∷ [] → old ≡ first + length xs → new ≡ old + 1 → new ≡ first + length ys
steps_more xs ys x first old new e h k = let m : length ys ≡ length xs + 1 = count_more xs ys x (length xs) e refl in omega arith

pub changes_more : (xs ys : List Step) (x : Step) (first old new : ℕ) → ys ≡ xs ++ x ∷ [] → old ≡ first + changes_in xs → new ≡ old + change_count x.call → new ≡ first + changes_in ys
changes_more xs ys x first old new e h k = let m = sum_more (λ s. change_count s.call) xs ys x e in omega arith
