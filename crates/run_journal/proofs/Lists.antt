-- Lists of lists.
use Rattle.std.proofs.Common.{ℕ, zero, suc, ◌≡◌, ◌<◌, ◌+◌, List, [], ◌∷◌, ◌++◌, length, reverse, map, set, refl, sym, ◌∙◌, ap, arith, add-one, get_or}
use Rattle.std.proofs.lemmas.List.{reverse-append, map-append, map-set}
use Rattle.upd_base.specs.declared.event.Event.{Event}
use Rattle.run_journal.specs.Asked.{empty_lists}

-- what comes last comes first in the reverse
pub newest_first : (items more : List Event) (e : Event) → more ≡ items ++ e ∷ [] → reverse more ≡ e ∷ reverse items
newest_first items more e q = ap reverse q ∙ reverse-append items (e ∷ [])

-- one empty list more
pub one_more : (n : ℕ) → empty_lists n ++ [] ∷ [] ≡ empty_lists (n + 1)
one_more n = rw (add-one n) (back n)
  where
    back : (m : ℕ) → empty_lists m ++ [] ∷ [] ≡ empty_lists (suc m)
    back zero = refl
    back (suc m) = ap (λ xs. [] ∷ xs) (back m)

pub length-empty : (n : ℕ) → length (empty_lists n) ≡ n
length-empty zero = refl
length-empty (suc n) = ap suc (length-empty n)

pub all_empty : (n m : ℕ) → get_or (empty_lists n) m [] ≡ []
all_empty zero m = refl
all_empty (suc n) zero = refl
all_empty (suc n) (suc m) = all_empty n m

pub one_empty : {V : Type 0} (f : V → List ℕ) (xs ys : List V) (v : V) (n : ℕ) → map f xs ≡ empty_lists n → ys ≡ xs ++ v ∷ [] → f v ≡ [] → map f ys ≡ empty_lists (n + 1)
one_empty f xs ys v n h q e = ap (λ zs. map f zs) q ∙ map-append f xs (v ∷ []) ∙ (λ j. h j ++ e j ∷ []) ∙ one_more n

list_at : {V : Type 0} (f : V → List ℕ) (xs : List V) (i : ℕ) (d : V) → i < length xs → get_or (map f xs) i [] ≡ f (get_or xs i d)
list_at f [] i d l = absurd (omega arith)
list_at f (x ∷ xs) zero d l = refl
list_at f (x ∷ xs) (suc i) d l = list_at f xs i d (omega arith)

-- one list gets a number behind it
pub noted : {V : Type 0} (f : V → List ℕ) (xs : List V) (i at version : ℕ) (x y : V) → i ≡ at → at < length xs → x ≡ get_or xs i x → f y ≡ f x ++ version ∷ [] →
    map f (set xs i y) ≡ set (map f xs) at (get_or (map f xs) at [] ++ version ∷ [])
noted f xs i at version x y p l q e =
    let old : f x ≡ get_or (map f xs) at [] = ap f q ∙ sym (list_at f xs i x (omega arith)) ∙ ap (λ k. get_or (map f xs) k []) p in
    let new : f y ≡ get_or (map f xs) at [] ++ version ∷ [] = e ∙ ap (λ z. z ++ version ∷ []) old in
    map-set f xs i y ∙ (λ j. set (map f xs) (p j) (new j))
