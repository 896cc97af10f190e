use Rattle.std.proofs.Common.{◌≡◌, Bool, true, false, cond, List, [], ◌∷◌, ◌++◌, Some, refl, sym, ap, ◌∙◌, subst, append_assoc, append-nil}
use Rattle.std.specs.declared.cmp.Ordering.{Ordering}
use Rattle.std.specs.declared.cmp.Ordering.TheVariants.{Less, Greater}
use Rattle.std.specs.Ordering.{match_ordering, ordering_reverse}
use Rattle.std.specs.Cmp.{IsTotalOrder}
use Rattle.std.specs.List.{AllByRecursion}
use Rattle.std.specs.List.Sorted.{IsStrictlySortedBy}
use Rattle.std.specs.Map.{lookup, keys_of}
use Rattle.std.specs.BTreeMap.{insert_entry}
use Rattle.map_copies.specs.Copies.{Mirrors, MayCopy}

-- a key that is above all others goes to the end
pub insert_last : {K V : Type 0} (cmp : K → K → Ordering) → IsTotalOrder cmp → (R : V → V → Type 0) (xs ys : List (K × V)) (e : K × V) (v : V) (rest : List (K × V))
    → Mirrors R xs ys → R e.1 v → IsStrictlySortedBy cmp (keys_of (xs ++ e ∷ rest)) → Mirrors R (xs ++ e ∷ []) (insert_entry cmp ys e.0 v)
unfolding IsStrictlySortedBy
insert_last cmp total R [] [] e v rest m r h = (refl, r, tt)
insert_last cmp total R [] (y ∷ ys) e v rest m r h = absurd m
insert_last cmp total R (x ∷ xs) [] e v rest m r h = absurd m
insert_last {K} {V} cmp total R (x ∷ xs) (y ∷ ys) e v rest m r h =
    let below : cmp x.0 e.0 ≡ Less = lowest xs h.0 in
    let above : cmp e.0 y.0 ≡ Greater = ap (cmp e.0) (sym m.0) ∙ total.antisymm e.0 x.0 ∙ ap ordering_reverse below in
    subst (Mirrors R (x ∷ (xs ++ e ∷ []))) (sym (ap (λ o. match_ordering o ((e.0, v) ∷ y ∷ ys) ((y.0, v) ∷ ys) (y ∷ insert_entry cmp ys e.0 v)) above))
    (m.0, m.1, insert_last cmp total R xs ys e v rest m.2 r h.1)
  where
    lowest : (zs : List (K × V)) → AllByRecursion (λ k. cmp x.0 k ≡ Less) (keys_of (zs ++ e ∷ rest)) → cmp x.0 e.0 ≡ Less
    lowest [] a = a.0
    lowest (z ∷ zs) a = lowest zs a.1

-- what is found at a key
pub found : {K V : Type 0} (R : V → V → Type 0) (test : K → Bool) (xs ys : List (K × V)) → Mirrors R xs ys → MayCopy R (lookup test xs) (lookup test ys)
found R test [] [] m = tt
found R test [] (y ∷ ys) m = absurd m
found R test (x ∷ xs) [] m = absurd m
found R test (x ∷ xs) (y ∷ ys) m =
    subst (λ k. MayCopy R (cond (test x.0) (Some x.1) (lookup test xs)) (cond (test k) (Some y.1) (lookup test ys))) m.0
    (elim (test x.0) as (λ b. MayCopy R (cond b (Some x.1) (lookup test xs)) (cond b (Some y.1) (lookup test ys))) [
      | true ↦ m.1
      | false ↦ found R test xs ys m.2
    ])

-- one entry more is copied
pub one_more : {K V : Type 0} (cmp : K → K → Ordering) → IsTotalOrder cmp → (R : V → V → Type 0) (all s t es new : List (K × V)) (k : K) (v w : V)
    → IsStrictlySortedBy cmp (keys_of all) → s ≡ (k, v) ∷ t → R v w → new ≡ insert_entry cmp es k w
    → (done : List (K × V)) × (done ++ s ≡ all) × Mirrors R done es → (done : List (K × V)) × (done ++ t ≡ all) × Mirrors R done new
one_more {K} {V} cmp total R all s t es new k v w sorted left r is old =
    let whole : old.0 ++ (k, v) ∷ t ≡ all = ap (λ l. old.0 ++ l) (sym left) ∙ old.1 in (
      old.0 ++ (k, v) ∷ [],
      append_assoc old.0 ((k, v) ∷ []) t ∙ whole,
      subst (Mirrors R (old.0 ++ (k, v) ∷ [])) (sym is)
          (insert_last cmp total R old.0 es (k, v) w t old.2 r (subst (λ l. IsStrictlySortedBy cmp (keys_of l)) (sym whole) sorted)),
    )

-- all are
pub all_copied : {K V : Type 0} (R : V → V → Type 0) (all s es : List (K × V)) → s ≡ [] → (done : List (K × V)) × (done ++ s ≡ all) × Mirrors R done es → Mirrors R all es
all_copied R all s es none old = subst (λ l. Mirrors R l es) (sym (append-nil old.0) ∙ ap (λ l. old.0 ++ l) (sym none) ∙ old.1) old.2

-- copies that are the same values
pub same_entries : {K V : Type 0} (xs ys : List (K × V)) → Mirrors (λ x y. x ≡ y) xs ys → xs ≡ ys
same_entries [] [] m = refl
same_entries [] (y ∷ ys) m = absurd m
same_entries (x ∷ xs) [] m = absurd m
same_entries (x ∷ xs) (y ∷ ys) m = ap (λ k. (k, x.1) ∷ xs) m.0 ∙ ap (λ v. (y.0, v) ∷ xs) m.1 ∙ ap (λ l. y ∷ l) (same_entries xs ys m.2)
