-- Sums over a list of which one or two places change, and places that rise.
use Rattle.std.proofs.Common.{◌≡◌, ◌≢◌, ℕ, zero, suc, ◌+◌, ◌-◌, ◌<◌, ◌≤◌, lt_of_not-le, subst, eqb, ltb, cond, true, false, List, [], ◌∷◌, ◌++◌, length, set, refl, sym, ap, ◌∙◌, ◌⊎◌, inl, inr, arith}
use Rattle.std.specs.List.{sum_by}
use Rattle.std.proofs.lemmas.Bool.Decides.{nat_tests}
use Rattle.std.proofs.lemmas.List.Sums.{sum_by-cons, sum_by-append}
use mathlib.Core.Option.{some, some-ne-none, some-injective}
use native.Mathlib.Decide.{dec_le, ℕ_discrete}
use lib.ListN.{get_elem?}
use Rattle.turn_lock.specs.Lists.{AddsAtMostOne}
use Rattle.turn_lock.specs.Places.{times, within, Ascends, places_from, new_places, insert_place, merged}
use Rattle.turn_lock.proofs.Lists.{append-nil, length-adds, new_places-none, new_places-one}

module _ {A : Type 0} (f : A → ℕ) where
  pub sum_by-set_at : (xs : List A) (i : ℕ) (v w : A) → get_elem? xs i ≡ some v → sum_by f (set xs i w) + f v ≡ sum_by f xs + f w
  sum_by-set_at [] i v w at = absurd (some-ne-none v (sym at))
  sum_by-set_at (x ∷ xs) zero v w at = let e : f x ≡ f v = ap f (some-injective x v at) in let old = sum_by-cons f x xs in let new = sum_by-cons f w xs in omega arith
  sum_by-set_at (x ∷ xs) (suc i) v w at = let r = sum_by-set_at xs i v w at in let old = sum_by-cons f x xs in let new = sum_by-cons f x (set xs i w) in omega arith

  sum_by-at : (xs : List A) (i : ℕ) (v : A) → get_elem? xs i ≡ some v → f v ≤ sum_by f xs
  sum_by-at [] i v at = absurd (some-ne-none v (sym at))
  sum_by-at (x ∷ xs) zero v at = let e : f x ≡ f v = ap f (some-injective x v at) in let all = sum_by-cons f x xs in omega arith
  sum_by-at (x ∷ xs) (suc i) v at = let r = sum_by-at xs i v at in let all = sum_by-cons f x xs in omega arith

  pub sum_by-two : (xs : List A) (i j : ℕ) (v w : A) → get_elem? xs i ≡ some v → get_elem? xs j ≡ some w → i ≢ j → f v + f w ≤ sum_by f xs
  sum_by-two [] i j v w at to ne = absurd (some-ne-none v (sym at))
  sum_by-two (x ∷ xs) zero zero v w at to ne = absurd (ne refl)
  sum_by-two (x ∷ xs) zero (suc j) v w at to ne = let e : f x ≡ f v = ap f (some-injective x v at) in let r = sum_by-at xs j w to in let all = sum_by-cons f x xs in omega arith
  sum_by-two (x ∷ xs) (suc i) zero v w at to ne = let e : f x ≡ f w = ap f (some-injective x w to) in let r = sum_by-at xs i v at in let all = sum_by-cons f x xs in omega arith
  sum_by-two (x ∷ xs) (suc i) (suc j) v w at to ne = let r = sum_by-two xs i j v w at to (λ e. ne (ap suc e)) in let all = sum_by-cons f x xs in omega arith

  sum_by-none : (xs : List A) → ((j : ℕ) (u : A) → get_elem? xs j ≡ some u → f u ≡ 0) → sum_by f xs ≡ 0
  sum_by-none [] all = refl
  sum_by-none (x ∷ xs) all = let h = all 0 x refl in let r = sum_by-none xs (λ j u e. all (suc j) u e) in let s = sum_by-cons f x xs in omega arith

  -- where each other place counts 0
  pub sum_by-alone : (xs : List A) (i : ℕ) (v : A) → get_elem? xs i ≡ some v → ((j : ℕ) (u : A) → j ≢ i → get_elem? xs j ≡ some u → f u ≡ 0) → sum_by f xs ≡ f v
  sum_by-alone [] i v at others = absurd (some-ne-none v (sym at))
  sum_by-alone (x ∷ xs) zero v at others =
      let e : f x ≡ f v = ap f (some-injective x v at) in let r = sum_by-none xs (λ j u e. others (suc j) u (λ z. omega arith) e) in let s = sum_by-cons f x xs in omega arith
  sum_by-alone (x ∷ xs) (suc i) v at others =
      let h = others 0 x (λ z. omega arith) refl in let r = sum_by-alone xs i v at (λ j u ne e. others (suc j) u (λ z. ne (omega arith)) e) in let s = sum_by-cons f x xs in omega arith

times-cons : (p q : ℕ) (ps : List ℕ) → times p (q ∷ ps) ≡ cond (eqb q p) 1 0 + times p ps
times-cons p q ps = sum_by-cons (λ r. cond (eqb r p) 1 0) q ps

times-append : (p : ℕ) (ps qs : List ℕ) → times p (ps ++ qs) ≡ times p ps + times p qs
times-append p ps qs = sum_by-append (λ r. cond (eqb r p) 1 0) ps qs

times-insert : (p q : ℕ) (qs : List ℕ) → times p (insert_place q qs) ≡ cond (eqb q p) 1 0 + times p qs
times-insert p q [] = times-cons p q []
times-insert p q (r ∷ qs) = by (ltb q r) (times-insert p q qs)
  where
    by : (b : _) → times p (insert_place q qs) ≡ cond (eqb q p) 1 0 + times p qs → times p (cond b (q ∷ r ∷ qs) (r ∷ insert_place q qs)) ≡ cond (eqb q p) 1 0 + times p (r ∷ qs)
    by true later = times-cons p q (r ∷ qs)
    by false later = let old = times-cons p r qs in let new = times-cons p r (insert_place q qs) in omega arith

pub times-merged : (p : ℕ) (ps qs : List ℕ) → times p (merged ps qs) ≡ times p ps + times p qs
times-merged p [] qs = omega arith
times-merged p (q ∷ ps) qs = let r = times-merged p ps qs in let s = times-insert p q (merged ps qs) in let c = times-cons p q ps in omega arith

pub Ascends-wide : (low low' high high' : ℕ) (ps : List ℕ) → low' ≤ low → high ≤ high' → Ascends low high ps → Ascends low' high' ps
Ascends-wide low low' high high' [] a b h = tt
Ascends-wide low low' high high' (p ∷ ps) a b h = let l = h.0.0 in let u = h.0.1 in ((omega arith, omega arith), Ascends-wide (suc p) (suc p) high high' ps (omega arith) b h.1)

Ascends-append_one : (low high n : ℕ) (ps : List ℕ) → low ≤ n → high ≤ n → Ascends low high ps → Ascends low (suc n) (ps ++ n ∷ [])
Ascends-append_one low high n [] a b h = ((a, omega arith), tt)
Ascends-append_one low high n (p ∷ ps) a b h = let u = h.0.1 in ((h.0.0, omega arith), Ascends-append_one (suc p) high n ps (omega arith) b h.1)

times-below : (low high p : ℕ) (ps : List ℕ) → Ascends low high ps → p < low → times p ps ≡ 0
times-below low high p [] h l = refl
times-below low high p (q ∷ ps) h l = let k = h.0.0 in let r = times-below (suc q) high p ps h.1 (omega arith) in let c = times-cons p q ps in let other : cond {A = ℕ} (eqb q p) 1 0 ≡ 0 = grind (arith, nat_tests) in omega arith

one_of_itself : (p : ℕ) → cond {A = ℕ} (eqb p p) 1 0 ≡ 1
one_of_itself p = grind (arith, nat_tests)

Ascends-insert : (low high p : ℕ) (qs : List ℕ) → low ≤ p → p < high → times p qs ≡ 0 → Ascends low high qs → Ascends low high (insert_place p qs)
Ascends-insert low high p [] a b n h = ((a, b), tt)
Ascends-insert low high p (q ∷ qs) a b n h = by (ltb p q) refl (λ l z. Ascends-insert (suc q) high p qs l b z h.1)
  where
    counted : times p (q ∷ qs) ≡ cond (eqb q p) 1 0 + times p qs
    counted = times-cons p q qs

    apart : p ≢ q
    apart e = let one : cond {A = ℕ} (eqb q p) 1 0 ≡ 1 = grind (arith, nat_tests) in let c = counted in omega arith

    by : (b : _) → ltb p q ≡ b → (suc q ≤ p → times p qs ≡ 0 → Ascends (suc q) high (insert_place p qs)) → Ascends low high (cond b (p ∷ q ∷ qs) (q ∷ insert_place p qs))
    by true is go = let l : p < q = grind (arith, nat_tests) in ((a, b), ((omega arith, h.0.1), h.1))
    by false is go = let l : q ≤ p = grind (arith, nat_tests) in let ne = apart in let c = counted in (h.0, go (omega arith) (omega arith))

-- two rising lists with no place in common rise together
pub Ascends-merged : (low high : ℕ) (ps qs : List ℕ) → Ascends low high ps → Ascends low high qs → ((p : ℕ) → times p ps + times p qs ≤ 1) → Ascends low high (merged ps qs)
Ascends-merged low high [] qs h k apart = k
Ascends-merged low high (p ∷ ps) qs h k apart =
    let mine = apart p in
    let one = one_of_itself p in
    let c = times-cons p p ps in
    let later = times-merged p ps qs in
    let k' = h.0.0 in
    Ascends-insert low high p (merged ps qs) h.0.0 h.0.1 (omega arith) (Ascends-merged low high ps qs (Ascends-wide (suc p) low high high ps (omega arith) (omega arith) h.1) k (λ q. let a = apart q in let d = times-cons q p ps in omega arith))

Ascends-from : (low high : ℕ) (ps : List ℕ) → Ascends 0 high ps → ((p : ℕ) → p < low → times p ps ≡ 0) → Ascends low high ps
Ascends-from low high [] h none_below = tt
Ascends-from low high (p ∷ ps) h none_below = ((by (dec_le low p), h.0.1), h.1)
  where
    by : Dec (low ≤ p) → low ≤ p
    by (yes d) = d
    by (no d) = let z = none_below p (lt_of_not-le d) in let c = times-cons p p ps in let one = one_of_itself p in absurd (omega arith)

one_less : (low n p : ℕ) → within low (low + suc n) p ≡ cond (eqb low p) 1 0 + within (suc low) (suc low + n) p
one_less low n p = grind (arith, nat_tests)

within-next : (low n p : ℕ) → low ≤ n → within low (n + 1) p ≡ within low n p + cond (eqb n p) 1 0
within-next low n p le = grind (arith, nat_tests)

within-none : (low p : ℕ) → within low (low + 0) p ≡ 0
within-none low p = grind (arith, nat_tests)

-- rising places that are just the n places from low on
rises_whole : (low n high : ℕ) (ps : List ℕ) → Ascends low high ps → ((p : ℕ) → times p ps ≡ within low (low + n) p) → ps ≡ places_from low n
rises_whole low zero high [] h all = refl
rises_whole low (suc n) high [] h all = let z : 0 ≡ within low (low + suc n) low = all low in let s = one_less low n low in let one = one_of_itself low in absurd (omega arith)
rises_whole low zero high (p ∷ ps) h all = let z = all p in let c = times-cons p p ps in let one = one_of_itself p in let none_there = within-none low p in absurd (omega arith)
rises_whole low (suc n) high (p ∷ ps) h all =
    by (ℕ_discrete p low)
    (λ e. rises_whole (suc low) n high ps (subst (λ z. Ascends (suc z) high ps) e h.1)
    (λ q. let z = all q in let c = times-cons q p ps in let s = one_less low n q in let t : cond {A = ℕ} (eqb p q) 1 0 ≡ cond (eqb low q) 1 0 = ap (λ k. cond (eqb k q) 1 0) e in omega arith))
  where
    by : Dec (p ≡ low) → (p ≡ low → ps ≡ places_from (suc low) n) → p ∷ ps ≡ low ∷ places_from (suc low) n
    by (yes e) rest = let r = rest e in cc
    by (no ne) rest =
        let z = all low in
        let c = times-cons low p ps in
        let s = one_less low n low in
        let l : low < p = omega (arith, h.0.0) in
        let t = times-below (suc p) high low ps h.1 (omega arith) in
        let other : cond {A = ℕ} (eqb p low) 1 0 ≡ 0 = grind (arith, nat_tests) in
        let one = one_of_itself low in
        absurd (omega arith)

-- rising places that are just those from low on and below high
pub places_whole : (low high top : ℕ) (ps : List ℕ) → low ≤ high → Ascends 0 top ps → ((p : ℕ) → times p ps ≡ within low high p) → ps ≡ places_from low (high - low)
places_whole low high top ps le h all =
    let e : low + (high - low) ≡ high = omega arith in
    rises_whole low (high - low) top ps (Ascends-from low top ps h (λ p l. all p ∙ grind (arith, nat_tests))) (λ p. all p ∙ ap (λ z. within low z p) (sym e))

module _ {A : Type 0} where
  -- the new places are just those past xs
  pub times-new_places : (first p : ℕ) (own : List ℕ) (xs ys : List A) → first ≤ length xs → AddsAtMostOne xs ys → times p (own ++ new_places xs ys) + within first (length xs) p ≡ times p own + within first (length ys) p
  times-new_places first p own xs ys low adds =
      let t = times-append p own (new_places xs ys) in
      by t (length-adds xs ys adds)
    where
      by : times p (own ++ new_places xs ys) ≡ times p own + times p (new_places xs ys) → (length ys ≡ length xs) ⊎ (length ys ≡ length xs + 1) → times p (own ++ new_places xs ys) + within first (length xs) p ≡ times p own + within first (length ys) p
      by t (inl e) = let n : times p (new_places xs ys) ≡ 0 = ap (times p) (new_places-none xs ys e) in let w = ap (λ z. within first z p) e in omega arith
      by t (inr e) =
          let n : times p (new_places xs ys) ≡ cond (eqb (length xs) p) 1 0 + 0 = ap (times p) (new_places-one xs ys e) ∙ times-cons p (length xs) [] in
          let w = ap (λ z. within first z p) e ∙ within-next first (length xs) p low in
          omega arith

  -- after a turn the own places rise still, and are places in the list given back
  pub Ascends-new_places : (own : List ℕ) (n : ℕ) (xs ys : List A) → n ≤ length xs → Ascends 0 n own → AddsAtMostOne xs ys → Ascends 0 (length ys) (own ++ new_places xs ys)
  Ascends-new_places own n xs ys le h adds = by (length-adds xs ys adds)
    where
      by : (length ys ≡ length xs) ⊎ (length ys ≡ length xs + 1) → Ascends 0 (length ys) (own ++ new_places xs ys)
      by (inl e) = subst (Ascends 0 (length ys)) (sym (ap (λ ps. own ++ ps) (new_places-none xs ys e) ∙ append-nil own)) (Ascends-wide 0 0 n (length ys) own (omega arith) (omega arith) h)
      by (inr e) =
          let top : suc (length xs) ≡ length ys = omega arith in
          subst (Ascends 0 (length ys)) (sym (ap (λ ps. own ++ ps) (new_places-one xs ys e))) (subst (λ z. Ascends 0 z (own ++ length xs ∷ [])) top (Ascends-append_one 0 n (length xs) own (omega arith) le h))
