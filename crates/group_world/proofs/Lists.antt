-- Lists of members, and lists of counts of which one grows.
use Rattle.std.proofs.Common.{ℕ, zero, suc, ◌≡◌, ◌≢◌, ◌<◌, ◌≤◌, ◌+◌, inl, inr, List, [], ◌∷◌, ◌++◌, length, map, set, get_or, refl, sym, ◌∙◌, ap, subst, arith, Some, None}
use Rattle.std.specs.List.{fold}
use Rattle.std.specs.Prelude.{slice_get, sum, sum_by, option_map, unwrap_or}
use Rattle.std.proofs.lemmas.List.Sums.{sum_by-cons}
use Rattle.std.proofs.lemmas.List.{map-set}
use Rattle.std.proofs.lemmas.Option.{slice_get-map, slice_get_read}
use Rattle.upd_base.specs.declared.call.Step.{Step}
use Rattle.upd_base.specs.Plan.{steps_in}
use Rattle.group_run.proofs.Lists.{same_or}
use Rattle.group_world.specs.Seen.{EachAt}

-- one element more
pub each_push : {A : Type 0} (P : ℕ → A → Type 0) (xs : List A) (x : A) → EachAt P xs → P (length xs) x → EachAt P (xs ++ x ∷ [])
each_push {A} P [] x old here zero y e = let q : x ≡ y = cc in let F : A → Type 0 = λ z. P 0 z in subst F q here
each_push P [] x old here (suc i) y e = absurd (let q : None ≡ Some y = e in cc)
each_push P (w ∷ xs) x old here zero y e = old zero y e
each_push P (w ∷ xs) x old here (suc i) y e = each_push (λ j z. P (suc j) z) xs x (λ j z h. old (suc j) z h) here i y e

-- an element that was put into a list, and the others
pub put_here : {A : Type 0} (xs : List A) (i : ℕ) (x y w : A) → slice_get xs i ≡ Some w → slice_get (set xs i x) i ≡ Some y → x ≡ y
put_here [] i x y w f e = absurd (let q : None ≡ Some w = f in cc)
put_here (z ∷ xs) zero x y w f e = cc
put_here (z ∷ xs) (suc i) x y w f e = put_here xs i x y w f e

pub put_away : {A : Type 0} (xs : List A) (i j : ℕ) (x : A) → j ≢ i → slice_get (set xs i x) j ≡ slice_get xs j
put_away [] i j x ne = refl
put_away (z ∷ xs) zero zero x ne = absurd (ne refl)
put_away (z ∷ xs) zero (suc j) x ne = refl
put_away (z ∷ xs) (suc i) zero x ne = refl
put_away (z ∷ xs) (suc i) (suc j) x ne = put_away xs i j x (λ q. ne (ap suc q))

-- so what holds of the others, and of what was put in
pub each_set : {A : Type 0} (P Q : ℕ → A → Type 0) (xs : List A) (i : ℕ) (x w : A) → slice_get xs i ≡ Some w → ((j : ℕ) (y : A) → j ≢ i → slice_get xs j ≡ Some y → P j y → Q j y) → EachAt P xs → Q i x → EachAt Q (set xs i x)
each_set {A} P Q xs i x w f keeps old here j y e = elim (same_or j i) [
  | inl q ↦
      let e2 : slice_get (set xs i x) i ≡ Some y = subst (λ k. slice_get (set xs i x) k ≡ Some y) q e in
      let is = put_here xs i x y w f e2 in
      let F : ℕ → Type 0 = λ k. Q k y in
      let G : A → Type 0 = λ z. Q i z in
      subst F (sym q) (subst G is here)
  | inr ne ↦ let e2 = sym (put_away xs i j x ne) ∙ e in keeps j y ne e2 (old j y e2)
]

-- counts ---------------------------------------------------------------------------------------------------------

fold_from : (a : ℕ) (xs : List ℕ) → fold ◌+◌ a xs ≡ a + fold ◌+◌ 0 xs
fold_from a [] = omega arith
fold_from a (x ∷ xs) =
    let e = fold_from (a + x) xs in
    let d = fold_from (0 + x) xs in
    omega (arith, e, d)

sum-cons : (x : ℕ) (xs : List ℕ) → sum (x ∷ xs) ≡ x + sum xs
sum-cons x xs = let e = fold_from (0 + x) xs in omega (arith, e)

-- counts that do not fall have no lesser sum
pub sum_grows : (old new : List ℕ) → length new ≡ length old → ((i : ℕ) → i < length old → get_or old i 0 ≤ get_or new i 0) → sum old ≤ sum new
sum_grows [] [] e h = omega arith
sum_grows [] (y ∷ new) e h = omega arith
sum_grows (x ∷ old) [] e h = absurd (omega arith)
sum_grows (x ∷ old) (y ∷ new) e h =
    let a : x ≤ y = h 0 (omega arith) in
    let b : sum old ≤ sum new = sum_grows old new (omega arith) (λ i l. h (suc i) (omega arith)) in
    let c = sum-cons x old in
    let d = sum-cons y new in
    omega (arith, a, b, c, d)

-- and one that grew makes it greater
pub sum_above : (old new : List ℕ) (t : ℕ) → length new ≡ length old → ((i : ℕ) → i < length old → get_or old i 0 ≤ get_or new i 0) → t < length old → get_or new t 0 ≡ suc (get_or old t 0) → suc (sum old) ≤ sum new
sum_above [] new t e h l g = absurd (omega arith)
sum_above (x ∷ old) [] t e h l g = absurd (omega arith)
sum_above (x ∷ old) (y ∷ new) zero e h l g =
    let a : y ≡ suc x = g in
    let b : sum old ≤ sum new = sum_grows old new (omega arith) (λ i l. h (suc i) (omega arith)) in
    let c = sum-cons x old in
    let d = sum-cons y new in
    omega (arith, a, b, c, d)
sum_above (x ∷ old) (y ∷ new) (suc t) e h l g =
    let a : x ≤ y = h 0 (omega arith) in
    let b : suc (sum old) ≤ sum new = sum_above old new t (omega arith) (λ i l. h (suc i) (omega arith)) (omega arith) g in
    let c = sum-cons x old in
    let d = sum-cons y new in
    omega (arith, a, b, c, d)

-- counts within the lengths of the threads have a sum within the steps of all threads
pub sum_within : (made : List ℕ) (threads : List (List Step)) → length made ≡ length threads → ((i : ℕ) → i < length made → get_or made i 0 ≤ length (unwrap_or (slice_get threads i) [])) → sum made ≤ sum_by steps_in threads
sum_within [] threads e h = omega arith
sum_within (x ∷ made) [] e h = absurd (omega arith)
sum_within (x ∷ made) (t ∷ threads) e h =
    let a : x ≤ length t = h 0 (omega arith) in
    let b : sum made ≤ sum_by steps_in threads = sum_within made threads (omega arith) (λ i l. h (suc i) (omega arith)) in
    let c = sum-cons x made in
    let d = sum_by-cons steps_in t threads in
    omega (arith, a, b, c, d)

-- an element that is read, written, and seen ------------------------------------------------------------------------

pub read_at : {A : Type 0} (xs : List A) (i : ℕ) (x : A) → i < length xs → x ≡ get_or xs i x → slice_get xs i ≡ Some x
read_at xs i x l e = slice_get_read xs (length xs) i x refl l e

pub set_at : {A : Type 0} (xs : List A) (i : ℕ) (y : A) → i < length xs → slice_get (set xs i y) i ≡ Some y
set_at [] i y l = absurd (omega arith)
set_at (x ∷ xs) zero y l = refl
set_at (x ∷ xs) (suc i) y l = set_at xs i y (omega arith)

-- what is seen of it
pub seen_at : {A B : Type 0} (f : A → B) (xs : List A) (i j : ℕ) (x : A) (k : B) → i ≡ j → i < length xs → x ≡ get_or xs i x → slice_get (map f xs) j ≡ Some k → f x ≡ k
seen_at f xs i j x k at l e o =
    let h : slice_get (map f xs) i ≡ Some k = ap (slice_get (map f xs)) at ∙ o in
    let q : option_map f (slice_get xs i) ≡ Some k = sym (slice_get-map f xs i) ∙ h in
    let r : Some (f x) ≡ Some k = sym (ap (option_map f) (read_at xs i x l e)) ∙ q in
    cc

-- what is seen of all, where something is written
pub written : {A B : Type 0} (f : A → B) (next : B → B) (xs : List A) (i j : ℕ) (x y : A) (k : B) → i ≡ j → i < length xs → x ≡ get_or xs i x → slice_get (map f xs) j ≡ Some k → f y ≡ next (f x) → map f (set xs i y) ≡ set (map f xs) j (next k)
written f next xs i j x y k at l e o w =
    map-set f xs i y ∙ ap (λ p. set (map f xs) p (f y)) at ∙ ap (set (map f xs) j) (w ∙ ap next (seen_at f xs i j x k at l e o))

-- where the same is seen of what is written, the same is seen of all
pub same_seen : {A B : Type 0} (f : A → B) (xs : List A) (i : ℕ) (x y : A) → x ≡ get_or xs i x → f y ≡ f x → map f (set xs i y) ≡ map f xs
same_seen f [] i x y e q = refl
same_seen f (z ∷ xs) zero x y e q = ap (λ w. w ∷ map f xs) (q ∙ ap f e)
same_seen f (z ∷ xs) (suc i) x y e q = ap (λ ws. f z ∷ ws) (same_seen f xs i x y e q)
