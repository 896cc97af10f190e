-- Beginnings of a list, the longer of two, and places past a list's end.
use Rattle.std.proofs.Common.{◌≡◌, ◌⊎◌, ◌+◌, ◌-◌, ◌<◌, ◌≤◌, ltb, cond, true, false, List, [], ◌∷◌, ◌++◌, length, refl, sym, ap, ◌∙◌, inl, inr, arith, length-append, append_assoc}
use Rattle.std.proofs.lemmas.Bool.Decides.{nat_tests}
use Rattle.turn_lock.specs.Lists.{IsPrefix, longer, AddsAtMostOne}
use Rattle.turn_lock.specs.Places.{places_from, new_places}

module _ {A : Type 0} where
  pub append-nil : (xs : List A) → xs ++ [] ≡ xs
  append-nil [] = refl
  append-nil (x ∷ xs) = ap (λ ys. x ∷ ys) (append-nil xs)

  pub IsPrefix-self : (xs : List A) → IsPrefix xs xs
  IsPrefix-self xs = ([], sym (append-nil xs))

  pub IsPrefix-nil : (ys : List A) → IsPrefix [] ys
  IsPrefix-nil ys = (ys, refl)

  pub IsPrefix-trans : (xs ys zs : List A) → IsPrefix xs ys → IsPrefix ys zs → IsPrefix xs zs
  IsPrefix-trans xs ys zs p q = (p.0 ++ q.0, q.1 ∙ (ap (λ w. w ++ q.0) p.1 ∙ append_assoc xs p.0 q.0))

  pub IsPrefix-length : (xs ys : List A) → IsPrefix xs ys → length xs ≤ length ys
  IsPrefix-length xs ys p = omega (arith, ap length p.1 ∙ length-append xs p.0)

  -- of two beginnings of one list the shorter begins the longer
  IsPrefix-shorter : (xs ys zs : List A) → IsPrefix xs zs → IsPrefix ys zs → length xs ≤ length ys → IsPrefix xs ys
  IsPrefix-shorter [] ys zs p q le = (ys, refl)
  IsPrefix-shorter (x ∷ xs) [] zs p q le = absurd (omega arith)
  IsPrefix-shorter (x ∷ xs) (y ∷ ys) [] p q le = absurd (cc (p.1))
  IsPrefix-shorter (x ∷ xs) (y ∷ ys) (z ∷ zs) p q le =
      let heads : y ≡ x = cc (p.1, q.1) in
      let rest = IsPrefix-shorter xs ys zs (p.0, cc (p.1)) (q.0, cc (q.1)) (omega arith) in
      (rest.0, cc (heads, rest.1))

  -- two beginnings of one list both begin the longer of them
  pub IsPrefix-both : (xs ys zs : List A) → IsPrefix xs zs → IsPrefix ys zs → IsPrefix xs (longer xs ys) × IsPrefix ys (longer xs ys)
  IsPrefix-both xs ys zs p q = by (ltb (length xs) (length ys)) refl
    where
      by : (b : _) → ltb (length xs) (length ys) ≡ b → IsPrefix xs (cond b ys xs) × IsPrefix ys (cond b ys xs)
      by true is = let l : length xs < length ys = grind (arith, nat_tests) in (IsPrefix-shorter xs ys zs p q (omega arith), IsPrefix-self ys)
      by false is = let l : length ys ≤ length xs = grind (arith, nat_tests) in (IsPrefix-self xs, IsPrefix-shorter ys xs zs q p l)

  pub IsPrefix-longer : (xs ys zs : List A) → IsPrefix xs zs → IsPrefix ys zs → IsPrefix (longer xs ys) zs
  IsPrefix-longer xs ys zs p q = by (ltb (length xs) (length ys))
    where
      by : (b : _) → IsPrefix (cond b ys xs) zs
      by true = q
      by false = p

  pub length-longer : (xs ys : List A) → (length xs ≤ length (longer xs ys)) × (length ys ≤ length (longer xs ys))
  length-longer xs ys = by (ltb (length xs) (length ys)) refl
    where
      by : (b : _) → ltb (length xs) (length ys) ≡ b → (length xs ≤ length (cond b ys xs)) × (length ys ≤ length (cond b ys xs))
      by true is = let l : length xs < length ys = grind (arith, nat_tests) in (omega arith, omega arith)
      by false is = let l : length ys ≤ length xs = grind (arith, nat_tests) in (omega arith, omega arith)

  pub IsPrefix-adds : (xs ys : List A) → AddsAtMostOne xs ys → IsPrefix xs ys
  IsPrefix-adds xs ys (inl e) = ([], e ∙ sym (append-nil xs))
  IsPrefix-adds xs ys (inr e) = (e.0 ∷ [], e.1)

  pub length-adds : (xs ys : List A) → AddsAtMostOne xs ys → (length ys ≡ length xs) ⊎ (length ys ≡ length xs + 1)
  length-adds xs ys (inl e) = inl (ap length e)
  length-adds xs ys (inr e) = inr (ap length e.1 ∙ length-append xs (e.0 ∷ []))

  pub new_places-none : (xs ys : List A) → length ys ≡ length xs → new_places xs ys ≡ []
  new_places-none xs ys e = let n : length ys - length xs ≡ 0 = omega arith in ap (places_from (length xs)) n

  pub new_places-one : (xs ys : List A) → length ys ≡ length xs + 1 → new_places xs ys ≡ length xs ∷ []
  new_places-one xs ys e = let n : length ys - length xs ≡ 1 = omega arith in ap (places_from (length xs)) n
