-- What a caller knows at the end, where a pass added one entry.
use Rattle.std.proofs.Common.{◌≡◌, ◌≤◌, ℕ, zero, suc, ◌-◌, List, [], ◌∷◌, ◌++◌, length, refl, sym, ap, ◌∙◌, subst, arith}
use Rattle.turn_lock.specs.Lists.{IsPrefix}
use Rattle.turn_lock.specs.Places.{places_from, new_places, merged}
use Rattle.turn_lock.specs.Turns.{Adds}
use Rattle.turn_lock.proofs.Lists.{IsPrefix-trans, IsPrefix-length}

one_place : (p n : ℕ) → p ∷ [] ≡ places_from 0 n → (p ≡ 0) × (n ≡ 1)
one_place p zero e = absurd (cc (e))
one_place p (suc zero) e = (cc (e), refl)
one_place p (suc (suc n)) e = absurd (cc (e))

module _ {E : Type 0} where
  alone : (before xs : List E) (entry : E) → IsPrefix (before ++ entry ∷ []) xs → length before ≡ 0 → length xs ≡ 1 → xs ≡ entry ∷ []
  alone (y ∷ before) xs entry b none one = absurd (omega arith)
  alone [] [] entry b none one = absurd (omega arith)
  alone [] (x ∷ []) entry b none one = let e = b.1 in cc (e)
  alone [] (x ∷ x' ∷ xs) entry b none one = absurd (omega arith)

  -- The opening list was empty, and the pass that added an entry was joined into the one that closed. So the list is
  -- that entry, and is what the closing pass had seen.
  pub one_entry : (opening seen seen' joined list : List E) (own own' kept all : List ℕ) (entry : E) → opening ≡ [] → own ≡ [] → kept ≡ [] → Adds entry seen own seen' own' → IsPrefix seen' joined → IsPrefix joined list
      → all ≡ merged kept own' → all ≡ new_places opening list → (list ≡ entry ∷ []) × (joined ≡ entry ∷ [])
  one_entry opening seen seen' joined list own own' kept all entry empty nothing none adds sj jl is whole =
      let before = adds.0 in
      let mine : own' ≡ length before ∷ [] = adds.3 ∙ ap (λ ps. ps ++ length before ∷ []) nothing in
      let all_is : all ≡ length before ∷ [] = is ∙ (ap (λ ps. merged ps own') none ∙ mine) in
      let count : length list - 0 ≡ length list = omega arith in
      let from : new_places opening list ≡ places_from 0 (length list) = ap (λ (xs : List E). new_places xs list) empty ∙ ap (places_from 0) count in
      let one = one_place (length before) (length list) (sym all_is ∙ (whole ∙ from)) in
      let first : IsPrefix (before ++ entry ∷ []) joined = subst (λ xs. IsPrefix xs joined) adds.2 sj in
      let low = IsPrefix-length (before ++ entry ∷ []) joined first in
      let high = IsPrefix-length joined list jl in
      (alone before list entry (IsPrefix-trans (before ++ entry ∷ []) joined list first jl) one.0 one.1, alone before joined entry first one.0 (joined_one before entry joined low (subst (λ n. length joined ≤ n) one.1 high)))
    where
      joined_one : (before : List E) (entry : E) (joined : List E) → length (before ++ entry ∷ []) ≤ length joined → length joined ≤ 1 → length joined ≡ 1
      joined_one [] entry joined low high = omega arith
      joined_one (x ∷ before) entry joined low high = omega arith
