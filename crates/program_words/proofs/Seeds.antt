-- What `parse` gives for a seed.
use Rattle.std.proofs.Common.{◌≡◌, ℕ, ◌^◌, ◌<◌, ◌≤◌, ◌&&◌, List, [], ◌∷◌, length, Bool, true, false, Some, None, Result, Ok, Err, rules, cond, inl, inr, refl, sym, ap, ◌∙◌, arith}
use Rattle.std.proofs.lemmas.Bool.{cases_lt, lt-ltb, le-ltb, leb-true}
use Rattle.std.proofs.lemmas.Str.Parse.{IsNumeralModel, numerals_by_fold, parse_digits}
use Rattle.std.specs.Result.{OkIff, result_ok}
use Rattle.std.specs.List.{list_all}
use Rattle.std.specs.Char.{is_ascii_digit}
use Rattle.std.specs.Str.{all_ascii_digits}
use Rattle.std.specs.Str.Parse.{ParsesUnsigned}
use Rattle.program_words.specs.Words.{read_on, is_seed_text, within_64_bits, seed_of}

own : IsNumeralModel (λ ds. all_ascii_digits ds ≡ true) (read_on 0)
own = numerals_by_fold _ (search rules) read_on (search rules)

pub all_digits : (bs : List ℕ) → list_all is_ascii_digit bs ≡ all_ascii_digits bs
all_digits [] = refl
all_digits (c ∷ cs) = ap (λ b. is_ascii_digit c && b) (all_digits cs)

-- both parts of a test that holds
both : (a b : Bool) → (a && b) ≡ true → (a ≡ true) × (b ≡ true)
both true true h = (refl, refl)
both true false h = (refl, h)
both false b h = (h, absurd (let no : false ≡ true = h in cc))

within : (n : ℕ) → n < 2 ^ 64 → within_64_bits n ≡ Some n
within n h = ap (λ b. cond b (Some n) None) (lt-ltb n (2 ^ 64) h)

beyond : (n : ℕ) → 2 ^ 64 ≤ n → within_64_bits n ≡ None
beyond n h = ap (λ b. cond b (Some n) None) (le-ltb n (2 ^ 64) h)

gives : {E : Type 0} (bs : List ℕ) (r : Result ℕ E) → OkIff r ((0 < length bs) × (read_on 0 bs < 2 ^ 64)) (read_on 0 bs)
    → 0 < length bs → result_ok r ≡ within_64_bits (read_on 0 bs)
gives bs (Ok n) h some = ap Some h.1 ∙ sym (within (read_on 0 bs) h.0.1)
gives bs (Err e) h some = elim (cases_lt (read_on 0 bs) (2 ^ 64)) [
  | inl lt ↦ absurd (h (some, lt))
  | inr le ↦ sym (beyond (read_on 0 bs) le)
]

pub seed_parsed : {E : Type 0} (bs : List ℕ) (r : Result ℕ E) → ParsesUnsigned 64 10 bs r → is_seed_text bs ≡ true → result_ok r ≡ seed_of bs
unfolding seed_of
seed_parsed bs r h e =
    let front = both _ _ e in
    let some : 0 < length bs = omega (arith, leb-true 1 (length bs) (both _ _ front.0).0) in
    gives bs r (parse_digits own 64 bs r h front.1) some ∙ sym (ap (λ b. cond b (within_64_bits (read_on 0 bs)) None) e)

pub no_seed : (bs : List ℕ) → is_seed_text bs ≡ false → seed_of bs ≡ None
unfolding seed_of
no_seed bs h = ap (λ b. cond b (within_64_bits (read_on 0 bs)) None) h
