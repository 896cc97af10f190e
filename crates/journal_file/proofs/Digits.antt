-- Digits at the front of a line, and the number that they spell.
use Rattle.std.proofs.Common.{ℕ, zero, suc, ◌≡◌, ◌∙◌, ◌+◌, ◌-◌, ◌*◌, ◌^◌, ◌<◌, ◌≤◌, ◌++◌, ◌&&◌, List, [], ◌∷◌, Bool, true, false, not, cond, length, take, drop, get_or, sym, ap, refl, subst, arith, rules, ltb, inl, inr, Some, None}
use Rattle.std.specs.Prelude.{decimal}
use Rattle.std.specs.Char.{is_ascii_digit, digit_value}
use Rattle.std.specs.Int.{IsInRange}
use Rattle.std.specs.List.{list_all, position_or_len, position}
use Rattle.std.specs.Option.{unwrap_or}
use Rattle.std.proofs.lemmas.List.Sums.{prefix_len-le-length}
use Rattle.std.specs.Str.Parse.{digits_value, AllDigits}
use Rattle.std.proofs.lemmas.Int.Digits.{digits_value_more}
use Rattle.std.proofs.lemmas.Str.Parse.{IsNumeralModel, numerals_by_value, digits_value-take-le, digit_at}
use Rattle.std.proofs.lemmas.Fmt.{decimal-digits_value, digits_decimal, digits_value-decimal, decimal_nonempty, first_decimal, decimal_digit}
use Rattle.std.proofs.lemmas.Bool.{false≢true, cases_lt, le-ltb, lt-ltb}
use Rattle.journal_file.specs.Written.{EndsNumber}

abbrev pub AreDigits : List ℕ → Type 0
AreDigits ds = list_all is_ascii_digit ds ≡ true

pub own : IsNumeralModel AreDigits (digits_value 10)
own = numerals_by_value _ (search rules)

both : (a b : Bool) → (a && b) ≡ true → (a ≡ true) × (b ≡ true)
both true b h = (refl, h)
both false b h = (h, absurd (false≢true h))

-- a digit, and the digits behind it
pub digits_parts : (d : ℕ) (ds : List ℕ) → AreDigits (d ∷ ds) → (is_ascii_digit d ≡ true) × AreDigits ds
digits_parts d ds h = both (is_ascii_digit d) (list_all is_ascii_digit ds) h

passes_head : (p : ℕ → Bool) (x : ℕ) (xs : List ℕ) (n : ℕ) (b : Bool) → p x ≡ b → list_all p (take n xs) ≡ true → list_all p (take (cond (not (not b)) (1 + n) 0) (x ∷ xs)) ≡ true
passes_head p x xs n true e h = let more : 1 + n ≡ suc n = omega arith in rw (more, e) h
passes_head p x xs n false e h = refl

passes : (p : ℕ → Bool) (xs : List ℕ) → list_all p (take (position_or_len (λ b. not (p b)) xs) xs) ≡ true
passes p [] = refl
passes p (x ∷ xs) = passes_head p x xs (position_or_len (λ b. not (p b)) xs) (p x) refl (passes p xs)

at_or_end : (n len : ℕ) → n ≤ len → unwrap_or (cond (ltb n len) (Some n) None) len ≡ n
at_or_end n len le = elim (cases_lt n len) [
  | inl lt ↦ ap (λ b. unwrap_or (cond b (Some n) None) len) (lt-ltb n len lt)
  | inr ge ↦ ap (λ b. unwrap_or (cond b (Some n) None) len) (le-ltb n len ge) ∙ (omega arith)
]

-- the front up to the first byte that is no digit
pub front_digits : (xs : List ℕ) → AreDigits (take (unwrap_or (position (λ b. not (is_ascii_digit b)) xs) (length xs)) xs)
front_digits xs = rw (at_or_end (position_or_len (λ b. not (is_ascii_digit b)) xs) (length xs) (prefix_len-le-length _ xs)) (passes is_ascii_digit xs)

stops_head : (x : ℕ) (xs : List ℕ) (n : ℕ) (b : Bool) → is_ascii_digit x ≡ b → EndsNumber (drop n xs) → EndsNumber (drop (cond (not (not b)) (1 + n) 0) (x ∷ xs))
stops_head x xs n true e h = let more : 1 + n ≡ suc n = omega arith in rw more h
stops_head x xs n false e h = e

stops : (xs : List ℕ) → EndsNumber (drop (position_or_len (λ b. not (is_ascii_digit b)) xs) xs)
stops [] = tt
stops (x ∷ xs) = stops_head x xs (position_or_len (λ b. not (is_ascii_digit b)) xs) (is_ascii_digit x) refl (stops xs)

-- what follows it
pub after_digits : (xs : List ℕ) → EndsNumber (drop (unwrap_or (position (λ b. not (is_ascii_digit b)) xs) (length xs)) xs)
after_digits xs = rw (at_or_end (position_or_len (λ b. not (is_ascii_digit b)) xs) (length xs) (prefix_len-le-length _ xs)) (stops xs)

value_of_digit : (c : ℕ) → IsInRange 48 57 c → digit_value c ≡ c - 48
value_of_digit c h = rw (le-ltb c 48 h.0, lt-ltb c 58 (let t = h.1 in omega arith)) refl

-- one digit more
pub digits_more : (ds : List ℕ) (i : ℕ) → AreDigits ds → i < length ds → (48 ≤ get_or ds i 0) × (digits_value 10 (take (i + 1) ds) ≡ digits_value 10 (take i ds) * 10 + (get_or ds i 0 - 48)) × (digits_value 10 (take (i + 1) ds) ≤ digits_value 10 ds)
digits_more ds i h lt =
    let all : AllDigits 10 ds = own.to ds h in
    let range : IsInRange 48 57 (get_or ds i 0) = digit_at ds i all lt in
    (range.0, digits_value_more 10 ds i lt ∙ ap (λ v. digits_value 10 (take i ds) * 10 + v) (value_of_digit (get_or ds i 0) range), digits_value-take-le 10 ds (i + 1) (omega arith))

no_digit : (d : ℕ) (ds : List ℕ) → is_ascii_digit d ≡ true → EndsNumber (d ∷ ds) → ⊥
no_digit d ds is ends = false≢true (sym ends ∙ is)

-- digits that end there are told apart in one way
pub split_unique : (ds bs xs ys : List ℕ) → AreDigits ds → AreDigits bs → EndsNumber xs → EndsNumber ys → ds ++ xs ≡ bs ++ ys → (ds ≡ bs) × (xs ≡ ys)
split_unique [] [] xs ys da db ex ey e = (refl, e)
split_unique [] (b ∷ bs) xs ys da db ex ey e = absurd (no_digit b (bs ++ ys) (digits_parts b bs db).0 (subst EndsNumber e ex))
split_unique (d ∷ ds) [] xs ys da db ex ey e = absurd (no_digit d (ds ++ xs) (digits_parts d ds da).0 (subst EndsNumber (sym e) ey))
split_unique (d ∷ ds) (b ∷ bs) xs ys da db ex ey e =
    let head : d ≡ b = cc in
    let tail : ds ++ xs ≡ bs ++ ys = cc in
    let rest = split_unique ds bs xs ys (digits_parts d ds da).1 (digits_parts b bs db).1 ex ey tail in
    (let t : ds ≡ bs = rest.0 in cc, rest.1)

-- no zero stands before another digit
abbrev pub IsSpelt : List ℕ → Type 0
IsSpelt ds = (0 < length ds) × (get_or ds 0 0 ≡ 48 → length ds ≡ 1)

pub spelt : (ds : List ℕ) → AreDigits ds → IsSpelt ds → digits_value 10 ds < 2 ^ 64 → decimal (digits_value 10 ds) ≡ ds
spelt ds h is lt = decimal-digits_value own ds h is.0 is.1 lt

zero_alone : (n : ℕ) → n < 2 ^ 64 → get_or (decimal n) 0 0 ≡ 48 → length (decimal n) ≡ 1
zero_alone zero lt e = ap length (decimal_digit 0 (omega arith))
zero_alone (suc n) lt e = absurd (let first = first_decimal (suc n) (omega arith) lt in omega arith)

pub decimal_is_spelt : (n : ℕ) → n < 2 ^ 64 → IsSpelt (decimal n)
decimal_is_spelt n lt = (decimal_nonempty n lt, zero_alone n lt)

-- what follows the number, and the number's digits
pub number_front : (line ds left : List ℕ) (n : ℕ) (rest : List ℕ) → line ≡ ds ++ left → AreDigits ds → EndsNumber left → n < 2 ^ 64 → EndsNumber rest → line ≡ decimal n ++ rest → (ds ≡ decimal n) × (left ≡ rest)
number_front line ds left n rest e d ends lt ended is = split_unique ds (decimal n) left rest d (digits_decimal own n lt) ends ended (sym e ∙ is)

-- the digits' value is the number
pub number_value : (ds : List ℕ) (n : ℕ) → n < 2 ^ 64 → ds ≡ decimal n → digits_value 10 ds ≡ n
number_value ds n lt e = ap (digits_value 10) e ∙ digits_value-decimal own n lt
