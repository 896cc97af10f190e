-- What a put and a get do to what a line in memory tells.
use Rattle.std.proofs.Common.{◌≡◌, ℕ, zero, suc, ◌+◌, ◌-◌, ◌%◌, ◌<◌, ◌≤◌, Bool, true, false, leb, ltb, ◌&&◌, List, [], ◌∷◌, ◌++◌, length, get_or, set, replicate, take, drop, Option, Some, None, refl, sym, ap, ◌∙◌, arith, inl, inr}
use Rattle.std.proofs.lemmas.Bool.{cond_both, and_parts, leb-true, cases_eq, cases_lt, eq-eqb, ne_eqb, le-leb, lt-leb, lt-ltb, le-ltb}
use Rattle.std.proofs.lemmas.List.{append-nil, drop_all, length-append, length-take, length-drop, take_rest, take-append-le, take-append-drop, take-take, drop-take, take_all}
use Rattle.upd_lines.specs.Line.{Told, Carried, after_put, after_get}
use Rattle.line_fakes.specs.Bytes.{line_of, honest, turned, with_turned, unlied, lied, lying, length-with_turned}

pub line_put : (put given p q : List ℕ) (got : ℕ) (faithful : Bool) → got ≤ length given → length q ≡ length p → line_of (put ++ p) (given ++ q) got faithful ≡ after_put (line_of put given got faithful) p
line_put put given p q got faithful within same =
    let n : length (given ++ q) ≡ length given + length p = omega (arith, length-append given q) in
    let t : take got (given ++ q) ≡ take got given = take-append-le got given q within in
    λ i. record { put = n i; got = got; bytes = Some (record { put = put ++ p; got = t i }); faithful = faithful }

take_on : (n k : ℕ) (xs : List ℕ) → take (n + k) xs ≡ take n xs ++ take k (drop n xs)
take_on n k xs =
    sym (take-append-drop n (take (n + k) xs)) ∙ ap (λ (l : List ℕ). l ++ drop n (take (n + k) xs)) (take-take n (n + k) xs (omega arith)) ∙ ap (λ (l : List ℕ). take n xs ++ l) (drop-take n k xs)

pub line_get : (put given p : List ℕ) (got k : ℕ) (faithful : Bool) → p ≡ take k (drop got given) → length p ≡ k → line_of put given (got + k) faithful ≡ after_get (line_of put given got faithful) p
line_get put given p got k faithful is long =
    let n : got + k ≡ got + length p = omega arith in
    let t : take (got + k) given ≡ take got given ++ p = take_on got k given ∙ ap (λ (l : List ℕ). take got given ++ l) (sym is) in
    λ i. record { put = length given; got = n i; bytes = Some (record { put = put; got = t i }); faithful = faithful }

pub honest_put : (bytes p : List ℕ) (got : ℕ) → got ≤ length bytes → honest (bytes ++ p) got ≡ after_put (honest bytes got) p
honest_put bytes p got within = line_put bytes bytes p p got true within refl

pub honest_get : (bytes p : List ℕ) (got k : ℕ) → p ≡ take k (drop got bytes) → length p ≡ k → honest bytes (got + k) ≡ after_get (honest bytes got) p
honest_get bytes p got k is long = line_get bytes bytes p got k true is long

-- ---- the lie

turned_twice : (b : ℕ) → turned (turned b) ≡ b
turned_twice b =
    elim (cases_eq (b % 2) 0) [
      | inl even ↦ let odd : (b + 1) % 2 ≡ 0 → ⊥ = omega arith in rw (eq-eqb (b % 2) 0 even, ne_eqb ((b + 1) % 2) 0 odd) (omega arith)
      | inr odd ↦ let even : (b - 1) % 2 ≡ 0 = omega arith in rw (ne_eqb (b % 2) 0 odd, eq-eqb ((b - 1) % 2) 0 even) (omega arith)
    ]

pub with_turned_twice : (at : ℕ) (bytes : List ℕ) → with_turned at (with_turned at bytes) ≡ bytes
with_turned_twice at [] = refl
with_turned_twice zero (b ∷ bytes) = ap (λ (x : ℕ). x ∷ bytes) (turned_twice b)
with_turned_twice (suc at) (b ∷ bytes) = ap (λ (l : List ℕ). b ∷ l) (with_turned_twice at bytes)

pub unlied_twice : (lie : Option ℕ) (bytes : List ℕ) → unlied lie (unlied lie bytes) ≡ bytes
unlied_twice None bytes = refl
unlied_twice (Some at) bytes = with_turned_twice at bytes

turned_past : (at : ℕ) (bytes : List ℕ) → length bytes ≤ at → with_turned at bytes ≡ bytes
turned_past at [] le = refl
turned_past zero (b ∷ bytes) le = absurd (omega arith)
turned_past (suc at) (b ∷ bytes) le = ap (λ (l : List ℕ). b ∷ l) (turned_past at bytes (omega arith))

turned_within : (at : ℕ) (bytes more : List ℕ) → at < length bytes → with_turned at (bytes ++ more) ≡ with_turned at bytes ++ more
turned_within at [] more lt = absurd (omega arith)
turned_within zero (b ∷ bytes) more lt = refl
turned_within (suc at) (b ∷ bytes) more lt = ap (λ (l : List ℕ). b ∷ l) (turned_within at bytes more (omega arith))

-- what was put is the piece, whether the lie is in it or not
pub lied_put : (lie : Option ℕ) (given piece : List ℕ) → unlied lie (lied lie (length given) (given ++ piece)) ≡ unlied lie given ++ piece
lied_put None given piece = refl
lied_put (Some at) given piece =
    elim (cases_lt at (length given)) [
      | inl before ↦ rw (lt-leb (length given) at before) (turned_within at given piece before)
      | inr behind ↦
          elim (cases_lt at (length (given ++ piece))) [
            | inl in_piece ↦ rw (le-leb (length given) at behind, lt-ltb at (length (given ++ piece)) in_piece, turned_past at given behind) (with_turned_twice at (given ++ piece))
            | inr past ↦ rw (le-leb (length given) at behind, le-ltb at (length (given ++ piece)) past, turned_past at given behind) (turned_past at (given ++ piece) past)
          ]
    ]

-- ---- answers

-- what is left is copied to the front of the buffer
pub gets : (put given seen left buf : List ℕ) (got k : ℕ) (faithful : Bool) → got ≤ length given → seen ≡ given → left ≡ take (length seen - got) (drop got seen)
    → k ≤ length buf → k ≤ length left → take k buf ≡ take k left → (k ≡ 0 → 0 < length buf → length left ≡ 0)
    → (k ≤ length buf) × (k ≡ 0 → 0 < length buf → got ≡ length given) × (line_of put given (got + k) faithful ≡ after_get (line_of put given got faithful) (take k buf))
gets put given seen left buf got k faithful in_range same rest bound within copied ending =
    let here : left ≡ drop got given = rest ∙ ap (λ (l : List ℕ). take (length l - got) (drop got l)) same ∙ take_rest given got in
    let long : length left ≡ length given - got = ap length here ∙ length-drop got given in (
      bound,
      (λ none room. omega (arith, ending none room)),
      line_get put given (take k buf) got k faithful (copied ∙ ap (take k) here) (omega (arith, length-take k buf)),
    )

abbrev zeros : ℕ → List ℕ
zeros n = replicate n 0

abbrev number_at : List ℕ → ℕ → ℕ
number_at xs i = get_or xs i 0

abbrev nought : ℕ
nought = 0

pub zero_anywhere : (n i : ℕ) → number_at (zeros n) i ≡ nought
zero_anywhere zero i = refl
zero_anywhere (suc n) zero = refl
zero_anywhere (suc n) (suc i) = zero_anywhere n i

pub set_turned : (at : ℕ) (bytes : List ℕ) → at < length bytes → set bytes at (turned (get_or bytes at 0)) ≡ with_turned at bytes
set_turned at [] lt = absurd (omega arith)
set_turned zero (b ∷ bytes) lt = refl
set_turned (suc at) (b ∷ bytes) lt = ap (λ (l : List ℕ). b ∷ l) (set_turned at bytes (omega arith))

pub length-lied : (lie : Option ℕ) (place : ℕ) (bytes : List ℕ) → length (lied lie place bytes) ≡ length bytes
length-lied None place bytes = refl
length-lied (Some at) place bytes = cond_both (leb place at && ltb at (length bytes)) (with_turned at bytes) bytes (λ l. length l ≡ length bytes) (λ e. length-with_turned at bytes) (λ e. refl)

take_none : (l : List ℕ) → take 0 l ≡ []
take_none l = refl

turned_behind : (at n : ℕ) (bytes : List ℕ) → n ≤ at → take n (with_turned at bytes) ≡ take n bytes
turned_behind at zero bytes le = take_none (with_turned at bytes) ∙ sym (take_none bytes)
turned_behind at (suc n) [] le = refl
turned_behind zero (suc n) (b ∷ bytes) le = absurd (omega arith)
turned_behind (suc at) (suc n) (b ∷ bytes) le = ap (λ (l : List ℕ). b ∷ l) (turned_behind at n bytes (omega arith))

before_lie : (lie : Option ℕ) (given piece : List ℕ) (got : ℕ) → got ≤ length given → take got (lied lie (length given) (given ++ piece)) ≡ take got given
before_lie None given piece got within = take-append-le got given piece within
before_lie (Some at) given piece got within =
    cond_both (leb (length given) at && ltb at (length (given ++ piece))) (with_turned at (given ++ piece)) (given ++ piece) (λ l. take got l ≡ take got given)
    (λ e. turned_behind at got (given ++ piece) (omega (arith, leb-true (length given) at (and_parts (leb (length given) at) (ltb at (length (given ++ piece))) e).0)) ∙ take-append-le got given piece within)
    (λ e. take-append-le got given piece within)

-- the put of a line that lies
pub puts : (lie : Option ℕ) (given piece made new : List ℕ) (got : ℕ) → got ≤ length given → made ≡ given ++ piece → new ≡ lied lie (length given) made
    → (length piece ≤ length piece) × (0 < length piece → 0 < length piece) × (lying lie new got ≡ after_put (lying lie given got) (take (length piece) piece))
puts lie given piece made new got in_range grown is =
    let whole : take (length piece) piece ≡ piece = take_all (length piece) piece (omega arith) in
    let now : new ≡ lied lie (length given) (given ++ piece) = is ∙ ap (lied lie (length given)) grown in
    let n : length new ≡ length given + length piece = ap length now ∙ length-lied lie (length given) (given ++ piece) ∙ length-append given piece in
    let t : take got new ≡ take got given = ap (take got) now ∙ before_lie lie given piece got in_range in
    let p : unlied lie new ≡ unlied lie given ++ piece = ap (unlied lie) now ∙ lied_put lie given piece in
    let told : lying lie new got ≡ after_put (lying lie given got) piece = λ i. record { put = n i; got = got; bytes = Some (record { put = p i; got = t i }); faithful = false } in
    (omega arith, (λ some. some), told ∙ ap (after_put (lying lie given got)) (sym whole))

-- what is written back into a Vec of the same length
pub written_back : (now items : List ℕ) (len : ℕ) → length now ≡ length items → len ≡ length items → take len (now ++ drop (length now) items) ≡ now
written_back now items len same is =
    let none : drop (length now) items ≡ [] = drop_all (length now) items (omega arith) in
    ap (λ (l : List ℕ). take len (now ++ l)) none ∙ ap (take len) (append-nil now) ∙ take_all len now (omega arith)
