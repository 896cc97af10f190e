-- Payload bytes: what reading gives, by which of them are printable.
use Rattle.std.proofs.Common.{◌≡◌, ℕ, zero, suc, ◌+◌, ◌-◌, ◌<◌, ◌≤◌, min, Bool, true, false, List, [], ◌∷◌, length, get_or, take, drop, Result, Ok, Err, refl, sym, ap, subst, ◌∙◌, arith, inl, inr}
use Rattle.std.specs.List.{list_all}
use Rattle.std.proofs.lemmas.Bool.{and_parts, and_from, cases_lt, false≢true}
use Rattle.std.proofs.lemmas.List.{length-take, get_or-take}
use Rattle.upd_base.specs.Text.{is_printable}
use Rattle.upd_frame.specs.declared.fault.FrameFault.{FrameFault}
use Rattle.upd_frame.specs.declared.fault.FrameFault.TheVariants.{Short, BadText}
use Rattle.upd_frame.specs.Reader.{place, told, only, go_on, byte, text}

pub byte_good : (all b : ℕ) (left : List ℕ) → is_printable b ≡ true → byte (only is_printable) BadText all (b ∷ left) ≡ Ok (b, left)
unfolding byte
byte_good all b left good = rw good refl

pub byte_bad : (all b : ℕ) (left : List ℕ) → is_printable b ≡ false → byte (only is_printable) BadText all (b ∷ left) ≡ Err (BadText (place all (b ∷ left)))
unfolding byte
byte_bad all b left bad = rw bad refl

-- the first that is not printable is told
pub text_bad : (n all i : ℕ) (left : List ℕ) → i < n → i < length left → ((k : ℕ) → k < i → is_printable (get_or left k 0) ≡ true) → is_printable (get_or left i 0) ≡ false
    → text n all left ≡ Err (BadText (place all (drop i left)))
unfolding text
text_bad zero all i left lt within good bad = absurd (omega arith)
text_bad (suc n) all i [] lt within good bad = absurd (omega arith)
text_bad (suc n) all zero (b ∷ left) lt within good bad = rw (byte_bad all b left bad) refl
text_bad (suc n) all (suc i) (b ∷ left) lt within good bad =
    rw (byte_good all b left (good 0 (omega arith)), text_bad n all i left (omega arith) (omega arith) (λ k below. good (suc k) (omega arith)) bad) refl

-- too few, and each printable
pub text_short : (n all : ℕ) (left : List ℕ) → length left < n → ((k : ℕ) → k < length left → is_printable (get_or left k 0) ≡ true) → text n all left ≡ Err Short
unfolding text byte
text_short zero all left lt good = absurd (omega arith)
text_short (suc n) all [] lt good = refl
text_short (suc n) all (b ∷ left) lt good =
    rw (byte_good all b left (good 0 (omega arith)), text_short n all left (omega arith) (λ k below. good (suc k) (omega arith))) refl

-- enough, and each printable
pub text_good : (n all : ℕ) (left : List ℕ) → n ≤ length left → list_all is_printable (take n left) ≡ true → text n all left ≡ Ok (take n left, drop n left)
unfolding text
text_good zero all left le good = refl
text_good (suc n) all [] le good = absurd (omega arith)
text_good (suc n) all (b ∷ left) le good =
    let parts = and_parts (is_printable b) (list_all is_printable (take n left)) good in
    rw (byte_good all b left parts.0, text_good n all left (omega arith) parts.1) refl

-- the same of the bytes that are seen, at most n
pub seen_bad : (n all i : ℕ) (left seen : List ℕ) → seen ≡ take n left → i < length seen → is_printable (get_or seen i 0) ≡ false → ((k : ℕ) → k < i → is_printable (get_or seen k 0) ≡ true)
    → text n all left ≡ Err (BadText (place all (drop i left)))
seen_bad n all i left seen is within bad good =
    let e : length seen ≡ min n (length left) = ap length is ∙ length-take n left in
    let at : (k : ℕ) → k < n → get_or seen k 0 ≡ get_or left k 0 = λ k lt. ap (λ xs. get_or xs k 0) is ∙ get_or-take n left k 0 lt in
    text_bad n all i left (omega arith) (omega arith) (λ k lt. rw (← at k (omega arith)) (good k lt)) (rw (← at i (omega arith)) bad)

-- each printable is either too few or all
pub all_seen : (n : ℕ) (left : List ℕ) → ((k : ℕ) → k < length (take n left) → is_printable (get_or (take n left) k 0) ≡ true) → list_all is_printable (take n left) ≡ true
all_seen n left good = all_good (take n left) good
  where
    all_good : (xs : List ℕ) → ((k : ℕ) → k < length xs → is_printable (get_or xs k 0) ≡ true) → list_all is_printable xs ≡ true
    all_good [] h = refl
    all_good (x ∷ xs) h = and_from (is_printable x) (list_all is_printable xs) (h 0 (omega arith)) (all_good xs (λ k lt. h (suc k) (omega arith)))

pub seen_short : (n all : ℕ) (left seen : List ℕ) → seen ≡ take n left → (n ≤ length left → list_all is_printable (take n left) ≡ false)
    → ((k : ℕ) → k < length seen → is_printable (get_or seen k 0) ≡ true) → text n all left ≡ Err Short
seen_short n all left seen is refused good =
    let here : (k : ℕ) → k < length (take n left) → is_printable (get_or (take n left) k 0) ≡ true = subst (λ (xs : List ℕ). (k : ℕ) → k < length xs → is_printable (get_or xs k 0) ≡ true) is good in
    elim (cases_lt (length left) n) [
      | inl lt ↦ text_short n all left lt (λ k below. rw (← get_or-take n left k 0 (omega arith)) (here k (omega (arith, length-take n left))))
      | inr le ↦ absurd (false≢true (sym (refused le) ∙ all_seen n left here))
    ]
