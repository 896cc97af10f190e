-- Frames that stand by version.
use Rattle.std.proofs.Common.{ℕ, ◌<◌, ◌≤◌, ◌≡◌, ◌+◌, ◌-◌, ◌==◌, Bool, true, false, inl, inr, Some, List, [], ◌∷◌, ◌++◌, length, sym, ◌∙◌, ap, subst, All, arith, take, drop, suc}
use Rattle.std.specs.Prelude.{is_some, AllPairs}
use Rattle.std.specs.List.{AllWithin, insert, remove}
use Rattle.std.specs.List.Sorted.{IsNonDecreasingBy}
use Rattle.std.proofs.Math.ListN.{get_or}
use Rattle.std.proofs.Math.Seq.{drop-cons}
use Rattle.std.proofs.lemmas.Bool.{cases_lt, cases_order, cases_Bool, both_ways, le-leb, leb-false, lt-leb, and_right, and_from, ne_eqb, eq-eqb}
use Rattle.std.proofs.lemmas.List.{length-take-le, length-drop, get_or-take, get_or-drop, get_or_default, take-append-drop}
use Rattle.std.proofs.lemmas.List.Edits.{length-insert, get_or-insert_below, get_or-insert_at, get_or-insert_above}
use Rattle.std.proofs.lemmas.List.Folds.{list_any_at, list_any_none}
use Rattle.std.proofs.lemmas.List.Elements.{All-append, All-cons, All-take, All-drop, All-weaker}
use Rattle.early_frames.specs.declared.arrivals.Arrival.{Arrival}
use Rattle.early_frames.specs.Arrivals.{version_of, by_arrival, frames_of, Precedes, IsEarliest}
use Rattle.group_run.specs.Held.{first_ready, without_ready, waits}
use Rattle.early_frames.proofs.Order.{newest_frames, ready_is, reached, matches, waits_is}
use Rattle.early_frames.proofs.Earliest.{Parts, parts_of, first_of_parts, rest_of_parts, head_of_parts}

pub versions_ascend : (xs : List Arrival) → AllPairs Precedes xs → IsNonDecreasingBy version_of xs
versions_ascend xs h i j d le lt = elim (cases_lt i j) [
  | inl l ↦ (h i j d l lt).versions
  | inr g ↦ let e : i ≡ j = omega arith in rw e (omega arith)
]

-- The search for the earliest -------------------------------------------------------------------------------------------

-- x stands at i, and m is where the versions above x's begin
past_moves : (kept : List Arrival) (i m : ℕ) (x : Arrival) → i < length kept → x ≡ get_or kept i x → AllWithin (λ a. version_of x < version_of a) kept m (length kept) → i < m
past_moves kept i m x within at above = elim (cases_lt i m) [
  | inl l ↦ l
  | inr g ↦ let less : version_of x < version_of (get_or kept i x) = above i x g within in let same = ap version_of at in absurd (omega arith)
]

-- of the versions up to x's, those behind x came later
block : (kept : List Arrival) → AllPairs Precedes kept → (i m : ℕ) (x : Arrival) → x ≡ get_or kept i x → i < length kept → m ≤ length kept
    → AllWithin (λ a. version_of a ≤ version_of x) kept 0 m → (k : ℕ) (d : Arrival) → i ≤ k → k < m → x.number ≤ (get_or kept k d).number
block kept pairs i m x at within bound below k d le lt = elim (cases_lt i k) [
  | inl l ↦ let pair = pairs i k d l (omega arith) in
      let here : x ≡ get_or kept i d = at ∙ get_or_default kept i x d within in
      let version = ap version_of here in
      let number = ap (λ (a : Arrival). a.number) here in
      let up : version_of (get_or kept k d) ≤ version_of x = below k d (omega arith) lt in
      let over = pair.versions in
      let less : (get_or kept i d).number < (get_or kept k d).number = pair.numbers (omega arith) in
      omega arith
  | inr g ↦ let e : i ≡ k = omega arith in
      let here : x ≡ get_or kept k d = at ∙ get_or_default kept i x d within ∙ ap (λ j. get_or kept j d) e in
      let number = ap (λ (a : Arrival). a.number) here in
      omega arith
]

pub earliest_began : (kept : List Arrival) (m : ℕ) (x : Arrival) → AllPairs Precedes kept → 0 < length kept → m ≤ length kept → x ≡ get_or kept 0 x
    → AllWithin (λ a. version_of a ≤ version_of x) kept 0 m → AllWithin (λ a. version_of x < version_of a) kept m (length kept) → IsEarliest kept m 0
earliest_began kept m x pairs some bound at below above = record {
  within = past_moves kept 0 m x some at above;
  before = λ k d lt. absurd (omega arith);
  after = λ k d le lt. subst (λ (a : Arrival). a.number ≤ (get_or kept k d).number) (at ∙ get_or_default kept 0 x d some) (block kept pairs 0 m x at some bound below k d le lt);
}

-- the front of the next version came later
pub earliest_stayed : (kept : List Arrival) (first i m : ℕ) (x y : Arrival) → AllPairs Precedes kept → i < length kept → m ≤ length kept
    → x ≡ get_or kept i x → y ≡ get_or kept first y → IsEarliest kept i first → y.number ≤ x.number
    → AllWithin (λ a. version_of a ≤ version_of x) kept 0 m → AllWithin (λ a. version_of x < version_of a) kept m (length kept) → IsEarliest kept m first
earliest_stayed kept first i m x y pairs within bound at at_first is le below above =
    let moved = past_moves kept i m x within at above in
    let earlier = is.within in
    record {
      within = omega arith;
      before = is.before;
      after = λ k d low lt. elim (cases_lt k i) [
        | inl l ↦ is.after k d low l
        | inr g ↦ let later = block kept pairs i m x at within bound below k d g lt in
            subst (λ (a : Arrival). a.number ≤ (get_or kept k d).number) (at_first ∙ get_or_default kept first y d (omega arith)) (omega arith)
      ];
    }

-- it came earlier
pub earliest_changed : (kept : List Arrival) (first i m : ℕ) (x y : Arrival) → AllPairs Precedes kept → i < length kept → m ≤ length kept
    → x ≡ get_or kept i x → y ≡ get_or kept first y → IsEarliest kept i first → x.number < y.number
    → AllWithin (λ a. version_of a ≤ version_of x) kept 0 m → AllWithin (λ a. version_of x < version_of a) kept m (length kept) → IsEarliest kept m i
earliest_changed kept first i m x y pairs within bound at at_first is less below above = record {
  within = past_moves kept i m x within at above;
  before = λ k d lt.
      subst (λ (a : Arrival). a.number < (get_or kept k d).number) (at ∙ get_or_default kept i x d within)
      (let earlier = is.within in
      let first_at : y ≡ get_or kept first d = at_first ∙ get_or_default kept first y d (omega arith) in
      let number = ap (λ (a : Arrival). a.number) first_at in
      elim (cases_lt k first) [
        | inl l ↦ let b = is.before k d l in omega arith
        | inr g ↦ let a = is.after k d g lt in omega arith
      ]);
  after = λ k d le lt. subst (λ (a : Arrival). a.number ≤ (get_or kept k d).number) (at ∙ get_or_default kept i x d within) (block kept pairs i m x at within bound below k d le lt);
}

pub earliest_among : (kept : List Arrival) (first i count : ℕ) → IsEarliest kept i first → first < count → count ≤ i → IsEarliest kept count first
earliest_among kept first i count is low le = record {
  within = low;
  before = is.before;
  after = λ k d g lt. is.after k d g (omega arith);
}

-- The earliest in the order of arrival ----------------------------------------------------------------------------------

in_front : (p : Arrival → Bool) (kept : List Arrival) (count at : ℕ) (d : Arrival) → at < length kept → IsEarliest kept count at
    → All (λ b. p b ≡ true → (get_or kept at d).number < b.number) (take at kept)
in_front p kept count at d within is k e lt t =
    let short = length-take-le at kept (omega arith) in
    let low : k < at = omega arith in
    let here = get_or-take at kept k e low in
    let same = get_or_default kept at e d within in
    subst (λ (b : Arrival). (get_or kept at d).number < b.number) (sym here) (subst (λ (b : Arrival). b.number < (get_or kept k e).number) same (is.before k e low))

behind : (p : Arrival → Bool) (kept : List Arrival) (count at : ℕ) (d : Arrival) → at < length kept → IsEarliest kept count at
    → ((k : ℕ) (e : Arrival) → count ≤ k → k < length kept → p (get_or kept k e) ≡ false)
    → All (λ b. p b ≡ true → (get_or kept at d).number ≤ b.number) (drop (suc at) kept)
behind p kept count at d within is past k e lt t =
    let len = length-drop (suc at) kept in
    let here = get_or-drop (suc at) kept k e in
    let same = get_or_default kept at e d within in
    elim (cases_lt (suc at + k) count) [
      | inl l ↦ subst (λ (b : Arrival). (get_or kept at d).number ≤ b.number) (sym here)
          (subst (λ (b : Arrival). b.number ≤ (get_or kept (suc at + k) e).number) same (is.after (suc at + k) e (omega arith) l))
      | inr g ↦ absurd (both_ways (p (get_or kept (suc at + k) e)) (past (suc at + k) e g (omega arith)) (subst (λ b. p b ≡ true) here t))
    ]

pub earliest_parts : (p : Arrival → Bool) (kept : List Arrival) (count at : ℕ) (d : Arrival) → at < length kept → IsEarliest kept count at
    → ((k : ℕ) (e : Arrival) → count ≤ k → k < length kept → p (get_or kept k e) ≡ false)
    → Parts p (get_or kept at d) (by_arrival kept) (by_arrival (remove kept at))
earliest_parts p kept count at d within is past =
    let split : take at kept ++ (get_or kept at d ∷ drop (suc at) kept) ≡ kept = ap (λ l. take at kept ++ l) (sym (drop-cons kept at d within)) ∙ take-append-drop at kept in
    subst (λ l. Parts p (get_or kept at d) (by_arrival l) (by_arrival (remove kept at))) split
    (parts_of p (get_or kept at d) (take at kept) (drop (suc at) kept) (in_front p kept count at d within is) (behind p kept count at d within is past))

-- One more ------------------------------------------------------------------------------------------------------------

above_at : (xs : List Arrival) (i : ℕ) (y d : Arrival) (n : ℕ) → i < n → i ≤ length xs → get_or (insert xs i y) n d ≡ get_or xs (n - 1) d
above_at xs i y d n h le = let e : n ≡ (n - 1) + 1 = omega arith in ap (λ k. get_or (insert xs i y) k d) e ∙ get_or-insert_above xs i y d (n - 1) (omega arith) le

related : (R : Arrival → Arrival → Type 0) (a b c d : Arrival) → a ≡ c → b ≡ d → R c d → R a b
related R a b c d e f r = subst (λ z. R z b) (sym e) (subst (λ z. R c z) (sym f) r)

all_pairs_insert : (R : Arrival → Arrival → Type 0) (xs : List Arrival) (i : ℕ) (y : Arrival) → i ≤ length xs → AllPairs R xs
    → ((k : ℕ) (d : Arrival) → k < i → R (get_or xs k d) y) → ((k : ℕ) (d : Arrival) → i ≤ k → k < length xs → R y (get_or xs k d)) → AllPairs R (insert xs i y)
all_pairs_insert R xs i y le pairs low high m n d mn within =
    let len = length-insert xs i y le in
    elim (cases_order n i) [
      | inl e ↦ related R (get_or (insert xs i y) m d) (get_or (insert xs i y) n d) (get_or xs m d) y
          (get_or-insert_below xs i y d m (omega arith) le) (ap (λ k. get_or (insert xs i y) k d) e ∙ get_or-insert_at xs i y d le) (low m d (omega arith))
      | inr (inl l) ↦ related R (get_or (insert xs i y) m d) (get_or (insert xs i y) n d) (get_or xs m d) (get_or xs n d)
          (get_or-insert_below xs i y d m (omega arith) le) (get_or-insert_below xs i y d n l le) (pairs m n d mn (omega arith))
      | inr (inr g) ↦ elim (cases_order m i) [
        | inl e ↦ related R (get_or (insert xs i y) m d) (get_or (insert xs i y) n d) y (get_or xs (n - 1) d)
            (ap (λ k. get_or (insert xs i y) k d) e ∙ get_or-insert_at xs i y d le) (above_at xs i y d n g le) (high (n - 1) d (omega arith) (omega arith))
        | inr (inl l) ↦ related R (get_or (insert xs i y) m d) (get_or (insert xs i y) n d) (get_or xs m d) (get_or xs (n - 1) d)
            (get_or-insert_below xs i y d m l le) (above_at xs i y d n g le) (pairs m (n - 1) d (omega arith) (omega arith))
        | inr (inr h) ↦ related R (get_or (insert xs i y) m d) (get_or (insert xs i y) n d) (get_or xs (m - 1) d) (get_or xs (n - 1) d)
            (above_at xs i y d m h le) (above_at xs i y d n g le) (pairs (m - 1) (n - 1) d (omega arith) (omega arith))
      ]
    ]

-- the newest, behind those of its version
pub put_ordered : (kept : List Arrival) (at : ℕ) (e : Arrival) → at ≤ length kept → AllPairs Precedes kept → All (λ a. a.number < e.number) kept
    → AllWithin (λ a. version_of a ≤ version_of e) kept 0 at → AllWithin (λ a. version_of e < version_of a) kept at (length kept) → AllPairs Precedes (insert kept at e)
put_ordered kept at e le pairs newest below above = all_pairs_insert Precedes kept at e le pairs
    (λ k d lt. record { versions = below k d (omega arith) lt; numbers = λ same. newest k d (omega arith) })
    (λ k d low lt. let higher = above k d low lt in record { versions = omega arith; numbers = λ same. absurd (omega arith) })

pub put_frames : (kept : List Arrival) (at : ℕ) (e : Arrival) → All (λ a. a.number < e.number) kept → frames_of (insert kept at e) ≡ frames_of kept ++ e.frame ∷ []
put_frames kept at e newest =
    newest_frames (take at kept) (drop at kept) e (All-take (λ a. a.number < e.number) at kept newest) (All-drop (λ a. a.number < e.number) at kept newest)
    ∙ ap (λ l. frames_of l ++ e.frame ∷ []) (take-append-drop at kept)

pub put_numbered : (kept : List Arrival) (at : ℕ) (e : Arrival) → All (λ a. a.number < e.number) kept → All (λ a. a.number < e.number + 1) (insert kept at e)
put_numbered kept at e newest =
    let all = All-weaker (λ (a : Arrival). a.number < e.number) (λ (a : Arrival). a.number < e.number + 1) (λ a l. omega arith) kept newest in
    All-append (λ (a : Arrival). a.number < e.number + 1) (take at kept) (e ∷ drop at kept) (All-take (λ (a : Arrival). a.number < e.number + 1) at kept all)
    (All-cons (λ (a : Arrival). a.number < e.number + 1) e (drop at kept) (omega arith) (All-drop (λ (a : Arrival). a.number < e.number + 1) at kept all))

pub all_removed : (P : Arrival → Type 0) (kept : List Arrival) (at : ℕ) → All P kept → All P (remove kept at)
all_removed P kept at h = All-append P (take at kept) (drop (suc at) kept) (All-take P at kept h) (All-drop P (suc at) kept h)

-- What is taken ---------------------------------------------------------------------------------------------------------

-- without x, which stands at this place, the frames are those that are left once the first is released
pub record IsReleased (version : ℕ) (kept : List Arrival) (at : ℕ) (x : Arrival) : Type 0 where
  pub first : first_ready version (frames_of kept) ≡ Some x.frame
  pub rest : frames_of (remove kept at) ≡ without_ready version (frames_of kept)

pub released : (version : ℕ) (kept : List Arrival) (count at : ℕ) (x : Arrival) → count ≤ length kept → x ≡ get_or kept at x → IsEarliest kept count at
    → AllWithin (λ a. version_of a ≤ version) kept 0 count → AllWithin (λ a. version < version_of a) kept count (length kept) → IsReleased version kept at x
released version kept count at x bound here is below above =
    let low = is.within in
    let passes : reached version (get_or kept at x) ≡ true = le-leb (version_of (get_or kept at x)) version (below at x (omega arith) low) in
    let past : (k : ℕ) (e : Arrival) → count ≤ k → k < length kept → reached version (get_or kept k e) ≡ false = λ k e g lt. lt-leb (version_of (get_or kept k e)) version (above k e g lt) in
    let parts = earliest_parts (reached version) kept count at x (omega arith) is past in
    record {
      first = first_of_parts version (get_or kept at x) (by_arrival kept) (by_arrival (remove kept at)) parts passes ∙ ap (λ (a : Arrival). Some a.frame) (sym here);
      rest = rest_of_parts version (get_or kept at x) (by_arrival kept) (by_arrival (remove kept at)) parts passes;
    }

pub oldest : (kept : List Arrival) (at : ℕ) (x : Arrival) → x ≡ get_or kept at x → IsEarliest kept (length kept) at → frames_of kept ≡ x.frame ∷ frames_of (remove kept at)
oldest kept at x here is =
    head_of_parts (get_or kept at x) (by_arrival kept) (by_arrival (remove kept at)) (earliest_parts (λ b. true) kept (length kept) at x is.within is (λ k e g lt. absurd (omega arith)))
    ∙ ap (λ (a : Arrival). a.frame ∷ frames_of (remove kept at)) (sym here)

pub none_reached : (version : ℕ) (kept : List Arrival) (count : ℕ) → count ≡ 0 → AllWithin (λ a. version < version_of a) kept count (length kept) → All (λ a. reached version a ≡ false) kept
none_reached version kept count none above k d lt = lt-leb (version_of (get_or kept k d)) version (above k d (omega arith) lt)

-- the first one tells whether one is reached
pub front_ready : (version : ℕ) (kept : List Arrival) (x : Arrival) → AllPairs Precedes kept → 0 < length kept → x ≡ get_or kept 0 x → reached version x ≡ is_some (first_ready version (frames_of kept))
front_ready version kept x pairs some here = elim (cases_Bool (reached version x)) [
  | inl e ↦ e ∙ sym (ready_is version kept ∙ list_any_at (reached version) kept 0 x some (subst (λ a. reached version a ≡ true) here e))
  | inr e ↦
      let higher : version < version_of x = leb-false (version_of x) version e in
      let none : All (λ a. reached version a ≡ false) kept = λ k d lt.
      let first : x ≡ get_or kept 0 d = here ∙ get_or_default kept 0 x d some in
      let same = ap version_of first in
      let up : version_of (get_or kept 0 d) ≤ version_of (get_or kept k d) = versions_ascend kept pairs 0 k d (omega arith) lt in
      lt-leb (version_of (get_or kept k d)) version (omega arith) in
      e ∙ sym (ready_is version kept ∙ list_any_none (reached version) kept none)
]

-- Those of one version --------------------------------------------------------------------------------------------------

other_version : (from version : ℕ) (a : Arrival) → (version_of a ≡ version → ⊥) → matches from version a ≡ false
other_version from version a other = and_right (a.frame.0 == from) (version_of a == version) (ne_eqb (version_of a) version other)

-- x is the last before the place from which on none matches, and of a lower version: so none before it matches
pub none_lower : (from version : ℕ) (kept : List Arrival) (at : ℕ) (x : Arrival) → AllPairs Precedes kept → 0 < at → at ≤ length kept → x ≡ get_or kept (at - 1) x → (version_of x ≡ version → ⊥)
    → AllWithin (λ a. version_of a ≤ version) kept 0 at → AllWithin (λ a. matches from version a ≡ false) kept at (length kept) → All (λ a. matches from version a ≡ false) kept
none_lower from version kept at x pairs some bound here other below none k d lt = elim (cases_lt k at) [
  | inl l ↦
      let last : x ≡ get_or kept (at - 1) d = here ∙ get_or_default kept (at - 1) x d (omega arith) in
      let same = ap version_of last in
      let up : version_of (get_or kept k d) ≤ version_of (get_or kept (at - 1) d) = versions_ascend kept pairs k (at - 1) d (omega arith) (omega arith) in
      let top : version_of (get_or kept (at - 1) d) ≤ version = below (at - 1) d (omega arith) (omega arith) in
      other_version from version (get_or kept k d) (λ e. other (omega arith))
  | inr g ↦ none k d g lt
]

pub waits_not : (from version : ℕ) (kept : List Arrival) → All (λ a. matches from version a ≡ false) kept → false ≡ waits from version (frames_of kept)
waits_not from version kept h = sym (waits_is from version kept ∙ list_any_none (matches from version) kept h)

pub waits_at : (from version : ℕ) (kept : List Arrival) (at : ℕ) (x : Arrival) → at < length kept → x ≡ get_or kept at x → (x.frame.0 == from) ≡ true → version_of x ≡ version
    → true ≡ waits from version (frames_of kept)
waits_at from version kept at x within here sender same =
    let found : matches from version x ≡ true = and_from (x.frame.0 == from) (version_of x == version) sender (eq-eqb (version_of x) version same) in
    sym (waits_is from version kept ∙ list_any_at (matches from version) kept at x within (subst (λ a. matches from version a ≡ true) here found))
