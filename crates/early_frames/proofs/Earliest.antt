-- The earliest of those that pass a test, in the order of arrival.
use Rattle.std.proofs.Common.{ℕ, ◌<◌, ◌≤◌, ◌≡◌, Bool, true, false, inl, inr, Some, List, [], ◌∷◌, ◌++◌, map, refl, sym, ◌∙◌, ap, subst, All, arith}
use Rattle.std.specs.Prelude.{nat_le}
use Rattle.std.proofs.lemmas.Bool.{leb-true, leb-false, le-leb, cases_Bool, false_from_ne_true, true≢false}
use Rattle.std.proofs.lemmas.List.Elements.{All-nil, All-head, All-tail, All-cons, All-weaker}
use Rattle.early_frames.specs.declared.arrivals.Arrival.{Arrival}
use Rattle.group_run.specs.Held.{first_ready, without_ready}
use Rattle.early_frames.specs.Arrivals.{version_of, among, by_arrival}
use Rattle.early_frames.proofs.Order.{all_among, all_by_arrival, reached}

-- The order of arrival ascends ----------------------------------------------------------------------------------------

abbrev Ascends : List Arrival → Type 0
Ascends [] = Unit {0}
Ascends (b ∷ bs) = All (λ c. b.number ≤ c.number) bs × Ascends bs

further : (a b : Arrival) (bs : List Arrival) → a.number ≤ b.number → All (λ c. b.number ≤ c.number) bs → All (λ c. a.number ≤ c.number) bs
further a b bs h k = All-weaker (λ c. b.number ≤ c.number) (λ c. a.number ≤ c.number) (λ c l. omega arith) bs k

ascends_among : (a : Arrival) (bs : List Arrival) → Ascends bs → Ascends (among a bs)
ascends_among a [] s = (All-nil (λ c. a.number ≤ c.number), tt)
ascends_among a (b ∷ bs) s = elim (cases_Bool (nat_le a.number b.number)) [
  | inl e ↦ rw e (All-cons (λ c. a.number ≤ c.number) b bs (leb-true a.number b.number e) (further a b bs (leb-true a.number b.number e) s.0), s)
  | inr e ↦ let sooner = leb-false a.number b.number e in rw e (all_among (λ c. b.number ≤ c.number) a bs (omega arith) s.0, ascends_among a bs s.1)
]

ascends : (xs : List Arrival) → Ascends (by_arrival xs)
ascends [] = tt
ascends (x ∷ xs) = ascends_among x (by_arrival xs) (ascends xs)

-- One arrival in that order -------------------------------------------------------------------------------------------

-- where a stands among all, with what came before it and after it; the rest is all without it
pub record Parts (p : Arrival → Bool) (a : Arrival) (all rest : List Arrival) : Type 0 where
  pub early : List Arrival
  pub late : List Arrival
  pub is_all : all ≡ early ++ a ∷ late
  pub is_rest : rest ≡ early ++ late
  pub failing : All (λ b. p b ≡ false) early
  pub sooner : All (λ b. b.number ≤ a.number) early
  pub later : All (λ b. a.number ≤ b.number) late

placed : (p : Arrival → Bool) (a : Arrival) (bs : List Arrival) → Ascends bs → All (λ b. p b ≡ true → a.number ≤ b.number) bs → Parts p a (among a bs) bs
placed p a [] s h = record {
  early = [];
  late = [];
  is_all = refl;
  is_rest = refl;
  failing = All-nil (λ b. p b ≡ false);
  sooner = All-nil (λ b. b.number ≤ a.number);
  later = All-nil (λ b. a.number ≤ b.number);
}
placed p a (b ∷ bs) s h = elim (cases_Bool (nat_le a.number b.number)) [
  | inl e ↦ rw e (record {
    early = [];
    late = b ∷ bs;
    is_all = refl;
    is_rest = refl;
    failing = All-nil (λ c. p c ≡ false);
    sooner = All-nil (λ c. c.number ≤ a.number);
    later = All-cons (λ c. a.number ≤ c.number) b bs (leb-true a.number b.number e) (further a b bs (leb-true a.number b.number e) s.0);
  })
  | inr e ↦ let less = leb-false a.number b.number e in let sub = placed p a bs s.1 (All-tail (λ c. p c ≡ true → a.number ≤ c.number) b bs h) in rw e (record {
    early = b ∷ sub.early;
    late = sub.late;
    is_all = ap (λ l. b ∷ l) sub.is_all;
    is_rest = ap (λ l. b ∷ l) sub.is_rest;
    failing = All-cons (λ c. p c ≡ false) b sub.early (false_from_ne_true (p b) (λ t. let le = All-head (λ c. p c ≡ true → a.number ≤ c.number) b bs h t in omega arith)) sub.failing;
    sooner = All-cons (λ c. c.number ≤ a.number) b sub.early (omega arith) sub.sooner;
    later = sub.later;
  })
]

-- one that is at most all of them stands in front
first_of : (x : Arrival) (bs : List Arrival) → All (λ b. x.number ≤ b.number) bs → among x bs ≡ x ∷ bs
first_of x [] h = refl
first_of x (b ∷ bs) h = let e : nat_le x.number b.number ≡ true = le-leb x.number b.number (All-head (λ c. x.number ≤ c.number) b bs h) in rw e refl

stepped : (p : Arrival → Bool) (a x : Arrival) (early late : List Arrival) → All (λ b. p b ≡ false) early → All (λ b. b.number ≤ a.number) early → All (λ b. a.number ≤ b.number) late
    → (p x ≡ true → a.number < x.number) → Parts p a (among x (early ++ a ∷ late)) (among x (early ++ late))
stepped p a x [] late f s l h = elim (cases_Bool (nat_le x.number a.number)) [
  | inl e ↦ let le = leb-true x.number a.number e in rw e (record {
    early = x ∷ [];
    late = late;
    is_all = refl;
    is_rest = first_of x late (All-weaker (λ c. a.number ≤ c.number) (λ c. x.number ≤ c.number) (λ c k. omega arith) late l);
    failing = All-cons (λ c. p c ≡ false) x [] (false_from_ne_true (p x) (λ t. let less = h t in omega arith)) f;
    sooner = All-cons (λ c. c.number ≤ a.number) x [] le s;
    later = l;
  })
  | inr e ↦ let less = leb-false x.number a.number e in rw e (record {
    early = [];
    late = among x late;
    is_all = refl;
    is_rest = refl;
    failing = f;
    sooner = s;
    later = all_among (λ c. a.number ≤ c.number) x late (omega arith) l;
  })
]
stepped p a x (b ∷ bs) late f s l h = elim (cases_Bool (nat_le x.number b.number)) [
  | inl e ↦ let le = leb-true x.number b.number e in let lower = All-head (λ c. c.number ≤ a.number) b bs s in rw e (record {
    early = x ∷ b ∷ bs;
    late = late;
    is_all = refl;
    is_rest = refl;
    failing = All-cons (λ c. p c ≡ false) x (b ∷ bs) (false_from_ne_true (p x) (λ t. let less = h t in omega arith)) f;
    sooner = All-cons (λ c. c.number ≤ a.number) x (b ∷ bs) (omega arith) s;
    later = l;
  })
  | inr e ↦ let sub = stepped p a x bs late (All-tail (λ c. p c ≡ false) b bs f) (All-tail (λ c. c.number ≤ a.number) b bs s) l h in rw e (record {
    early = b ∷ sub.early;
    late = sub.late;
    is_all = ap (λ l. b ∷ l) sub.is_all;
    is_rest = ap (λ l. b ∷ l) sub.is_rest;
    failing = All-cons (λ c. p c ≡ false) b sub.early (All-head (λ c. p c ≡ false) b bs f) sub.failing;
    sooner = All-cons (λ c. c.number ≤ a.number) b sub.early (All-head (λ c. c.number ≤ a.number) b bs s) sub.sooner;
    later = sub.later;
  })
]

joined : (p : Arrival → Bool) (a x : Arrival) (all rest : List Arrival) → Parts p a all rest → (p x ≡ true → a.number < x.number) → Parts p a (among x all) (among x rest)
joined p a x all rest parts h =
    let P : List Arrival → List Arrival → Type 0 = λ k r. Parts p a (among x k) (among x r) in
    subst (λ k. P k rest) (sym parts.is_all) (subst (λ r. P (parts.early ++ a ∷ parts.late) r) (sym parts.is_rest) (stepped p a x parts.early parts.late parts.failing parts.sooner parts.later h))

-- before the earliest of those that pass stands none that passes
pub parts_of : (p : Arrival → Bool) (a : Arrival) (xs ys : List Arrival) → All (λ b. p b ≡ true → a.number < b.number) xs → All (λ b. p b ≡ true → a.number ≤ b.number) ys
    → Parts p a (by_arrival (xs ++ a ∷ ys)) (by_arrival (xs ++ ys))
parts_of p a [] ys h k = placed p a (by_arrival ys) (ascends ys) (all_by_arrival (λ b. p b ≡ true → a.number ≤ b.number) ys k)
parts_of p a (x ∷ xs) ys h k =
    joined p a x (by_arrival (xs ++ a ∷ ys)) (by_arrival (xs ++ ys)) (parts_of p a xs ys (All-tail (λ b. p b ≡ true → a.number < b.number) x xs h) k)
    (All-head (λ b. p b ≡ true → a.number < b.number) x xs h)

-- Its frame, where the test is that a version is reached -----------------------------------------------------------------

first_map : (version : ℕ) (a : Arrival) (early late : List Arrival) → All (λ b. reached version b ≡ false) early → reached version a ≡ true
    → first_ready version (map (λ b. b.frame) (early ++ a ∷ late)) ≡ Some a.frame
first_map version a [] late f t = rw t refl
first_map version a (b ∷ early) late f t =
    let e : nat_le (version_of b) version ≡ false = All-head (λ c. reached version c ≡ false) b early f in
    rw e (first_map version a early late (All-tail (λ c. reached version c ≡ false) b early f) t)

rest_map : (version : ℕ) (a : Arrival) (early late : List Arrival) → All (λ b. reached version b ≡ false) early → reached version a ≡ true
    → without_ready version (map (λ b. b.frame) (early ++ a ∷ late)) ≡ map (λ b. b.frame) (early ++ late)
rest_map version a [] late f t = rw t refl
rest_map version a (b ∷ early) late f t =
    let e : nat_le (version_of b) version ≡ false = All-head (λ c. reached version c ≡ false) b early f in
    rw e (ap (λ l. b.frame ∷ l) (rest_map version a early late (All-tail (λ c. reached version c ≡ false) b early f) t))

pub first_of_parts : (version : ℕ) (a : Arrival) (all rest : List Arrival) → Parts (reached version) a all rest → reached version a ≡ true
    → first_ready version (map (λ b. b.frame) all) ≡ Some a.frame
first_of_parts version a all rest parts t =
    ap (λ l. first_ready version (map (λ b. b.frame) l)) parts.is_all ∙ first_map version a parts.early parts.late parts.failing t

pub rest_of_parts : (version : ℕ) (a : Arrival) (all rest : List Arrival) → Parts (reached version) a all rest → reached version a ≡ true
    → map (λ b. b.frame) rest ≡ without_ready version (map (λ b. b.frame) all)
rest_of_parts version a all rest parts t =
    ap (map (λ b. b.frame)) parts.is_rest
    ∙ sym (ap (λ l. without_ready version (map (λ b. b.frame) l)) parts.is_all ∙ rest_map version a parts.early parts.late parts.failing t)

-- where each passes, it is the first of all
pub head_of_parts : (a : Arrival) (all rest : List Arrival) → Parts (λ b. true) a all rest → map (λ b. b.frame) all ≡ a.frame ∷ map (λ b. b.frame) rest
head_of_parts a all rest parts = ap (map (λ b. b.frame)) (parts.is_all ∙ front a parts.early parts.late parts.failing ∙ ap (λ l. a ∷ l) (sym parts.is_rest))
  where
    front : (c : Arrival) (early late : List Arrival) → All (λ b. true ≡ false) early → early ++ c ∷ late ≡ c ∷ (early ++ late)
    front c [] late f = refl
    front c (b ∷ early) late f = absurd (true≢false (All-head (λ d. true ≡ false) b early f))
