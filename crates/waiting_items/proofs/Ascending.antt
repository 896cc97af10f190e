-- Items in strictly ascending order of origin and number.
use Rattle.std.proofs.Common.{ℕ, zero, suc, ◌≡◌, ◌<◌, ◌≤◌, ◌⊎◌, inl, inr, eqb, ltb, leb, Bool, true, false, cond, List, [], ◌∷◌, length, take, Some, None, refl, sym, ap, ◌∙◌, arith, ◌&&◌}
use Rattle.std.specs.List.{All, filter}
use Rattle.std.proofs.lemmas.Bool.{cases_Bool, cases_eq, cases_lt, cond-true, cond-false, eq-eqb, eqb-true, ltb-true, lt-ltb, le-leb, or_cases, or_left, or_right, or_parts, and_from, and_parts, both_ways}
use Rattle.std.proofs.lemmas.List.Elements.{All-cons, All-head, All-tail}
use Rattle.upd_base.specs.Item.{id_of, has_id, origin_of, number_of, stands_before}
use Rattle.upd_base.specs.Batch.{ascends, comes_first, is_batch, batch}
use Rattle.upd_base.specs.declared.item.Item.{Item}
use Rattle.upd_base.specs.declared.limits.TheConstants.{MAX_BATCH}
use Rattle.consensus_rules.specs.Items.{knows}
use Rattle.consensus_rules.specs.Waiting.{insert}
use Rattle.waiting_items.specs.Ids.{first_of}

-- one item before another, in numbers
abbrev pub Before : Item → Item → Type 0
Before x y = (origin_of x < origin_of y) ⊎ ((origin_of x ≡ origin_of y) × (number_of x < number_of y))

pub before_from : (x y : Item) → stands_before x y ≡ true → Before x y
before_from x y t =
    elim (or_cases (ltb (origin_of x) (origin_of y)) (eqb (origin_of x) (origin_of y) && ltb (number_of x) (number_of y)) t) [
      | inl lt ↦ inl (ltb-true (origin_of x) (origin_of y) lt)
      | inr both ↦
          let parts = and_parts (eqb (origin_of x) (origin_of y)) (ltb (number_of x) (number_of y)) both in
          inr (eqb-true (origin_of x) (origin_of y) parts.0, ltb-true (number_of x) (number_of y) parts.1)
    ]

pub before_to : (x y : Item) → Before x y → stands_before x y ≡ true
before_to x y (inl lt) = or_left (ltb (origin_of x) (origin_of y)) (eqb (origin_of x) (origin_of y) && ltb (number_of x) (number_of y)) (lt-ltb (origin_of x) (origin_of y) lt)
before_to x y (inr h) =
    or_right (ltb (origin_of x) (origin_of y)) (eqb (origin_of x) (origin_of y) && ltb (number_of x) (number_of y))
    (and_from (eqb (origin_of x) (origin_of y)) (ltb (number_of x) (number_of y)) (eq-eqb (origin_of x) (origin_of y) h.0) (lt-ltb (number_of x) (number_of y) h.1))

before_trans : (x y z : Item) → Before x y → Before y z → Before x z
before_trans x y z (inl a) (inl b) = inl (omega (arith, a, b))
before_trans x y z (inl a) (inr b) = let e : origin_of y ≡ origin_of z = b.0 in inl (omega (arith, a, e))
before_trans x y z (inr a) (inl b) = let e : origin_of x ≡ origin_of y = a.0 in inl (omega (arith, e, b))
before_trans x y z (inr a) (inr b) = let m : number_of x < number_of y = a.1 in let k : number_of y < number_of z = b.1 in inr (a.0 ∙ b.0, omega (arith, m, k))

-- of two items with different ids, one stands before the other
one_first : (x y : Item) → stands_before y x ≡ false → has_id (id_of x) y ≡ false → Before x y
one_first x y f other =
    elim (cases_lt (origin_of x) (origin_of y)) [
      | inl lt ↦ inl lt
      | inr ge ↦ elim (cases_eq (origin_of y) (origin_of x)) [
        | inr ne ↦ absurd (both_ways (stands_before y x) f (before_to y x (inl (omega (arith, ge, ne)))))
        | inl e ↦ elim (cases_lt (number_of x) (number_of y)) [
          | inl lt ↦ inr (sym e, lt)
          | inr more ↦ elim (cases_eq (number_of y) (number_of x)) [
            | inr ne ↦ absurd (both_ways (stands_before y x) f (before_to y x (inr (e, omega (arith, more, ne)))))
            | inl same ↦ absurd (both_ways (has_id (id_of x) y) other
                (and_from (eqb (origin_of y) (origin_of x)) (eqb (number_of y) (number_of x)) (eq-eqb (origin_of y) (origin_of x) e) (eq-eqb (number_of y) (number_of x) same)))
          ]
        ]
      ]
    ]

-- putting an item in
first_before : (y x : Item) (ys : List Item) → stands_before y x ≡ true → comes_first y ys ≡ true → comes_first y (insert x ys) ≡ true
first_before y x [] b c = b
first_before y x (z ∷ zs) b c =
    elim (stands_before z x) as (λ t. comes_first y (cond t (z ∷ insert x zs) (x ∷ z ∷ zs)) ≡ true) [
      | true ↦ c
      | false ↦ b
    ]

pub insert_ascends : (x : Item) (ys : List Item) → knows ys x ≡ false → ascends ys ≡ true → ascends (insert x ys) ≡ true
insert_ascends x [] new a = refl
insert_ascends x (y ∷ ys) new a =
    let others : (has_id (id_of x) y ≡ false) × (knows ys x ≡ false) = or_parts (has_id (id_of x) y) (knows ys x) new in
    let parts : (comes_first y ys ≡ true) × (ascends ys ≡ true) = and_parts (comes_first y ys) (ascends ys) a in
    elim (cases_Bool (stands_before y x)) [
      | inl t ↦
          ap ascends (cond-true (stands_before y x) (y ∷ insert x ys) (x ∷ y ∷ ys) t)
          ∙ and_from (comes_first y (insert x ys)) (ascends (insert x ys)) (first_before y x ys t parts.0) (insert_ascends x ys others.1 parts.1)
      | inr f ↦
          ap ascends (cond-false (stands_before y x) (y ∷ insert x ys) (x ∷ y ∷ ys) f)
          ∙ and_from (stands_before x y) (ascends (y ∷ ys)) (before_to x y (one_first x y f others.0)) a
    ]

pub all_insert : (P : Item → Type 0) (x : Item) (ys : List Item) → P x → All P ys → All P (insert x ys)
all_insert P x [] h a = All-cons P x [] h a
all_insert P x (y ∷ ys) h a =
    elim (stands_before y x) as (λ t. All P (cond t (y ∷ insert x ys) (x ∷ y ∷ ys))) [
      | true ↦ All-cons P y (insert x ys) (All-head P y ys a) (all_insert P x ys h (All-tail P y ys a))
      | false ↦ All-cons P x (y ∷ ys) h a
    ]

-- leaving items out
after_next : (x y : Item) (ys : List Item) → stands_before x y ≡ true → comes_first y ys ≡ true → comes_first x ys ≡ true
after_next x y [] b c = refl
after_next x y (z ∷ zs) b c = before_to x z (before_trans x y z (before_from x y b) (before_from y z c))

first_left : (p : Item → Bool) (x : Item) (ys : List Item) → comes_first x ys ≡ true → ascends ys ≡ true → comes_first x (filter p ys) ≡ true
first_left p x [] c a = refl
first_left p x (y ∷ ys) c a =
    let parts : (comes_first y ys ≡ true) × (ascends ys ≡ true) = and_parts (comes_first y ys) (ascends ys) a in
    elim (p y) as (λ t. comes_first x (cond t (y ∷ filter p ys) (filter p ys)) ≡ true) [
      | true ↦ c
      | false ↦ first_left p x ys (after_next x y ys c parts.0) parts.1
    ]

pub filter_ascends : (p : Item → Bool) (ys : List Item) → ascends ys ≡ true → ascends (filter p ys) ≡ true
filter_ascends p [] a = refl
filter_ascends p (y ∷ ys) a =
    let parts : (comes_first y ys ≡ true) × (ascends ys ≡ true) = and_parts (comes_first y ys) (ascends ys) a in
    let rest : ascends (filter p ys) ≡ true = filter_ascends p ys parts.1 in
    elim (p y) as (λ t. ascends (cond t (y ∷ filter p ys) (filter p ys)) ≡ true) [
      | true ↦ and_from (comes_first y (filter p ys)) (ascends (filter p ys)) (first_left p y ys parts.0 parts.1) rest
      | false ↦ rest
    ]

-- the first of them are a batch
take_ascends : (k : ℕ) (xs : List Item) → ascends xs ≡ true → ascends (take k xs) ≡ true
take_ascends zero xs a = refl
take_ascends (suc k) [] a = refl
take_ascends (suc zero) (x ∷ xs) a = refl
take_ascends (suc (suc k)) (x ∷ []) a = refl
take_ascends (suc (suc k)) (x ∷ y ∷ ys) a =
    let parts : (stands_before x y ≡ true) × (ascends (y ∷ ys) ≡ true) = and_parts (stands_before x y) (ascends (y ∷ ys)) a in
    and_from (stands_before x y) (ascends (take (suc k) (y ∷ ys))) parts.0 (take_ascends (suc k) (y ∷ ys) parts.1)

pub take_short : (k : ℕ) (xs : List Item) → length (take k xs) ≤ k
take_short zero xs = omega arith
take_short (suc k) [] = omega arith
take_short (suc k) (x ∷ xs) = omega (arith, take_short k xs)

pub first_are : (xs : List Item) → ascends xs ≡ true → batch (take MAX_BATCH xs) ≡ first_of xs
first_are [] a = refl
first_are (x ∷ xs) a =
    let items : List Item = take MAX_BATCH (x ∷ xs) in
    let some : 1 ≤ length items = one_at_least MAX_BATCH (omega arith) in
    let is : is_batch items ≡ true =
    and_from (leb 1 (length items) && leb (length items) MAX_BATCH) (ascends items)
    (and_from (leb 1 (length items)) (leb (length items) MAX_BATCH) (le-leb 1 (length items) some) (le-leb (length items) MAX_BATCH (take_short MAX_BATCH (x ∷ xs))))
    (take_ascends MAX_BATCH (x ∷ xs) a) in
    cond-true (is_batch items) (Some items) None is
  where
    one_at_least : (k : ℕ) → 1 ≤ k → 1 ≤ length (take k (x ∷ xs))
    one_at_least zero le = absurd (omega (arith, le))
    one_at_least (suc k) le = omega arith
