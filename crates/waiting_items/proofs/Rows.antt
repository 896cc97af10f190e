-- Rows of items, one behind the other.
use Rattle.std.proofs.Common.{append_assoc, ℕ, zero, suc, ◌≡◌, ◌<◌, ◌+◌, inl, inr, eqb, Bool, true, false, cond, not, List, [], ◌∷◌, ◌++◌, length, take, map, set, get_or, refl, sym, ap, ◌∙◌, arith, ◌||◌}
use Rattle.std.specs.List.{filter, list_all, list_any}
use Rattle.std.proofs.lemmas.Bool.{cond-true, cond-false, eq-eqb, eqb-true, ne_eqb, false_from_ne_true, or_parts, and_from, and_parts, and_left, not_from_false}
use Rattle.std.proofs.lemmas.List.{append-nil, take_more}
use Rattle.std.proofs.lemmas.List.Elements.{filter-append}
use Rattle.std.proofs.lemmas.List.Folds.{list_any-append}
use Rattle.upd_base.specs.Item.{id_of, has_id, origin_of, number_of, stands_before}
use Rattle.upd_base.specs.declared.item.Item.{Item}
use Rattle.consensus_rules.specs.Items.{knows}
use Rattle.consensus_rules.specs.Waiting.{insert}
use Rattle.waiting_items.specs.Ids.{apart_from}
use Rattle.waiting_items.specs.Rows.{joined, of_origin, by_origin}
use Rattle.waiting_items.proofs.Ascending.{Before, before_from, before_to}

of_parts : (k : ℕ) (y : Item) (ys : List Item) → of_origin k (y ∷ ys) ≡ true → (origin_of y ≡ k) × (of_origin k ys ≡ true)
of_parts k y ys a =
    let parts : (eqb (origin_of y) k ≡ true) × (of_origin k ys ≡ true) = and_parts (eqb (origin_of y) k) (of_origin k ys) a in
    (eqb-true (origin_of y) k parts.0, parts.1)

by_parts : (k : ℕ) (row : List Item) (rows : List (List Item)) → by_origin k (row ∷ rows) ≡ true → (of_origin k row ≡ true) × (by_origin (suc k) rows ≡ true)
by_parts k row rows a = and_parts (of_origin k row) (by_origin (suc k) rows) a

-- the row of an origin
row_of : (j k : ℕ) (rows : List (List Item)) (row : List Item) → by_origin j rows ≡ true → k < length rows → row ≡ get_or rows k row → of_origin (j + k) row ≡ true
row_of j k [] row a lt is = absurd (omega (arith, lt))
row_of j zero (r ∷ rs) row a lt is =
    let e : j + zero ≡ j = omega arith in
    ap (λ n. of_origin n row) e ∙ ap (of_origin j) is ∙ (by_parts j r rs a).0
row_of j (suc k) (r ∷ rs) row a lt is =
    let e : j + suc k ≡ suc j + k = omega arith in
    ap (λ n. of_origin n row) e ∙ row_of (suc j) k rs row (by_parts j r rs a).1 (omega (arith, lt)) is

pub row_of_first : (k : ℕ) (rows : List (List Item)) (row : List Item) → by_origin 0 rows ≡ true → k < length rows → row ≡ get_or rows k row → of_origin k row ≡ true
row_of_first k rows row a lt is = let e : k ≡ 0 + k = omega arith in ap (λ n. of_origin n row) e ∙ row_of 0 k rows row a lt is

-- an item goes behind those of an earlier origin
insert_past : (x : Item) (k : ℕ) (ys zs : List Item) → k < origin_of x → of_origin k ys ≡ true → insert x (ys ++ zs) ≡ ys ++ insert x zs
insert_past x k [] zs lt a = refl
insert_past x k (y ∷ ys) zs lt a =
    let parts : (origin_of y ≡ k) × (of_origin k ys ≡ true) = of_parts k y ys a in
    let e : origin_of y ≡ k = parts.0 in
    cond-true (stands_before y x) (y ∷ insert x (ys ++ zs)) (x ∷ y ∷ (ys ++ zs)) (before_to y x (inl (omega (arith, e, lt))))
    ∙ ap (λ l. y ∷ l) (insert_past x k ys zs lt parts.1)

not_before : (x y : Item) → origin_of x < origin_of y → stands_before y x ≡ false
not_before x y lt = false_from_ne_true (stands_before y x) (λ t. later (before_from y x t))
  where
    later : Before y x → ⊥
    later (inl b) = omega (arith, b, lt)
    later (inr b) = let e : origin_of y ≡ origin_of x = b.0 in omega (arith, e, lt)

-- and before those of a later one
insert_front : (x : Item) (k : ℕ) (rows : List (List Item)) → origin_of x < k → by_origin k rows ≡ true → insert x (joined rows) ≡ x ∷ joined rows
insert_front x k [] lt a = refl
insert_front x k ([] ∷ rows) lt a = insert_front x (suc k) rows (omega (arith, lt)) (by_parts k [] rows a).1
insert_front x k ((y ∷ ys) ∷ rows) lt a =
    let e : origin_of y ≡ k = (of_parts k y ys (by_parts k (y ∷ ys) rows a).0).0 in
    cond-false (stands_before y x) (y ∷ insert x (ys ++ joined rows)) (x ∷ y ∷ (ys ++ joined rows)) (not_before x y (omega (arith, e, lt)))

insert_in : (x : Item) (ys zs : List Item) → insert x zs ≡ x ∷ zs → insert x (ys ++ zs) ≡ insert x ys ++ zs
insert_in x [] zs front = front
insert_in x (y ∷ ys) zs front =
    elim (stands_before y x) as (λ t. cond t (y ∷ insert x (ys ++ zs)) (x ∷ y ∷ (ys ++ zs)) ≡ cond t (y ∷ insert x ys) (x ∷ y ∷ ys) ++ zs) [
      | true ↦ ap (λ l. y ∷ l) (insert_in x ys zs front)
      | false ↦ refl
    ]

-- an item that is put into the row of its origin
pub insert_row : (x : Item) (j k : ℕ) (rows : List (List Item)) (row : List Item) → by_origin j rows ≡ true → k < length rows → row ≡ get_or rows k row → origin_of x ≡ j + k → joined (set rows k (insert x row)) ≡ insert x (joined rows)
insert_row x j k [] row a lt is o = absurd (omega (arith, lt))
insert_row x j zero (r ∷ rs) row a lt is o =
    ap (λ l. insert x l ++ joined rs) is
    ∙ sym (insert_in x r (joined rs) (insert_front x (suc j) rs (omega (arith, o)) (by_parts j r rs a).1))
insert_row x j (suc k) (r ∷ rs) row a lt is o =
    let parts : (of_origin j r ≡ true) × (by_origin (suc j) rs ≡ true) = by_parts j r rs a in
    ap (λ l. r ++ l) (insert_row x (suc j) k rs row parts.1 (omega (arith, lt)) is (omega (arith, o)))
    ∙ sym (insert_past x j r (joined rs) (omega (arith, o)) parts.0)

of_insert : (x : Item) (k : ℕ) (ys : List Item) → origin_of x ≡ k → of_origin k ys ≡ true → of_origin k (insert x ys) ≡ true
of_insert x k [] e a = and_from (eqb (origin_of x) k) true (eq-eqb (origin_of x) k e) refl
of_insert x k (y ∷ ys) e a =
    let parts : (eqb (origin_of y) k ≡ true) × (of_origin k ys ≡ true) = and_parts (eqb (origin_of y) k) (of_origin k ys) a in
    elim (stands_before y x) as (λ t. of_origin k (cond t (y ∷ insert x ys) (x ∷ y ∷ ys)) ≡ true) [
      | true ↦ and_from (eqb (origin_of y) k) (of_origin k (insert x ys)) parts.0 (of_insert x k ys e parts.1)
      | false ↦ and_from (eqb (origin_of x) k) (of_origin k (y ∷ ys)) (eq-eqb (origin_of x) k e) a
    ]

pub by_insert : (x : Item) (j k : ℕ) (rows : List (List Item)) (row : List Item) → by_origin j rows ≡ true → k < length rows → row ≡ get_or rows k row → origin_of x ≡ j + k → by_origin j (set rows k (insert x row)) ≡ true
by_insert x j k [] row a lt is o = absurd (omega (arith, lt))
by_insert x j zero (r ∷ rs) row a lt is o =
    let parts : (of_origin j r ≡ true) × (by_origin (suc j) rs ≡ true) = by_parts j r rs a in
    and_from (of_origin j (insert x row)) (by_origin (suc j) rs) (of_insert x j row (omega (arith, o)) (ap (of_origin j) is ∙ parts.0)) parts.1
by_insert x j (suc k) (r ∷ rs) row a lt is o =
    let parts : (of_origin j r ≡ true) × (by_origin (suc j) rs ≡ true) = by_parts j r rs a in
    and_from (of_origin j r) (by_origin (suc j) (set rs k (insert x row))) parts.0 (by_insert x (suc j) k rs row parts.1 (omega (arith, lt)) is (omega (arith, o)))

-- the row of its origin knows whether an item waits
unknown_to : (x : Item) (k : ℕ) (ys : List Item) → (k ≡ origin_of x → ⊥) → of_origin k ys ≡ true → knows ys x ≡ false
unknown_to x k [] ne a = refl
unknown_to x k (y ∷ ys) ne a =
    let parts : (origin_of y ≡ k) × (of_origin k ys ≡ true) = of_parts k y ys a in
    let no : has_id (id_of x) y ≡ false = and_left (eqb (origin_of y) (origin_of x)) (eqb (number_of y) (number_of x)) (ne_eqb (origin_of y) (origin_of x) (λ e. ne (sym parts.0 ∙ e))) in
    ap (λ b. b || knows ys x) no ∙ unknown_to x k ys ne parts.1

unknown_later : (x : Item) (k : ℕ) (rows : List (List Item)) → origin_of x < k → by_origin k rows ≡ true → knows (joined rows) x ≡ false
unknown_later x k [] lt a = refl
unknown_later x k (r ∷ rs) lt a =
    let parts : (of_origin k r ≡ true) × (by_origin (suc k) rs ≡ true) = by_parts k r rs a in
    list_any-append (has_id (id_of x)) r (joined rs)
    ∙ ap (λ b. b || knows (joined rs) x) (unknown_to x k r (λ e. omega (arith, e, lt)) parts.0)
    ∙ unknown_later x (suc k) rs (omega (arith, lt)) parts.1

or_false : (b : Bool) → (b || false) ≡ b
or_false true = refl
or_false false = refl

pub knows_row : (x : Item) (j k : ℕ) (rows : List (List Item)) (row : List Item) → by_origin j rows ≡ true → k < length rows → row ≡ get_or rows k row → origin_of x ≡ j + k → knows (joined rows) x ≡ knows row x
knows_row x j k [] row a lt is o = absurd (omega (arith, lt))
knows_row x j zero (r ∷ rs) row a lt is o =
    list_any-append (has_id (id_of x)) r (joined rs)
    ∙ ap (λ b. knows r x || b) (unknown_later x (suc j) rs (omega (arith, o)) (by_parts j r rs a).1)
    ∙ or_false (knows r x) ∙ ap (λ l. knows l x) (sym is)
knows_row x j (suc k) (r ∷ rs) row a lt is o =
    let parts : (of_origin j r ≡ true) × (by_origin (suc j) rs ≡ true) = by_parts j r rs a in
    list_any-append (has_id (id_of x)) r (joined rs)
    ∙ ap (λ b. b || knows (joined rs) x) (unknown_to x j r (λ e. omega (arith, e, o)) parts.0)
    ∙ knows_row x (suc j) k rs row parts.1 (omega (arith, lt)) is (omega (arith, o))

-- leaving items out, row by row
pub joined_apart : (gone : List Item) (rows : List (List Item)) → joined (map (apart_from gone) rows) ≡ apart_from gone (joined rows)
joined_apart gone [] = refl
joined_apart gone (r ∷ rs) =
    ap (λ l. apart_from gone r ++ l) (joined_apart gone rs)
    ∙ sym (filter-append (λ x. not (knows gone x)) r (joined rs))

of_filter : (p : Item → Bool) (k : ℕ) (ys : List Item) → of_origin k ys ≡ true → of_origin k (filter p ys) ≡ true
of_filter p k [] a = refl
of_filter p k (y ∷ ys) a =
    let parts : (eqb (origin_of y) k ≡ true) × (of_origin k ys ≡ true) = and_parts (eqb (origin_of y) k) (of_origin k ys) a in
    let rest : of_origin k (filter p ys) ≡ true = of_filter p k ys parts.1 in
    elim (p y) as (λ t. of_origin k (cond t (y ∷ filter p ys) (filter p ys)) ≡ true) [
      | true ↦ and_from (eqb (origin_of y) k) (of_origin k (filter p ys)) parts.0 rest
      | false ↦ rest
    ]

pub by_apart : (gone : List Item) (j : ℕ) (rows : List (List Item)) → by_origin j rows ≡ true → by_origin j (map (apart_from gone) rows) ≡ true
by_apart gone j [] a = refl
by_apart gone j (r ∷ rs) a =
    let parts : (of_origin j r ≡ true) × (by_origin (suc j) rs ≡ true) = by_parts j r rs a in
    and_from (of_origin j (apart_from gone r)) (by_origin (suc j) (map (apart_from gone) rs)) (of_filter (λ x. not (knows gone x)) j r parts.0) (by_apart gone (suc j) rs parts.1)

-- where none of them is gone
pub none_gone : (gone ys : List Item) → list_any (knows gone) ys ≡ false → apart_from gone ys ≡ ys
none_gone gone [] fresh = refl
none_gone gone (y ∷ ys) fresh =
    let parts : (knows gone y ≡ false) × (list_any (knows gone) ys ≡ false) = or_parts (knows gone y) (list_any (knows gone) ys) fresh in
    cond-true (not (knows gone y)) (y ∷ apart_from gone ys) (apart_from gone ys) (not_from_false (knows gone y) parts.0)
    ∙ ap (λ l. y ∷ l) (none_gone gone ys parts.1)

other_origins : (y : Item) (gone : List Item) → list_any (λ g. eqb (origin_of g) (origin_of y)) gone ≡ false → knows gone y ≡ false
other_origins y [] fresh = refl
other_origins y (g ∷ gs) fresh =
    let parts : (eqb (origin_of g) (origin_of y) ≡ false) × (list_any (λ g. eqb (origin_of g) (origin_of y)) gs ≡ false) = or_parts (eqb (origin_of g) (origin_of y)) (list_any (λ g. eqb (origin_of g) (origin_of y)) gs) fresh in
    ap (λ b. b || knows gs y) (and_left (eqb (origin_of g) (origin_of y)) (eqb (number_of g) (number_of y)) parts.0) ∙ other_origins y gs parts.1

pub none_of_origin : (k : ℕ) (gone ys : List Item) → list_any (λ g. eqb (origin_of g) k) gone ≡ false → of_origin k ys ≡ true → apart_from gone ys ≡ ys
none_of_origin k gone ys fresh a = none_gone gone ys (none ys a)
  where
    none : (ys : List Item) → of_origin k ys ≡ true → list_any (knows gone) ys ≡ false
    none [] a = refl
    none (y ∷ ys) a =
        let parts : (origin_of y ≡ k) × (of_origin k ys ≡ true) = of_parts k y ys a in
        ap (λ b. b || list_any (knows gone) ys) (other_origins y gone (ap (λ n. list_any (λ g. eqb (origin_of g) n) gone) parts.0 ∙ fresh)) ∙ none ys parts.1

-- whether none waits
pub empty_from : (rows : List (List Item)) → list_all (λ row. eqb (length row) 0) rows ≡ true → joined rows ≡ []
empty_from [] a = refl
empty_from ([] ∷ rows) a = empty_from rows a
empty_from ((y ∷ ys) ∷ rows) a = absurd (some (eqb-true (length (y ∷ ys)) 0 (and_parts (eqb (length (y ∷ ys)) 0) (list_all (λ row. eqb (length row) 0) rows) a).0))
  where
    some : length (y ∷ ys) ≡ 0 → ⊥
    some e = omega (arith, e)

pub empty_to : (rows : List (List Item)) → joined rows ≡ [] → list_all (λ row. eqb (length row) 0) rows ≡ true
empty_to [] e = refl
empty_to ([] ∷ rows) e = empty_to rows e
empty_to ((y ∷ ys) ∷ rows) e = let n : suc (length (ys ++ joined rows)) ≡ 0 = ap length e in absurd (omega (arith, n))

-- the first of two lists
pub take_twice : (n : ℕ) (xs ys : List Item) → take n (take n xs ++ ys) ≡ take n (xs ++ ys)
take_twice zero xs ys = refl
take_twice (suc n) [] ys = refl
take_twice (suc n) (x ∷ xs) ys = ap (λ l. x ∷ l) (take_twice n xs ys)

pub take_both : (n d : ℕ) (xs ys : List Item) → length xs + d ≡ n → take n (xs ++ ys) ≡ xs ++ take d ys
take_both n d [] ys e = let is : n ≡ d = omega (arith, e) in ap (λ m. take m ys) is
take_both zero d (x ∷ xs) ys e = absurd (omega (arith, e))
take_both (suc n) d (x ∷ xs) ys e = ap (λ l. x ∷ l) (take_both n d xs ys (omega (arith, e)))

joined-append : (rows more : List (List Item)) → joined (rows ++ more) ≡ joined rows ++ joined more
joined-append [] more = refl
joined-append (r ∷ rs) more = ap (λ l. r ++ l) (joined-append rs more) ∙ sym (append_assoc r (joined rs) (joined more))

pub joined_more : (rows : List (List Item)) (i : ℕ) (row : List Item) → i < length rows → row ≡ get_or rows i row → joined (take (i + 1) rows) ≡ joined (take i rows) ++ row
joined_more rows i row lt is =
    ap joined (take_more rows i row lt) ∙ joined-append (take i rows) (get_or rows i row ∷ [])
    ∙ ap (λ l. joined (take i rows) ++ l) (append-nil (get_or rows i row) ∙ sym is)
