-- Known and waiting items as lists.
use Rattle.std.proofs.Common.{ℕ, ◌≡◌, ◌<◌, ◌≤◌, ◌⊎◌, inl, inr, eqb, ltb, Bool, true, false, cond, not, List, [], ◌∷◌, ◌++◌, length, take, drop, get_or, ◌-◌, refl, sym, ap, ◌∙◌, subst, arith, append-nil, append_assoc, ◌||◌, ◌&&◌}
use Rattle.std.specs.List.{filter, flat_map, list_any, All}
use Rattle.std.proofs.lemmas.Bool.{cases_Bool, cases_eq, cases_lt, cond-true, cond-false, eqb-true, eq-eqb, ne_eqb, ltb-true, ltb-false, lt-ltb, le-ltb, or_cases, or_right, or_from, or_parts, and_from, and_left, and_right, and_parts, both_ways}
use Rattle.std.proofs.lemmas.List.Folds.{list_any-append}
use Rattle.std.proofs.lemmas.List.Concat.{flat_map-append}
use Rattle.std.proofs.lemmas.List.Elements.{All-cons, All-head, All-tail, All-nil}
use Rattle.upd_base.specs.Item.{id_of, has_id, origin_of, number_of, stands_before}
use Rattle.upd_base.specs.declared.item.Item.{Item}
use Rattle.instance_rules.specs.Say.{Items}
use Rattle.consensus_rules.specs.Items.{knows, add_new}
use Rattle.consensus_rules.specs.Waiting.{insert, insert_all, in_order}
use Rattle.consensus_rules.specs.Delivered.{items_of}
use Rattle.consensus_rules.proofs.Known.{has_its_id, knows_self}
use Rattle.consensus_rules.proofs.Delivered.{add_new_append}
use Rattle.number_runs.specs.Runs.{holds, is_pair}
use Rattle.number_runs.specs.declared.runs.Run.{Run}
use Rattle.waiting_items.specs.Ids.{apart_from}
use Rattle.batch_delivery.specs.Delivery.{AreIdsOf, news}

-- what add_new adds
pub news_added : (known xs : Items) → add_new known xs ≡ known ++ news known xs
news_added known [] = sym (append-nil known)
news_added known (x ∷ xs) =
    elim (cases_Bool (knows known x)) [
      | inl t ↦
          ap (λ b. add_new (cond b known (known ++ x ∷ [])) xs) t ∙ news_added known xs
          ∙ ap (λ b. known ++ cond b (news known xs) (x ∷ news (known ++ x ∷ []) xs)) (sym t)
      | inr f ↦
          ap (λ b. add_new (cond b known (known ++ x ∷ [])) xs) f ∙ news_added (known ++ x ∷ []) xs ∙ append_assoc known (x ∷ []) (news (known ++ x ∷ []) xs)
          ∙ ap (λ b. known ++ cond b (news known xs) (x ∷ news (known ++ x ∷ []) xs)) (sym f)
    ]

pub news_append : (known xs ys : Items) → news known (xs ++ ys) ≡ news known xs ++ news (add_new known xs) ys
news_append known [] ys = refl
news_append known (x ∷ xs) ys =
    elim (cases_Bool (knows known x)) [
      | inl t ↦
          ap (λ b. cond b (news known (xs ++ ys)) (x ∷ news (known ++ x ∷ []) (xs ++ ys))) t ∙ news_append known xs ys
          ∙ ap (λ b. cond b (news known xs) (x ∷ news (known ++ x ∷ []) xs) ++ news (add_new (cond b known (known ++ x ∷ [])) xs) ys) (sym t)
      | inr f ↦
          ap (λ b. cond b (news known (xs ++ ys)) (x ∷ news (known ++ x ∷ []) (xs ++ ys))) f ∙ ap (λ l. x ∷ l) (news_append (known ++ x ∷ []) xs ys)
          ∙ ap (λ b. cond b (news known xs) (x ∷ news (known ++ x ∷ []) xs) ++ news (add_new (cond b known (known ++ x ∷ [])) xs) ys) (sym f)
    ]

-- an item is the same to all that have its origin and number
same_to : (x y : Item) → has_id (id_of y) x ≡ true → (known : Items) → knows known y ≡ knows known x
same_to x y h known = ap (λ id. list_any (has_id id) known) (sym (has_its_id (id_of y) x h))

pub knows_one : (known : Items) (x y : Item) → knows (cond (knows known x) known (known ++ x ∷ [])) y ≡ (knows known y || has_id (id_of y) x)
knows_one known x y =
    elim (cases_Bool (knows known x)) [
      | inl t ↦ ap (λ b. knows (cond b known (known ++ x ∷ [])) y) t ∙ (elim (cases_Bool (has_id (id_of y) x)) [
        | inl same ↦ (same_to x y same known ∙ t) ∙ sym (or_right (knows known y) (has_id (id_of y) x) same)
        | inr other ↦ sym (ap (λ b. knows known y || b) other ∙ or_false (knows known y))
      ])
      | inr f ↦ ap (λ b. knows (cond b known (known ++ x ∷ [])) y) f ∙ list_any-append (has_id (id_of y)) known (x ∷ []) ∙ ap (λ b. knows known y || b) (or_false (has_id (id_of y) x))
    ]
  where
    or_false : (b : Bool) → (b || false) ≡ b
    or_false true = refl
    or_false false = refl

pub knows_all : (known xs : Items) (y : Item) → knows (add_new known xs) y ≡ (knows known y || knows xs y)
knows_all known [] y = or_false (knows known y)
  where
    or_false : (b : Bool) → b ≡ (b || false)
    or_false true = refl
    or_false false = refl
knows_all known (x ∷ xs) y =
    knows_all (cond (knows known x) known (known ++ x ∷ [])) xs y ∙ ap (λ b. b || knows xs y) (knows_one known x y)
    ∙ assoc (knows known y) (has_id (id_of y) x) (knows xs y)
  where
    assoc : (a b c : Bool) → ((a || b) || c) ≡ (a || (b || c))
    assoc true b c = refl
    assoc false b c = refl

-- those that wait
keep_twice : (p q : Item → Bool) (xs : Items) → filter q (filter p xs) ≡ filter (λ x. p x && q x) xs
keep_twice p q [] = refl
keep_twice p q (x ∷ xs) =
    elim (p x) as (λ b. filter q (cond b (x ∷ filter p xs) (filter p xs)) ≡ cond (b && q x) (x ∷ filter (λ y. p y && q y) xs) (filter (λ y. p y && q y) xs)) [
      | true ↦ ap (λ l. cond (q x) (x ∷ l) l) (keep_twice p q xs)
      | false ↦ keep_twice p q xs
    ]

keep_same : (p q : Item → Bool) → ((x : Item) → p x ≡ q x) → (xs : Items) → filter p xs ≡ filter q xs
keep_same p q h [] = refl
keep_same p q h (x ∷ xs) = ap (λ b. cond b (x ∷ filter p xs) (filter p xs)) (h x) ∙ ap (λ l. cond (q x) (x ∷ l) l) (keep_same p q h xs)

pub apart_twice : (known xs items : Items) → apart_from xs (apart_from known items) ≡ apart_from (add_new known xs) items
apart_twice known xs items =
    keep_twice (λ x. not (knows known x)) (λ x. not (knows xs x)) items
    ∙ keep_same (λ x. not (knows known x) && not (knows xs x)) (λ x. not (knows (add_new known xs) x)) (λ x. both (knows known x) (knows xs x) ∙ ap not (sym (knows_all known xs x))) items
  where
    both : (a b : Bool) → (not a && not b) ≡ not (a || b)
    both true b = refl
    both false b = refl

pub apart_none : (items : Items) → apart_from [] items ≡ items
apart_none [] = refl
apart_none (x ∷ xs) = ap (λ l. x ∷ l) (apart_none xs)

-- two items have one origin and number both ways
pub turned : (x y : Item) → has_id (id_of x) y ≡ has_id (id_of y) x
turned x y =
    elim (cases_Bool (has_id (id_of x) y)) [
      | inl t ↦ t ∙ sym (subst (λ id. has_id id x ≡ true) (sym (has_its_id (id_of x) y t)) (knows_self x))
      | inr f ↦ (elim (cases_Bool (has_id (id_of y) x)) [
        | inl t ↦ absurd (both_ways (has_id (id_of x) y) f (subst (λ id. has_id id y ≡ true) (sym (has_its_id (id_of y) x t)) (knows_self y)))
        | inr g ↦ f ∙ sym g
      ])
    ]

-- Sorted insertion: no item stands before an earlier one.
abbrev Follows : Item → Items → Type 0
Follows y ys = All (λ z. stands_before z y ≡ false) ys

abbrev Sorted : Items → Type 0
Sorted [] = Unit {0}
Sorted (y ∷ ys) = Follows y ys × Sorted ys

abbrev Le : Item → Item → Type 0
Le x y = (origin_of x < origin_of y) ⊎ ((origin_of x ≡ origin_of y) × (number_of x ≤ number_of y))

le_from : (x y : Item) → stands_before y x ≡ false → Le x y
le_from x y f =
    let parts : (ltb (origin_of y) (origin_of x) ≡ false) × ((eqb (origin_of y) (origin_of x) && ltb (number_of y) (number_of x)) ≡ false) =
    or_parts (ltb (origin_of y) (origin_of x)) (eqb (origin_of y) (origin_of x) && ltb (number_of y) (number_of x)) f in
    let ge : origin_of x ≤ origin_of y = ltb-false (origin_of y) (origin_of x) parts.0 in
    elim (cases_eq (origin_of y) (origin_of x)) [
      | inl e ↦ elim (cases_lt (number_of y) (number_of x)) [
        | inl lt ↦ absurd (both_ways (eqb (origin_of y) (origin_of x) && ltb (number_of y) (number_of x)) parts.1
            (and_from (eqb (origin_of y) (origin_of x)) (ltb (number_of y) (number_of x)) (eq-eqb (origin_of y) (origin_of x) e) (lt-ltb (number_of y) (number_of x) lt)))
        | inr le ↦ inr (sym e, le)
      ]
      | inr ne ↦ inl (omega (arith, ge, ne))
    ]

le_to : (x y : Item) → Le x y → stands_before y x ≡ false
le_to x y (inl lt) =
    or_from (ltb (origin_of y) (origin_of x)) (eqb (origin_of y) (origin_of x) && ltb (number_of y) (number_of x)) (le-ltb (origin_of y) (origin_of x) (omega (arith, lt)))
    (and_left (eqb (origin_of y) (origin_of x)) (ltb (number_of y) (number_of x)) (ne_eqb (origin_of y) (origin_of x) (λ e. omega (arith, e, lt))))
le_to x y (inr h) =
    let e : origin_of x ≡ origin_of y = h.0 in
    or_from (ltb (origin_of y) (origin_of x)) (eqb (origin_of y) (origin_of x) && ltb (number_of y) (number_of x)) (le-ltb (origin_of y) (origin_of x) (omega (arith, e)))
    (and_right (eqb (origin_of y) (origin_of x)) (ltb (number_of y) (number_of x)) (le-ltb (number_of y) (number_of x) h.1))

le_trans : (x y z : Item) → Le x y → Le y z → Le x z
le_trans x y z (inl a) (inl b) = inl (omega (arith, a, b))
le_trans x y z (inl a) (inr b) = let e : origin_of y ≡ origin_of z = b.0 in inl (omega (arith, a, e))
le_trans x y z (inr a) (inl b) = let e : origin_of x ≡ origin_of y = a.0 in inl (omega (arith, e, b))
le_trans x y z (inr a) (inr b) = let m : number_of x ≤ number_of y = a.1 in let k : number_of y ≤ number_of z = b.1 in inr (a.0 ∙ b.0, omega (arith, m, k))

before_le : (x y : Item) → stands_before x y ≡ true → Le x y
before_le x y t = le_from x y (elim (cases_Bool (stands_before y x)) [
  | inr f ↦ f
  | inl both ↦
      let a : (ltb (origin_of x) (origin_of y) ≡ true) ⊎ ((eqb (origin_of x) (origin_of y) && ltb (number_of x) (number_of y)) ≡ true) = or_cases (ltb (origin_of x) (origin_of y)) (eqb (origin_of x) (origin_of y) && ltb (number_of x) (number_of y)) t in
      let b : (ltb (origin_of y) (origin_of x) ≡ true) ⊎ ((eqb (origin_of y) (origin_of x) && ltb (number_of y) (number_of x)) ≡ true) = or_cases (ltb (origin_of y) (origin_of x)) (eqb (origin_of y) (origin_of x) && ltb (number_of y) (number_of x)) both in
      absurd (clash a b)
])
  where
    clash : (ltb (origin_of x) (origin_of y) ≡ true) ⊎ ((eqb (origin_of x) (origin_of y) && ltb (number_of x) (number_of y)) ≡ true)
        → (ltb (origin_of y) (origin_of x) ≡ true) ⊎ ((eqb (origin_of y) (origin_of x) && ltb (number_of y) (number_of x)) ≡ true) → ⊥
    clash (inl a) (inl b) =
        let l : origin_of x < origin_of y = ltb-true (origin_of x) (origin_of y) a in let r : origin_of y < origin_of x = ltb-true (origin_of y) (origin_of x) b in omega (arith, l, r)
    clash (inl a) (inr b) =
        let l : origin_of x < origin_of y = ltb-true (origin_of x) (origin_of y) a in
        let r : origin_of y ≡ origin_of x = eqb-true (origin_of y) (origin_of x) (and_parts (eqb (origin_of y) (origin_of x)) (ltb (number_of y) (number_of x)) b).0 in omega (arith, l, r)
    clash (inr a) (inl b) =
        let l : origin_of x ≡ origin_of y = eqb-true (origin_of x) (origin_of y) (and_parts (eqb (origin_of x) (origin_of y)) (ltb (number_of x) (number_of y)) a).0 in
        let r : origin_of y < origin_of x = ltb-true (origin_of y) (origin_of x) b in omega (arith, l, r)
    clash (inr a) (inr b) =
        let l : number_of x < number_of y = ltb-true (number_of x) (number_of y) (and_parts (eqb (origin_of x) (origin_of y)) (ltb (number_of x) (number_of y)) a).1 in
        let r : number_of y < number_of x = ltb-true (number_of y) (number_of x) (and_parts (eqb (origin_of y) (origin_of x)) (ltb (number_of y) (number_of x)) b).1 in omega (arith, l, r)

all_later : (x y : Item) (ys : Items) → Le x y → Follows y ys → Follows x ys
all_later x y [] le h = All-nil (λ z. stands_before z x ≡ false)
all_later x y (z ∷ zs) le h =
    All-cons (λ z. stands_before z x ≡ false) z zs (le_to x z (le_trans x y z le (le_from y z (All-head (λ z. stands_before z y ≡ false) z zs h)))) (all_later x y zs le (All-tail (λ z. stands_before z y ≡ false) z zs h))

follows_insert : (y x : Item) (ys : Items) → stands_before x y ≡ false → Follows y ys → Follows y (insert x ys)
follows_insert y x [] f h = All-cons (λ z. stands_before z y ≡ false) x [] f h
follows_insert y x (z ∷ zs) f h =
    elim (stands_before z x) as (λ b. Follows y (cond b (z ∷ insert x zs) (x ∷ z ∷ zs))) [
      | true ↦ All-cons (λ w. stands_before w y ≡ false) z (insert x zs) (All-head (λ w. stands_before w y ≡ false) z zs h) (follows_insert y x zs f (All-tail (λ w. stands_before w y ≡ false) z zs h))
      | false ↦ All-cons (λ w. stands_before w y ≡ false) x (z ∷ zs) f h
    ]

sorted_insert : (x : Item) (ys : Items) → Sorted ys → Sorted (insert x ys)
sorted_insert x [] s = (All-nil (λ z. stands_before z x ≡ false), tt)
sorted_insert x (y ∷ ys) s =
    elim (cases_Bool (stands_before y x)) [
      | inl t ↦ subst Sorted (sym (cond-true (stands_before y x) (y ∷ insert x ys) (x ∷ y ∷ ys) t)) (follows_insert y x ys (le_to y x (before_le y x t)) s.0, sorted_insert x ys s.1)
      | inr f ↦ subst Sorted (sym (cond-false (stands_before y x) (y ∷ insert x ys) (x ∷ y ∷ ys) f))
          (All-cons (λ z. stands_before z x ≡ false) y ys f (all_later x y ys (le_from x y f) s.0), s)
    ]

goes_first : (x : Item) (ys : Items) → Follows x ys → insert x ys ≡ x ∷ ys
goes_first x [] h = refl
goes_first x (y ∷ ys) h = cond-false (stands_before y x) (y ∷ insert x ys) (x ∷ y ∷ ys) (All-head (λ z. stands_before z x ≡ false) y ys h)

follows_filter : (p : Item → Bool) (x : Item) (ys : Items) → Follows x ys → Follows x (filter p ys)
follows_filter p x [] h = h
follows_filter p x (y ∷ ys) h =
    elim (p y) as (λ b. Follows x (cond b (y ∷ filter p ys) (filter p ys))) [
      | true ↦ All-cons (λ z. stands_before z x ≡ false) y (filter p ys) (All-head (λ z. stands_before z x ≡ false) y ys h) (follows_filter p x ys (All-tail (λ z. stands_before z x ≡ false) y ys h))
      | false ↦ follows_filter p x ys (All-tail (λ z. stands_before z x ≡ false) y ys h)
    ]

insert_out : (p : Item → Bool) (x : Item) (ys : Items) → p x ≡ false → filter p (insert x ys) ≡ filter p ys
insert_out p x [] h = cond-false (p x) (x ∷ []) [] h
insert_out p x (y ∷ ys) h =
    elim (stands_before y x) as (λ b. filter p (cond b (y ∷ insert x ys) (x ∷ y ∷ ys)) ≡ filter p (y ∷ ys)) [
      | true ↦ ap (λ l. cond (p y) (y ∷ l) l) (insert_out p x ys h)
      | false ↦ cond-false (p x) (x ∷ filter p (y ∷ ys)) (filter p (y ∷ ys)) h
    ]

insert_in : (p : Item → Bool) (x : Item) (ys : Items) → Sorted ys → p x ≡ true → filter p (insert x ys) ≡ insert x (filter p ys)
insert_in p x [] s h = cond-true (p x) (x ∷ []) [] h
insert_in p x (y ∷ ys) s h =
    elim (cases_Bool (stands_before y x)) [
      | inl t ↦
          ap (filter p) (cond-true (stands_before y x) (y ∷ insert x ys) (x ∷ y ∷ ys) t)
          ∙ ap (λ l. cond (p y) (y ∷ l) l) (insert_in p x ys s.1 h)
          ∙ (elim (p y) as (λ b. cond b (y ∷ insert x (filter p ys)) (insert x (filter p ys)) ≡ insert x (cond b (y ∷ filter p ys) (filter p ys))) [
            | true ↦ sym (cond-true (stands_before y x) (y ∷ insert x (filter p ys)) (x ∷ y ∷ filter p ys) t)
            | false ↦ refl
          ])
      | inr f ↦
          ap (filter p) (cond-false (stands_before y x) (y ∷ insert x ys) (x ∷ y ∷ ys) f)
          ∙ cond-true (p x) (x ∷ filter p (y ∷ ys)) (filter p (y ∷ ys)) h
          ∙ sym (goes_first x (filter p (y ∷ ys)) (follows_filter p x (y ∷ ys) (All-cons (λ z. stands_before z x ≡ false) y ys f (all_later x y ys (le_from x y f) s.0))))
    ]

order_filter : (p : Item → Bool) (sorted xs : Items) → Sorted sorted → filter p (insert_all sorted xs) ≡ insert_all (filter p sorted) (filter p xs)
order_filter p sorted [] s = refl
order_filter p sorted (x ∷ xs) s =
    order_filter p (insert x sorted) xs (sorted_insert x sorted s)
    ∙ (elim (cases_Bool (p x)) [
      | inl t ↦ ap (λ l. insert_all l (filter p xs)) (insert_in p x sorted s t) ∙ ap (insert_all (filter p sorted)) (sym (cond-true (p x) (x ∷ filter p xs) (filter p xs) t))
      | inr f ↦ ap (λ l. insert_all l (filter p xs)) (insert_out p x sorted f) ∙ ap (insert_all (filter p sorted)) (sym (cond-false (p x) (x ∷ filter p xs) (filter p xs) f))
    ])

-- what still waits after some were delivered
pub waiting_left : (known xs items : Items) → apart_from xs (in_order (apart_from known items)) ≡ in_order (apart_from (add_new known xs) items)
waiting_left known xs items =
    order_filter (λ x. not (knows xs x)) [] (apart_from known items) tt ∙ ap in_order (apart_twice known xs items)

-- and with one item more
order_more : (sorted xs : Items) (x : Item) → insert_all sorted (xs ++ x ∷ []) ≡ insert x (insert_all sorted xs)
order_more sorted [] x = refl
order_more sorted (y ∷ ys) x = order_more (insert y sorted) ys x

filter_append : (p : Item → Bool) (xs ys : Items) → filter p (xs ++ ys) ≡ filter p xs ++ filter p ys
filter_append p [] ys = refl
filter_append p (x ∷ xs) ys =
    elim (p x) as (λ b. cond b (x ∷ filter p (xs ++ ys)) (filter p (xs ++ ys)) ≡ cond b (x ∷ filter p xs) (filter p xs) ++ filter p ys) [
      | true ↦ ap (λ l. x ∷ l) (filter_append p xs ys)
      | false ↦ filter_append p xs ys
    ]

pub waits_too : (known items : Items) (x : Item) → knows known x ≡ false → in_order (apart_from known (items ++ x ∷ [])) ≡ insert x (in_order (apart_from known items))
waits_too known items x f =
    ap in_order (filter_append (λ y. not (knows known y)) items (x ∷ []) ∙ ap (λ l. apart_from known items ++ l) (cond-true (not (knows known x)) (x ∷ []) [] (ap not f)))
    ∙ order_more [] (apart_from known items) x

pub waits_not : (known items : Items) (x : Item) → knows known x ≡ true → in_order (apart_from known (items ++ x ∷ [])) ≡ in_order (apart_from known items)
waits_not known items x t =
    ap in_order (filter_append (λ y. not (knows known y)) items (x ∷ []) ∙ ap (λ l. apart_from known items ++ l) (cond-false (not (knows known x)) (x ∷ []) [] (ap not t)) ∙ append-nil (apart_from known items))

-- whether an item waits
knows_insert : (x y : Item) (ys : Items) → has_id (id_of y) x ≡ false → knows (insert x ys) y ≡ knows ys y
knows_insert x y [] f = ap (λ b. b || false) f
knows_insert x y (z ∷ zs) f =
    elim (stands_before z x) as (λ b. knows (cond b (z ∷ insert x zs) (x ∷ z ∷ zs)) y ≡ knows (z ∷ zs) y) [
      | true ↦ ap (λ b. has_id (id_of y) z || b) (knows_insert x y zs f)
      | false ↦ ap (λ b. b || (has_id (id_of y) z || knows zs y)) f
    ]

knows_ordered : (sorted xs : Items) (y : Item) → knows xs y ≡ false → knows (insert_all sorted xs) y ≡ knows sorted y
knows_ordered sorted [] y f = refl
knows_ordered sorted (x ∷ xs) y f =
    let parts : (has_id (id_of y) x ≡ false) × (knows xs y ≡ false) = or_parts (has_id (id_of y) x) (knows xs y) f in
    knows_ordered (insert x sorted) xs y parts.1 ∙ knows_insert x y sorted parts.0

knows_filter : (p : Item → Bool) (xs : Items) (y : Item) → knows xs y ≡ false → knows (filter p xs) y ≡ false
knows_filter p [] y f = refl
knows_filter p (x ∷ xs) y f =
    let parts : (has_id (id_of y) x ≡ false) × (knows xs y ≡ false) = or_parts (has_id (id_of y) x) (knows xs y) f in
    elim (p x) as (λ b. knows (cond b (x ∷ filter p xs) (filter p xs)) y ≡ false) [
      | true ↦ or_from (has_id (id_of y) x) (knows (filter p xs) y) parts.0 (knows_filter p xs y parts.1)
      | false ↦ knows_filter p xs y parts.1
    ]

pub waits_new : (known items : Items) (x : Item) → knows items x ≡ false → knows (in_order (apart_from known items)) x ≡ false
waits_new known items x f = knows_ordered [] (apart_from known items) x (knows_filter (λ y. not (knows known y)) items x f)

-- one batch more
pub items_more : (bs : List Items) (b : Items) → items_of (bs ++ b ∷ []) ≡ add_new (items_of bs) b
items_more bs b =
    ap (add_new []) (flat_map-append (λ b. b) bs (b ∷ []) ∙ ap (λ l. flat_map (λ b. b) bs ++ l) (append-nil b)) ∙ add_new_append [] (flat_map (λ b. b) bs) b

-- the origins and numbers with one more
pub ids_more : (ids new : List Run) (key : ℕ × ℕ) (known : Items) (x : Item) → key ≡ id_of x
    → ((q : ℕ × ℕ) → holds new q ≡ (is_pair key q || holds ids q)) → AreIdsOf ids known → AreIdsOf new (add_new known (x ∷ []))
ids_more ids new key known x is adds old = λ y.
    adds (id_of y) ∙ ap (λ k. is_pair k (id_of y) || holds ids (id_of y)) is
    ∙ ap (λ b. is_pair (id_of x) (id_of y) || b) (old y)
    ∙ swap (is_pair (id_of x) (id_of y)) (knows known y) ∙ sym (knows_one known x y)
  where
    swap : (a b : Bool) → (a || b) ≡ (b || a)
    swap true true = refl
    swap true false = refl
    swap false true = refl
    swap false false = refl

-- a list that is not empty
pub first_and_rest : (xs : Items) (x : Item) → 1 ≤ length xs → x ≡ get_or xs 0 x → xs ≡ x ∷ take (length xs - 1) (drop 1 xs)
first_and_rest [] x some at = absurd (omega (arith, some))
first_and_rest (y ∷ ys) x some at =
    let short : length (y ∷ ys) - 1 ≡ length ys = omega arith in
    ap (λ z. z ∷ ys) (sym at) ∙ ap (λ l. x ∷ l) (sym (ap (λ k. take k ys) short ∙ whole ys))
  where
    whole : (zs : Items) → take (length zs) zs ≡ zs
    whole [] = refl
    whole (z ∷ zs) = ap (λ l. z ∷ l) (whole zs)
