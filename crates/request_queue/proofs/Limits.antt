-- The queue of requests under a limit: which it lets through, and which wait.
use Rattle.std.proofs.Common.{ℕ, ◌≡◌, ◌<◌, ◌≤◌, inl, inr, eqb, ltb, leb, not, Bool, true, false, cond, ◌&&◌, List, [], ◌∷◌, ◌++◌, refl, sym, ap, ◌∙◌, subst, append_assoc, append-nil, arith, map}
use Rattle.std.specs.List.{filter, All}
use Rattle.std.proofs.lemmas.Bool.{cond-true, cond-false, cases_Bool, cases_lt, eqb-true, ltb-false, ltb-true, le-ltb, le-leb, lt-leb, lt-ltb, ne_eqb, or_left, or_from, or_parts, and_left, or_cases, and_parts}
use Rattle.std.proofs.lemmas.List.{map-append, append_cancel_left}
use Rattle.std.proofs.lemmas.List.Elements.{All-cons, All-head, All-tail, All-map, All-filter}
use Rattle.upd_base.specs.declared.item.Item.{Item}
use Rattle.request_queue.specs.declared.request.Request.{Request}
use Rattle.request_queue.specs.Request.{stands_before, insert}
use Rattle.request_queue.proofs.Order.{passes, stops}

abbrev pub upto : ℕ → Request → Bool
upto limit w = leb w.stamp limit

abbrev pub over : ℕ → Request → Bool
over limit w = not (leb w.stamp limit)

yes_upto : (limit : ℕ) (w : Request) → w.stamp ≤ limit → upto limit w ≡ true
yes_upto limit w h = le-leb w.stamp limit h

not_upto : (limit : ℕ) (w : Request) → limit < w.stamp → upto limit w ≡ false
not_upto limit w h = lt-leb w.stamp limit h

yes_over : (limit : ℕ) (w : Request) → limit < w.stamp → over limit w ≡ true
yes_over limit w h = ap not (lt-leb w.stamp limit h)

not_over : (limit : ℕ) (w : Request) → w.stamp ≤ limit → over limit w ≡ false
not_over limit w h = ap not (le-leb w.stamp limit h)

keeps : (p : Request → Bool) (x : Request) (xs : List Request) → p x ≡ true → filter p (x ∷ xs) ≡ x ∷ filter p xs
keeps p x xs h = cond-true (p x) (x ∷ filter p xs) (filter p xs) h

drops : (p : Request → Bool) (x : Request) (xs : List Request) → p x ≡ false → filter p (x ∷ xs) ≡ filter p xs
drops p x xs h = cond-false (p x) (x ∷ filter p xs) (filter p xs) h

-- a filter that drops the new one doesn't see it
insert_out : (p : Request → Bool) (w : Request) (xs : List Request) → p w ≡ false → filter p (insert w xs) ≡ filter p xs
insert_out p w [] h = drops p w [] h
insert_out p w (x ∷ xs) h =
    elim (cases_Bool (stands_before x w)) [
      | inl before ↦
          ap (filter p) (passes w x xs before)
          ∙ (elim (p x) as (λ b. cond b (x ∷ filter p (insert w xs)) (filter p (insert w xs)) ≡ cond b (x ∷ filter p xs) (filter p xs)) [
            | true ↦ ap (λ l. x ∷ l) (insert_out p w xs h)
            | false ↦ insert_out p w xs h
          ])
      | inr after ↦ ap (filter p) (stops w x xs after) ∙ drops p w (x ∷ xs) h
    ]

-- one with a stamp above the limit finds the same place among those above it
insert_over : (limit : ℕ) (w : Request) (xs : List Request) → limit < w.stamp → filter (over limit) (insert w xs) ≡ insert w (filter (over limit) xs)
insert_over limit w [] h = keeps (over limit) w [] (yes_over limit w h)
insert_over limit w (x ∷ xs) h =
    elim (cases_lt limit x.stamp) [
      | inl above ↦
          elim (cases_Bool (stands_before x w)) [
            | inl before ↦
                ap (filter (over limit)) (passes w x xs before) ∙ keeps (over limit) x (insert w xs) (yes_over limit x above) ∙ ap (λ l. x ∷ l) (insert_over limit w xs h)
                ∙ sym (passes w x (filter (over limit) xs) before) ∙ ap (insert w) (sym (keeps (over limit) x xs (yes_over limit x above)))
            | inr after ↦
                ap (filter (over limit)) (stops w x xs after) ∙ keeps (over limit) w (x ∷ xs) (yes_over limit w h) ∙ ap (λ l. w ∷ l) (keeps (over limit) x xs (yes_over limit x above))
                ∙ sym (stops w x (filter (over limit) xs) after) ∙ ap (insert w) (sym (keeps (over limit) x xs (yes_over limit x above)))
          ]
      | inr low ↦
          let before : stands_before x w ≡ true = or_left (ltb x.stamp w.stamp) (eqb x.stamp w.stamp && leb x.from w.from) (lt-ltb x.stamp w.stamp (omega arith)) in
          ap (filter (over limit)) (passes w x xs before) ∙ drops (over limit) x (insert w xs) (not_over limit x low) ∙ insert_over limit w xs h
          ∙ ap (insert w) (sym (drops (over limit) x xs (not_over limit x low)))
    ]

filter_twice : (a b : ℕ) (xs : List Request) → a ≤ b → filter (over b) (filter (over a) xs) ≡ filter (over b) xs
filter_twice a b [] le = refl
filter_twice a b (x ∷ xs) le =
    elim (cases_lt a x.stamp) [
      | inl above ↦
          ap (filter (over b)) (keeps (over a) x xs (yes_over a x above))
          ∙ (elim (over b x) as (λ c. cond c (x ∷ filter (over b) (filter (over a) xs)) (filter (over b) (filter (over a) xs)) ≡ cond c (x ∷ filter (over b) xs) (filter (over b) xs)) [
            | true ↦ ap (λ l. x ∷ l) (filter_twice a b xs le)
            | false ↦ filter_twice a b xs le
          ])
      | inr low ↦ ap (filter (over b)) (drops (over a) x xs (not_over a x low)) ∙ filter_twice a b xs le ∙ sym (drops (over b) x xs (not_over b x (omega arith)))
    ]

-- what waits after a Req
pub kept_req : (a b : ℕ) (w : Request) (xs : List Request) → a ≤ b → filter (over b) (insert w (filter (over a) xs)) ≡ filter (over b) (insert w xs)
kept_req a b w xs le =
    elim (cases_lt a w.stamp) [
      | inl above ↦ ap (filter (over b)) (sym (insert_over a w xs above)) ∙ filter_twice a b (insert w xs) le
      | inr low ↦
          insert_out (over b) w (filter (over a) xs) (not_over b w (omega arith)) ∙ filter_twice a b xs le ∙ sym (insert_out (over b) w xs (not_over b w (omega arith)))
    ]

pub kept_other : (a b : ℕ) (xs : List Request) → a ≤ b → filter (over b) (filter (over a) xs) ≡ filter (over b) xs
kept_other = filter_twice

-- the stamps don't descend
abbrev pub Ascends : ℕ → List Request → Type 0
Ascends low [] = Unit {0}
Ascends low (x ∷ xs) = (low ≤ x.stamp) × Ascends x.stamp xs

pub ascends_insert : (low : ℕ) (w : Request) (xs : List Request) → Ascends low xs → low ≤ w.stamp → Ascends low (insert w xs)
ascends_insert low w [] h le = (le, tt)
ascends_insert low w (x ∷ xs) h le =
    elim (cases_Bool (stands_before x w)) [
      | inl before ↦
          let under : x.stamp ≤ w.stamp = elim (or_cases (ltb x.stamp w.stamp) (eqb x.stamp w.stamp && leb x.from w.from) before) [
            | inl lt ↦ let l : x.stamp < w.stamp = ltb-true x.stamp w.stamp lt in omega arith
            | inr eq ↦ let e : x.stamp ≡ w.stamp = eqb-true x.stamp w.stamp (and_parts (eqb x.stamp w.stamp) (leb x.from w.from) eq).0 in omega arith
          ] in
          subst (Ascends low) (sym (passes w x xs before)) (h.0, ascends_insert x.stamp w xs h.1 under)
      | inr after ↦
          let above : w.stamp ≤ x.stamp = ltb-false x.stamp w.stamp (or_parts (ltb x.stamp w.stamp) (eqb x.stamp w.stamp && leb x.from w.from) after).0 in
          subst (Ascends low) (sym (stops w x xs after)) (le, (above, h.1))
    ]

all_above : (a low : ℕ) (xs : List Request) → Ascends low xs → a < low → (filter (upto a) xs ≡ []) × (filter (over a) xs ≡ xs)
all_above a low [] h lt = (refl, refl)
all_above a low (x ∷ xs) h lt =
    let le : low ≤ x.stamp = h.0 in
    let rest : (filter (upto a) xs ≡ []) × (filter (over a) xs ≡ xs) = all_above a x.stamp xs h.1 (omega arith) in
    (drops (upto a) x xs (not_upto a x (omega arith)) ∙ rest.0, keeps (over a) x xs (yes_over a x (omega arith)) ∙ ap (λ l. x ∷ l) rest.1)

-- those up to b are those up to a and then those between
sorted_split : (a b low : ℕ) (xs : List Request) → Ascends low xs → a ≤ b → filter (upto b) xs ≡ filter (upto a) xs ++ filter (upto b) (filter (over a) xs)
sorted_split a b low [] h le = refl
sorted_split a b low (x ∷ xs) h le =
    elim (cases_lt a x.stamp) [
      | inl above ↦
          let parts : (filter (upto a) (x ∷ xs) ≡ []) × (filter (over a) (x ∷ xs) ≡ x ∷ xs) = all_above a x.stamp (x ∷ xs) (omega arith, h.1) above in
          ap (filter (upto b)) (sym parts.1) ∙ ap (λ l. l ++ filter (upto b) (filter (over a) (x ∷ xs))) (sym parts.0)
      | inr under ↦
          keeps (upto b) x xs (yes_upto b x (omega arith)) ∙ ap (λ l. x ∷ l) (sorted_split a b x.stamp xs h.1 le)
          ∙ ap (λ l. l ++ filter (upto b) (filter (over a) xs)) (sym (keeps (upto a) x xs (yes_upto a x under)))
          ∙ ap (λ l. filter (upto a) (x ∷ xs) ++ filter (upto b) l) (sym (drops (over a) x xs (not_over a x under)))
    ]

-- where a new one goes among those that a filter keeps
insert_splits : (p : Request → Bool) (w : Request) (xs : List Request) → p w ≡ true
    → (us : List Request) × (vs : List Request) × (filter p xs ≡ us ++ vs) × (filter p (insert w xs) ≡ us ++ w ∷ vs)
insert_splits p w [] h = ([], [], refl, keeps p w [] h)
insert_splits p w (x ∷ xs) h =
    elim (cases_Bool (stands_before x w)) [
      | inl before ↦
          let old : (us : List Request) × (vs : List Request) × (filter p xs ≡ us ++ vs) × (filter p (insert w xs) ≡ us ++ w ∷ vs) = insert_splits p w xs h in
          elim (cases_Bool (p x)) [
            | inl in_it ↦ (x ∷ old.0, old.1, keeps p x xs in_it ∙ ap (λ l. x ∷ l) old.2, ap (filter p) (passes w x xs before) ∙ keeps p x (insert w xs) in_it ∙ ap (λ l. x ∷ l) old.3)
            | inr out ↦ (old.0, old.1, drops p x xs out ∙ old.2, ap (filter p) (passes w x xs before) ∙ drops p x (insert w xs) out ∙ old.3)
          ]
      | inr after ↦ ([], filter p (x ∷ xs), refl, ap (filter p) (stops w x xs after) ∙ keeps p w (x ∷ xs) h)
    ]

rotate : {A : Type 0} (x : A) (ys zs more : List A) → x ∷ (ys ++ zs) ≡ ys ++ more → more ≡ x ∷ zs
rotate x [] zs more e = sym e
rotate x (y ∷ ys) zs more e =
    let head : x ≡ y = cc in
    let tail : y ∷ (ys ++ zs) ≡ ys ++ more = cc in
    rotate y ys zs more tail ∙ ap (λ h. h ∷ zs) (sym head)

abbrev pub items : List Request → List Item
items ws = map (λ w. w.item) ws

-- one up to the limit goes before all above it
insert_first : (a : ℕ) (w : Request) (xs : List Request) → w.stamp ≤ a → insert w (filter (over a) xs) ≡ w ∷ filter (over a) xs
insert_first a w [] le = refl
insert_first a w (x ∷ xs) le =
    elim (cases_lt a x.stamp) [
      | inl above ↦
          let after : stands_before x w ≡ false = or_from (ltb x.stamp w.stamp) (eqb x.stamp w.stamp && leb x.from w.from) (le-ltb x.stamp w.stamp (omega arith)) (and_left (eqb x.stamp w.stamp) (leb x.from w.from) (ne_eqb x.stamp w.stamp (λ e. omega arith))) in
          ap (insert w) (keeps (over a) x xs (yes_over a x above)) ∙ stops w x (filter (over a) xs) after ∙ ap (λ l. w ∷ l) (sym (keeps (over a) x xs (yes_over a x above)))
      | inr low ↦
          ap (insert w) (drops (over a) x xs (not_over a x low)) ∙ insert_first a w xs le ∙ ap (λ l. w ∷ l) (sym (drops (over a) x xs (not_over a x low)))
    ]

-- What is released after a Req is what the definition has more.
pub released_req : (a b : ℕ) (w : Request) (xs : List Request) (more : List Item) → Ascends 0 xs → a ≤ b
    → items (filter (upto b) (insert w xs)) ≡ items (filter (upto a) xs) ++ more → items (filter (upto b) (insert w (filter (over a) xs))) ≡ more
released_req a b w xs more h le e =
    let f : Request → Item = λ v. v.item in
    let split : filter (upto b) (insert w xs) ≡ filter (upto a) (insert w xs) ++ filter (upto b) (filter (over a) (insert w xs)) =
    sorted_split a b 0 (insert w xs) (ascends_insert 0 w xs h (omega arith)) le in
    elim (cases_lt a w.stamp) [
      | inl above ↦
          let same : filter (upto a) (insert w xs) ≡ filter (upto a) xs = insert_out (upto a) w xs (not_upto a w above) in
          append_cancel_left (items (filter (upto a) xs)) (items (filter (upto b) (insert w (filter (over a) xs)))) more
          (sym (ap items split ∙ ap (λ l. items (l ++ filter (upto b) (filter (over a) (insert w xs)))) same ∙ map-append f (filter (upto a) xs) (filter (upto b) (filter (over a) (insert w xs)))
          ∙ ap (λ l. items (filter (upto a) xs) ++ items (filter (upto b) l)) (insert_over a w xs above)) ∙ e)
      | inr low ↦
          let c : List Request = filter (upto b) (filter (over a) xs) in
          let s : (us : List Request) × (vs : List Request) × (filter (upto a) xs ≡ us ++ vs) × (filter (upto a) (insert w xs) ≡ us ++ w ∷ vs) = insert_splits (upto a) w xs (yes_upto a w low) in
          let us : List Item = items s.0 in
          let vs : List Item = items s.1 in
          let now : items (filter (upto b) (insert w xs)) ≡ us ++ (w.item ∷ (vs ++ items c)) =
          ap items split ∙ ap (λ l. items (l ++ filter (upto b) (filter (over a) (insert w xs)))) s.3
          ∙ ap (λ l. items ((s.0 ++ w ∷ s.1) ++ filter (upto b) l)) (insert_out (over a) w xs (not_over a w low))
          ∙ map-append f (s.0 ++ w ∷ s.1) c ∙ ap (λ l. l ++ items c) (map-append f s.0 (w ∷ s.1)) ∙ append_assoc us (w.item ∷ vs) (items c) in
          let past : items (filter (upto a) xs) ++ more ≡ us ++ (vs ++ more) = ap (λ l. items l ++ more) s.2 ∙ ap (λ l. l ++ more) (map-append f s.0 s.1) ∙ append_assoc us vs more in
          let turned : w.item ∷ (vs ++ items c) ≡ vs ++ more = append_cancel_left us (w.item ∷ (vs ++ items c)) (vs ++ more) (sym now ∙ e ∙ past) in
          ap (λ l. items (filter (upto b) l)) (insert_first a w xs low) ∙ ap items (keeps (upto b) w (filter (over a) xs) (yes_upto b w (omega arith)))
          ∙ sym (rotate w.item vs (items c) more turned)
    ]

pub released_other : (a b : ℕ) (xs : List Request) (more : List Item) → Ascends 0 xs → a ≤ b
    → items (filter (upto b) xs) ≡ items (filter (upto a) xs) ++ more → items (filter (upto b) (filter (over a) xs)) ≡ more
released_other a b xs more h le e =
    append_cancel_left (items (filter (upto a) xs)) (items (filter (upto b) (filter (over a) xs))) more
    (sym (ap items (sorted_split a b 0 xs h le) ∙ map-append (λ v. v.item) (filter (upto a) xs) (filter (upto b) (filter (over a) xs))) ∙ e)

-- what a new one adds to what holds of each
pub all_insert : (P : Request → Type 0) (w : Request) (xs : List Request) → P w → All P xs → All P (insert w xs)
all_insert P w [] h a = All-cons P w [] h a
all_insert P w (x ∷ xs) h a =
    elim (cases_Bool (stands_before x w)) [
      | inl before ↦ subst (All P) (sym (passes w x xs before)) (All-cons P x (insert w xs) (All-head P x xs a) (all_insert P w xs h (All-tail P x xs a)))
      | inr after ↦ subst (All P) (sym (stops w x xs after)) (All-cons P w (x ∷ xs) h a)
    ]

-- the items of some of the requests are as those of all
pub all_items : (P : Item → Type 0) (p : Request → Bool) (xs : List Request) → All (λ w. P w.item) xs → All P (items (filter p xs))
all_items P p xs a = All-map P (λ (w : Request). w.item) (filter p xs) (All-filter p (λ (w : Request). P w.item) xs a)

-- where each is above the limit, none is let through and all wait
pub none_upto : (limit : ℕ) (xs : List Request) → All (λ w. limit < w.stamp) xs → filter (upto limit) xs ≡ []
none_upto limit [] a = refl
none_upto limit (x ∷ xs) a =
    drops (upto limit) x xs (not_upto limit x (All-head (λ (w : Request). limit < w.stamp) x xs a)) ∙ none_upto limit xs (All-tail (λ (w : Request). limit < w.stamp) x xs a)

pub all_wait : (limit : ℕ) (xs : List Request) → All (λ w. limit < w.stamp) xs → filter (over limit) xs ≡ xs
all_wait limit [] a = refl
all_wait limit (x ∷ xs) a =
    keeps (over limit) x xs (yes_over limit x (All-head (λ (w : Request). limit < w.stamp) x xs a))
    ∙ ap (λ l. x ∷ l) (all_wait limit xs (All-tail (λ (w : Request). limit < w.stamp) x xs a))

-- one up to the limit at the head goes through
pub first_upto : (limit : ℕ) (w : Request) (xs : List Request) → w.stamp ≤ limit → filter (upto limit) (w ∷ xs) ≡ w ∷ filter (upto limit) xs
first_upto limit w xs le = keeps (upto limit) w xs (yes_upto limit w le)

pub first_over : (limit : ℕ) (w : Request) (xs : List Request) → w.stamp ≤ limit → filter (over limit) (w ∷ xs) ≡ filter (over limit) xs
first_over limit w xs le = drops (over limit) w xs (not_over limit w le)

-- what taking out the first, which is up to the limit, leaves to do
pub over_popped : (limit : ℕ) (w : Request) (xs ys : List Request) → xs ≡ w ∷ ys → w.stamp ≤ limit → filter (over limit) ys ≡ filter (over limit) xs
over_popped limit w xs ys e le = sym (first_over limit w ys le) ∙ ap (filter (over limit)) (sym e)

pub upto_popped : (limit : ℕ) (w : Request) (xs ys : List Request) (old new : List Item) → xs ≡ w ∷ ys → w.stamp ≤ limit → new ≡ old ++ w.item ∷ []
    → new ++ items (filter (upto limit) ys) ≡ old ++ items (filter (upto limit) xs)
upto_popped limit w xs ys old new e le more =
    ap (λ l. l ++ items (filter (upto limit) ys)) more ∙ append_assoc old (w.item ∷ []) (items (filter (upto limit) ys))
    ∙ ap (λ l. old ++ items l) (sym (first_upto limit w ys le)) ∙ ap (λ l. old ++ items (filter (upto limit) l)) (sym e)

pub gone_more : (w : Request) (all gone xs ys : List Request) → all ≡ gone ++ xs → xs ≡ w ∷ ys → (more : List Request) × (all ≡ more ++ ys)
gone_more w all gone xs ys a e = (gone ++ w ∷ [], a ∙ ap (λ l. gone ++ l) e ∙ sym (append_assoc gone (w ∷ []) ys))

-- where none goes any more
pub over_done : (limit : ℕ) (all xs ys : List Request) → xs ≡ ys → All (λ w. limit < w.stamp) xs → filter (over limit) xs ≡ filter (over limit) all → ys ≡ filter (over limit) all
over_done limit all xs ys e a kept = sym e ∙ sym (all_wait limit xs a) ∙ kept

pub upto_done : (limit : ℕ) (all xs : List Request) (old now : List Item) → All (λ w. limit < w.stamp) xs → now ++ items (filter (upto limit) xs) ≡ old ++ items (filter (upto limit) all)
    → now ≡ old ++ items (filter (upto limit) all)
upto_done limit all xs old now a released = sym (append-nil now) ∙ ap (λ l. now ++ items l) (sym (none_upto limit xs a)) ∙ released
