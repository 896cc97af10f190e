use Rattle.std.proofs.Common.{ℕ, zero, suc, ◌≡◌, ◌+◌, ◌<◌, ◌≤◌, inl, inr, eqb, ltb, leb, Bool, true, false, cond, ◌&&◌, List, [], ◌∷◌, ◌++◌, refl, sym, ap, ◌∙◌, subst, append-nil, append_assoc, arith, map}
use Rattle.std.specs.List.{flat_map, filter, AllByRecursion}
use Rattle.std.proofs.lemmas.Bool.{cond_both, cond-true, cond-false, eq-eqb, ne_eqb, lt-ltb, le-ltb, le-leb, lt-leb, cases_lt, eqb-true, or_left, or_right, or_from, and_from, and_left, and_right}
use Rattle.std.proofs.lemmas.List.{map-append}
use Rattle.std.proofs.lemmas.List.Elements.{filter-append}
use Rattle.fifo_net.specs.Net.{Called, Took, taken}
use Rattle.order_trait.proofs.Sends.{SendersFit}
use Rattle.fifo_net.proofs.Lists.{flat_map_push}
use Rattle.upd_base.specs.declared.item.Item.{Item}
use Rattle.upd_base.specs.declared.body.Body.{Body}
use Rattle.upd_base.specs.declared.body.Body.TheVariants.{Req}
use Rattle.order_trait.specs.Runs.{Inputs}
use Rattle.request_queue.specs.declared.request.Request.{Request}
use Rattle.request_queue.specs.Request.{stands_before, insert}
use Rattle.lamport_rules.specs.Lamport.{requests, stamp_of}
use Rattle.lamport_rules.proofs.Stamps.{each_below, each_below-same, req_at}

all-append : {A : Type 0} (P : A → Type 0) (xs ys : List A) → AllByRecursion P xs → AllByRecursion P ys → AllByRecursion P (xs ++ ys)
all-append P [] ys a b = b
all-append P (x ∷ xs) ys a b = (a.0, all-append P xs ys a.1 b)

-- f (k+1) and so on below n
abbrev pub each_after : {A : Type 0} → ℕ → ℕ → (ℕ → List A) → List A
each_after k zero f = []
each_after k (suc n) f = cond (ltb k n) (each_after k n f ++ f n) []

each_split : {A : Type 0} (k n : ℕ) (f : ℕ → List A) → k < n → each_below n f ≡ (each_below k f ++ f k) ++ each_after k n f
each_split k zero f lt = absurd (omega arith)
each_split k (suc n) f lt =
    elim (cases_lt k n) [
      | inl less ↦
          ap (λ l. l ++ f n) (each_split k n f less) ∙ append_assoc (each_below k f ++ f k) (each_after k n f) (f n)
          ∙ ap (λ l. (each_below k f ++ f k) ++ l) (sym (cond-true (ltb k n) (each_after k n f ++ f n) [] (lt-ltb k n less)))
      | inr ge ↦
          let e : n ≡ k = omega arith in
          subst (λ i. each_below i f ++ f i ≡ (each_below k f ++ f k) ++ cond (ltb k i) (each_after k i f ++ f i) []) (sym e)
          (sym (append-nil (each_below k f ++ f k)) ∙ ap (λ l. (each_below k f ++ f k) ++ l) (sym (cond-false (ltb k k) (each_after k k f ++ f k) [] (le-ltb k k (omega arith)))))
    ]

each_after-same : {A : Type 0} (k n : ℕ) (f g : ℕ → List A) → ((j : ℕ) → k < j → f j ≡ g j) → each_after k n f ≡ each_after k n g
each_after-same k zero f g h = refl
each_after-same k (suc n) f g h =
    elim (cases_lt k n) [
      | inl less ↦
          cond-true (ltb k n) (each_after k n f ++ f n) [] (lt-ltb k n less)
          ∙ ap (λ l. l ++ f n) (each_after-same k n f g h) ∙ ap (λ l. each_after k n g ++ l) (h n less)
          ∙ sym (cond-true (ltb k n) (each_after k n g ++ g n) [] (lt-ltb k n less))
      | inr ge ↦ cond-false (ltb k n) (each_after k n f ++ f n) [] (le-ltb k n ge) ∙ sym (cond-false (ltb k n) (each_after k n g ++ g n) [] (le-ltb k n ge))
    ]

each_below-all : {A : Type 0} (P : A → Type 0) (n : ℕ) (f : ℕ → List A) → ((j : ℕ) → j < n → AllByRecursion P (f j)) → AllByRecursion P (each_below n f)
each_below-all P zero f h = tt
each_below-all P (suc n) f h = all-append P (each_below n f) (f n) (each_below-all P n f (λ j lt. h j (omega arith))) (h n (omega arith))

each_after-all : {A : Type 0} (P : A → Type 0) (k n : ℕ) (f : ℕ → List A) → ((j : ℕ) → k < j → AllByRecursion P (f j)) → AllByRecursion P (each_after k n f)
each_after-all P k zero f h = tt
each_after-all P k (suc n) f h =
    elim (cases_lt k n) [
      | inl less ↦ subst (AllByRecursion P) (sym (cond-true (ltb k n) (each_after k n f ++ f n) [] (lt-ltb k n less))) (all-append P (each_after k n f) (f n) (each_after-all P k n f h) (h n less))
      | inr ge ↦ subst (AllByRecursion P) (sym (cond-false (ltb k n) (each_after k n f ++ f n) [] (le-ltb k n ge))) tt
    ]

-- a list in order takes a new element between those before it and those after it
insert_between : (w : Request) (xs ys : List Request) → AllByRecursion (λ v. stands_before v w ≡ true) xs → AllByRecursion (λ v. stands_before v w ≡ false) ys → insert w (xs ++ ys) ≡ xs ++ w ∷ ys
insert_between w [] [] a b = refl
insert_between w [] (y ∷ ys) a b = cond-false (stands_before y w) (y ∷ insert w ys) (w ∷ y ∷ ys) b.0
insert_between w (x ∷ xs) ys a b =
    cond-true (stands_before x w) (x ∷ insert w (xs ++ ys)) (w ∷ x ∷ (xs ++ ys)) a.0 ∙ ap (λ l. x ∷ l) (insert_between w xs ys a.1 b)

-- the Reqs of one stamp among bodies from one member
abbrev pub wait_at : ℕ → ℕ → Body → List Request
wait_at t j (Req stamp item) = cond (eqb stamp t) (record { stamp = stamp; from = j; item = item } ∷ []) []
wait_at t j body = []

-- the Reqs of one stamp that were taken from one member
abbrev pub cell : ℕ → ℕ → Inputs → List Request
cell t j inputs = flat_map (wait_at t j) (taken j inputs)

abbrev pub rows : ℕ → Inputs → ℕ → List Request
rows n inputs t = each_below n (λ j. cell t j inputs)

all-weaker : {A : Type 0} (P Q : A → Type 0) → ((x : A) → P x → Q x) → (xs : List A) → AllByRecursion P xs → AllByRecursion Q xs
all-weaker P Q h [] a = tt
all-weaker P Q h (x ∷ xs) a = (h x a.0, all-weaker P Q h xs a.1)

wait_is : (t j : ℕ) (body : Body) → AllByRecursion (λ w. (w.stamp ≡ t) × (w.from ≡ j)) (wait_at t j body)
wait_is t j (Req stamp item) =
    cond_both (eqb stamp t) (record { stamp = stamp; from = j; item = item } ∷ []) [] (AllByRecursion (λ (w : Request). (w.stamp ≡ t) × (w.from ≡ j)))
    (λ e. ((eqb-true stamp t e, refl), tt)) (λ e. tt)
wait_is t j body = tt

waits_are : (t j : ℕ) (bodies : List Body) → AllByRecursion (λ w. (w.stamp ≡ t) × (w.from ≡ j)) (flat_map (wait_at t j) bodies)
waits_are t j [] = tt
waits_are t j (b ∷ bs) = all-append (λ (w : Request). (w.stamp ≡ t) × (w.from ≡ j)) (wait_at t j b) (flat_map (wait_at t j) bs) (wait_is t j b) (waits_are t j bs)

row_is : (n t : ℕ) (inputs : Inputs) → AllByRecursion (λ w. w.stamp ≡ t) (rows n inputs t)
row_is n t inputs =
    each_below-all (λ (w : Request). w.stamp ≡ t) n (λ j. cell t j inputs)
    (λ j lt. all-weaker (λ (w : Request). (w.stamp ≡ t) × (w.from ≡ j)) (λ (w : Request). w.stamp ≡ t) (λ w h. h.0) (cell t j inputs) (waits_are t j (taken j inputs)))

abbrev pub StampsBelow : ℕ → Inputs → Type 0
StampsBelow k [] = Unit {0}
StampsBelow k (Called order ∷ past) = StampsBelow k past
StampsBelow k (Took from body ∷ past) = (stamp_of body < k) × StampsBelow k past

each_below-none : {A : Type 0} (n : ℕ) (f : ℕ → List A) → ((j : ℕ) → f j ≡ []) → each_below n f ≡ []
each_below-none zero f h = refl
each_below-none (suc n) f h = ap (λ l. l ++ f n) (each_below-none n f h) ∙ h n

-- what a body adds to a cell
cell_took : (t j k : ℕ) (body : Body) (past : Inputs) → cell t j (Took k body ∷ past) ≡ cell t j past ++ cond (eqb k j) (wait_at t j body) []
cell_took t j k body past =
    elim (eqb k j) as (λ b. flat_map (wait_at t j) (cond b (taken j past ++ body ∷ []) (taken j past)) ≡ flat_map (wait_at t j) (taken j past) ++ cond b (wait_at t j body) []) [
      | true ↦ flat_map_push (wait_at t j) (taken j past) body
      | false ↦ sym (append-nil (flat_map (wait_at t j) (taken j past)))
    ]

cell_kept : (t j k : ℕ) (body : Body) (past : Inputs) → (k ≡ j → wait_at t j body ≡ []) → cell t j (Took k body ∷ past) ≡ cell t j past
cell_kept t j k body past h =
    cell_took t j k body past
    ∙ ap (λ l. cell t j past ++ l) (cond_both (eqb k j) (wait_at t j body) [] (λ l. l ≡ []) (λ e. h (eqb-true k j e)) (λ e. refl))
    ∙ append-nil (cell t j past)

-- all that stands before a Req of member k with the stamp u, and all that stands after it
before_row : (t u k : ℕ) (item : Item) (v : Request) → t < u → v.stamp ≡ t → stands_before v (record { stamp = u; from = k; item = item }) ≡ true
before_row t u k item v lt e = or_left (ltb v.stamp u) (eqb v.stamp u && leb v.from k) (lt-ltb v.stamp u (omega arith))

before_cell : (j u k : ℕ) (item : Item) (v : Request) → j ≤ k → (v.stamp ≡ u) × (v.from ≡ j) → stands_before v (record { stamp = u; from = k; item = item }) ≡ true
before_cell j u k item v le e =
    or_right (ltb v.stamp u) (eqb v.stamp u && leb v.from k) (and_from (eqb v.stamp u) (leb v.from k) (eq-eqb v.stamp u e.0) (le-leb v.from k (omega arith)))

after_row : (t u k : ℕ) (item : Item) (v : Request) → u < t → v.stamp ≡ t → stands_before v (record { stamp = u; from = k; item = item }) ≡ false
after_row t u k item v lt e =
    or_from (ltb v.stamp u) (eqb v.stamp u && leb v.from k) (le-ltb v.stamp u (omega arith))
    (and_left (eqb v.stamp u) (leb v.from k) (ne_eqb v.stamp u (λ same. omega arith)))

after_cell : (j u k : ℕ) (item : Item) (v : Request) → k < j → (v.stamp ≡ u) × (v.from ≡ j) → stands_before v (record { stamp = u; from = k; item = item }) ≡ false
after_cell j u k item v lt e =
    or_from (ltb v.stamp u) (eqb v.stamp u && leb v.from k) (le-ltb v.stamp u (omega arith))
    (and_right (eqb v.stamp u) (leb v.from k) (lt-leb v.from k (omega arith)))

joined : {A : Type 0} (a b c d e : List A) → (a ++ ((b ++ c) ++ d)) ++ e ≡ (a ++ (b ++ c)) ++ (d ++ e)
joined a b c d e = simp append_assoc

joined_with : {A : Type 0} (a b c d e : List A) (w : A) → (a ++ ((b ++ (c ++ w ∷ [])) ++ d)) ++ e ≡ (a ++ (b ++ c)) ++ w ∷ (d ++ e)
joined_with a b c d e w = simp append_assoc

insert_cell : (n k u bound : ℕ) (item : Item) (past : Inputs) → k < n → u < bound
    → insert (record { stamp = u; from = k; item = item }) (each_below bound (rows n past)) ≡ each_below bound (rows n (Took k (Req u item) ∷ past))
insert_cell n k u bound item past lk lu =
    let now : Inputs = Took k (Req u item) ∷ past in
    let w : Request = record { stamp = u; from = k; item = item } in
    let cells : ℕ → List Request = λ j. cell u j past in
    let a : List Request = each_below u (rows n past) in
    let b : List Request = each_below k cells in
    let c : List Request = cell u k past in
    let d : List Request = each_after k n cells in
    let e : List Request = each_after u bound (rows n past) in
    let old : each_below bound (rows n past) ≡ (a ++ (b ++ c)) ++ (d ++ e) =
    each_split u bound (rows n past) lu ∙ ap (λ l. (a ++ l) ++ e) (each_split k n cells lk) ∙ joined a b c d e in
    let other : (t : ℕ) → (t ≡ u → ⊥) → rows n now t ≡ rows n past t =
    λ t ne. each_below-same n (λ j. cell t j now) (λ j. cell t j past)
    (λ j lt. cell_kept t j k (Req u item) past (λ same. cond-false (eqb u t) (record { stamp = u; from = j; item = item } ∷ []) [] (ne_eqb u t (λ q. ne (sym q))))) in
    let others : (j : ℕ) → (j ≡ k → ⊥) → cell u j now ≡ cell u j past = λ j ne. cell_kept u j k (Req u item) past (λ same. absurd (ne (sym same))) in
    let here : cell u k now ≡ c ++ w ∷ [] =
    cell_took u k k (Req u item) past
    ∙ ap (λ l. c ++ l) (cond-true (eqb k k) (wait_at u k (Req u item)) [] (eq-eqb k k refl) ∙ cond-true (eqb u u) (w ∷ []) [] (eq-eqb u u refl)) in
    let row : rows n now u ≡ (b ++ (c ++ w ∷ [])) ++ d =
    each_split k n (λ j. cell u j now) lk
    ∙ ap (λ l. (l ++ cell u k now) ++ each_after k n (λ j. cell u j now)) (each_below-same k (λ j. cell u j now) cells (λ j lt. others j (λ same. omega arith)))
    ∙ ap (λ l. (b ++ l) ++ each_after k n (λ j. cell u j now)) here
    ∙ ap (λ l. (b ++ (c ++ w ∷ [])) ++ l) (each_after-same k n (λ j. cell u j now) cells (λ j lt. others j (λ same. omega arith))) in
    let new : each_below bound (rows n now) ≡ (a ++ (b ++ c)) ++ w ∷ (d ++ e) =
    each_split u bound (rows n now) lu
    ∙ ap (λ l. (l ++ rows n now u) ++ each_after u bound (rows n now)) (each_below-same u (rows n now) (rows n past) (λ t lt. other t (λ same. omega arith)))
    ∙ ap (λ l. (a ++ l) ++ each_after u bound (rows n now)) row
    ∙ ap (λ l. (a ++ ((b ++ (c ++ w ∷ [])) ++ d)) ++ l) (each_after-same u bound (rows n now) (rows n past) (λ t lt. other t (λ same. omega arith)))
    ∙ joined_with a b c d e w in
    let Before : Request → Type 0 = λ v. stands_before v w ≡ true in
    let After : Request → Type 0 = λ v. stands_before v w ≡ false in
    let before_a : AllByRecursion Before a = each_below-all Before u (rows n past) (λ t lt. all-weaker (λ (v : Request). v.stamp ≡ t) Before (λ v q. before_row t u k item v lt q) (rows n past t) (row_is n t past)) in
    let before_b : AllByRecursion Before b = each_below-all Before k cells (λ j lt. all-weaker (λ (v : Request). (v.stamp ≡ u) × (v.from ≡ j)) Before (λ v q. before_cell j u k item v (omega arith) q) (cell u j past) (waits_are u j (taken j past))) in
    let before_c : AllByRecursion Before c = all-weaker (λ (v : Request). (v.stamp ≡ u) × (v.from ≡ k)) Before (λ v q. before_cell k u k item v (omega arith) q) c (waits_are u k (taken k past)) in
    let after_d : AllByRecursion After d = each_after-all After k n cells (λ j lt. all-weaker (λ (v : Request). (v.stamp ≡ u) × (v.from ≡ j)) After (λ v q. after_cell j u k item v lt q) (cell u j past) (waits_are u j (taken j past))) in
    let after_e : AllByRecursion After e = each_after-all After u bound (rows n past) (λ t lt. all-weaker (λ (v : Request). v.stamp ≡ t) After (λ v q. after_row t u k item v lt q) (rows n past t) (row_is n t past)) in
    ap (insert w) old
    ∙ insert_between w (a ++ (b ++ c)) (d ++ e) (all-append Before a (b ++ c) before_a (all-append Before b c before_b before_c)) (all-append After d e after_d after_e)
    ∙ sym new

rows_kept : (n k bound : ℕ) (body : Body) (past : Inputs) → ((t j : ℕ) → wait_at t j body ≡ []) → each_below bound (rows n (Took k body ∷ past)) ≡ each_below bound (rows n past)
rows_kept n k bound body past h =
    each_below-same bound (rows n (Took k body ∷ past)) (rows n past)
    (λ t lt. each_below-same n (λ j. cell t j (Took k body ∷ past)) (λ j. cell t j past) (λ j within. cell_kept t j k body past (λ e. h t j)))

-- the sorted Reqs are those of each stamp and each member, in that order
pub sorted_is : (n bound : ℕ) (inputs : Inputs) → SendersFit n inputs → StampsBelow bound inputs → requests inputs ≡ each_below bound (rows n inputs)
sorted_is n bound [] fit low = sym (each_below-none bound (rows n []) (λ t. each_below-none n (λ j. cell t j []) (λ j. refl)))
sorted_is n bound (Called order ∷ past) fit low = sorted_is n bound past fit low
sorted_is n bound (Took k (Req u item) ∷ past) fit low =
    ap (insert (record { stamp = u; from = k; item = item })) (sorted_is n bound past fit.1 low.1) ∙ insert_cell n k u bound item past fit.0 low.0
sorted_is n bound (Took k body ∷ past) fit low = sorted_is n bound past fit.1 low.1 ∙ sym (rows_kept n k bound body past (λ t j. refl))

filter_all : {A : Type 0} (p : A → Bool) (xs : List A) → AllByRecursion (λ x. p x ≡ true) xs → filter p xs ≡ xs
filter_all p [] h = refl
filter_all p (x ∷ xs) h = cond-true (p x) (x ∷ filter p xs) (filter p xs) h.0 ∙ ap (λ l. x ∷ l) (filter_all p xs h.1)

filter_none : {A : Type 0} (p : A → Bool) (xs : List A) → AllByRecursion (λ x. p x ≡ false) xs → filter p xs ≡ []
filter_none p [] h = refl
filter_none p (x ∷ xs) h = cond-false (p x) (x ∷ filter p xs) (filter p xs) h.0 ∙ filter_none p xs h.1

-- the rows up to a stamp
filter_rows-all : (n k limit : ℕ) (inputs : Inputs) → k ≤ limit + 1 → filter (λ (w : Request). leb w.stamp limit) (each_below k (rows n inputs)) ≡ each_below k (rows n inputs)
filter_rows-all n k limit inputs le =
    filter_all (λ (w : Request). leb w.stamp limit) (each_below k (rows n inputs))
    (each_below-all (λ (w : Request). leb w.stamp limit ≡ true) k (rows n inputs)
    (λ t lt. all-weaker (λ (w : Request). w.stamp ≡ t) (λ (w : Request). leb w.stamp limit ≡ true) (λ w e. le-leb w.stamp limit (omega arith)) (rows n inputs t) (row_is n t inputs)))

filter_rows : (n k limit : ℕ) (inputs : Inputs) → limit < k → filter (λ (w : Request). leb w.stamp limit) (each_below k (rows n inputs)) ≡ each_below (suc limit) (rows n inputs)
filter_rows n zero limit inputs lt = absurd (omega arith)
filter_rows n (suc k) limit inputs lt =
    elim (cases_lt limit k) [
      | inl less ↦
          filter-append (λ (w : Request). leb w.stamp limit) (each_below k (rows n inputs)) (rows n inputs k)
          ∙ ap (λ l. filter (λ (w : Request). leb w.stamp limit) (each_below k (rows n inputs)) ++ l)
          (filter_none (λ (w : Request). leb w.stamp limit) (rows n inputs k)
          (all-weaker (λ (w : Request). w.stamp ≡ k) (λ (w : Request). leb w.stamp limit ≡ false) (λ w e. lt-leb w.stamp limit (omega arith)) (rows n inputs k) (row_is n k inputs)))
          ∙ append-nil (filter (λ (w : Request). leb w.stamp limit) (each_below k (rows n inputs)))
          ∙ filter_rows n k limit inputs less
      | inr ge ↦
          let e : k ≡ limit = omega arith in
          filter_rows-all n (suc k) limit inputs (omega arith) ∙ ap (λ i. each_below (suc i) (rows n inputs)) e
    ]

map_each : {A B : Type 0} (f : A → B) (n : ℕ) (g : ℕ → List A) → map f (each_below n g) ≡ each_below n (λ j. map f (g j))
map_each f zero g = refl
map_each f (suc n) g = map-append f (each_below n g) (g n) ∙ ap (λ l. l ++ map f (g n)) (map_each f n g)

item_at : (t j : ℕ) (body : Body) → map (λ (w : Request). w.item) (wait_at t j body) ≡ req_at t body
item_at t j (Req stamp item) = elim (eqb stamp t) as (λ b. map (λ (w : Request). w.item) (cond b (record { stamp = stamp; from = j; item = item } ∷ []) []) ≡ cond b (item ∷ []) []) [ true ↦ refl | false ↦ refl ]
item_at t j body = refl

items_are : (t j : ℕ) (bodies : List Body) → map (λ (w : Request). w.item) (flat_map (wait_at t j) bodies) ≡ flat_map (req_at t) bodies
items_are t j [] = refl
items_are t j (b ∷ bs) =
    map-append (λ (w : Request). w.item) (wait_at t j b) (flat_map (wait_at t j) bs) ∙ ap (λ l. l ++ map (λ (w : Request). w.item) (flat_map (wait_at t j) bs)) (item_at t j b)
    ∙ ap (λ l. req_at t b ++ l) (items_are t j bs)

-- the items of the sorted Reqs up to a stamp, by stamp and member
pub items_up_to : (n bound limit : ℕ) (inputs : Inputs) → SendersFit n inputs → StampsBelow bound inputs → limit < bound
    → map (λ (w : Request). w.item) (filter (λ (w : Request). leb w.stamp limit) (requests inputs)) ≡ each_below (suc limit) (λ t. each_below n (λ j. flat_map (req_at t) (taken j inputs)))
items_up_to n bound limit inputs fit low lt =
    ap (λ l. map (λ (w : Request). w.item) (filter (λ (w : Request). leb w.stamp limit) l)) (sorted_is n bound inputs fit low)
    ∙ ap (map (λ (w : Request). w.item)) (filter_rows n bound limit inputs lt)
    ∙ map_each (λ (w : Request). w.item) (suc limit) (rows n inputs)
    ∙ each_below-same (suc limit) (λ t. map (λ (w : Request). w.item) (rows n inputs t)) (λ t. each_below n (λ j. flat_map (req_at t) (taken j inputs)))
    (λ t within. map_each (λ (w : Request). w.item) n (λ j. cell t j inputs)
    ∙ each_below-same n (λ j. map (λ (w : Request). w.item) (cell t j inputs)) (λ j. flat_map (req_at t) (taken j inputs)) (λ j below. items_are t j (taken j inputs)))
