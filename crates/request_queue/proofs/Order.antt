-- The order of requests: how it sorts, and where a new one goes.
use Rattle.std.proofs.Common.{ℕ, zero, suc, ◌≡◌, ◌<◌, ◌≤◌, inl, inr, eqb, ltb, leb, Bool, true, false, cond, ◌&&◌, ◌||◌, List, [], ◌∷◌, ◌++◌, length, get_or, refl, sym, ap, ◌∙◌, subst, arith, take, drop}
use Rattle.std.specs.List.{All, AllWithin}
use Rattle.std.specs.List.Sorted.{IsPartitionedBy, IsPartitionPoint}
use Rattle.std.proofs.lemmas.Bool.{cases_Bool, cond-true, cond-false, and_parts}
use Rattle.std.proofs.lemmas.Bool.Decides.{nat_tests}
use Rattle.request_queue.specs.declared.request.Request.{Request}
use Rattle.request_queue.specs.Request.{stands_before, insert, comes_first, is_sorted}

both : (a b : Bool) → a ≡ true → b ≡ true → (a && b) ≡ true
both true b p q = q
both false b p q = p

-- the order on keys
abbrev before : ℕ → ℕ → ℕ → ℕ → Bool
before s f t g = ltb s t || (eqb s t && leb f g)

before_trans : (s f t g u h : ℕ) → before s f t g ≡ true → before t g u h ≡ true → before s f u h ≡ true
before_trans s f t g u h p q = grind (arith, nat_tests)

before_total : (s f t g : ℕ) → before s f t g ≡ false → before t g s f ≡ true
before_total s f t g p = grind (arith, nat_tests)

before_stamp : (s f t g : ℕ) → before s f t g ≡ true → s ≤ t
before_stamp s f t g p = grind (arith, nat_tests)

trans : (a b c : Request) → stands_before a b ≡ true → stands_before b c ≡ true → stands_before a c ≡ true
trans a b c p q = before_trans a.stamp a.from b.stamp b.from c.stamp c.from p q

pub passes : (w x : Request) (xs : List Request) → stands_before x w ≡ true → insert w (x ∷ xs) ≡ x ∷ insert w xs
passes w x xs h = cond-true (stands_before x w) (x ∷ insert w xs) (w ∷ x ∷ xs) h

pub stops : (w x : Request) (xs : List Request) → stands_before x w ≡ false → insert w (x ∷ xs) ≡ w ∷ x ∷ xs
stops w x xs h = cond-false (stands_before x w) (x ∷ insert w xs) (w ∷ x ∷ xs) h

pub sorted_tail : (x : Request) (xs : List Request) → is_sorted (x ∷ xs) ≡ true → is_sorted xs ≡ true
sorted_tail x xs s = (and_parts (comes_first x xs) (is_sorted xs) s).1

-- the first of a sorted list stands before each of the others
head_before : (x : Request) (xs : List Request) → is_sorted (x ∷ xs) ≡ true → (j : ℕ) (d : Request) → j < length xs → stands_before x (get_or xs j d) ≡ true
head_before x [] s j d lt = absurd (omega (arith, lt))
head_before x (y ∷ ys) s zero d lt = (and_parts (stands_before x y) (is_sorted (y ∷ ys)) s).0
head_before x (y ∷ ys) s (suc j) d lt =
    let p = and_parts (stands_before x y) (is_sorted (y ∷ ys)) s in
    trans x y (get_or ys j d) p.0 (head_before y ys p.1 j d (omega arith))

-- those that stand before a request come first
parted : (w : Request) (xs : List Request) → is_sorted xs ≡ true → IsPartitionedBy (λ v. stands_before v w) xs
parted w [] s i j d le lt e = absurd (omega (arith, lt))
parted w (x ∷ xs) s zero zero d le lt e = e
parted w (x ∷ xs) s zero (suc j) d le lt e = trans x (get_or xs j d) w (head_before x xs s j d (omega arith)) e
parted w (x ∷ xs) s (suc i) zero d le lt e = absurd (omega (arith, le))
parted w (x ∷ xs) s (suc i) (suc j) d le lt e = parted w xs (sorted_tail x xs s) i j d (omega arith) (omega arith) e

-- a request at the place behind them
insert_at : (w : Request) (xs : List Request) (k : ℕ) → k ≤ length xs → AllWithin (λ v. stands_before v w ≡ true) xs 0 k → AllWithin (λ v. stands_before v w ≡ false) xs k (length xs)
    → take k xs ++ w ∷ drop k xs ≡ insert w xs
insert_at w [] zero le a b = refl
insert_at w [] (suc k) le a b = absurd (omega (arith, le))
insert_at w (x ∷ xs) zero le a b = sym (stops w x xs (b 0 x (omega arith) (omega arith)))
insert_at w (x ∷ xs) (suc k) le a b =
    ap (λ l. x ∷ l) (insert_at w xs k (omega arith) (λ i d lo hi. a (suc i) d (omega arith) (omega arith)) (λ i d lo hi. b (suc i) d (omega arith) (omega arith)))
    ∙ sym (passes w x xs (a 0 x (omega arith) (omega arith)))

first_insert : (x w : Request) (xs : List Request) → stands_before x w ≡ true → comes_first x xs ≡ true → comes_first x (insert w xs) ≡ true
first_insert x w [] b c = b
first_insert x w (y ∷ ys) b c = elim (stands_before y w) as (λ t. comes_first x (cond t (y ∷ insert w ys) (w ∷ y ∷ ys)) ≡ true) [ true ↦ c | false ↦ b ]

pub sorted_insert : (w : Request) (xs : List Request) → is_sorted xs ≡ true → is_sorted (insert w xs) ≡ true
sorted_insert w [] s = refl
sorted_insert w (x ∷ xs) s =
    let p = and_parts (comes_first x xs) (is_sorted xs) s in
    elim (cases_Bool (stands_before x w)) [
      | inl b ↦ subst (λ l. is_sorted l ≡ true) (sym (passes w x xs b)) (both (comes_first x (insert w xs)) (is_sorted (insert w xs)) (first_insert x w xs b p.0) (sorted_insert w xs p.1))
      | inr a ↦ subst (λ l. is_sorted l ≡ true) (sym (stops w x xs a)) (both (stands_before w x) (is_sorted (x ∷ xs)) (before_total x.stamp x.from w.stamp w.from a) s)
    ]

-- what a search for the place finds
pub inserted : (w : Request) (xs : List Request) (k : ℕ) → k ≤ length xs
    → (IsPartitionedBy (λ v. stands_before v w) xs → IsPartitionPoint (λ v. stands_before v w ≡ true) (λ v. stands_before v w ≡ false) xs k)
    → is_sorted xs ≡ true → take k xs ++ w ∷ drop k xs ≡ insert w xs
inserted w xs k le point s = let p = point (parted w xs s) in insert_at w xs k le p.0 p.1

all_after : (limit : ℕ) (x : Request) (xs : List Request) → is_sorted (x ∷ xs) ≡ true → limit < x.stamp → All (λ v. limit < v.stamp) (x ∷ xs)
all_after limit x xs s lt zero d h = lt
all_after limit x xs s lt (suc j) d h =
    let v : Request = get_or xs j d in
    let le : x.stamp ≤ v.stamp = before_stamp x.stamp x.from v.stamp v.from (head_before x xs s j d (omega arith)) in
    omega arith

-- where the first is above a limit, all are
pub all_over : (limit : ℕ) (x : Request) (xs : List Request) → is_sorted xs ≡ true → 0 < length xs → x ≡ get_or xs 0 x → limit < x.stamp → All (λ v. limit < v.stamp) xs
all_over limit x [] s some first lt = absurd (omega (arith, some))
all_over limit x (y ∷ ys) s some first lt = all_after limit y ys s (subst (λ v. limit < v.stamp) first lt)
