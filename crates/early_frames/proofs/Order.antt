-- The order of arrival, and the frames in it.
use Rattle.std.proofs.Common.{ℕ, ◌<◌, ◌≡◌, Bool, true, false, ◌&&◌, ◌||◌, ◌==◌, inl, inr, None, List, [], ◌∷◌, ◌++◌, map, refl, ◌∙◌, ap, All, arith}
use Rattle.std.specs.Prelude.{nat_le, is_some}
use Rattle.std.specs.List.{list_any}
use Rattle.std.proofs.lemmas.Bool.{le-leb, lt-leb, cases_Bool}
use Rattle.std.proofs.lemmas.List.{map-append}
use Rattle.std.proofs.lemmas.List.Elements.{All-head, All-tail, All-cons}
use Rattle.early_frames.specs.declared.arrivals.Arrival.{Arrival}
use Rattle.group_run.specs.Held.{first_ready, without_ready, waits}
use Rattle.early_frames.specs.Arrivals.{version_of, among, by_arrival, frames_of}

-- What holds of each holds of each in the order of arrival ------------------------------------------------------------

pub all_among : (P : Arrival → Type 0) (a : Arrival) (bs : List Arrival) → P a → All P bs → All P (among a bs)
all_among P a [] p h = All-cons P a [] p h
all_among P a (b ∷ bs) p h = elim (cases_Bool (nat_le a.number b.number)) [
  | inl e ↦ rw e (All-cons P a (b ∷ bs) p h)
  | inr e ↦ rw e (All-cons P b (among a bs) (All-head P b bs h) (all_among P a bs p (All-tail P b bs h)))
]

pub all_by_arrival : (P : Arrival → Type 0) (xs : List Arrival) → All P xs → All P (by_arrival xs)
all_by_arrival P [] h = h
all_by_arrival P (x ∷ xs) h = all_among P x (by_arrival xs) (All-head P x xs h) (all_by_arrival P xs (All-tail P x xs h))

any_among : (p : Arrival → Bool) (a : Arrival) (bs : List Arrival) → list_any p (among a bs) ≡ (p a || list_any p bs)
any_among p a [] = refl
any_among p a (b ∷ bs) = elim (cases_Bool (nat_le a.number b.number)) [
  | inl e ↦ rw e refl
  | inr e ↦ rw e (ap (λ t. p b || t) (any_among p a bs) ∙ swapped (p b) (p a) (list_any p bs))
]
  where
    swapped : (x y z : Bool) → (x || (y || z)) ≡ (y || (x || z))
    swapped true true z = refl
    swapped true false z = refl
    swapped false true z = refl
    swapped false false z = refl

pub any_by_arrival : (p : Arrival → Bool) (xs : List Arrival) → list_any p (by_arrival xs) ≡ list_any p xs
any_by_arrival p [] = refl
any_by_arrival p (x ∷ xs) = any_among p x (by_arrival xs) ∙ ap (λ t. p x || t) (any_by_arrival p xs)

-- The newest stands last ----------------------------------------------------------------------------------------------

last_among : (a : Arrival) (bs : List Arrival) → All (λ b. b.number < a.number) bs → among a bs ≡ bs ++ a ∷ []
last_among a [] h = refl
last_among a (b ∷ bs) h =
    let later : nat_le a.number b.number ≡ false = lt-leb a.number b.number (All-head (λ c. c.number < a.number) b bs h) in
    rw later (ap (λ l. b ∷ l) (last_among a bs (All-tail (λ c. c.number < a.number) b bs h)))

among_before : (x e : Arrival) (bs : List Arrival) → x.number < e.number → among x (bs ++ e ∷ []) ≡ among x bs ++ e ∷ []
among_before x e [] h =
    let sooner : nat_le x.number e.number ≡ true = le-leb x.number e.number (omega arith) in
    rw sooner refl
among_before x e (b ∷ bs) h = elim (cases_Bool (nat_le x.number b.number)) [
  | inl t ↦ rw t refl
  | inr t ↦ rw t (ap (λ l. b ∷ l) (among_before x e bs h))
]

-- one that is newer than all is the last, wherever it is put
pub newest_last : (xs ys : List Arrival) (e : Arrival) → All (λ b. b.number < e.number) xs → All (λ b. b.number < e.number) ys
    → by_arrival (xs ++ e ∷ ys) ≡ by_arrival (xs ++ ys) ++ e ∷ []
newest_last [] ys e h k = last_among e (by_arrival ys) (all_by_arrival (λ b. b.number < e.number) ys k)
newest_last (x ∷ xs) ys e h k =
    ap (among x) (newest_last xs ys e (All-tail (λ b. b.number < e.number) x xs h) k) ∙ among_before x e (by_arrival (xs ++ ys)) (All-head (λ b. b.number < e.number) x xs h)

pub newest_frames : (xs ys : List Arrival) (e : Arrival) → All (λ b. b.number < e.number) xs → All (λ b. b.number < e.number) ys
    → frames_of (xs ++ e ∷ ys) ≡ frames_of (xs ++ ys) ++ e.frame ∷ []
newest_frames xs ys e h k = ap (map (λ a. a.frame)) (newest_last xs ys e h k) ∙ map-append (λ a. a.frame) (by_arrival (xs ++ ys)) (e ∷ [])

-- One of a sender and a version -----------------------------------------------------------------------------------------

abbrev pub matches : ℕ → ℕ → Arrival → Bool
matches from version a = (a.frame.0 == from) && (version_of a == version)

waits_map : (from version : ℕ) (xs : List Arrival) → waits from version (map (λ a. a.frame) xs) ≡ list_any (matches from version) xs
waits_map from version [] = refl
waits_map from version (x ∷ xs) = ap (λ t. matches from version x || t) (waits_map from version xs)

pub waits_is : (from version : ℕ) (kept : List Arrival) → waits from version (frames_of kept) ≡ list_any (matches from version) kept
waits_is from version kept = waits_map from version (by_arrival kept) ∙ any_by_arrival (matches from version) kept

-- One whose version is reached --------------------------------------------------------------------------------------------

abbrev pub reached : ℕ → Arrival → Bool
reached version a = nat_le (version_of a) version

ready_map : (version : ℕ) (xs : List Arrival) → is_some (first_ready version (map (λ a. a.frame) xs)) ≡ list_any (reached version) xs
ready_map version [] = refl
ready_map version (x ∷ xs) = elim (cases_Bool (nat_le (version_of x) version)) [
  | inl e ↦ rw e refl
  | inr e ↦ rw e (ready_map version xs)
]

pub ready_is : (version : ℕ) (kept : List Arrival) → is_some (first_ready version (frames_of kept)) ≡ list_any (reached version) kept
ready_is version kept = ready_map version (by_arrival kept) ∙ any_by_arrival (reached version) kept

none_map : (version : ℕ) (xs : List Arrival) → All (λ a. reached version a ≡ false) xs → first_ready version (map (λ a. a.frame) xs) ≡ None
none_map version [] h = refl
none_map version (x ∷ xs) h =
    let e : nat_le (version_of x) version ≡ false = All-head (λ a. reached version a ≡ false) x xs h in
    rw e (none_map version xs (All-tail (λ a. reached version a ≡ false) x xs h))

kept_map : (version : ℕ) (xs : List Arrival) → All (λ a. reached version a ≡ false) xs → without_ready version (map (λ a. a.frame) xs) ≡ map (λ a. a.frame) xs
kept_map version [] h = refl
kept_map version (x ∷ xs) h =
    let e : nat_le (version_of x) version ≡ false = All-head (λ a. reached version a ≡ false) x xs h in
    rw e (ap (λ l. x.frame ∷ l) (kept_map version xs (All-tail (λ a. reached version a ≡ false) x xs h)))

pub none_first : (version : ℕ) (kept : List Arrival) → All (λ a. reached version a ≡ false) kept → first_ready version (frames_of kept) ≡ None
none_first version kept h = none_map version (by_arrival kept) (all_by_arrival (λ a. reached version a ≡ false) kept h)

pub none_rest : (version : ℕ) (kept : List Arrival) → All (λ a. reached version a ≡ false) kept → without_ready version (frames_of kept) ≡ frames_of kept
none_rest version kept h = kept_map version (by_arrival kept) (all_by_arrival (λ a. reached version a ≡ false) kept h)
