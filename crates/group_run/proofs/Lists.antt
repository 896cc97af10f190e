-- Tests, and elements of lists.
use Rattle.std.proofs.Common.{ℕ, zero, suc, ◌≡◌, ◌≢◌, ◌==◌, ◌⊎◌, inl, inr, Bool, true, false, List, [], ◌∷◌, refl, sym, ◌∙◌, ap, subst, arith, reverse}
use Rattle.std.specs.Prelude.{Contains, filter}
use Rattle.std.proofs.lemmas.Bool.{eqb-true, eq-eqb}
use Rattle.std.proofs.lemmas.List.Elements.{Contains-append_cases, Contains-append_left, Contains-append_right}
use mathlib.Core.List.{reverse-cons}
use Rattle.upd_base.specs.declared.item.Item.{Item}

pub tested : (b : Bool) → (b ≡ true) ⊎ (b ≡ false)
tested true = inl refl
tested false = inr refl

pub eqb_self : (n : ℕ) → (n == n) ≡ true
eqb_self n = eq-eqb n n refl

pub eqb_other : (a b : ℕ) → a ≢ b → (a == b) ≡ false
eqb_other a b ne = elim (tested (a == b)) [ inl e ↦ absurd (ne (eqb-true a b e)) | inr e ↦ e ]

pub same_or : (i j : ℕ) → (i ≡ j) ⊎ (i ≢ j)
same_or i j = elim (tested (i == j)) [ inl e ↦ inl (eqb-true i j e) | inr e ↦ inr (λ p. let q = eq-eqb i j p in cc) ]

-- at each number, by whether it is this one
pub by_one : (P : ℕ → Type 0) (w : ℕ) → P w → ((v : ℕ) → v ≢ w → P v) → (v : ℕ) → P v
by_one P w here there v = elim (same_or v w) [ inl e ↦ subst P (sym e) here | inr ne ↦ there v ne ]

-- what a test leaves
pub contains_filter : {X : Type 0} (test : X → Bool) (xs : List X) (x : X) → Contains (filter test xs) x → Contains xs x × (test x ≡ true)
contains_filter test [] x c = absurd (let l = c.1 in omega arith)
contains_filter {X} test (y ∷ ys) x c = elim (tested (test y)) [
  | inl e ↦ let d : Contains (y ∷ filter test ys) x = rw e at c in here (contains_filter test ys x) d e
  | inr e ↦
      let d : Contains (filter test ys) x = rw e at c in
      let r = contains_filter test ys x d in
      let k = r.0 in
      ((suc k.0, (let l = k.1 in omega arith), k.2), r.1)
]
  where
    here : (Contains (filter test ys) x → Contains ys x × (test x ≡ true)) → Contains (y ∷ filter test ys) x → test y ≡ true → Contains (y ∷ ys) x × (test x ≡ true)
    here ih (zero, lt, q) e = let P : X → Type 0 = λ z. test z ≡ true in ((zero, omega arith, q), subst P q e)
    here ih (suc j, lt, q) e =
        let r = ih (j, omega arith, q) in
        let k = r.0 in
        ((suc k.0, (let l = k.1 in omega arith), k.2), r.1)

pub nothing : {A : Type 0} (y : A) → Contains [] y → ⊥
nothing y c = let l = c.1 in omega arith

pub only : {A : Type 0} (P : A → Type 0) (x y : A) → P x → Contains (x ∷ []) y → P y
only P x y p (zero, lt, q) = subst P q p
only P x y p (suc k, lt, q) = absurd (omega arith)

pub contains_reverse : (xs : List Item) (y : Item) → Contains (reverse xs) y → Contains xs y
contains_reverse [] y c = c
contains_reverse (x ∷ xs) y c =
    let P : List Item → Type 0 = λ zs. Contains zs y in
    elim (Contains-append_cases (reverse xs) (x ∷ []) y (subst P (reverse-cons x xs) c)) [
      | inl d ↦ let r = contains_reverse xs y d in (suc r.0, (let l = r.1 in omega arith), r.2)
      | inr d ↦ only (λ z. Contains (x ∷ xs) z) x y (0, omega arith, refl) d
    ]

pub to_reverse : (xs : List Item) (y : Item) → Contains xs y → Contains (reverse xs) y
to_reverse [] y c = c
to_reverse (x ∷ xs) y (zero, lt, q) =
    subst (λ zs. Contains zs y) (sym (reverse-cons x xs)) (Contains-append_right (reverse xs) (x ∷ []) y (0, omega arith, q))
to_reverse (x ∷ xs) y (suc k, lt, q) =
    subst (λ zs. Contains zs y) (sym (reverse-cons x xs)) (Contains-append_left (reverse xs) (x ∷ []) y (to_reverse xs y (k, omega arith, q)))

-- what passes a test stands in what the test leaves
pub filter_contains : {X : Type 0} (test : X → Bool) (xs : List X) (x : X) → Contains xs x → test x ≡ true → Contains (filter test xs) x
filter_contains test [] x c h = absurd (let l = c.1 in omega arith)
filter_contains {X} test (y ∷ ys) x (zero, lt, q) h =
    let is : y ≡ x = q in
    let b : test y ≡ true = ap test is ∙ h in
    rw b (zero, omega arith, is)
filter_contains {X} test (y ∷ ys) x (suc k, lt, q) h =
    let c = filter_contains test ys x (k, omega arith, q) h in
    elim (tested (test y)) [
      | inl e ↦ rw e (suc c.0, (let l = c.1 in omega arith), c.2)
      | inr e ↦ rw e c
    ]
