use Rattle.std.proofs.Common.{ℕ, zero, suc, ◌≡◌, ◌<◌, ◌≤◌, inl, inr, eqb, cond, List, [], ◌∷◌, ◌++◌, refl, sym, ap, ◌∙◌, subst, append_assoc, arith, min, max}
use Rattle.std.specs.List.{flat_map}
use Rattle.std.proofs.lemmas.Bool.{cond-false, ne_eqb, cases_eq}
use Rattle.fifo_net.specs.Net.{IsPrefix}
use Rattle.fifo_net.proofs.Links.{IsPrefix-self}
use Rattle.upd_base.specs.declared.item.Item.{Item}
use Rattle.upd_base.specs.declared.body.Body.{Body}
use Rattle.upd_base.specs.declared.body.Body.TheVariants.{Req}
use Rattle.lamport_rules.specs.Lamport.{stamp_of, greatest, least_below}

-- f 0, f 1 and so on below n, one list after another
abbrev pub each_below : {A : Type 0} → ℕ → (ℕ → List A) → List A
each_below zero f = []
each_below (suc n) f = each_below n f ++ f n

-- the item of a Req with this stamp
abbrev pub req_at : ℕ → Body → List Item
req_at t (Req stamp item) = cond (eqb stamp t) (item ∷ []) []
req_at t body = []

-- the stamps ascend, from above low
abbrev pub Above : ℕ → List Body → Type 0
Above low [] = Unit {0}
Above low (b ∷ bs) = (low < stamp_of b) × Above (stamp_of b) bs

pub greatest-append : (low : ℕ) (xs ys : List Body) → greatest low (xs ++ ys) ≡ greatest (greatest low xs) ys
greatest-append low [] ys = refl
greatest-append low (x ∷ xs) ys = greatest-append (max low (stamp_of x)) xs ys

pub greatest-le : (low : ℕ) (xs : List Body) → low ≤ greatest low xs
greatest-le low [] = omega arith
greatest-le low (x ∷ xs) = omega (arith, greatest-le (max low (stamp_of x)) xs)

pub greatest-prefix : (low : ℕ) (xs ys : List Body) → IsPrefix xs ys → greatest low xs ≤ greatest low ys
greatest-prefix low xs ys p =
    let e : greatest low ys ≡ greatest (greatest low xs) p.0 = ap (greatest low) p.1 ∙ greatest-append low xs p.0 in
    omega (arith, e, greatest-le (greatest low xs) p.0)

pub above-split : (low : ℕ) (xs ys : List Body) → Above low (xs ++ ys) → Above (greatest low xs) ys
above-split low [] ys h = h
above-split low (x ∷ xs) ys h =
    let lt : low < stamp_of x = h.0 in
    let e : stamp_of x ≡ max low (stamp_of x) = omega arith in
    subst (λ k. Above (greatest k xs) ys) e (above-split (stamp_of x) xs ys h.1)

pub above-push : (low : ℕ) (xs : List Body) (b : Body) → Above low xs → greatest low xs < stamp_of b → Above low (xs ++ b ∷ [])
above-push low [] b h lt = (lt, tt)
above-push low (x ∷ xs) b h lt =
    let less : low < stamp_of x = h.0 in
    let e : max low (stamp_of x) ≡ stamp_of x = omega arith in
    (h.0, above-push (stamp_of x) xs b h.1 (subst (λ k. greatest k xs < stamp_of b) e lt))

req_at-other : (t : ℕ) (y : Body) → t < stamp_of y → req_at t y ≡ []
req_at-other t (Req stamp item) lt = cond-false (eqb stamp t) (item ∷ []) [] (ne_eqb stamp t (λ e. omega arith))
req_at-other t body lt = refl

pub above-none : (t low : ℕ) (ys : List Body) → Above low ys → t ≤ low → flat_map (req_at t) ys ≡ []
above-none t low [] h le = refl
above-none t low (y ∷ ys) h le =
    let less : low < stamp_of y = h.0 in
    ap (λ l. l ++ flat_map (req_at t) ys) (req_at-other t y (omega arith)) ∙ above-none t (stamp_of y) ys h.1 (omega arith)

pub least_below-le : (n : ℕ) (f : ℕ → ℕ) (j : ℕ) → j < n → least_below n f ≤ f j
least_below-le zero f j lt = absurd (omega arith)
least_below-le (suc n) f j lt =
    elim (cases_eq n j) [
      | inl e ↦ subst (λ k. min (least_below n f) (f n) ≤ f k) e (omega arith)
      | inr ne ↦
          let below : least_below n f ≤ f j = least_below-le n f j (omega arith) in
          omega (arith, below)
    ]

pub least_below-grows : (n : ℕ) (f g : ℕ → ℕ) → ((j : ℕ) → f j ≤ g j) → least_below n f ≤ least_below n g
least_below-grows zero f g h = omega arith
least_below-grows (suc n) f g h =
    let here : f n ≤ g n = h n in
    let below : least_below n f ≤ least_below n g = least_below-grows n f g h in
    omega (arith, here, below)

pub each_below-same : {A : Type 0} (n : ℕ) (f g : ℕ → List A) → ((j : ℕ) → j < n → f j ≡ g j) → each_below n f ≡ each_below n g
each_below-same zero f g h = refl
each_below-same (suc n) f g h = ap (λ l. l ++ f n) (each_below-same n f g (λ j lt. h j (omega arith))) ∙ ap (λ l. each_below n g ++ l) (h n (omega arith))

pub each_below-prefix : {A : Type 0} (k l : ℕ) (f : ℕ → List A) → k ≤ l → IsPrefix (each_below k f) (each_below l f)
each_below-prefix k zero f le =
    let e : k ≡ 0 = omega arith in
    subst (λ i. IsPrefix (each_below i f) []) (sym e) (IsPrefix-self [])
each_below-prefix k (suc l) f le =
    elim (cases_eq k (suc l)) [
      | inl e ↦ subst (λ i. IsPrefix (each_below k f) (each_below i f)) e (IsPrefix-self (each_below k f))
      | inr ne ↦
          let p : IsPrefix (each_below k f) (each_below l f) = each_below-prefix k l f (omega arith) in
          (p.0 ++ f l, ap (λ i. i ++ f l) p.1 ∙ append_assoc (each_below k f) p.0 (f l))
    ]
