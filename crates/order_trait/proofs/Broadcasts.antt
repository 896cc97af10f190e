use Rattle.std.proofs.Common.{ℕ, ◌+◌, ◌≡◌, ◌<◌, ◌≤◌, inl, inr, true, cond, eqb, List, [], ◌∷◌, ◌++◌, refl, sym, ap, ◌∙◌, subst, arith}
use Rattle.std.specs.List.{Contains, sum_by, count_by}
use Rattle.std.proofs.lemmas.Bool.{cases_Bool, and_parts, eqb-true}
use Rattle.std.proofs.lemmas.List.Elements.{Contains-append_left, Contains-append_right, Contains-append_cases}
use Rattle.std.proofs.lemmas.List.Sums.{sum_by-append, sum_by-cons}
use Rattle.fifo_net.specs.Net.{Input, Called, Took, inputs_of}
use Rattle.fifo_net.proofs.Links.{inputs_step, inputs_here, inputs_away}
use Rattle.upd_base.specs.Item.{id_of, has_id, origin_of, number_of}
use Rattle.upd_base.specs.declared.item.Item.{Item}
use Rattle.upd_base.specs.declared.body.Body.{Body}
use Rattle.order_trait.specs.Runs.{Order, Broadcast, Suspect, Trust, Inputs, Steps, broadcast_at, broadcast_in, StepsFit, InputFits}
use Rattle.order_trait.proofs.Sums.{sum_below, sum_below-none, sum_below-more}

-- the items that a member has broadcast, oldest first
abbrev pub broadcasts : Inputs → List Item
broadcasts [] = []
broadcasts (x ∷ past) = broadcasts past ++ broadcast_at x

pub broadcasts_among : (past : Steps) (j : ℕ) (x : Item) → Contains (broadcasts (inputs_of j past)) x → Contains (broadcast_in past) x
broadcasts_among [] j x = λ h. h
broadcasts_among (s ∷ past) j x =
    inputs_step (λ l. Contains (broadcasts l) x → Contains (broadcast_in (s ∷ past)) x) j s past
    (λ e h. elim (Contains-append_cases (broadcasts (inputs_of j past)) (broadcast_at s.input) x h) [
      | inl a ↦ Contains-append_right (broadcast_at s.input) (broadcast_in past) x (broadcasts_among past j x a)
      | inr b ↦ Contains-append_left (broadcast_at s.input) (broadcast_in past) x b
    ])
    (λ h. Contains-append_right (broadcast_at s.input) (broadcast_in past) x (broadcasts_among past j x h))

-- each item that was broadcast is one of a member's
pub broadcast_by_one : (n : ℕ) (past : Steps) → StepsFit n past → (x : Item) → Contains (broadcast_in past) x
    → (j : ℕ) × (j < n) × Contains (broadcasts (inputs_of j past)) x
broadcast_by_one n [] fit x h = absurd (omega (arith, h.1))
broadcast_by_one n (s ∷ past) fit x h =
    elim (Contains-append_cases (broadcast_at s.input) (broadcast_in past) x h) [
      | inl a ↦ (s.at, fit.0, subst (λ l. Contains (broadcasts l) x) (sym (inputs_here s.at s past refl)) (Contains-append_right (broadcasts (inputs_of s.at past)) (broadcast_at s.input) x a))
      | inr b ↦
          let old : (j : ℕ) × (j < n) × Contains (broadcasts (inputs_of j past)) x = broadcast_by_one n past fit.2 x b in (
            old.0,
            old.1,
            inputs_step (λ l. Contains (broadcasts l) x) old.0 s past
                (λ e. Contains-append_left (broadcasts (inputs_of old.0 past)) (broadcast_at s.input) x old.2)
                old.2,
          )
    ]

-- a sum over all that was broadcast, by members
pub sum_by_members : (f : Item → ℕ) (n : ℕ) (past : Steps) → StepsFit n past
    → sum_below n (λ j. sum_by f (broadcasts (inputs_of j past))) ≡ sum_by f (broadcast_in past)
sum_by_members f n [] fit = sum_below-none n
sum_by_members f n (s ∷ past) fit =
    let now : ℕ → ℕ = λ j. sum_by f (broadcasts (inputs_of j (s ∷ past))) in
    let before : ℕ → ℕ = λ j. sum_by f (broadcasts (inputs_of j past)) in
    let here : now s.at ≡ before s.at + sum_by f (broadcast_at s.input) =
    ap (λ l. sum_by f (broadcasts l)) (inputs_here s.at s past refl) ∙ sum_by-append f (broadcasts (inputs_of s.at past)) (broadcast_at s.input) in
    let away : (j : ℕ) → (s.at ≡ j → ⊥) → now j ≡ before j = λ j ne. ap (λ l. sum_by f (broadcasts l)) (inputs_away j s past ne) in
    let more : sum_below n now ≡ sum_below n before + sum_by f (broadcast_at s.input) =
    sum_below-more n s.at (sum_by f (broadcast_at s.input)) before now fit.0 here away in
    let old : sum_below n before ≡ sum_by f (broadcast_in past) = sum_by_members f n past fit.2 in
    let parts : sum_by f (broadcast_at s.input ++ broadcast_in past) ≡ sum_by f (broadcast_at s.input) + sum_by f (broadcast_in past) = sum_by-append f (broadcast_at s.input) (broadcast_in past) in
    omega (arith, more, old, parts)

has_its_id : (id : ℕ × ℕ) (item : Item) → has_id id item ≡ true → id_of item ≡ id
has_its_id id item h =
    let p : (eqb (origin_of item) id.0 ≡ true) × (eqb (number_of item) id.1 ≡ true) = and_parts (eqb (origin_of item) id.0) (eqb (number_of item) id.1) h in
    let a : origin_of item ≡ id.0 = eqb-true (origin_of item) id.0 p.0 in
    let b : number_of item ≡ id.1 = eqb-true (number_of item) id.1 p.1 in
    λ i. (a i, b i)

once_at : (n : ℕ) (past : Steps) (at : ℕ) (x : Input Order Body) → InputFits n past at x → (id : ℕ × ℕ)
    → count_by (has_id id) (broadcast_in past) ≤ 1 → count_by (has_id id) (broadcast_at x ++ broadcast_in past) ≤ 1
once_at n past at (Called (Broadcast item)) fit id old =
    let f : Item → ℕ = λ y. cond (has_id id y) 1 0 in
    let parts : sum_by f (item ∷ broadcast_in past) ≡ f item + sum_by f (broadcast_in past) = sum_by-cons f item (broadcast_in past) in
    elim (cases_Bool (has_id id item)) [
      | inl same ↦
          let new : count_by (has_id id) (broadcast_in past) ≡ 0 = subst (λ k. count_by (has_id k) (broadcast_in past) ≡ 0) (has_its_id id item same) fit.2 in
          let one : f item ≡ 1 = ap (λ b. cond b 1 0) same in
          omega (arith, parts, new, one)
      | inr other ↦
          let none : f item ≡ 0 = ap (λ b. cond b 1 0) other in
          omega (arith, parts, old, none)
    ]
once_at n past at (Called (Suspect who)) fit id old = old
once_at n past at (Called (Trust who)) fit id old = old
once_at n past at (Took from body) fit id old = old

-- no (origin, number) is broadcast twice
pub broadcast_once : (n : ℕ) (past : Steps) → StepsFit n past → (id : ℕ × ℕ) → count_by (has_id id) (broadcast_in past) ≤ 1
broadcast_once n [] fit id = omega arith
broadcast_once n (s ∷ past) fit id = once_at n past s.at s.input fit.1 id (broadcast_once n past fit.2 id)
