-- Items that are broadcast have new numbers.
use Rattle.std.proofs.Common.{ℕ, zero, suc, ◌≡◌, ◌<◌, ◌≤◌, ◌+◌, inl, inr, true, cond, eqb, length, List, [], ◌∷◌, refl, sym, ◌∙◌, ap, subst, arith, reverse}
use Rattle.std.specs.Prelude.{Contains}
use Rattle.std.specs.List.{sum_by, count_by}
use Rattle.std.proofs.lemmas.Bool.{and_parts, eqb-true}
use Rattle.std.proofs.lemmas.List.Elements.{Contains-append_cases}
use Rattle.std.proofs.lemmas.List.Sums.{sum_by-cons}
use Rattle.fifo_net.specs.Net.{Input, Called, Took, inputs_of}
use Rattle.fifo_net.proofs.Links.{inputs_step}
use Rattle.order_trait.specs.Runs.{Order, Broadcast, Suspect, Trust, Steps, InputFits, StepsFit, broadcast_at, broadcast_in}
use Rattle.order_trait.proofs.Broadcasts.{broadcasts, broadcast_by_one}
use Rattle.upd_base.specs.Item.{id_of, has_id, origin_of, number_of}
use Rattle.upd_base.specs.declared.item.Item.{Item}
use Rattle.upd_base.specs.declared.body.Body.{Body}
use Rattle.group_run.specs.Group.{Group}
use Rattle.group_run.specs.Part.{Part}
use Rattle.group_run.proofs.Lists.{to_reverse, tested}
use Rattle.group_members.proofs.Own.{Own, Ascends}

-- the parts of an id that is had
pub has_parts : (id : ℕ × ℕ) (x : Item) → has_id id x ≡ true → (origin_of x ≡ id.0) × (number_of x ≡ id.1)
has_parts id x e =
    let p = and_parts (eqb (origin_of x) id.0) (eqb (number_of x) id.1) e in
    (eqb-true (origin_of x) id.0 p.0, eqb-true (number_of x) id.1 p.1)

-- none of these has an id that no one of them has
count_none : (id : ℕ × ℕ) (xs : List Item) → ((x : Item) → Contains xs x → has_id id x ≡ true → ⊥) → count_by (has_id id) xs ≡ 0
count_none id [] h = refl
count_none id (x ∷ xs) h =
    let f : Item → ℕ = λ y. cond (has_id id y) 1 0 in
    let parts : sum_by f (x ∷ xs) ≡ f x + sum_by f xs = sum_by-cons f x xs in
    let rest : count_by (has_id id) xs ≡ 0 = count_none id xs (λ y c. h y (suc c.0, (let l = c.1 in omega arith), c.2)) in
    let none : f x ≡ 0 = elim (tested (has_id id x)) [ inl e ↦ absurd (h x (0, omega arith, refl) e) | inr e ↦ ap (λ b. cond b 1 0) e ] in
    omega (arith, parts, rest, none)

-- an item with a greater number than all of its origin is new
pub fresh_id : (xs : List Item) (item : Item) → ((o : Item) → Contains xs o → origin_of o ≡ origin_of item → number_of o < number_of item) → count_by (has_id (id_of item)) xs ≡ 0
fresh_id xs item h = count_none (id_of item) xs (λ x c e. let p = has_parts (id_of item) x e in let l = h x c p.0 in let q = p.1 in omega arith)

-- What is broadcast has its member as its origin.
input_origin : (n : ℕ) (past : Steps) (at : ℕ) (x : Input Order Body) → InputFits n past at x → (item : Item) → Contains (broadcast_at x) item → origin_of item ≡ at
input_origin n past at (Called (Broadcast new)) f item (zero, lt, e) = sym (ap origin_of e) ∙ f.0
input_origin n past at (Called (Broadcast new)) f item (suc k, lt, e) = absurd (omega arith)
input_origin n past at (Called (Suspect who)) f item c = absurd (let l = c.1 in omega arith)
input_origin n past at (Called (Trust who)) f item c = absurd (let l = c.1 in omega arith)
input_origin n past at (Took from body) f item c = absurd (let l = c.1 in omega arith)

origin_is : (n : ℕ) (past : Steps) → StepsFit n past → (j : ℕ) (x : Item) → Contains (broadcasts (inputs_of j past)) x → origin_of x ≡ j
origin_is n [] fit j x = λ c. absurd (let l = c.1 in omega arith)
origin_is n (s ∷ past) fit j x =
    inputs_step (λ l. Contains (broadcasts l) x → origin_of x ≡ j) j s past
    (λ e c. elim (Contains-append_cases (broadcasts (inputs_of j past)) (broadcast_at s.input) x c) [
      | inl d ↦ origin_is n past fit.2 j x d
      | inr d ↦ input_origin n past s.at s.input fit.1 x d ∙ e
    ])
    (origin_is n past fit.2 j x)

-- each broadcast item was broadcast by its origin, a member
pub sent_by_origin : (n : ℕ) (past : Steps) → StepsFit n past → (x : Item) → Contains (broadcast_in past) x → (origin_of x < n) × Contains (broadcasts (inputs_of (origin_of x) past)) x
sent_by_origin n past fit x c =
    let one = broadcast_by_one n past fit x c in
    let is : one.0 ≡ origin_of x = sym (origin_is n past fit one.0 x one.2) in
    let l = one.1 in
    (omega arith, subst (λ j. Contains (broadcasts (inputs_of j past)) x) is one.2)

-- Accepted items -----------------------------------------------------------------------------------------------------

ascends_member : (n me lo : ℕ) (xs : List Item) (hi : ℕ) → Ascends n me lo xs hi → (y : Item) → Contains xs y → (origin_of y ≡ me) × (lo ≤ number_of y) × (number_of y < hi)
ascends_member n me lo [] hi a y c = absurd (let l = c.1 in omega arith)
ascends_member n me lo (x ∷ xs) hi a y (zero, lt, q) =
    subst (λ z. (origin_of z ≡ me) × (lo ≤ number_of z) × (number_of z < hi)) q (a.0, a.2, top (suc (number_of x)) xs a.3)
  where
    top : (k : ℕ) (ys : List Item) → Ascends n me k ys hi → k ≤ hi
    top k [] a = a
    top k (z ∷ ys) a = let u = a.2 in let r = top (suc (number_of z)) ys a.3 in omega arith
ascends_member n me lo (x ∷ xs) hi a y (suc k, lt, q) =
    let r = ascends_member n me (suc (number_of x)) xs hi a.3 y (k, omega arith, q) in
    let u = a.2 in
    let v = r.1 in
    (r.0, omega arith, r.2)

ascends_unique : (n me lo : ℕ) (xs : List Item) (hi : ℕ) → Ascends n me lo xs hi → (y z : Item) → Contains xs y → Contains xs z → number_of y ≡ number_of z → y ≡ z
ascends_unique n me lo [] hi a y z c d e = absurd (let l = c.1 in omega arith)
ascends_unique n me lo (x ∷ xs) hi a y z (zero, lc, qc) (zero, ld, qd) e = sym qc ∙ qd
ascends_unique n me lo (x ∷ xs) hi a y z (zero, lc, qc) (suc k, ld, qd) e =
    let r = ascends_member n me (suc (number_of x)) xs hi a.3 z (k, omega arith, qd) in
    let f : number_of x ≡ number_of y = ap number_of qc in
    let u = r.1 in absurd (omega arith)
ascends_unique n me lo (x ∷ xs) hi a y z (suc k, lc, qc) (zero, ld, qd) e =
    let r = ascends_member n me (suc (number_of x)) xs hi a.3 y (k, omega arith, qc) in
    let f : number_of x ≡ number_of z = ap number_of qd in
    let u = r.1 in absurd (omega arith)
ascends_unique n me lo (x ∷ xs) hi a y z (suc k, lc, qc) (suc m, ld, qd) e =
    ascends_unique n me (suc (number_of x)) xs hi a.3 y z (k, omega arith, qc) (m, omega arith, qd) e

pub accepted_below : (g : Group) (me : ℕ) (p : Part) → Own g me p → (y : Item) → Contains p.accepted y → number_of y < length p.accepted
accepted_below g me p o y c = (ascends_member g.members me 0 (reverse p.accepted) (length p.accepted) o.ascends y (to_reverse p.accepted y c)).2

pub accepted_unique : (g : Group) (me : ℕ) (p : Part) → Own g me p → (y z : Item) → Contains p.accepted y → Contains p.accepted z → number_of y ≡ number_of z → y ≡ z
accepted_unique g me p o y z c d e = ascends_unique g.members me 0 (reverse p.accepted) (length p.accepted) o.ascends y z (to_reverse p.accepted y c) (to_reverse p.accepted z d) e
