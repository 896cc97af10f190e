-- How many inputs a module has: at most two for each of its member's inputs, and one for each member.
use Rattle.std.proofs.Common.{ℕ, zero, suc, ◌≡◌, ◌≢◌, ◌≤◌, ◌==◌, ◌+◌, ◌*◌, inl, inr, Bool, cond, List, [], ◌∷◌, ◌++◌, length, refl, ap, arith, map, reverse, length-append}
use Rattle.std.specs.Prelude.{filter}
use Rattle.std.proofs.lemmas.Bool.{eq-eqb}
use Rattle.std.proofs.lemmas.List.{length-map}
use mathlib.Core.List.{reverse-cons}
use Rattle.fifo_net.specs.Net.{Input, Called, Took, inputs_of}
use Rattle.fifo_net.proofs.Links.{inputs_here, inputs_away}
use Rattle.order_trait.specs.Runs.{Order, Broadcast, Suspect as SuspectOrder, Trust as TrustOrder, Inputs, Steps, StepsFit}
use Rattle.order_trait.proofs.Sums.{sum_below, sum_below-none, sum_below-more}
use Rattle.upd_base.specs.declared.item.Item.{Item}
use Rattle.upd_base.specs.declared.item.Item.TheVariants.{Msg, Switch}
use Rattle.upd_base.specs.declared.body.Body.{Body}
use Rattle.upd_base.specs.declared.frame.Frame.{Frame}
use Rattle.group_run.specs.Group.{Group, Outer}
use Rattle.group_run.specs.Part.{Part, below, undelivered, suspicions, version, without, with_accepted, with_suspects, with_held, stopped}
use Rattle.group_run.specs.Turn.{Turn, ModuleStep, still, stepped, order_step, all_told, in_module, in_each, opened, processed, first_orders, turn_after, turn_of}
use Rattle.group_run.specs.Held.{without_ready}
use Rattle.group_run.specs.Version.{inputs_at, given}
use Rattle.group_run.specs.Run.{Moves}
use Rattle.group_run.specs.Projection.{steps_made}
use Rattle.group_run.proofs.Lists.{tested, eqb_other, same_or}
use Rattle.group_run.proofs.Modules.{inputs_at-given, inputs_at-above, inputs_at-bound}
use Rattle.group_run.proofs.Turns.{turn_cases, entered_cases}
use Rattle.group_run.proofs.Inputs.{inputs_are}
use Rattle.group_members.proofs.Own.{beside_told}

-- how many of these are for a version
abbrev one_for : ℕ → ℕ → ℕ
one_for u v = cond (u == v) 1 0

abbrev times : ℕ → List (ℕ × Order) → ℕ
times u [] = 0
times u (o ∷ os) = one_for u o.0 + times u os

abbrev pub many : ℕ → List ℕ → ℕ
many u [] = 0
many u (v ∷ vs) = one_for u v + many u vs

given_size : (u v : ℕ) (x : Input Order Body) (ms : List Inputs) → length (inputs_at u (given v x ms)) ≤ length (inputs_at u ms) + one_for u v
given_size u v x ms = inputs_at-given (λ xs. length xs ≤ length (inputs_at u ms) + one_for u v) v u x ms
    (λ e lt. let one : one_for u v ≡ 1 = ap (λ b. cond b 1 0) (eq-eqb u v e) in omega arith)
    (omega arith)

told_size : (g : Group) (me u : ℕ) (t : Turn) (os : List (ℕ × Order)) → length (inputs_at u (all_told g me t os).part.modules) ≤ length (inputs_at u t.part.modules) + times u os
told_size g me u t [] = omega arith
told_size g me u t (o ∷ os) =
    let a = told_size g me u (stepped g me t (order_step o)) os in
    let b = given_size u o.0 (Called o.1) t.part.modules in
    omega arith

one_for-le : (u v : ℕ) → one_for u v ≤ 1
one_for-le u v = elim (tested (u == v)) [ inl e ↦ rw e (omega arith) | inr e ↦ rw e (omega arith) ]

times_module : (u v : ℕ) (orders : List Order) → times u (in_module v orders) ≤ length orders
times_module u v [] = omega arith
times_module u v (o ∷ orders) = let a = one_for-le u v in let b = times_module u v orders in omega arith

times_other : (u v : ℕ) (orders : List Order) → u ≢ v → times u (in_module v orders) ≡ 0
times_other u v [] ne = refl
times_other u v (o ∷ orders) ne =
    let a : one_for u v ≡ 0 = ap (λ b. cond b 1 0) (eqb_other u v ne) in
    let b = times_other u v orders ne in
    omega arith

many-append : (u : ℕ) (xs ys : List ℕ) → many u (xs ++ ys) ≡ many u xs + many u ys
many-append u [] ys = omega arith
many-append u (x ∷ xs) ys = let a = many-append u xs ys in omega arith

times_map : (u : ℕ) (order : Order) (vs : List ℕ) → times u (map (λ v. (v, order)) vs) ≡ many u vs
times_map u order [] = refl
times_map u order (v ∷ vs) = ap (λ k. one_for u v + k) (times_map u order vs)

many_below : (u n : ℕ) → (many u (below n) ≤ 1) × (n ≤ u → many u (below n) ≡ 0)
many_below u zero = (omega arith, λ h. refl)
many_below u (suc n) =
    let r = many_below u n in
    let s : many u (below n ++ n ∷ []) ≡ many u (below n) + (one_for u n + 0) = many-append u (below n) (n ∷ []) in
    let one = one_for-le u n in
    elim (same_or u n) [
      | inl e ↦ let z = r.1 (omega arith) in (omega arith, λ h. absurd (omega arith))
      | inr ne ↦
          let zero_one : one_for u n ≡ 0 = ap (λ b. cond b 1 0) (eqb_other u n ne) in
          let few = r.0 in (omega arith, λ h. let z = r.1 (omega arith) in omega arith)
    ]

times_each : (u : ℕ) (p : Part) (order : Order) → times u (in_each p order) ≤ 1
times_each u p order =
    let a = (many_below u (length p.modules)).0 in
    let b : times u (in_each p order) ≡ many u (below (length p.modules)) = times_map u order (below (length p.modules)) in
    omega arith

length-filter : {X : Type 0} (test : X → Bool) (xs : List X) → length (filter test xs) ≤ length xs
length-filter test [] = omega arith
length-filter test (x ∷ xs) = let r = length-filter test xs in elim (tested (test x)) [ inl e ↦ rw e (omega arith) | inr e ↦ rw e (omega arith) ]

length-below : (n : ℕ) → length (below n) ≡ n
length-below zero = refl
length-below (suc n) = omega (arith, length-append (below n) (n ∷ []), length-below n)

length-reverse : (xs : List Item) → length (reverse xs) ≡ length xs
length-reverse [] = refl
length-reverse (x ∷ xs) = omega (arith, ap length (reverse-cons x xs), length-append (reverse xs) (x ∷ []), length-reverse xs)

first_few : (g : Group) (me : ℕ) (p : Part) → length (first_orders g me p) ≤ g.members + length p.accepted
first_few g me p =
    let a = length-append (map (λ who. SuspectOrder who) (suspicions g p)) (map (λ item. Broadcast item) (undelivered g me p)) in
    let b = length-map (suspicions g p) (λ who. SuspectOrder who) in
    let c = length-map (undelivered g me p) (λ item. Broadcast item) in
    let d : length (suspicions g p) ≤ length (below g.members) = length-filter _ (below g.members) in
    let e : length (undelivered g me p) ≤ length (reverse p.accepted) = length-filter _ (reverse p.accepted) in
    omega (arith, a, b, c, d, e, length-below g.members, length-reverse p.accepted)

-- after so many inputs of the member
pub record Sized (g : Group) (count : ℕ) (p : Part) : Type 0 where
  pub accepted : length p.accepted ≤ count
  pub inputs : (u : ℕ) → length (inputs_at u p.modules) ≤ 2 * count + g.members

sized_told : (g : Group) (me count : ℕ) (t : Turn) (os : List (ℕ × Order)) → length t.part.accepted ≤ suc count → ((u : ℕ) → length (inputs_at u t.part.modules) ≤ 2 * count + g.members) → ((u : ℕ) → times u os ≤ 1) →
    Sized g (suc count) (all_told g me t os).part
sized_told g me count t os a h few = record {
  accepted = let e = ap length (beside_told g me t os).accepted_same in omega arith;
  inputs = λ u. let k = told_size g me u t os in let m = h u in let o = few u in omega arith;
}

sized_same : (g : Group) (count : ℕ) (p q : Part) → q.modules ≡ p.modules → q.accepted ≡ p.accepted → Sized g count p → Sized g (suc count) q
sized_same g count p q m a s = record {
  accepted = let e = ap length a in let h = s.accepted in omega arith;
  inputs = λ u. let e = ap (λ ms. length (inputs_at u ms)) m in let h = s.inputs u in omega arith;
}

sized_processed : (g : Group) (me count : ℕ) (p : Part) (from : ℕ) (frame : Frame) → Sized g count p → Sized g (suc count) (processed g me p from frame).part
sized_processed g me count p from frame s =
    let m : ModuleStep = record { version = frame.version; input = Took from frame.body } in
    let t : Turn = stepped g me (still p) m in
    let acc = s.accepted in
    let one : (u : ℕ) → length (inputs_at u t.part.modules) ≤ 2 * count + g.members + 1 = λ u.
    let a = given_size u frame.version (Took from frame.body) p.modules in let b = one_for-le u frame.version in let c = s.inputs u in omega arith in
    entered_cases g me t (λ u. Sized g (suc count) u.part)
    (λ e. record { accepted = omega arith; inputs = λ u. let a = one u in omega arith })
    (λ e.
    let top : ℕ = length t.part.modules in
    let os : List (ℕ × Order) = in_module top (first_orders g me t.part) in
    record {
      accepted = let q = ap length (beside_told g me (opened t) os).accepted_same in omega arith;
      inputs = λ u.
          let k = told_size g me u (opened t) os in
          let b : length (inputs_at u ([] ∷ t.part.modules)) ≡ length (inputs_at u t.part.modules) = ap length (inputs_at-bound u t.part.modules) in
          elim (same_or u top) [
            | inl is ↦
                let z : length (inputs_at u t.part.modules) ≡ 0 = ap length (inputs_at-above u t.part.modules (omega arith)) in
                let f = times_module u top (first_orders g me t.part) in
                let few = first_few g me t.part in
                omega arith
            | inr ne ↦
                let z : times u os ≡ 0 = times_other u top (first_orders g me t.part) ne in
                let a = one u in
                omega arith
          ];
    })

sized_turn : (g : Group) (me count : ℕ) (p : Part) (x : Input Outer Frame) → Sized g count p → Sized g (suc count) (turn_after g me p x).part
sized_turn g me count p x s =
    let acc = s.accepted in
    let issue = λ (item : Item). sized_told g me count (still (with_accepted p item)) (in_module (version p) (Broadcast item ∷ [])) (omega arith) s.inputs
    (λ u. let a = one_for-le u (version p) in omega arith) in
    turn_cases g me p x (λ t. Sized g (suc count) t.part) (record {
      idle = sized_same g count p p refl refl s;
      sends = λ text number e. issue (Msg me number text);
      changes = λ kind number e. issue (Switch me number kind);
      suspects = λ who q e. sized_told g me count (still (with_suspects p (who ∷ without who p.suspects))) (in_each p (SuspectOrder who)) (omega arith) s.inputs (λ u. times_each u p (SuspectOrder who));
      trusts = λ who e. sized_told g me count (still (with_suspects p (without who p.suspects))) (in_each p (TrustOrder who)) (omega arith) s.inputs (λ u. times_each u p (TrustOrder who));
      crashes = λ q e. sized_same g count p (stopped p) refl refl s;
      holds = λ from frame e h. sized_same g count p (with_held p (p.held ++ (from, frame) ∷ [])) refl refl s;
      takes = λ from frame e h. sized_processed g me count p from frame s;
      frees = λ h e f. sized_processed g me count (with_held p (without_ready (version p) p.held)) h.0 h.1 (record { accepted = s.accepted; inputs = s.inputs });
    })

sized_all : (g : Group) (me : ℕ) (xs : List (Input Outer Frame)) → Sized g (length xs) (turn_of g me xs).part
sized_all g me [] = record { accepted = omega arith; inputs = λ u. let e : length (inputs_at u ([] ∷ [])) ≡ 0 = ap length (inputs_at-bound u []) in omega arith }
sized_all g me (x ∷ xs) = sized_turn g me (length xs) (turn_of g me xs).part x (sized_all g me xs)

-- All steps of a version -------------------------------------------------------------------------------------------

length_by_members : (n : ℕ) (past : Steps) → StepsFit n past → sum_below n (λ j. length (inputs_of j past)) ≡ length past
length_by_members n [] fit = sum_below-none n
length_by_members n (s ∷ past) fit =
    let here : length (inputs_of s.at (s ∷ past)) ≡ length (inputs_of s.at past) + 1 = let e = ap length (inputs_here s.at s past refl) in omega arith in
    let more = sum_below-more n s.at 1 (λ j. length (inputs_of j past)) (λ j. length (inputs_of j (s ∷ past))) fit.0 here (λ j ne. ap length (inputs_away j s past ne)) in
    omega (arith, more, length_by_members n past fit.2)

sum_few : (n : ℕ) (f : ℕ → ℕ) (d k : ℕ) → n ≤ k → ((j : ℕ) → f j ≤ d) → sum_below n f ≤ k * d
sum_few zero f d k l h = omega arith
sum_few (suc n) f d zero l h = absurd (omega arith)
sum_few (suc n) f d (suc k) l h = let a = sum_few n f d k (omega arith) h in let b = h n in omega (arith, a, b)

inputs_fewer : (i : ℕ) (ms : Moves) → length (inputs_of i ms) ≤ length ms
inputs_fewer i [] = omega arith
inputs_fewer i (s ∷ ms) = let r = inputs_fewer i ms in elim (same_or s.at i) [
  | inl e ↦ let q = ap length (inputs_here i s ms e) in omega arith
  | inr ne ↦ let q = ap length (inputs_away i s ms ne) in omega arith
]

pub steps_few : (g : Group) (ms : Moves) (v : ℕ) → g.members ≤ 7 → StepsFit g.members (steps_made g v ms) → length (steps_made g v ms) ≤ 7 * (2 * length ms + 7)
steps_few g ms v few fit =
    let each : (j : ℕ) → length (inputs_of j (steps_made g v ms)) ≤ 2 * length ms + 7 = λ j.
    let e = ap length (inputs_are g ms j v) in
    let a = (sized_all g j (inputs_of j ms)).inputs v in
    let b = inputs_fewer j ms in
    omega arith in
    omega (arith, length_by_members g.members (steps_made g v ms) fit, sum_few g.members (λ j. length (inputs_of j (steps_made g v ms))) (2 * length ms + 7) 7 few each)
