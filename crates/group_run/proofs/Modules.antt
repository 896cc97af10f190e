-- Lists of modules: what one more input, or one more module, changes.
use Rattle.std.proofs.Common.{ℕ, suc, ◌≡◌, ◌≢◌, ◌<◌, ◌≤◌, ◌==◌, inl, inr, List, [], ◌∷◌, length, refl, sym, ◌∙◌, ap, subst, arith}
use Rattle.std.proofs.lemmas.Bool.{eqb-true, eq-eqb, cases_lt}
use Rattle.fifo_net.specs.Net.{Input}
use Rattle.order_trait.specs.Runs.{Order, Inputs}
use Rattle.upd_base.specs.declared.body.Body.{Body}
use Rattle.group_run.specs.Version.{given, inputs_at}
use Rattle.group_run.proofs.Lists.{tested, eqb_other, same_or}

pub length-given : (v : ℕ) (x : Input Order Body) (ms : List Inputs) → length (given v x ms) ≡ length ms
length-given v x [] = refl
length-given v x (m ∷ older) = elim (tested (v == length older)) [ inl e ↦ rw e refl | inr e ↦ rw e (ap suc (length-given v x older)) ]

-- a version that isn't reached has no inputs
pub inputs_at-above : (v : ℕ) (ms : List Inputs) → length ms ≤ v → inputs_at v ms ≡ []
inputs_at-above v [] h = refl
inputs_at-above v (m ∷ older) h =
    let ne : v ≢ length older = omega arith in
    let below : length older ≤ v = omega arith in
    rw (eqb_other v (length older) ne) (inputs_at-above v older below)

pub inputs_at-given_same : (v : ℕ) (x : Input Order Body) (ms : List Inputs) → v < length ms → inputs_at v (given v x ms) ≡ x ∷ inputs_at v ms
inputs_at-given_same v x [] h = absurd (omega arith)
inputs_at-given_same v x (m ∷ older) h = elim (tested (v == length older)) [
  | inl e ↦ rw (e, e) refl
  | inr e ↦
      let ne : v ≢ length older = λ p. let q = eq-eqb v (length older) p in cc in
      let lt : v < length older = omega arith in
      rw (e, length-given v x older, e) (inputs_at-given_same v x older lt)
]

pub inputs_at-given_other : (v w : ℕ) (x : Input Order Body) (ms : List Inputs) → w ≢ v → inputs_at w (given v x ms) ≡ inputs_at w ms
inputs_at-given_other v w x [] ne = refl
inputs_at-given_other v w x (m ∷ older) ne = elim (tested (v == length older)) [
  | inl e ↦
      let is : v ≡ length older = eqb-true v (length older) e in
      let other : w ≢ length older = λ p. ne (p ∙ sym is) in
      rw (e, eqb_other w (length older) other) refl
  | inr e ↦ rw (e, length-given v x older) (elim (tested (w == length older)) [
    | inl f ↦ rw f refl
    | inr f ↦ rw f (inputs_at-given_other v w x older ne)
  ])
]

-- a fresh module changes no inputs
pub inputs_at-bound : (w : ℕ) (ms : List Inputs) → inputs_at w ([] ∷ ms) ≡ inputs_at w ms
inputs_at-bound w ms = elim (tested (w == length ms)) [
  | inl e ↦
      let is : w ≡ length ms = eqb-true w (length ms) e in
      let above : length ms ≤ w = omega arith in
      rw e (sym (inputs_at-above w ms above))
  | inr e ↦ rw e refl
]

-- a version that isn't reached is given nothing
pub given-above : (v : ℕ) (x : Input Order Body) (ms : List Inputs) → length ms ≤ v → given v x ms ≡ ms
given-above v x [] h = refl
given-above v x (m ∷ older) h =
    let ne : v ≢ length older = omega arith in
    let below : length older ≤ v = omega arith in
    rw (eqb_other v (length older) ne) (ap (λ ns. m ∷ ns) (given-above v x older below))

-- an input more at one version, as a law over any property of what a version has
pub inputs_at-given : (P : Inputs → Type 0) (v w : ℕ) (x : Input Order Body) (ms : List Inputs) → (w ≡ v → v < length ms → P (x ∷ inputs_at w ms)) → P (inputs_at w ms) →
    P (inputs_at w (given v x ms))
inputs_at-given P v w x ms here away = elim (same_or w v) [
  | inl e ↦ elim (cases_lt v (length ms)) [
    | inl lt ↦
        let Q : ℕ → Type 0 = λ u. P (x ∷ inputs_at u ms) → P (inputs_at u (given v x ms)) in
        subst Q (sym e) (λ h. subst P (sym (inputs_at-given_same v x ms lt)) h) (here e lt)
    | inr le ↦ subst P (sym (ap (inputs_at w) (given-above v x ms le))) away
  ]
  | inr ne ↦ subst P (sym (inputs_at-given_other v w x ms ne)) away
]
