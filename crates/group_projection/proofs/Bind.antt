-- A fresh module: the kind of the next version is one for all members.
use Rattle.std.proofs.Common.{ℕ, zero, suc, ◌≡◌, ◌≢◌, ◌<◌, ◌≤◌, ◌^◌, ◌⊎◌, inl, inr, List, [], ◌∷◌, length, refl, sym, ◌∙◌, ap, subst, arith, Some}
use Rattle.std.specs.Prelude.{unwrap_or, Contains}
use Rattle.std.proofs.lemmas.Bool.{cases_lt}
use Rattle.std.proofs.lemmas.List.Elements.{Contains-append_cases}
use Rattle.fifo_net.specs.Net.{Input, Called, Took, IsRun, inputs_of, sent}
use Rattle.fifo_net.proofs.Links.{inputs_here}
use Rattle.order_trait.specs.Runs.{Order, Broadcast, Suspect, Trust, Inputs, Steps, InputFits, StepsFit, broadcast_at, broadcast_in}
use Rattle.order_trait.proofs.Broadcasts.{broadcasts}
use Rattle.upd_base.specs.Kind.{KindFits}
use Rattle.upd_base.specs.Item.{ItemFits}
use Rattle.upd_base.proofs.Fits.{switch_kind}
use Rattle.upd_base.specs.declared.kind.Kind.{Kind}
use Rattle.upd_base.specs.declared.item.Item.{Item}
use Rattle.upd_base.specs.declared.item.Item.TheVariants.{Switch}
use Rattle.upd_base.specs.declared.body.Body.{Body}
use Rattle.group_run.specs.Group.{Group}
use Rattle.group_run.specs.Version.{next_kind, kind_at, inputs_at}
use Rattle.group_run.specs.Link.{bodies_of}
use Rattle.group_run.proofs.Lists.{same_or, by_one}
use Rattle.group_run.proofs.Modules.{inputs_at-above, inputs_at-bound}
use Rattle.group_versions.proofs.Versions.{seg_at, segments_agree, next_kind-found, kind_at-suc, kind_at-older, seg_at-older, kind_at-served}
use Rattle.group_projection.proofs.World.{World, Sound, Lawful, module_run, segment_run, in_run}

-- Each item that was broadcast fits.
input_item : (n : ℕ) (past : Steps) (at : ℕ) (x : Input Order Body) → InputFits n past at x → (item : Item) → Contains (broadcast_at x) item → ItemFits n item
input_item n past at (Called (Broadcast new)) f item (zero, lt, e) = subst (ItemFits n) e f.1
input_item n past at (Called (Broadcast new)) f item (suc k, lt, e) = absurd (omega arith)
input_item n past at (Called (Suspect who)) f item c = absurd (let l = c.1 in omega arith)
input_item n past at (Called (Trust who)) f item c = absurd (let l = c.1 in omega arith)
input_item n past at (Took from body) f item c = absurd (let l = c.1 in omega arith)

broadcast_fits : (n : ℕ) (past : Steps) → StepsFit n past → (item : Item) → Contains (broadcast_in past) item → ItemFits n item
broadcast_fits n [] f item c = absurd (let l = c.1 in omega arith)
broadcast_fits n (s ∷ past) f item c = elim (Contains-append_cases (broadcast_at s.input) (broadcast_in past) item c) [
  | inl d ↦ input_item n past s.at s.input f.1 item d
  | inr d ↦ broadcast_fits n past f.2 item d
]

-- The kind that ends a segment fits.
ended_fits : (g : Group) (a : World) → Lawful g → (s : Sound g a) → (i v : ℕ) → i < g.members → v < length (a.mods i) → length (a.proj v) < 2 ^ 40 → (k : Kind) →
    next_kind (seg_at g i v (a.mods i)) ≡ Some k → KindFits g.members k
ended_fits g a l s i v hi hv c k e =
    let kind : Kind = kind_at g i v (a.mods i) in
    let law = l.keeps.integrity kind (kind_at-served g i (a.mods i) l.serves v hv) in
    let found = next_kind-found g v (in_run g a i v i) k (sym (ap next_kind (segment_run g a s i i v hi hi hv hv)) ∙ e) in
    let broadcast = law.broadcast g.members (a.proj v) (module_run g a l s i v hi hv c) i hi (Switch found.0 found.1 k) found.2 in
    switch_kind g.members found.0 found.1 k (broadcast_fits g.members (a.proj v) (s.fit v) (Switch found.0 found.1 k) broadcast)

-- Two members that have ended a version have the same segment of it.
pub ended_agree : (g : Group) (a : World) → Lawful g → (s : Sound g a) → (i j v : ℕ) → i < g.members → j < g.members →
    v < length (a.mods i) → v < length (a.mods j) → length (a.proj v) < 2 ^ 40 → (k q : Kind) → next_kind (seg_at g i v (a.mods i)) ≡ Some k → next_kind (seg_at g j v (a.mods j)) ≡ Some q →
    seg_at g i v (a.mods i) ≡ seg_at g j v (a.mods j)
ended_agree g a l s i j v hi hj vi vj c k q ei ej =
    let law = l.keeps.agreement (kind_at g i v (a.mods i)) (kind_at-served g i (a.mods i) l.serves v vi) in
    let mine = segment_run g a s i i v hi hi vi vi in
    let other = segment_run g a s i j v hi hj vi vj in
    mine
    ∙ segments_agree g v (in_run g a i v i) (in_run g a i v j) k q (law.agree g.members (a.proj v) (module_run g a l s i v hi vi c) i j hi hj)
    (sym (ap next_kind mine) ∙ ei) (sym (ap next_kind other) ∙ ej)
    ∙ sym other

-- a fresh module of member me leads from a to b
pub record Binds (me : ℕ) (a b : World) : Type 0 where
  pub mine : b.mods me ≡ [] ∷ a.mods me
  pub others : (i : ℕ) → i ≢ me → b.mods i ≡ a.mods i
  pub out_same : (i j : ℕ) → b.out i j ≡ a.out i j
  pub proj_same : (v : ℕ) → b.proj v ≡ a.proj v

-- the kind of the fresh module
bound_kind : (g : Group) (me w : ℕ) (ms : List Inputs) (k : Kind) → length ms ≡ suc w → next_kind (seg_at g me w ms) ≡ Some k → kind_at g me (suc w) ([] ∷ ms) ≡ k
bound_kind g me w ms k e by =
    let lt : w < length ms = omega arith in
    kind_at-suc g me w ([] ∷ ms) (omega arith)
    ∙ ap (λ xs. unwrap_or (next_kind xs) (kind_at g me w ([] ∷ ms))) (seg_at-older g me w [] ms lt)
    ∙ ap (λ o. unwrap_or o (kind_at g me w ([] ∷ ms))) by

-- whether any member has come further
anyone : (n : ℕ) (f : ℕ → ℕ) (top : ℕ) → ((j : ℕ) × (j < n) × (top < f j)) ⊎ ((j : ℕ) → j < n → f j ≤ top)
anyone zero f top = inr (λ j h. absurd (omega arith))
anyone (suc n) f top = elim (cases_lt top (f n)) [
  | inl h ↦ inl (n, omega arith, h)
  | inr h ↦ elim (anyone n f top) [
    | inl r ↦ inl (r.0, (let q = r.1 in omega arith), r.2)
    | inr r ↦ inr (λ j q. elim (same_or j n) [ inl e ↦ subst (λ k. f k ≤ top) (sym e) h | inr ne ↦ r j (omega arith) ])
  ]
]

-- where no member has an input there is no step
empty_steps : (n : ℕ) (past : Steps) → StepsFit n past → ((i : ℕ) → i < n → inputs_of i past ≡ []) → past ≡ []
empty_steps n [] f h = refl
empty_steps n (s ∷ past) f h =
    let p : s.input ∷ inputs_of s.at past ≡ [] = sym (inputs_here s.at s past refl) ∙ h s.at f.0 in
    cc

-- Binding keeps it all.
pub sound_bind : (g : Group) (me w : ℕ) (a b : World) → Lawful g → ((v : ℕ) → length (a.proj v) < 2 ^ 40) → (s : Sound g a) → Binds me a b → me < g.members → length (a.mods me) ≡ suc w →
    (k : Kind) → next_kind (seg_at g me w (a.mods me)) ≡ Some k → Sound g b
sound_bind g me w a b l c s m member newest k by =
    let ins : (i v : ℕ) → inputs_at v (b.mods i) ≡ inputs_at v (a.mods i) =
    by_one (λ i. (v : ℕ) → inputs_at v (b.mods i) ≡ inputs_at v (a.mods i)) me (λ v. ap (inputs_at v) m.mine ∙ inputs_at-bound v (a.mods me)) (λ i ne v. ap (inputs_at v) (m.others i ne)) in
    let kinds : (i v : ℕ) → v < length (a.mods i) → kind_at g i v (b.mods i) ≡ kind_at g i v (a.mods i) =
    by_one (λ i. (v : ℕ) → v < length (a.mods i) → kind_at g i v (b.mods i) ≡ kind_at g i v (a.mods i)) me
    (λ v h. ap (kind_at g me v) m.mine ∙ kind_at-older g me v [] (a.mods me) h) (λ i ne v h. ap (kind_at g i v) (m.others i ne)) in
    let segs : (i v : ℕ) → v < length (a.mods i) → seg_at g i v (b.mods i) ≡ seg_at g i v (a.mods i) =
    by_one (λ i. (v : ℕ) → v < length (a.mods i) → seg_at g i v (b.mods i) ≡ seg_at g i v (a.mods i)) me
    (λ v h. ap (seg_at g me v) m.mine ∙ seg_at-older g me v [] (a.mods me) h) (λ i ne v h. ap (seg_at g i v) (m.others i ne)) in
    let more : (i : ℕ) → length (a.mods i) ≤ length (b.mods i) =
    by_one (λ i. length (a.mods i) ≤ length (b.mods i)) me (let e = ap length m.mine in omega arith) (λ i ne. let e = ap length (m.others i ne) in omega arith) in
    let top : length (b.mods me) ≡ suc (suc w) = let e = ap length m.mine in omega arith in
    -- a version of b was one of a, or is the new one
    let split : (P : ℕ → ℕ → Type 0) → ((i v : ℕ) → v < length (a.mods i) → P i v) → P me (suc w) → (i v : ℕ) → v < length (b.mods i) → P i v =
    λ P before new. by_one (λ i. (v : ℕ) → v < length (b.mods i) → P i v) me
    (λ v h. elim (same_or v (suc w)) [ inl e ↦ subst (P me) (sym e) new | inr ne ↦ before me v (omega arith) ])
    (λ i ne v h. before i v (let e = ap length (m.others i ne) in omega arith)) in
    let fresh : kind_at g me (suc w) (b.mods me) ≡ k = ap (kind_at g me (suc w)) m.mine ∙ bound_kind g me w (a.mods me) k newest by in
    let agrees : (j : ℕ) → j < g.members → suc w < length (a.mods j) → kind_at g j (suc w) (a.mods j) ≡ k = λ j hj lt.
    let e = s.ended j w hj lt in
    let same = ended_agree g a l s me j w member hj (omega arith) (omega arith) (c w) k e.0 by e.1 in
    kind_at-suc g j w (a.mods j) lt ∙ ap (λ xs. unwrap_or (next_kind xs) (kind_at g j w (a.mods j))) (sym same) ∙ ap (λ o. unwrap_or o (kind_at g j w (a.mods j))) by in
    record {
      one = λ i. let p = s.one i in let q = more i in omega arith;
      one_kind = λ i j v hi hj vi vj. split (λ i v. (j : ℕ) → i < g.members → j < g.members → v < length (b.mods j) → kind_at g i v (b.mods i) ≡ kind_at g j v (b.mods j))
          (λ i v hv j hi hj vj. split (λ j u. i < g.members → j < g.members → u < length (a.mods i) → kind_at g i u (b.mods i) ≡ kind_at g j u (b.mods j))
          (λ j u uj hi hj ui. kinds i u ui ∙ s.one_kind i j u hi hj ui uj ∙ sym (kinds j u uj))
          (λ hi hj ui. kinds i (suc w) ui ∙ agrees i hi ui ∙ sym fresh) j v vj hi hj hv)
          (λ j hi hj vj. split (λ j u. j < g.members → u ≡ suc w → kind_at g me (suc w) (b.mods me) ≡ kind_at g j u (b.mods j))
          (λ j u uj hj e. subst (λ z. z < length (a.mods j) → kind_at g me (suc w) (b.mods me) ≡ kind_at g j z (b.mods j)) (sym e)
          (λ lt. fresh ∙ sym (agrees j hj lt) ∙ sym (kinds j (suc w) lt)) uj)
          (λ hj e. refl) j (suc w) vj hj refl) i v vi j hi hj vj;
      fits = λ i v hi vi. split (λ i v. i < g.members → KindFits g.members (kind_at g i v (b.mods i)))
          (λ i v h hi. subst (KindFits g.members) (sym (kinds i v h)) (s.fits i v hi h))
          (λ hi. subst (KindFits g.members) (sym fresh) (ended_fits g a l s me w member (omega arith) (c w) k by)) i v vi hi;
      inputs = λ i v. ap (inputs_of i) (m.proj_same v) ∙ s.inputs i v ∙ sym (ins i v);
      sent_is = λ i v j kd hi h.
          ap (sent (g.rules.sends kd g.members) i j) (ins i v)
          ∙ s.sent_is i v j kd hi (λ r. sym (kinds i v r) ∙ h (let q = more i in omega arith))
          ∙ sym (ap (bodies_of v) (m.out_same i j));
      fit = λ v. subst (StepsFit g.members) (sym (m.proj_same v)) (s.fit v);
      run = λ i v hi vi. split (λ i v. i < g.members → IsRun (g.rules.sends (kind_at g i v (b.mods i)) g.members) (b.proj v))
          (λ i v h hi.
          let P : Kind → Type 0 = λ kd. IsRun (g.rules.sends kd g.members) (b.proj v) in
          subst P (sym (kinds i v h)) (subst (IsRun (g.rules.sends (kind_at g i v (a.mods i)) g.members)) (sym (m.proj_same v)) (s.run i v hi h)))
          (λ hi.
          let P : Kind → Type 0 = λ kd. IsRun (g.rules.sends kd g.members) (b.proj (suc w)) in
          elim (anyone g.members (λ j. length (a.mods j)) (suc w)) [
            | inl r ↦ subst P (agrees r.0 r.1 r.2 ∙ sym fresh) (subst (IsRun (g.rules.sends (kind_at g r.0 (suc w) (a.mods r.0)) g.members)) (sym (m.proj_same (suc w))) (s.run r.0 (suc w) r.1 r.2))
            | inr r ↦
                let none : a.proj (suc w) ≡ [] = empty_steps g.members (a.proj (suc w)) (s.fit (suc w)) (λ i h. s.inputs i (suc w) ∙ inputs_at-above (suc w) (a.mods i) (r i h)) in
                subst (IsRun (g.rules.sends (kind_at g me (suc w) (b.mods me)) g.members)) (sym (m.proj_same (suc w) ∙ none)) tt
          ]) i v vi hi;
      ended = λ i v hi hv. elim (cases_lt (suc v) (length (a.mods i))) [
        | inl lt ↦ let e = s.ended i v hi lt in (e.0, ap next_kind (segs i v (omega arith)) ∙ e.1)
        | inr le ↦ by_one (λ i. length (a.mods i) ≤ suc v → suc v < length (b.mods i) → (kd : Kind) × (next_kind (seg_at g i v (b.mods i)) ≡ Some kd)) me
            (λ ge lt.
            let is : w ≡ v = omega arith in
            subst (λ u. (kd : Kind) × (next_kind (seg_at g me u (b.mods me)) ≡ Some kd)) is (k, ap next_kind (segs me w (omega arith)) ∙ by))
            (λ i ne ge lt. absurd (let e = ap length (m.others i ne) in omega arith)) i le hv
      ];
      apart = λ i v u hi hvu hu z cz q cq e. split (λ i u. i < g.members → v < u → Contains (seg_at g i v (b.mods i)) z → Contains (broadcasts (inputs_at u (b.mods i))) q → ⊥)
          (λ i u h hi hvu cz cq.
          let Q : List Item → Type 0 = λ xs. Contains xs z in
          let R : Inputs → Type 0 = λ xs. Contains (broadcasts xs) q in
          s.apart i v u hi hvu h z (subst Q (segs i v (omega arith)) cz) q (subst R (ins i u) cq) e)
          (λ hi hvu cz cq.
          let R : Inputs → Type 0 = λ xs. Contains (broadcasts xs) q in
          let none = subst R (ins me (suc w) ∙ inputs_at-above (suc w) (a.mods me) (omega arith)) cq in
          let r = none.1 in omega arith) i u hu hi hvu cz cq;
    }
