-- What holds of all members and versions together, and that each step in a module keeps it.
use Rattle.std.proofs.Common.{ℕ, suc, ◌≡◌, ◌≢◌, ◌<◌, ◌≤◌, ◌^◌, inl, inr, true, List, [], ◌∷◌, ◌++◌, length, refl, sym, ◌∙◌, ap, subst, arith, Some, append-nil}
use Rattle.std.specs.Prelude.{Contains}
use Rattle.std.proofs.lemmas.List.Elements.{Contains-append_cases}
use Rattle.fifo_net.specs.Net.{Input, Called, Took, Step, IsRun, IsPrefix, MayCome, inputs_of, sent, bodies_to}
use Rattle.fifo_net.proofs.Links.{inputs_here, inputs_away}
use Rattle.order_trait.specs.Runs.{Order, Inputs, Steps, InputFits, StepsFit, IsModuleRun, delivered_in, broadcast_at, broadcast_in}
use Rattle.order_trait.proofs.Broadcasts.{broadcasts}
use Rattle.upd_base.specs.Kind.{KindFits}
use Rattle.upd_base.specs.Item.{id_of}
use Rattle.upd_base.specs.declared.kind.Kind.{Kind}
use Rattle.upd_base.specs.declared.item.Item.{Item}
use Rattle.upd_base.specs.declared.body.Body.{Body}
use Rattle.upd_base.specs.declared.frame.Frame.{Frame}
use Rattle.group_run.specs.Group.{Group}
use Rattle.group_run.specs.Turn.{ModuleStep, framed}
use Rattle.group_run.specs.Version.{segment, next_kind, kind_at, inputs_at, given}
use Rattle.group_run.specs.Link.{bodies_of}
use Rattle.group_run.specs.Laws.{KeepsOrder}
use Rattle.group_run.proofs.Lists.{by_one, same_or}
use Rattle.group_run.proofs.Modules.{length-given, inputs_at-given, inputs_at-given_same, inputs_at-given_other}
use Rattle.group_links.proofs.Taken.{bodies_of-append, framed-same, framed-other}
use Rattle.group_versions.proofs.Versions.{seg_at, delivered_at, Grows, kind_kept, segment_kept, kind_at-served, contains_segment, Same}

-- the modules of all members, the frames that were sent on each link, and the steps in modules of each version
pub record World : Type 0 where
  pub mods : ℕ → List Inputs
  pub out : ℕ → ℕ → List Frame
  pub proj : ℕ → Steps

-- a group within its limits, whose kinds keep their laws
pub record Lawful (g : Group) : Type 0 where
  pub some : 1 ≤ g.members
  pub few : g.members ≤ 7
  pub keeps : KeepsOrder g.rules
  pub serves : g.rules.serves g.first ≡ true
  pub fits : KindFits g.members g.first

-- Members have one kind of each version, and the projection on a version is a run of it that gives its inputs and frames.
pub record Sound (g : Group) (a : World) : Type 0 where
  pub one : (i : ℕ) → 1 ≤ length (a.mods i)
  pub one_kind : (i j v : ℕ) → i < g.members → j < g.members → v < length (a.mods i) → v < length (a.mods j) → kind_at g i v (a.mods i) ≡ kind_at g j v (a.mods j)
  pub fits : (i v : ℕ) → i < g.members → v < length (a.mods i) → KindFits g.members (kind_at g i v (a.mods i))
  pub inputs : (i v : ℕ) → inputs_of i (a.proj v) ≡ inputs_at v (a.mods i)
  pub sent_is : (i v j : ℕ) (k : Kind) → i < g.members → (v < length (a.mods i) → kind_at g i v (a.mods i) ≡ k) →
      sent (g.rules.sends k g.members) i j (inputs_at v (a.mods i)) ≡ bodies_of v (a.out i j)
  pub fit : (v : ℕ) → StepsFit g.members (a.proj v)
  pub run : (i v : ℕ) → i < g.members → v < length (a.mods i) → IsRun (g.rules.sends (kind_at g i v (a.mods i)) g.members) (a.proj v)
  pub ended : (i v : ℕ) → i < g.members → suc v < length (a.mods i) → (k : Kind) × (next_kind (seg_at g i v (a.mods i)) ≡ Some k)
  -- what a member broadcasts in a version stands in no segment of its earlier versions
  pub apart : (i v w : ℕ) → i < g.members → v < w → w < length (a.mods i) → (x : Item) → Contains (seg_at g i v (a.mods i)) x →
      (y : Item) → Contains (broadcasts (inputs_at w (a.mods i))) y → id_of x ≡ id_of y → ⊥

-- What the laws say of a sound world --------------------------------------------------------------------------------

pub module_run : (g : Group) (a : World) → Lawful g → (s : Sound g a) → (i v : ℕ) → i < g.members → v < length (a.mods i) → length (a.proj v) < 2 ^ 40 →
    IsModuleRun (g.rules.sends (kind_at g i v (a.mods i))) (kind_at g i v (a.mods i)) g.members (a.proj v)
module_run g a l s i v hi hv c = record { some = l.some; few = l.few; kind_fits = s.fits i v hi hv; short = c; fit = s.fit v; fifo = s.run i v hi hv }

-- what a member delivered in a run of the version, at the kind that another has
abbrev pub in_run : Group → World → ℕ → ℕ → ℕ → List Item
in_run g a i v j = delivered_in (g.rules.delivers (kind_at g i v (a.mods i))) g.members (a.proj v) j

pub segment_run : (g : Group) (a : World) (s : Sound g a) (i j v : ℕ) → i < g.members → j < g.members → v < length (a.mods i) → v < length (a.mods j) →
    seg_at g j v (a.mods j) ≡ segment g v (in_run g a i v j)
segment_run g a s i j v hi hj vi vj =
    ap (λ kd. segment g v (g.rules.delivers kd g.members j (inputs_at v (a.mods j)))) (s.one_kind j i v hj hi vj vi)
    ∙ ap (λ xs. segment g v (g.rules.delivers (kind_at g i v (a.mods i)) g.members j xs)) (sym (s.inputs j v))

-- what stands in a segment was broadcast in its version
pub segment_sent : (g : Group) (a : World) → Lawful g → (s : Sound g a) → (i v : ℕ) → i < g.members → v < length (a.mods i) → length (a.proj v) < 2 ^ 40 →
    (x : Item) → Contains (seg_at g i v (a.mods i)) x → Contains (broadcast_in (a.proj v)) x
segment_sent g a l s i v hi hv c x h =
    let kind : Kind = kind_at g i v (a.mods i) in
    let law = l.keeps.integrity kind (kind_at-served g i (a.mods i) l.serves v hv) in
    let Q : List Item → Type 0 = λ xs. Contains xs x in
    law.broadcast g.members (a.proj v) (module_run g a l s i v hi hv c) i hi x
    (contains_segment g v (in_run g a i v i) x (subst Q (segment_run g a s i i v hi hi hv hv) h))

-- A step in a module ------------------------------------------------------------------------------------------------

-- an input of a module of me leads from a to b
pub record Micro (g : Group) (me : ℕ) (s : ModuleStep) (a b : World) : Type 0 where
  pub mine : b.mods me ≡ given s.version s.input (a.mods me)
  pub others : (i : ℕ) → i ≢ me → b.mods i ≡ a.mods i
  pub sent : (j : ℕ) → b.out me j ≡ a.out me j ++ bodies_to j (framed s.version (g.rules.sends (kind_at g me s.version (a.mods me)) g.members me (s.input ∷ inputs_at s.version (a.mods me))))
  pub others_sent : (i j : ℕ) → i ≢ me → b.out i j ≡ a.out i j
  pub made : b.proj s.version ≡ record { at = me; input = s.input } ∷ a.proj s.version
  pub others_made : (v : ℕ) → v ≢ s.version → b.proj v ≡ a.proj v

-- the input may come
pub record May (g : Group) (me : ℕ) (s : ModuleStep) (a : World) : Type 0 where
  pub member : me < g.members
  pub reached : s.version < length (a.mods me)
  pub grows : Grows g me (a.mods me) (given s.version s.input (a.mods me))
  pub fit : InputFits g.members (a.proj s.version) me s.input
  pub may : MayCome (g.rules.sends (kind_at g me s.version (a.mods me)) g.members) (a.proj s.version) me s.input
  pub new : (v : ℕ) → v < s.version → (x : Item) → Contains (seg_at g me v (a.mods me)) x → (y : Item) → Contains (broadcast_at s.input) y → id_of x ≡ id_of y → ⊥

-- an order delivers nothing
pub same_order : (g : Group) → Lawful g → (i w : ℕ) (order : Order) (ms : List Inputs) → Same g i ms (given w (Called order) ms)
same_order g l i w order ms = record {
  same_length = length-given w (Called order) ms;
  alike = λ k s u. inputs_at-given (λ xs. g.rules.delivers k g.members i xs ≡ g.rules.delivers k g.members i (inputs_at u ms)) w u (Called order) ms
      (λ e lt. (l.keeps.agreement k s).takes g.members i order (inputs_at u ms)) refl;
}

-- a body that is taken leaves what was delivered in front
pub took_grows : (g : Group) (a : World) → Lawful g → (s : Sound g a) → (me w from : ℕ) (body : Body) → me < g.members → w < length (a.mods me) → suc (length (a.proj w)) < 2 ^ 40 → from < g.members →
    MayCome (g.rules.sends (kind_at g me w (a.mods me)) g.members) (a.proj w) me (Took from body) → Grows g me (a.mods me) (given w (Took from body) (a.mods me))
took_grows g a l s me w from body member reached c source may = record {
  same_length = length-given w (Took from body) (a.mods me);
  ended = λ u h. s.ended me u member h;
  prefix = λ u lt. elim (same_or u w) [
    | inl e ↦
        let P : ℕ → Type 0 = λ k. IsPrefix (delivered_at g me k (a.mods me) (a.mods me)) (delivered_at g me k (a.mods me) (given w (Took from body) (a.mods me))) in
        let kind : Kind = kind_at g me w (a.mods me) in
        let step : Step Order Body = record { at = me; input = Took from body } in
        let run : IsModuleRun (g.rules.sends kind) kind g.members (step ∷ a.proj w) = record {
          some = l.some;
          few = l.few;
          kind_fits = s.fits me w member reached;
          short = c;
          fit = (member, source, s.fit w);
          fifo = (may, s.run me w member reached);
        } in
        let p = (l.keeps.agreement kind (kind_at-served g me (a.mods me) l.serves w reached)).grows g.members step (a.proj w) run me member in
        let before : inputs_of me (a.proj w) ≡ inputs_at w (a.mods me) = s.inputs me w in
        let after : inputs_of me (step ∷ a.proj w) ≡ inputs_at w (given w (Took from body) (a.mods me)) =
        inputs_here me step (a.proj w) refl ∙ ap (λ xs. Took from body ∷ xs) before ∙ sym (inputs_at-given_same w (Took from body) (a.mods me) reached) in
        subst P (sym e) (p.0, sym (ap (g.rules.delivers kind g.members me) after) ∙ p.1 ∙ ap (λ xs. g.rules.delivers kind g.members me xs ++ p.0) before)
    | inr ne ↦ (
      [],
      ap (g.rules.delivers (kind_at g me u (a.mods me)) g.members me) (inputs_at-given_other w u (Took from body) (a.mods me) ne)
          ∙ sym (append-nil (delivered_at g me u (a.mods me) (a.mods me))),
    )
  ];
}

-- Each step in a module keeps it all.
pub sound_micro : (g : Group) (me : ℕ) (m : ModuleStep) (a b : World) → (s : Sound g a) → Micro g me m a b → May g me m a → Sound g b
sound_micro g me m a b s c y =
    let w : ℕ = m.version in
    let x : Input Order Body = m.input in
    let step : Step Order Body = record { at = me; input = x } in
    let len : (i : ℕ) → length (b.mods i) ≡ length (a.mods i) =
    by_one (λ i. length (b.mods i) ≡ length (a.mods i)) me (ap length c.mine ∙ length-given w x (a.mods me)) (λ i ne. ap length (c.others i ne)) in
    let gr : Grows g me (a.mods me) (b.mods me) = subst (Grows g me (a.mods me)) (sym c.mine) y.grows in
    let kinds : (i v : ℕ) → v < length (a.mods i) → kind_at g i v (b.mods i) ≡ kind_at g i v (a.mods i) =
    by_one (λ i. (v : ℕ) → v < length (a.mods i) → kind_at g i v (b.mods i) ≡ kind_at g i v (a.mods i)) me
    (λ v h. kind_kept g me (a.mods me) (b.mods me) gr v h) (λ i ne v h. ap (kind_at g i v) (c.others i ne)) in
    let segs : (i v : ℕ) → suc v < length (a.mods i) → seg_at g i v (b.mods i) ≡ seg_at g i v (a.mods i) =
    by_one (λ i. (v : ℕ) → suc v < length (a.mods i) → seg_at g i v (b.mods i) ≡ seg_at g i v (a.mods i)) me
    (λ v h. segment_kept g me (a.mods me) (b.mods me) gr v h) (λ i ne v h. ap (seg_at g i v) (c.others i ne)) in
    let ins_w : inputs_at w (b.mods me) ≡ x ∷ inputs_at w (a.mods me) = ap (inputs_at w) c.mine ∙ inputs_at-given_same w x (a.mods me) y.reached in
    let ins_v : (v : ℕ) → v ≢ w → inputs_at v (b.mods me) ≡ inputs_at v (a.mods me) = λ v ne. ap (inputs_at v) c.mine ∙ inputs_at-given_other w v x (a.mods me) ne in
    let old : (i v : ℕ) → v < length (b.mods i) → v < length (a.mods i) = λ i v h. let e = len i in omega arith in
    record {
      one = λ i. let p = s.one i in let q = len i in omega arith;
      one_kind = λ i j v hi hj vi vj. kinds i v (old i v vi) ∙ s.one_kind i j v hi hj (old i v vi) (old j v vj) ∙ sym (kinds j v (old j v vj));
      fits = λ i v hi vi. subst (KindFits g.members) (sym (kinds i v (old i v vi))) (s.fits i v hi (old i v vi));
      inputs = by_one (λ i. (v : ℕ) → inputs_of i (b.proj v) ≡ inputs_at v (b.mods i)) me
          (by_one (λ v. inputs_of me (b.proj v) ≡ inputs_at v (b.mods me)) w
          (ap (inputs_of me) c.made ∙ inputs_here me step (a.proj w) refl ∙ ap (λ xs. x ∷ xs) (s.inputs me w) ∙ sym ins_w)
          (λ v ne. ap (inputs_of me) (c.others_made v ne) ∙ s.inputs me v ∙ sym (ins_v v ne)))
          (λ i ne. by_one (λ v. inputs_of i (b.proj v) ≡ inputs_at v (b.mods i)) w
          (ap (inputs_of i) c.made ∙ inputs_away i step (a.proj w) (λ q. ne (sym q)) ∙ s.inputs i w ∙ sym (ap (inputs_at w) (c.others i ne)))
          (λ v ne2. ap (inputs_of i) (c.others_made v ne2) ∙ s.inputs i v ∙ sym (ap (inputs_at v) (c.others i ne))));
      sent_is = by_one (λ i. (v j : ℕ) (k : Kind) → i < g.members → (v < length (b.mods i) → kind_at g i v (b.mods i) ≡ k) →
          sent (g.rules.sends k g.members) i j (inputs_at v (b.mods i)) ≡ bodies_of v (b.out i j)) me
          (by_one (λ v. (j : ℕ) (k : Kind) → me < g.members → (v < length (b.mods me) → kind_at g me v (b.mods me) ≡ k) →
          sent (g.rules.sends k g.members) me j (inputs_at v (b.mods me)) ≡ bodies_of v (b.out me j)) w
          (λ j k hi h.
          let is : kind_at g me w (a.mods me) ≡ k = sym (kinds me w y.reached) ∙ h (let e = len me in let r = y.reached in omega arith) in
          let new : List (ℕ × Body) = g.rules.sends (kind_at g me w (a.mods me)) g.members me (x ∷ inputs_at w (a.mods me)) in
          ap (sent (g.rules.sends k g.members) me j) ins_w
          ∙ ap (λ ys. ys ++ bodies_to j (g.rules.sends k g.members me (x ∷ inputs_at w (a.mods me)))) (s.sent_is me w j k hi (λ r. is))
          ∙ ap (λ kd. bodies_of w (a.out me j) ++ bodies_to j (g.rules.sends kd g.members me (x ∷ inputs_at w (a.mods me)))) (sym is)
          ∙ ap (λ ys. bodies_of w (a.out me j) ++ ys) (sym (framed-same w j new))
          ∙ sym (bodies_of-append w (a.out me j) (bodies_to j (framed w new)))
          ∙ sym (ap (bodies_of w) (c.sent j)))
          (λ v ne j k hi h.
          let new : List (ℕ × Body) = g.rules.sends (kind_at g me w (a.mods me)) g.members me (x ∷ inputs_at w (a.mods me)) in
          ap (sent (g.rules.sends k g.members) me j) (ins_v v ne)
          ∙ s.sent_is me v j k hi (λ r. sym (kinds me v r) ∙ h (let e = len me in omega arith))
          ∙ sym (append-nil (bodies_of v (a.out me j)))
          ∙ ap (λ ys. bodies_of v (a.out me j) ++ ys) (sym (framed-other v w j new (λ q. ne (sym q))))
          ∙ sym (bodies_of-append v (a.out me j) (bodies_to j (framed w new)))
          ∙ sym (ap (bodies_of v) (c.sent j))))
          (λ i ne v j k hi h.
          ap (λ ms. sent (g.rules.sends k g.members) i j (inputs_at v ms)) (c.others i ne)
          ∙ s.sent_is i v j k hi (λ r. sym (kinds i v r) ∙ h (let e = len i in omega arith))
          ∙ sym (ap (bodies_of v) (c.others_sent i j ne)));
      fit = by_one (λ v. StepsFit g.members (b.proj v)) w
          (subst (StepsFit g.members) (sym c.made) (y.member, y.fit, s.fit w))
          (λ v ne. subst (StepsFit g.members) (sym (c.others_made v ne)) (s.fit v));
      run = λ i v hi vi. by_one (λ u. u < length (b.mods i) → IsRun (g.rules.sends (kind_at g i u (b.mods i)) g.members) (b.proj u)) w
          (λ h.
          let is : kind_at g me w (a.mods me) ≡ kind_at g i w (b.mods i) = s.one_kind me i w y.member hi y.reached (old i w h) ∙ sym (kinds i w (old i w h)) in
          let P : Kind → Type 0 = λ kd. IsRun (g.rules.sends kd g.members) (b.proj w) in
          subst P is (subst (IsRun (g.rules.sends (kind_at g me w (a.mods me)) g.members)) (sym c.made) (y.may, s.run me w y.member y.reached)))
          (λ u ne h.
          let P : Kind → Type 0 = λ kd. IsRun (g.rules.sends kd g.members) (b.proj u) in
          subst P (sym (kinds i u (old i u h))) (subst (IsRun (g.rules.sends (kind_at g i u (a.mods i)) g.members)) (sym (c.others_made u ne)) (s.run i u hi (old i u h)))) v vi;
      ended = λ i v hi hv. let lt = old i (suc v) hv in let e = s.ended i v hi lt in (e.0, ap next_kind (segs i v lt) ∙ e.1);
      apart = λ i v u hi hvu hu z cz q cq e.
          let ua : u < length (a.mods i) = old i u hu in
          let Q : List Item → Type 0 = λ xs. Contains xs z in
          let before : Contains (seg_at g i v (a.mods i)) z = subst Q (segs i v (omega arith)) cz in
          let R : Inputs → Type 0 = λ xs. Contains (broadcasts xs) q in
          by_one (λ k. k < g.members → u < length (a.mods k) → Contains (seg_at g k v (a.mods k)) z → Contains (broadcasts (inputs_at u (b.mods k))) q → ⊥) me
          (λ hk uk cz2 cq2. by_one (λ o. v < o → o < length (a.mods me) → Contains (broadcasts (inputs_at o (b.mods me))) q → ⊥) w
          (λ vw wl cq3. elim (Contains-append_cases (broadcasts (inputs_at w (a.mods me))) (broadcast_at x) q (subst R ins_w cq3)) [
            | inl d ↦ s.apart me v w hk vw wl z cz2 q d e
            | inr d ↦ y.new v vw z cz2 q d e
          ])
          (λ o ne vo ol cq3. s.apart me v o hk vo ol z cz2 q (subst R (ins_v o ne) cq3) e) u hvu uk cq2)
          (λ k ne hk uk cz2 cq2. s.apart k v u hk hvu uk z cz2 q (subst R (ap (inputs_at u) (c.others k ne)) cq2) e) i hi ua before cq;
    }
