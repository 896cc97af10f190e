-- A member's turn: steps in modules and fresh modules, each of which keeps a world sound.
use Rattle.std.proofs.Common.{ℕ, zero, suc, ◌≡◌, ◌≢◌, ◌<◌, ◌≤◌, ◌==◌, ◌&&◌, ◌^◌, inl, inr, true, false, List, [], ◌∷◌, ◌++◌, length, refl, sym, ◌∙◌, ap, subst, arith, Option, Some, None, append_assoc, append-nil, map, reverse}
use Rattle.std.specs.Prelude.{if◌then◌else◌, Contains, not, is_some}
use Rattle.std.proofs.lemmas.Bool.{and_parts}
use Rattle.std.proofs.lemmas.List.Elements.{Contains-append_cases}
use Rattle.fifo_net.specs.Net.{Input, Called, IsPrefix, inputs_of, bodies_to}
use Rattle.fifo_net.proofs.Links.{IsPrefix-trans}
use Rattle.fifo_net.proofs.Lists.{bodies_to-append}
use Rattle.order_trait.specs.Runs.{Order, Broadcast, Suspect as SuspectOrder, Inputs, Steps, InputFits, broadcast_at, broadcast_in}
use Rattle.order_trait.proofs.Broadcasts.{broadcasts}
use Rattle.upd_base.specs.Item.{id_of, origin_of, number_of, is_message}
use Rattle.upd_base.specs.declared.kind.Kind.{Kind}
use Rattle.upd_base.specs.declared.item.Item.{Item}
use Rattle.upd_base.specs.declared.body.Body.{Body}
use Rattle.group_run.specs.Group.{Group}
use Rattle.group_run.specs.Part.{Part, undelivered, suspicions, log, is_logged}
use Rattle.group_run.specs.Turn.{Turn, ModuleStep, still, stepped, order_step, all_told, in_module, opened, first_orders, framed, sent_at}
use Rattle.group_run.specs.Version.{has_ended, next_kind, kind_at, inputs_at, given, log_of}
use Rattle.group_run.specs.Projection.{steps_in}
use Rattle.group_run.specs.Growing.{DeliverMore}
use Rattle.group_run.proofs.Lists.{eqb_self, eqb_other, by_one, contains_filter}
use Rattle.group_run.proofs.Modules.{length-given, inputs_at-above}
use Rattle.group_versions.proofs.Versions.{seg_at, seg_at-given, seg_at-older, delivered_at, Grows, kind_kept, kind_at-older, inputs_at-older, same_grows, has_ended-at}
use Rattle.group_projection.proofs.World.{World, Sound, Lawful, Micro, May, sound_micro, same_order}
use Rattle.group_projection.proofs.Bind.{Binds, sound_bind}
use Rattle.group_members.proofs.Own.{Own, Ascends, suspicions_fit, undelivered_ascends}
use Rattle.group_members.proofs.Fresh.{fresh_id, sent_by_origin}
use Rattle.group_versions.proofs.Logs.{segment_logged, not_logged}

-- the world in the course of a turn
abbrev pub during : World → ℕ → Turn → World
during base me t = record {
  mods = λ i. if i == me then t.part.modules else base.mods i;
  out = λ i j. if i == me then base.out i j ++ bodies_to j t.frames else base.out i j;
  proj = λ v. steps_in v me t.steps ++ base.proj v;
}

pub mods_me : (base : World) (me : ℕ) (t : Turn) → (during base me t).mods me ≡ t.part.modules
mods_me base me t = rw (eqb_self me) refl

pub mods_other : (base : World) (me : ℕ) (t : Turn) (i : ℕ) → i ≢ me → (during base me t).mods i ≡ base.mods i
mods_other base me t i ne = rw (eqb_other i me ne) refl

pub out_me : (base : World) (me : ℕ) (t : Turn) (j : ℕ) → (during base me t).out me j ≡ base.out me j ++ bodies_to j t.frames
out_me base me t j = rw (eqb_self me) refl

pub out_other : (base : World) (me : ℕ) (t : Turn) (i j : ℕ) → i ≢ me → (during base me t).out i j ≡ base.out i j
out_other base me t i j ne = rw (eqb_other i me ne) refl

micro_during : (g : Group) (base : World) (me : ℕ) (t : Turn) (m : ModuleStep) → Micro g me m (during base me t) (during base me (stepped g me t m))
micro_during g base me t m = record {
  mine = mods_me base me (stepped g me t m) ∙ sym (ap (given m.version m.input) (mods_me base me t));
  others = λ i ne. mods_other base me (stepped g me t m) i ne ∙ sym (mods_other base me t i ne);
  sent = λ j.
      out_me base me (stepped g me t m) j
      ∙ ap (λ ys. base.out me j ++ ys) (bodies_to-append j t.frames (sent_at g me t.part m))
      ∙ sym (append_assoc (base.out me j) (bodies_to j t.frames) (bodies_to j (sent_at g me t.part m)))
      ∙ ap (λ ys. ys ++ bodies_to j (sent_at g me t.part m)) (sym (out_me base me t j))
      ∙ ap (λ ms. (during base me t).out me j ++ bodies_to j (framed m.version (g.rules.sends (kind_at g me m.version ms) g.members me (m.input ∷ inputs_at m.version ms)))) (sym (mods_me base me t));
  others_sent = λ i j ne. out_other base me (stepped g me t m) i j ne ∙ sym (out_other base me t i j ne);
  made = rw (eqb_self m.version) refl;
  others_made = λ v ne. rw (eqb_other m.version v (λ p. ne (sym p))) refl;
}

binds_during : (base : World) (me : ℕ) (t : Turn) → Binds me (during base me t) (during base me (opened t))
binds_during base me t = record {
  mine = mods_me base me (opened t) ∙ ap (λ ms. [] ∷ ms) (sym (mods_me base me t));
  others = λ i ne. mods_other base me (opened t) i ne ∙ sym (mods_other base me t i ne);
  out_same = λ i j. refl;
  proj_same = λ v. refl;
}

-- worlds are equal where they are at each place
pub worlds : (a b : World) → ((i : ℕ) → a.mods i ≡ b.mods i) → ((i j : ℕ) → a.out i j ≡ b.out i j) → ((v : ℕ) → a.proj v ≡ b.proj v) → a ≡ b
worlds a b p q r = λ k. record { mods = λ i. p i k; out = λ i j. q i j k; proj = λ v. r v k }

-- a turn's beginning
pub begins : (base : World) (me : ℕ) (p : Part) → base.mods me ≡ p.modules → during base me (still p) ≡ base
begins base me p e = worlds (during base me (still p)) base
    (by_one (λ i. (during base me (still p)).mods i ≡ base.mods i) me (mods_me base me (still p) ∙ sym e) (mods_other base me (still p)))
    (by_one (λ i. (j : ℕ) → (during base me (still p)).out i j ≡ base.out i j) me (λ j. out_me base me (still p) j ∙ append-nil (base.out me j)) (λ i ne j. out_other base me (still p) i j ne))
    (λ v. refl)

-- What modules have come to, from others --------------------------------------------------------------------------

pub record Later (g : Group) (i : ℕ) (ms ns : List Inputs) : Type 0 where
  pub more : length ms ≤ length ns
  pub kinds : (u : ℕ) → u < length ms → kind_at g i u ns ≡ kind_at g i u ms
  pub prefix : DeliverMore g i ms ns

later_self : (g : Group) (i : ℕ) (ms : List Inputs) → Later g i ms ms
later_self g i ms = record { more = omega arith; kinds = λ u h. refl; prefix = λ u h. ([], sym (append-nil (delivered_at g i u ms ms))) }

later_trans : (g : Group) (i : ℕ) (ms ns os : List Inputs) → Later g i ms ns → Later g i ns os → Later g i ms os
later_trans g i ms ns os a b = record {
  more = let x = a.more in let y = b.more in omega arith;
  kinds = λ u h. b.kinds u (let x = a.more in omega arith) ∙ a.kinds u h;
  prefix = λ u h.
      let P : Kind → Type 0 = λ k. IsPrefix (g.rules.delivers k g.members i (inputs_at u ns)) (g.rules.delivers k g.members i (inputs_at u os)) in
      IsPrefix-trans (delivered_at g i u ms ms) (delivered_at g i u ms ns) (delivered_at g i u ms os) (a.prefix u h) (subst P (a.kinds u h) (b.prefix u (let x = a.more in omega arith)));
}

later_grows : (g : Group) (i : ℕ) (ms ns : List Inputs) → Grows g i ms ns → Later g i ms ns
later_grows g i ms ns r = record { more = let e = r.same_length in omega arith; kinds = kind_kept g i ms ns r; prefix = r.prefix }

later_bound : (g : Group) (i : ℕ) (ms : List Inputs) → Later g i ms ([] ∷ ms)
later_bound g i ms = record {
  more = omega arith;
  kinds = λ u h. kind_at-older g i u [] ms h;
  prefix = λ u h. ([], ap (g.rules.delivers (kind_at g i u ms) g.members i) (inputs_at-older u [] ms h) ∙ sym (append-nil (delivered_at g i u ms ms)));
}

-- a sound world in the course of a turn, in which the member's modules have come to more
pub record Going (g : Group) (base : World) (me : ℕ) (t : Turn) : Type 0 where
  pub sound : Sound g (during base me t)
  pub later : Later g me (base.mods me) t.part.modules

pub going_still : (g : Group) (base : World) (me : ℕ) (p : Part) → base.mods me ≡ p.modules → Sound g base → Going g base me (still p)
going_still g base me p e s = record {
  sound = subst (Sound g) (sym (begins base me p e)) s;
  later = subst (Later g me (base.mods me)) e (later_self g me (base.mods me));
}

pub going_step : (g : Group) (base : World) (me : ℕ) (t : Turn) (m : ModuleStep) → May g me m (during base me t) → Going g base me t → Going g base me (stepped g me t m)
going_step g base me t m y s =
    let here : Grows g me t.part.modules (given m.version m.input t.part.modules) =
    subst (λ ms. Grows g me ms (given m.version m.input ms)) (mods_me base me t) y.grows in
    record {
      sound = sound_micro g me m (during base me t) (during base me (stepped g me t m)) s.sound (micro_during g base me t m) y;
      later = later_trans g me (base.mods me) t.part.modules (given m.version m.input t.part.modules) s.later (later_grows g me t.part.modules (given m.version m.input t.part.modules) here);
    }

-- Orders ------------------------------------------------------------------------------------------------------------

-- an order that may come: what it broadcasts stands in no segment of an earlier version
pub record OrderFits (g : Group) (base : World) (me : ℕ) (t : Turn) (o : ℕ × Order) : Type 0 where
  pub reached : o.0 < length t.part.modules
  pub fit : InputFits g.members ((during base me t).proj o.0) me (Called o.1)
  pub new : (v : ℕ) → v < o.0 → (x : Item) → Contains (seg_at g me v t.part.modules) x → (y : Item) → Contains (broadcast_at (Called o.1)) y → id_of x ≡ id_of y → ⊥

abbrev pub AllFit : Group → World → ℕ → Turn → List (ℕ × Order) → Type 0
AllFit g base me t [] = Unit {0}
AllFit g base me t (o ∷ os) = OrderFits g base me t o × AllFit g base me (stepped g me t (order_step o)) os

pub going_told : (g : Group) (base : World) (me : ℕ) (t : Turn) (os : List (ℕ × Order)) → Lawful g → me < g.members → AllFit g base me t os → Going g base me t → Going g base me (all_told g me t os)
going_told g base me t [] l member f s = s
going_told g base me t (o ∷ os) l member f s =
    let mine = mods_me base me t in
    let h = f.0 in
    let may : May g me (order_step o) (during base me t) = record {
      member = member;
      reached = let e = ap length mine in let r = h.reached in omega arith;
      grows = same_grows g me ((during base me t).mods me) (given o.0 (Called o.1) ((during base me t).mods me)) l.serves (λ u lt. s.sound.ended me u member lt)
          (same_order g l me o.0 o.1 ((during base me t).mods me));
      fit = h.fit;
      may = tt;
      new = λ v lt x c. h.new v lt x (subst (λ ms. Contains (seg_at g me v ms) x) mine c);
    } in
    going_told g base me (stepped g me t (order_step o)) os l member f.1 (going_step g base me t (order_step o) may s)

-- the same order to several modules, which broadcasts nothing
pub fit_each : (g : Group) (base : World) (me : ℕ) (t : Turn) (order : Order) (vs : List ℕ) → ((v : ℕ) → Contains vs v → v < length t.part.modules) →
    ((past : Steps) → InputFits g.members past me (Called order)) → ((y : Item) → Contains (broadcast_at (Called order)) y → ⊥) → AllFit g base me t (map (λ v. (v, order)) vs)
fit_each g base me t order [] r fit none = tt
fit_each g base me t order (v ∷ vs) r fit none = (
  record { reached = r v (0, omega arith, refl); fit = fit ((during base me t).proj v); new = λ u h x c y d. absurd (none y d) },
  fit_each g base me (stepped g me t (order_step (v, order))) order vs
      (λ u c. let e = length-given v (Called order) t.part.modules in let l = r u (suc c.0, (let q = c.1 in omega arith), c.2) in omega arith) fit none,
)

-- these items stand in no segment below a version
abbrev pub NewItems : Group → ℕ → ℕ → List Inputs → List Item → Type 0
NewItems g me w ms items = (v : ℕ) → v < w → (x : Item) → Contains (seg_at g me v ms) x → (y : Item) → Contains items y → id_of x ≡ id_of y → ⊥

new_stepped : (g : Group) (me w : ℕ) (x : Input Order Body) (ms : List Inputs) (items : List Item) → NewItems g me w ms items → NewItems g me w (given w x ms) items
new_stepped g me w x ms items n v lt z c = n v lt z (subst (λ xs. Contains xs z) (seg_at-given g me v w x ms lt) c)

-- the items of this origin that were broadcast have numbers below this one
abbrev pub BelowOf : ℕ → ℕ → Steps → Type 0
BelowOf me lo past = (o : Item) → Contains (broadcast_in past) o → origin_of o ≡ me → number_of o < lo

proj_stepped : (g : Group) (base : World) (me : ℕ) (t : Turn) (w : ℕ) (order : Order) → (during base me (stepped g me t (order_step (w, order)))).proj w ≡ record { at = me; input = Called order } ∷ (during base me t).proj w
proj_stepped g base me t w order = rw (eqb_self w) refl

-- ascending items may be broadcast, one after another
fit_items : (g : Group) (base : World) (me w lo : ℕ) (t : Turn) (xs : List Item) (hi : ℕ) → w < length t.part.modules → BelowOf me lo ((during base me t).proj w) → Ascends g.members me lo xs hi →
    NewItems g me w t.part.modules xs → AllFit g base me t (in_module w (map (λ item. Broadcast item) xs))
fit_items g base me w lo t [] hi r b a n = tt
fit_items g base me w lo t (x ∷ xs) hi r b a n =
    let l = a.2 in
    let is : origin_of x ≡ me = a.0 in
    let u : Turn = stepped g me t (order_step (w, Broadcast x)) in
    let more : BelowOf me (suc (number_of x)) ((during base me u).proj w) = λ o c q.
    elim (Contains-append_cases (x ∷ []) (broadcast_in ((during base me t).proj w)) o (subst (λ ss. Contains (broadcast_in ss) o) (proj_stepped g base me t w (Broadcast x)) c)) [
      | inl d ↦ newest o d
      | inr d ↦ let m = b o d q in omega arith
    ] in (
      record {
        reached = r;
        fit = (a.0, a.1, fresh_id (broadcast_in ((during base me t).proj w)) x (λ o c e. let m = b o c (e ∙ is) in omega arith));
        new = λ v lt z c y d e. n v lt z c y (first y d) e;
      },
      fit_items g base me w (suc (number_of x)) u xs hi (let e = length-given w (Called (Broadcast x)) t.part.modules in omega arith) more a.3
          (new_stepped g me w (Called (Broadcast x)) t.part.modules xs (λ v lt z c y d. n v lt z c y (suc d.0, (let q = d.1 in omega arith), d.2))),
    )
  where
    newest : (o : Item) → Contains (x ∷ []) o → number_of o < suc (number_of x)
    newest o (zero, lt, q) = let m : number_of x ≡ number_of o = ap number_of q in omega arith
    newest o (suc k, lt, q) = absurd (omega arith)

    first : (y : Item) → Contains (x ∷ []) y → Contains (x ∷ xs) y
    first y (zero, lt, q) = (zero, omega arith, q)
    first y (suc k, lt, q) = absurd (omega arith)

-- suspicions before them
fit_suspects : (g : Group) (base : World) (me w : ℕ) (t : Turn) (whos : List ℕ) (xs : List Item) (hi : ℕ) → w < length t.part.modules → BelowOf me 0 ((during base me t).proj w) → Ascends g.members me 0 xs hi →
    NewItems g me w t.part.modules xs → ((who : ℕ) → Contains whos who → (who < g.members) × (who ≢ me)) →
    AllFit g base me t (in_module w (map (λ who. SuspectOrder who) whos ++ map (λ item. Broadcast item) xs))
fit_suspects g base me w t [] xs hi r b a n h = fit_items g base me w 0 t xs hi r b a n
fit_suspects g base me w t (who ∷ whos) xs hi r b a n h =
    let u : Turn = stepped g me t (order_step (w, SuspectOrder who)) in (
      record { reached = r; fit = h who (0, omega arith, refl); new = λ v lt x c y d. absurd (let q = d.1 in omega arith) },
      fit_suspects g base me w u whos xs hi (let e = length-given w (Called (SuspectOrder who)) t.part.modules in omega arith)
          (λ o c q. b o (subst (λ ss. Contains (broadcast_in ss) o) (proj_stepped g base me t w (SuspectOrder who)) c) q) a
          (new_stepped g me w (Called (SuspectOrder who)) t.part.modules xs n)
          (λ z c. h z (suc c.0, (let q = c.1 in omega arith), c.2)),
    )

-- Entering a version ------------------------------------------------------------------------------------------------

-- what is undelivered stands in no segment
undelivered_new : (g : Group) (me : ℕ) (p : Part) → NewItems g me (length p.modules) ([] ∷ p.modules) (undelivered g me p)
undelivered_new g me p v lt x c y d e =
    let old : Contains (seg_at g me v p.modules) x = subst (λ xs. Contains xs x) (seg_at-older g me v [] p.modules lt) c in
    let kept = contains_filter (λ item. is_message item && not (is_logged item (log g me p))) (reverse p.accepted) y d in
    not_logged (log_of g me p.modules) y (record { version = v; item = x }) (segment_logged g me p.modules v x lt old)
    (and_parts (is_message y) (not (is_logged y (log g me p))) kept.1).1 e

-- the newest version has ended, by some kind
ended_by : (g : Group) (me a : ℕ) (ms : List Inputs) → length ms ≡ suc a → has_ended g me ms ≡ true → (k : Kind) × (next_kind (seg_at g me a ms) ≡ Some k)
ended_by g me a ms e h = by_some (next_kind (seg_at g me a ms)) refl (sym (has_ended-at g me a ms e) ∙ h)
  where
    by_some : (o : Option Kind) → next_kind (seg_at g me a ms) ≡ o → is_some o ≡ true → (k : Kind) × (next_kind (seg_at g me a ms) ≡ Some k)
    by_some None e h = absurd (let q : false ≡ true = h in cc)
    by_some (Some k) e h = (k, e)

pub going_entered : (g : Group) (base : World) (me a : ℕ) (t : Turn) → Lawful g → ((v : ℕ) → length ((during base me t).proj v) < 2 ^ 40) → me < g.members → length t.part.modules ≡ suc a →
    has_ended g me t.part.modules ≡ true → Own g me t.part → Going g base me t → Going g base me (all_told g me (opened t) (in_module (length t.part.modules) (first_orders g me t.part)))
going_entered g base me a t l c member len h own s =
    let mine = mods_me base me t in
    let top : ℕ = length t.part.modules in
    let e = ended_by g me a t.part.modules len h in
    let sound : Sound g (during base me (opened t)) =
    sound_bind g me a (during base me t) (during base me (opened t)) l c s.sound (binds_during base me t) member (ap length mine ∙ len) e.0 (ap (λ ms. next_kind (seg_at g me a ms)) mine ∙ e.1) in
    let none : inputs_of me ((during base me t).proj top) ≡ [] = s.sound.inputs me top ∙ ap (inputs_at top) mine ∙ inputs_at-above top t.part.modules (omega arith) in
    let below : BelowOf me 0 ((during base me t).proj top) = λ o q is.
    let r = sent_by_origin g.members ((during base me t).proj top) (s.sound.fit top) o q in
    let z : Contains (broadcasts (inputs_of me ((during base me t).proj top))) o = subst (λ i. Contains (broadcasts (inputs_of i ((during base me t).proj top))) o) is r.1 in
    let y : Contains (broadcasts []) o = subst (λ xs. Contains (broadcasts xs) o) none z in
    absurd (let q = y.1 in omega arith) in
    going_told g base me (opened t) (in_module top (first_orders g me t.part)) l member
    (fit_suspects g base me top (opened t) (suspicions g t.part) (undelivered g me t.part) (length t.part.accepted) (omega arith) below (undelivered_ascends g me t.part own)
    (undelivered_new g me t.part) (suspicions_fit g me t.part own))
    (record { sound = sound; later = later_trans g me (base.mods me) t.part.modules ([] ∷ t.part.modules) s.later (later_bound g me t.part.modules) })
