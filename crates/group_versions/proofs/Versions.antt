-- The kinds and segments of one member's versions.
use Rattle.std.proofs.Common.{ℕ, zero, suc, ◌≡◌, ◌≢◌, ◌<◌, ◌≤◌, ◌==◌, ◌⊎◌, inl, inr, true, false, List, [], ◌∷◌, ◌++◌, length, refl, sym, ◌∙◌, ap, subst, arith, Some, None, Option, append_assoc, append-nil}
use Rattle.std.specs.Prelude.{unwrap_or, Contains, nat_lt, is_some}
use Rattle.upd_base.proofs.Fits.{nat_lt-true}
use Rattle.std.proofs.lemmas.Bool.{and_parts, eqb-true, eq-eqb}
use Rattle.fifo_net.specs.Net.{Input, IsPrefix}
use Rattle.order_trait.specs.Runs.{Order, Inputs, Agree}
use Rattle.upd_base.specs.declared.body.Body.{Body}
use Rattle.upd_base.specs.declared.kind.Kind.{Kind}
use Rattle.upd_base.specs.declared.item.Item.{Item}
use Rattle.upd_base.specs.declared.item.Item.TheVariants.{Msg, Switch}
use Rattle.upd_base.specs.declared.limits.TheConstants.{MAX_VERSION}
use Rattle.group_run.specs.Group.{Group}
use Rattle.group_run.specs.Version.{ends, segment, next_kind, kind_above, kind_at, inputs_at, given, entries, log_of, has_ended}
use Rattle.upd_base.specs.declared.entry.Entry.{Entry}
use Rattle.group_run.proofs.Lists.{tested, eqb_self, eqb_other}
use Rattle.group_run.proofs.Modules.{length-given, given-above}

-- Segments ----------------------------------------------------------------------------------------------------

-- what is delivered after the end of a segment changes nothing
pub segment-ended : (g : Group) (v : ℕ) (xs ys : List Item) (k : Kind) → next_kind (segment g v xs) ≡ Some k → segment g v (xs ++ ys) ≡ segment g v xs
segment-ended g v [] ys k h = absurd (let p : None ≡ Some k = h in cc)
segment-ended g v (Msg origin number payload ∷ xs) ys k h = ap (λ zs. Msg origin number payload ∷ zs) (segment-ended g v xs ys k h)
segment-ended g v (Switch origin number kind ∷ xs) ys k h = elim (tested (ends g v kind)) [
  | inl e ↦ rw e refl
  | inr e ↦ let p : next_kind (segment g v xs) ≡ Some k = rw e at h in rw e (segment-ended g v xs ys k p)
]

-- what is delivered later comes behind
pub segment-prefix : (g : Group) (v : ℕ) (xs ys : List Item) → IsPrefix (segment g v xs) (segment g v (xs ++ ys))
segment-prefix g v [] ys = (segment g v ys, refl)
segment-prefix g v (Msg origin number payload ∷ xs) ys =
    let p = segment-prefix g v xs ys in (p.0, ap (λ zs. Msg origin number payload ∷ zs) p.1)
segment-prefix g v (Switch origin number kind ∷ xs) ys = elim (tested (ends g v kind)) [
  | inl e ↦ rw e ([], refl)
  | inr e ↦ rw e (segment-prefix g v xs ys)
]

-- two segments that have ended, of lists of which one begins the other, are one
pub segments_agree : (g : Group) (v : ℕ) (xs ys : List Item) (k l : Kind) → Agree xs ys →
    next_kind (segment g v xs) ≡ Some k → next_kind (segment g v ys) ≡ Some l → segment g v xs ≡ segment g v ys
segments_agree g v xs ys k l (inl p) a b = sym (ap (segment g v) p.1 ∙ segment-ended g v xs p.0 k a)
segments_agree g v xs ys k l (inr p) a b = ap (segment g v) p.1 ∙ segment-ended g v ys p.0 l b

-- The kind that a segment ends with stands in a switch that was delivered, and this switch ends the version.
pub next_kind-found : (g : Group) (v : ℕ) (xs : List Item) (k : Kind) → next_kind (segment g v xs) ≡ Some k → (o m : ℕ) × Contains xs (Switch o m k) × (ends g v k ≡ true)
next_kind-found g v [] k h = absurd (let p : None ≡ Some k = h in cc)
next_kind-found g v (Msg origin number payload ∷ xs) k h =
    let f = next_kind-found g v xs k h in
    let c = f.2 in
    (f.0, f.1, (suc c.0, (let l = c.1 in omega arith), c.2), f.3)
next_kind-found g v (Switch origin number kind ∷ xs) k h = elim (tested (ends g v kind)) [
  | inl e ↦
      let p : Some kind ≡ Some k = rw e at h in
      let q : kind ≡ k = cc in
      (origin, number, (0, omega arith, ap (λ z. Switch origin number z) q), sym (ap (ends g v) q) ∙ e)
  | inr e ↦
      let p : next_kind (segment g v xs) ≡ Some k = rw e at h in
      let f = next_kind-found g v xs k p in
      let c = f.2 in
      (f.0, f.1, (suc c.0, (let l = c.1 in omega arith), c.2), f.3)
]

-- a version that a switch ends is below the highest, and the kind of the switch is served
pub ends_below : (g : Group) (v : ℕ) (k : Kind) → ends g v k ≡ true → v < MAX_VERSION
ends_below g v k e = nat_lt-true v MAX_VERSION (and_parts (nat_lt v MAX_VERSION) (g.rules.serves k) e).0

pub ends_served : (g : Group) (v : ℕ) (k : Kind) → ends g v k ≡ true → g.rules.serves k ≡ true
ends_served g v k e = (and_parts (nat_lt v MAX_VERSION) (g.rules.serves k) e).1

-- Kinds ---------------------------------------------------------------------------------------------------------

-- the segment of a version
abbrev pub seg_at : Group → ℕ → ℕ → List Inputs → List Item
seg_at g i v ms = segment g v (g.rules.delivers (kind_at g i v ms) g.members i (inputs_at v ms))

below_newest : (v : ℕ) (m : Inputs) (older : List Inputs) → v < length older → (v == length older) ≡ false
below_newest v m older h = let ne : v ≢ length older = omega arith in eqb_other v (length older) ne

pub kind_at-older : (g : Group) (i v : ℕ) (m : Inputs) (older : List Inputs) → v < length older → kind_at g i v (m ∷ older) ≡ kind_at g i v older
kind_at-older g i v m older h = rw (below_newest v m older h) refl

pub inputs_at-older : (v : ℕ) (m : Inputs) (older : List Inputs) → v < length older → inputs_at v (m ∷ older) ≡ inputs_at v older
inputs_at-older v m older h = rw (below_newest v m older h) refl

pub seg_at-older : (g : Group) (i v : ℕ) (m : Inputs) (older : List Inputs) → v < length older → seg_at g i v (m ∷ older) ≡ seg_at g i v older
seg_at-older g i v m older h = rw (below_newest v m older h) refl

pub kind_at-newest : (g : Group) (i : ℕ) (m : Inputs) (older : List Inputs) → kind_at g i (length older) (m ∷ older) ≡ kind_above g i older
kind_at-newest g i m older = rw (eqb_self (length older)) refl

pub inputs_at-newest : (m : Inputs) (older : List Inputs) → inputs_at (length older) (m ∷ older) ≡ m
inputs_at-newest m older = rw (eqb_self (length older)) refl

pub kind_above-next : (g : Group) (i : ℕ) (m : Inputs) (older : List Inputs) →
    kind_above g i (m ∷ older) ≡ unwrap_or (next_kind (seg_at g i (length older) (m ∷ older))) (kind_at g i (length older) (m ∷ older))
kind_above-next g i m older = rw (eqb_self (length older)) refl

pub kind_at-zero : (g : Group) (i : ℕ) (ms : List Inputs) → 0 < length ms → kind_at g i 0 ms ≡ g.first
kind_at-zero g i [] h = refl
kind_at-zero g i (m ∷ []) h = refl
kind_at-zero g i (m ∷ o ∷ os) h = kind_at-older g i 0 m (o ∷ os) (omega arith) ∙ kind_at-zero g i (o ∷ os) (omega arith)

-- the kind of the next version, by the segment of this one
abbrev pub NextKind : Group → ℕ → List Inputs → ℕ → Type 0
NextKind g i ms v = kind_at g i (suc v) ms ≡ unwrap_or (next_kind (seg_at g i v ms)) (kind_at g i v ms)

kind_at-suc_newest : (g : Group) (i : ℕ) (m o : Inputs) (os : List Inputs) → NextKind g i (m ∷ o ∷ os) (length os)
kind_at-suc_newest g i m o os =
    let lt : length os < length (o ∷ os) = omega arith in
    kind_at-newest g i m (o ∷ os)
    ∙ kind_above-next g i o os
    ∙ ap (λ xs. unwrap_or (next_kind xs) (kind_at g i (length os) (o ∷ os))) (sym (seg_at-older g i (length os) m (o ∷ os) lt))
    ∙ ap (λ kd. unwrap_or (next_kind (seg_at g i (length os) (m ∷ o ∷ os))) kd) (sym (kind_at-older g i (length os) m (o ∷ os) lt))

kind_at-suc_older : (g : Group) (i v : ℕ) (m : Inputs) (older : List Inputs) → suc v < length older → NextKind g i older v → NextKind g i (m ∷ older) v
kind_at-suc_older g i v m older h k =
    let lt : v < length older = omega arith in
    kind_at-older g i (suc v) m older h
    ∙ k
    ∙ ap (λ xs. unwrap_or (next_kind xs) (kind_at g i v older)) (sym (seg_at-older g i v m older lt))
    ∙ ap (λ kd. unwrap_or (next_kind (seg_at g i v (m ∷ older))) kd) (sym (kind_at-older g i v m older lt))

pub kind_at-suc : (g : Group) (i v : ℕ) (ms : List Inputs) → suc v < length ms → NextKind g i ms v
kind_at-suc g i v [] h = absurd (omega arith)
kind_at-suc g i v (m ∷ []) h = absurd (omega arith)
kind_at-suc g i v (m ∷ o ∷ os) h = elim (tested (v == length os)) [
  | inl e ↦ subst (NextKind g i (m ∷ o ∷ os)) (sym (eqb-true v (length os) e)) (kind_at-suc_newest g i m o os)
  | inr e ↦
      let ne : v ≢ length os = λ p. let q = eq-eqb v (length os) p in cc in
      let lt : suc v < length (o ∷ os) = omega arith in
      kind_at-suc_older g i v m (o ∷ os) lt (kind_at-suc g i v (o ∷ os) lt)
]

-- More inputs ---------------------------------------------------------------------------------------------------

-- what a version of these modules has delivered
abbrev pub delivered_at : Group → ℕ → ℕ → List Inputs → List Inputs → List Item
delivered_at g i u ms ns = g.rules.delivers (kind_at g i u ms) g.members i (inputs_at u ns)

-- A member's modules have the same or more: each delivers what it did, and maybe more behind it.
pub record Grows (g : Group) (i : ℕ) (ms ns : List Inputs) : Type 0 where
  pub same_length : length ns ≡ length ms
  pub ended : (u : ℕ) → suc u < length ms → (k : Kind) × (next_kind (seg_at g i u ms) ≡ Some k)
  pub prefix : (u : ℕ) → u < length ms → IsPrefix (delivered_at g i u ms ms) (delivered_at g i u ms ns)

-- the segment, where the kind is known
seg_at-kind : (g : Group) (i u : ℕ) (ms : List Inputs) (k : Kind) → kind_at g i u ms ≡ k → seg_at g i u ms ≡ segment g u (g.rules.delivers k g.members i (inputs_at u ms))
seg_at-kind g i u ms k e = ap (λ kd. segment g u (g.rules.delivers kd g.members i (inputs_at u ms))) e

-- an ended segment stays
seg_kept : (g : Group) (i : ℕ) (ms ns : List Inputs) → Grows g i ms ns → (u : ℕ) → suc u < length ms → kind_at g i u ns ≡ kind_at g i u ms → seg_at g i u ns ≡ seg_at g i u ms
seg_kept g i ms ns r u h k =
    let lt : u < length ms = omega arith in
    let p = r.prefix u lt in
    let e = r.ended u h in
    seg_at-kind g i u ns (kind_at g i u ms) k
    ∙ ap (segment g u) p.1
    ∙ segment-ended g u (delivered_at g i u ms ms) p.0 e.0 e.1

pub kind_kept : (g : Group) (i : ℕ) (ms ns : List Inputs) → Grows g i ms ns → (u : ℕ) → u < length ms → kind_at g i u ns ≡ kind_at g i u ms
kind_kept g i ms ns r zero h =
    let l : 0 < length ns = let e = r.same_length in omega arith in
    kind_at-zero g i ns l ∙ sym (kind_at-zero g i ms h)
kind_kept g i ms ns r (suc u) h =
    let lt : u < length ms = omega arith in
    let l : suc u < length ns = let e = r.same_length in omega arith in
    let ih = kind_kept g i ms ns r u lt in
    kind_at-suc g i u ns l
    ∙ ap (λ xs. unwrap_or (next_kind xs) (kind_at g i u ns)) (seg_kept g i ms ns r u h ih)
    ∙ ap (λ kd. unwrap_or (next_kind (seg_at g i u ms)) kd) ih
    ∙ sym (kind_at-suc g i u ms h)

pub segment_kept : (g : Group) (i : ℕ) (ms ns : List Inputs) → Grows g i ms ns → (u : ℕ) → suc u < length ms → seg_at g i u ns ≡ seg_at g i u ms
segment_kept g i ms ns r u h =
    let lt : u < length ms = omega arith in
    seg_kept g i ms ns r u h (kind_kept g i ms ns r u lt)

-- the segment of a version has the same or more
segment_grows : (g : Group) (i : ℕ) (ms ns : List Inputs) → Grows g i ms ns → (u : ℕ) → u < length ms → IsPrefix (seg_at g i u ms) (seg_at g i u ns)
segment_grows g i ms ns r u lt =
    let p = r.prefix u lt in
    let q = segment-prefix g u (delivered_at g i u ms ms) p.0 in
    (q.0, seg_at-kind g i u ns (kind_at g i u ms) (kind_kept g i ms ns r u lt) ∙ ap (segment g u) p.1 ∙ q.1)

-- Items ---------------------------------------------------------------------------------------------------------

pub contains_segment : (g : Group) (v : ℕ) (xs : List Item) (x : Item) → Contains (segment g v xs) x → Contains xs x
contains_segment g v [] x c = c
contains_segment g v (Msg origin number payload ∷ xs) x (zero, lt, q) = (zero, omega arith, q)
contains_segment g v (Msg origin number payload ∷ xs) x (suc k, lt, q) =
    let c = contains_segment g v xs x (k, omega arith, q) in (suc c.0, (let l = c.1 in omega arith), c.2)
contains_segment g v (Switch origin number kind ∷ xs) x c = elim (tested (ends g v kind)) [
  | inl e ↦ let d : Contains (Switch origin number kind ∷ []) x = rw e at c in one d
  | inr e ↦ let d : Contains (segment g v xs) x = rw e at c in let r = contains_segment g v xs x d in (suc r.0, (let l = r.1 in omega arith), r.2)
]
  where
    one : Contains (Switch origin number kind ∷ []) x → Contains (Switch origin number kind ∷ xs) x
    one (zero, lt, q) = (zero, omega arith, q)
    one (suc k, lt, q) = absurd (omega arith)

-- what comes to a later version changes no segment
pub seg_at-given : (g : Group) (i v w : ℕ) (x : Input Order Body) (ms : List Inputs) → v < w → seg_at g i v (given w x ms) ≡ seg_at g i v ms
seg_at-given g i v w x [] h = refl
seg_at-given g i v w x (m ∷ older) h = elim (tested (w == length older)) [
  | inl e ↦
      let is : w ≡ length older = eqb-true w (length older) e in
      let lt : v < length older = omega arith in
      let now : given w x (m ∷ older) ≡ (x ∷ m) ∷ older = rw e refl in
      ap (seg_at g i v) now ∙ seg_at-older g i v (x ∷ m) older lt ∙ sym (seg_at-older g i v m older lt)
  | inr e ↦
      let now : given w x (m ∷ older) ≡ m ∷ given w x older = rw e refl in
      elim (reach v (length older)) [
        | inl lt ↦
            let lt2 : v < length (given w x older) = let q = length-given w x older in omega arith in
            ap (seg_at g i v) now ∙ seg_at-older g i v m (given w x older) lt2 ∙ seg_at-given g i v w x older h ∙ sym (seg_at-older g i v m older lt)
        | inr le ↦ ap (seg_at g i v) (now ∙ ap (λ ns. m ∷ ns) (given-above w x older (omega arith)))
      ]
]
  where
    reach : (a b : ℕ) → (a < b) ⊎ (b ≤ a)
    reach a zero = inr (omega arith)
    reach zero (suc b) = inl (omega arith)
    reach (suc a) (suc b) = elim (reach a b) [ inl h ↦ inl (omega arith) | inr h ↦ inr (omega arith) ]

-- the log of the versions below one
abbrev pub log_below : Group → ℕ → List Inputs → ℕ → List Entry
log_below g i ms zero = []
log_below g i ms (suc v) = log_below g i ms v ++ entries v (seg_at g i v ms)

log_below-older : (g : Group) (i : ℕ) (m : Inputs) (older : List Inputs) (v : ℕ) → v ≤ length older → log_below g i (m ∷ older) v ≡ log_below g i older v
log_below-older g i m older zero h = refl
log_below-older g i m older (suc v) h =
    let lt : v < length older = omega arith in
    ap (λ xs. xs ++ entries v (seg_at g i v (m ∷ older))) (log_below-older g i m older v (omega arith))
    ∙ ap (λ xs. log_below g i older v ++ entries v xs) (seg_at-older g i v m older lt)

pub log_of-below : (g : Group) (i : ℕ) (ms : List Inputs) → log_of g i ms ≡ log_below g i ms (length ms)
log_of-below g i [] = refl
log_of-below g i (m ∷ older) =
    let v = length older in
    ap (λ kd. log_of g i older ++ entries v (segment g v (g.rules.delivers kd g.members i m))) (sym (kind_at-newest g i m older))
    ∙ ap (λ xs. xs ++ entries v (segment g v (g.rules.delivers (kind_at g i v (m ∷ older)) g.members i m))) (log_of-below g i older ∙ sym (log_below-older g i m older v (omega arith)))
    ∙ ap (λ xs. log_below g i (m ∷ older) v ++ entries v (segment g v (g.rules.delivers (kind_at g i v (m ∷ older)) g.members i xs))) (sym (inputs_at-newest m older))

entries-append : (v : ℕ) (xs ys : List Item) → entries v (xs ++ ys) ≡ entries v xs ++ entries v ys
entries-append v [] ys = refl
entries-append v (x ∷ xs) ys = ap (λ es. record { version = v; item = x } ∷ es) (entries-append v xs ys)

-- the logs of two members, below a version that both have ended
pub logs_same : (g : Group) (i j : ℕ) (ms ns : List Inputs) (a : ℕ) → ((u : ℕ) → u < a → seg_at g i u ms ≡ seg_at g j u ns) → log_below g i ms a ≡ log_below g j ns a
logs_same g i j ms ns zero h = refl
logs_same g i j ms ns (suc a) h =
    ap (λ xs. xs ++ entries a (seg_at g i a ms)) (logs_same g i j ms ns a (λ u l. h u (omega arith)))
    ∙ ap (λ xs. log_below g j ns a ++ entries a xs) (h a (omega arith))

-- one more version
pub prefix_next : (g : Group) (i j : ℕ) (ms ns : List Inputs) (a : ℕ) → log_below g i ms a ≡ log_below g j ns a → IsPrefix (seg_at g i a ms) (seg_at g j a ns) →
    IsPrefix (log_below g i ms (suc a)) (log_below g j ns (suc a))
prefix_next g i j ms ns a e p = (
  entries a p.0,
  ap (λ xs. log_below g j ns a ++ entries a xs) p.1
      ∙ ap (λ xs. log_below g j ns a ++ xs) (entries-append a (seg_at g i a ms) p.0)
      ∙ sym (append_assoc (log_below g j ns a) (entries a (seg_at g i a ms)) (entries a p.0))
      ∙ ap (λ xs. (xs ++ entries a (seg_at g i a ms)) ++ entries a p.0) (sym e),
)

-- a member's log only grows
pub log_grows : (g : Group) (i : ℕ) (ms ns : List Inputs) (a : ℕ) → Grows g i ms ns → length ms ≡ suc a → IsPrefix (log_of g i ms) (log_of g i ns)
log_grows g i ms ns a r e =
    let lt : a < length ms = omega arith in
    let below : log_below g i ms a ≡ log_below g i ns a = logs_same g i i ms ns a (λ u h. sym (segment_kept g i ms ns r u (omega arith))) in
    let f = prefix_next g i i ms ns a below (segment_grows g i ms ns r a lt) in
    let len : length ns ≡ suc a = r.same_length ∙ e in
    (f.0, log_of-below g i ns ∙ ap (log_below g i ns) len ∙ f.1 ∙ ap (λ xs. xs ++ f.0) (sym (log_of-below g i ms ∙ ap (log_below g i ms) e)))

-- The kinds of all versions are served, where the first is.
pub kind_at-served : (g : Group) (i : ℕ) (ms : List Inputs) → g.rules.serves g.first ≡ true → (u : ℕ) → u < length ms → g.rules.serves (kind_at g i u ms) ≡ true
kind_at-served g i ms s zero h = ap g.rules.serves (kind_at-zero g i ms h) ∙ s
kind_at-served g i ms s (suc u) h =
    ap g.rules.serves (kind_at-suc g i u ms h) ∙ by_next (next_kind (seg_at g i u ms)) refl (kind_at-served g i ms s u (omega arith))
  where
    by_next : (o : Option Kind) → next_kind (seg_at g i u ms) ≡ o → g.rules.serves (kind_at g i u ms) ≡ true → g.rules.serves (unwrap_or o (kind_at g i u ms)) ≡ true
    by_next None e old = old
    by_next (Some k) e old = ends_served g u k (next_kind-found g u (delivered_at g i u ms ms) k e).3

-- Modules that deliver alike, each the same as the other.
pub record Same (g : Group) (i : ℕ) (ms ns : List Inputs) : Type 0 where
  pub same_length : length ns ≡ length ms
  pub alike : (k : Kind) → g.rules.serves k ≡ true → (u : ℕ) → g.rules.delivers k g.members i (inputs_at u ns) ≡ g.rules.delivers k g.members i (inputs_at u ms)

pub same_self : (g : Group) (i : ℕ) (ms : List Inputs) → Same g i ms ms
same_self g i ms = record { same_length = refl; alike = λ k s u. refl }

pub same_trans : (g : Group) (i : ℕ) (ms ns os : List Inputs) → Same g i ms ns → Same g i ns os → Same g i ms os
same_trans g i ms ns os a b = record { same_length = b.same_length ∙ a.same_length; alike = λ k s u. b.alike k s u ∙ a.alike k s u }

pub same_kind : (g : Group) (i : ℕ) (ms ns : List Inputs) → g.rules.serves g.first ≡ true → Same g i ms ns → (u : ℕ) → u < length ms → kind_at g i u ns ≡ kind_at g i u ms
same_kind g i ms ns s r zero h =
    let l : 0 < length ns = let e = r.same_length in omega arith in
    kind_at-zero g i ns l ∙ sym (kind_at-zero g i ms h)
same_kind g i ms ns s r (suc u) h =
    let lt : u < length ms = omega arith in
    let l : suc u < length ns = let e = r.same_length in omega arith in
    let ih = same_kind g i ms ns s r u lt in
    let seg : seg_at g i u ns ≡ seg_at g i u ms =
    seg_at-kind g i u ns (kind_at g i u ms) ih ∙ ap (segment g u) (r.alike (kind_at g i u ms) (kind_at-served g i ms s u lt) u) in
    kind_at-suc g i u ns l
    ∙ ap (λ xs. unwrap_or (next_kind xs) (kind_at g i u ns)) seg
    ∙ ap (λ kd. unwrap_or (next_kind (seg_at g i u ms)) kd) ih
    ∙ sym (kind_at-suc g i u ms h)

same_segment : (g : Group) (i : ℕ) (ms ns : List Inputs) → g.rules.serves g.first ≡ true → Same g i ms ns → (u : ℕ) → u < length ms → seg_at g i u ns ≡ seg_at g i u ms
same_segment g i ms ns s r u lt =
    seg_at-kind g i u ns (kind_at g i u ms) (same_kind g i ms ns s r u lt)
    ∙ ap (segment g u) (r.alike (kind_at g i u ms) (kind_at-served g i ms s u lt) u)

pub same_grows : (g : Group) (i : ℕ) (ms ns : List Inputs) → g.rules.serves g.first ≡ true → ((u : ℕ) → suc u < length ms → (k : Kind) × (next_kind (seg_at g i u ms) ≡ Some k)) →
    Same g i ms ns → Grows g i ms ns
same_grows g i ms ns s ended r = record {
  same_length = r.same_length;
  ended = ended;
  prefix = λ u lt. ([], r.alike (kind_at g i u ms) (kind_at-served g i ms s u lt) u ∙ sym (append-nil (delivered_at g i u ms ms)));
}

pub same_log : (g : Group) (i : ℕ) (ms ns : List Inputs) → g.rules.serves g.first ≡ true → Same g i ms ns → log_of g i ns ≡ log_of g i ms
same_log g i ms ns s r =
    log_of-below g i ns ∙ ap (log_below g i ns) r.same_length
    ∙ logs_same g i i ns ms (length ms) (λ u h. same_segment g i ms ns s r u h) ∙ sym (log_of-below g i ms)

-- whether the newest version has ended, by its segment
pub has_ended-at : (g : Group) (i a : ℕ) (ms : List Inputs) → length ms ≡ suc a → has_ended g i ms ≡ is_some (next_kind (seg_at g i a ms))
has_ended-at g i a [] e = absurd (omega arith)
has_ended-at g i a (m ∷ older) e =
    let is : length older ≡ a = omega arith in
    subst (λ u. has_ended g i (m ∷ older) ≡ is_some (next_kind (seg_at g i u (m ∷ older)))) is (rw (eqb_self (length older)) refl)

pub same_ended : (g : Group) (i a : ℕ) (ms ns : List Inputs) → g.rules.serves g.first ≡ true → length ms ≡ suc a → Same g i ms ns → has_ended g i ns ≡ has_ended g i ms
same_ended g i a ms ns s e r =
    has_ended-at g i a ns (r.same_length ∙ e) ∙ ap (λ xs. is_some (next_kind xs)) (same_segment g i ms ns s r a (omega arith)) ∙ sym (has_ended-at g i a ms e)
