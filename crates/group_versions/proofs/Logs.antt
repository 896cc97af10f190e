-- The entries of a log.
use Rattle.std.proofs.Common.{ℕ, zero, suc, ◌≡◌, ◌<◌, ◌&&◌, inl, inr, Bool, true, false, List, [], ◌∷◌, ◌++◌, length, refl, sym, ◌∙◌, ap, subst, arith, reverse}
use Rattle.std.specs.Prelude.{Contains, not}
use Rattle.std.proofs.lemmas.Bool.{eq-eqb}
use Rattle.std.proofs.lemmas.List.Elements.{Contains-append_cases, Contains-append_left, Contains-append_right}
use Rattle.order_trait.specs.Runs.{Inputs}
use Rattle.upd_base.specs.Item.{id_of, has_id, origin_of, number_of, is_message}
use Rattle.upd_base.specs.declared.item.Item.{Item}
use Rattle.upd_base.specs.declared.entry.Entry.{Entry}
use Rattle.group_run.specs.Group.{Group}
use Rattle.group_run.specs.Part.{Part, log, is_logged, undelivered}
use Rattle.group_run.specs.Version.{entries, log_of}
use Rattle.group_run.proofs.Lists.{filter_contains, tested, same_or, to_reverse}
use Rattle.group_versions.proofs.Versions.{seg_at, log_below, log_of-below}

contains_entry : (v : ℕ) (xs : List Item) (x : Item) → Contains xs x → Contains (entries v xs) (record { version = v; item = x })
contains_entry v [] x c = absurd (let l = c.1 in omega arith)
contains_entry v (y ∷ ys) x (zero, lt, q) = let s : y ≡ x = q in (zero, omega arith, ap (λ z. record { version = v; item = z }) s)
contains_entry v (y ∷ ys) x (suc k, lt, q) = let c = contains_entry v ys x (k, omega arith, q) in (suc c.0, (let l = c.1 in omega arith), c.2)

contains_entries : (v : ℕ) (xs : List Item) (e : Entry) → Contains (entries v xs) e → Contains xs e.item
contains_entries v [] e c = absurd (let l = c.1 in omega arith)
contains_entries v (x ∷ xs) e (zero, lt, q) =
    let s : record { version = v; item = x } ≡ e = q in (zero, omega arith, ap (λ y. y.item) s)
contains_entries v (x ∷ xs) e (suc k, lt, q) = let c = contains_entries v xs e (k, omega arith, q) in (suc c.0, (let l = c.1 in omega arith), c.2)

-- an item of a segment stands in the log, and an entry of the log in the segment of a version
contains_log : (g : Group) (i : ℕ) (ms : List Inputs) (v w : ℕ) (x : Item) → v < w → Contains (seg_at g i v ms) x → Contains (log_below g i ms w) (record { version = v; item = x })
contains_log g i ms v zero x h c = absurd (omega arith)
contains_log g i ms v (suc w) x h c = elim (same_or v w) [
  | inl e ↦
      let P : ℕ → Type 0 = λ u. Contains (log_below g i ms w ++ entries w (seg_at g i w ms)) (record { version = u; item = x }) in
      let Q : ℕ → Type 0 = λ u. Contains (seg_at g i u ms) x in
      subst P (sym e) (Contains-append_right (log_below g i ms w) (entries w (seg_at g i w ms)) (record { version = w; item = x })
      (contains_entry w (seg_at g i w ms) x (subst Q e c)))
  | inr ne ↦ Contains-append_left (log_below g i ms w) (entries w (seg_at g i w ms)) (record { version = v; item = x }) (contains_log g i ms v w x (omega arith) c)
]

pub in_segment : (g : Group) (i : ℕ) (ms : List Inputs) (v : ℕ) (e : Entry) → Contains (log_below g i ms v) e → (u : ℕ) × (u < v) × Contains (seg_at g i u ms) e.item
in_segment g i ms zero e c = absurd (let l = c.1 in omega arith)
in_segment g i ms (suc v) e c = elim (Contains-append_cases (log_below g i ms v) (entries v (seg_at g i v ms)) e c) [
  | inl d ↦ let r = in_segment g i ms v e d in (r.0, (let l = r.1 in omega arith), r.2)
  | inr d ↦ (v, omega arith, contains_entries v (seg_at g i v ms) e d)
]

pub segment_logged : (g : Group) (i : ℕ) (ms : List Inputs) (v : ℕ) (x : Item) → v < length ms → Contains (seg_at g i v ms) x → Contains (log_of g i ms) (record { version = v; item = x })
segment_logged g i ms v x lt c = subst (λ es. Contains es (record { version = v; item = x })) (sym (log_of-below g i ms)) (contains_log g i ms v (length ms) x lt c)

pub logged_segment : (g : Group) (i : ℕ) (ms : List Inputs) (e : Entry) → Contains (log_of g i ms) e → (u : ℕ) × (u < length ms) × Contains (seg_at g i u ms) e.item
logged_segment g i ms e c = in_segment g i ms (length ms) e (subst (λ es. Contains es e) (log_of-below g i ms) c)

-- Whether an item is logged -----------------------------------------------------------------------------------------

-- what isn't logged has another id than each entry
pub not_logged : (es : List Entry) (y : Item) (e : Entry) → Contains es e → not (is_logged y es) ≡ true → id_of e.item ≡ id_of y → ⊥
not_logged [] y e c h q = let l = c.1 in omega arith
not_logged (x ∷ xs) y e (zero, lt, s) h q =
    let is : x ≡ e = s in
    let o : origin_of x.item ≡ origin_of y = ap (λ z. origin_of z.item) is ∙ ap (λ p. p.0) q in
    let m : number_of x.item ≡ number_of y = ap (λ z. number_of z.item) is ∙ ap (λ p. p.1) q in
    let a = eq-eqb (origin_of x.item) (origin_of y) o in
    let b = eq-eqb (number_of x.item) (number_of y) m in
    let c : false ≡ true = rw (a, b) at h in
    cc
not_logged (x ∷ xs) y e (suc k, lt, s) h q = elim (tested (has_id (id_of y) x.item)) [
  | inl a ↦ let c : false ≡ true = rw a at h in cc
  | inr a ↦ not_logged xs y e (k, omega arith, s) (rw a at h) q
]

pub logged_more : (y : Item) (es fs : List Entry) → is_logged y es ≡ true → is_logged y (es ++ fs) ≡ true
logged_more y [] fs h = absurd (let c : false ≡ true = h in cc)
logged_more y (x ∷ xs) fs h = elim (tested (has_id (id_of y) x.item)) [
  | inl a ↦ rw a refl
  | inr a ↦ rw a (logged_more y xs fs (rw a at h))
]

-- the entry of a logged item
pub logged_entry : (y : Item) (es : List Entry) → is_logged y es ≡ true → (e : Entry) × Contains es e × (has_id (id_of y) e.item ≡ true)
logged_entry y [] h = absurd (let c : false ≡ true = h in cc)
logged_entry y (x ∷ xs) h = elim (tested (has_id (id_of y) x.item)) [
  | inl a ↦ (x, (zero, omega arith, refl), a)
  | inr a ↦
      let r = logged_entry y xs (rw a at h) in
      let c = r.1 in
      (r.0, (suc c.0, (let l = c.1 in omega arith), c.2), r.2)
]

pub undelivered_has : (g : Group) (me : ℕ) (p : Part) (y : Item) → Contains p.accepted y → is_message y ≡ true → is_logged y (log g me p) ≡ false → Contains (undelivered g me p) y
undelivered_has g me p y c m n =
    filter_contains (λ item. is_message item && not (is_logged item (log g me p))) (reverse p.accepted) y (to_reverse p.accepted y c) (both (is_message y) (is_logged y (log g me p)) m n)
  where
    both : (a b : Bool) → a ≡ true → b ≡ false → (a && not b) ≡ true
    both true b p q = ap not q
    both false b p q = p
