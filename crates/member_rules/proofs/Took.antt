-- A body that a module takes.
use Rattle.std.proofs.Common.{ℕ, suc, ◌≡◌, ◌≢◌, ◌<◌, ◌≤◌, ◌==◌, inl, inr, true, false, Option, Some, None, List, [], ◌∷◌, ◌++◌, length, refl, sym, ◌∙◌, ap, subst, arith, append_assoc, append-nil}
use Rattle.std.specs.Prelude.{is_some}
use Rattle.std.proofs.lemmas.Bool.{eqb-true, eq-eqb}
use Rattle.fifo_net.specs.Net.{Input, Called, Took, IsPrefix}
use Rattle.order_trait.specs.Runs.{Order, Inputs}
use Rattle.upd_base.specs.declared.body.Body.{Body}
use Rattle.upd_base.specs.declared.kind.Kind.{Kind}
use Rattle.upd_base.specs.declared.item.Item.{Item}
use Rattle.upd_base.specs.declared.item.Item.TheVariants.{Msg, Switch}
use Rattle.upd_base.specs.declared.frame.Frame.{Frame}
use Rattle.group_run.specs.Group.{Group}
use Rattle.group_run.specs.Version.{ends, segment, next_kind, kind_at, newest, inputs_at, given, has_ended, entries, log_of}
use Rattle.group_run.specs.Part.{Part}
use Rattle.group_run.specs.Turn.{Turn, still, stepped, order_step, all_told, in_module, opened, processed, first_orders}
use Rattle.group_run.specs.Growing.{DeliverMore, TakesMore}
use Rattle.group_run.proofs.Lists.{tested}
use Rattle.group_run.proofs.Modules.{length-given, inputs_at-bound, inputs_at-given_same, inputs_at-given_other}
use Rattle.group_run.proofs.Turns.{entered_cases}
use Rattle.group_versions.proofs.Versions.{seg_at, Grows, kind_kept, segment_kept, log_below, log_of-below, logs_same}
use Rattle.member_rules.proofs.Alike.{Ended, Alike, has_ended_is, newest_is}

pub segment-open : (g : Group) (v : ℕ) (xs ys : List Item) → next_kind (segment g v xs) ≡ None → segment g v (xs ++ ys) ≡ segment g v xs ++ segment g v ys
segment-open g v [] ys h = refl
segment-open g v (Msg origin number payload ∷ xs) ys h = ap (λ zs. Msg origin number payload ∷ zs) (segment-open g v xs ys h)
segment-open g v (Switch origin number kind ∷ xs) ys h = elim (tested (ends g v kind)) [
  | inl e ↦ absurd (let p : Some kind ≡ None = rw e at h in cc)
  | inr e ↦ let p : next_kind (segment g v xs) ≡ None = rw e at h in rw e (segment-open g v xs ys p)
]

pub next_kind-append : (xs ys : List Item) → next_kind xs ≡ None → next_kind (xs ++ ys) ≡ next_kind ys
next_kind-append [] ys h = refl
next_kind-append (Msg origin number payload ∷ xs) ys h = next_kind-append xs ys h
next_kind-append (Switch origin number kind ∷ xs) ys h = absurd (let p : Some kind ≡ None = h in cc)

none_of : (o : Option Kind) → is_some o ≡ false → o ≡ None
none_of None h = refl
none_of (Some kind) h = absurd (let p : true ≡ false = h in cc)

-- the newest segment has not ended
pub open_newest : (g : Group) (me : ℕ) (ms : List Inputs) → 1 ≤ length ms → has_ended g me ms ≡ false → next_kind (seg_at g me (newest ms) ms) ≡ None
open_newest g me ms some h = none_of (next_kind (seg_at g me (newest ms) ms)) (sym (has_ended_is g me ms some) ∙ h)

abbrev pub Was : Group → ℕ → List Inputs → ℕ → Inputs → List Item
Was g me ms v inputs = g.rules.delivers (kind_at g me v ms) g.members me inputs

prefix_at : (g : Group) (me v : ℕ) (x : Input Order Body) (ms : List Inputs) → v < length ms
    → IsPrefix (Was g me ms v (inputs_at v ms)) (Was g me ms v (x ∷ inputs_at v ms))
    → (u : ℕ) → IsPrefix (Was g me ms u (inputs_at u ms)) (Was g me ms u (inputs_at u (given v x ms)))
prefix_at g me v x ms lt p u = elim (tested (u == v)) [
  | inl e ↦ let is : u ≡ v = eqb-true u v e in
      subst (λ w. IsPrefix (Was g me ms w (inputs_at w ms)) (Was g me ms w (inputs_at w (given v x ms)))) (sym is)
      (p.0, ap (Was g me ms v) (inputs_at-given_same v x ms lt) ∙ p.1)
  | inr e ↦ let ne : u ≢ v = λ q. let r = eq-eqb u v q in cc in
      ([], ap (Was g me ms u) (inputs_at-given_other v u x ms ne) ∙ sym (append-nil (Was g me ms u (inputs_at u ms))))
]

pub grows_given : (g : Group) (me v : ℕ) (x : Input Order Body) (ms : List Inputs) → Ended g me ms → v < length ms
    → IsPrefix (Was g me ms v (inputs_at v ms)) (Was g me ms v (x ∷ inputs_at v ms))
    → Grows g me ms (given v x ms)
grows_given g me v x ms ended lt p = record {
  same_length = length-given v x ms;
  ended = ended;
  prefix = λ u h. prefix_at g me v x ms lt p u;
}

pub kinds_given : (g : Group) (me v : ℕ) (x : Input Order Body) (ms : List Inputs) → Ended g me ms → v < length ms
    → IsPrefix (Was g me ms v (inputs_at v ms)) (Was g me ms v (x ∷ inputs_at v ms))
    → (u : ℕ) → u < length ms → kind_at g me u (given v x ms) ≡ kind_at g me u ms
kinds_given g me v x ms ended lt p u h = kind_kept g me ms (given v x ms) (grows_given g me v x ms ended lt p) u h

-- an older module changes no segment
pub alike_older : (g : Group) (me v : ℕ) (x : Input Order Body) (ms : List Inputs) → Ended g me ms → v < newest ms → 1 ≤ length ms
    → IsPrefix (Was g me ms v (inputs_at v ms)) (Was g me ms v (x ∷ inputs_at v ms))
    → Alike g me ms (given v x ms)
alike_older g me v x ms ended older some p =
    let n = newest_is ms in
    let lt : v < length ms = omega arith in
    record {
      same_length = length-given v x ms;
      kinds = kinds_given g me v x ms ended lt p;
      segments = λ u h. elim (tested (u == newest ms)) [
        | inl e ↦
            let is : u ≡ newest ms = eqb-true u (newest ms) e in
            let ne : u ≢ v = omega arith in
            ap (λ kd. segment g u (g.rules.delivers kd g.members me (inputs_at u (given v x ms)))) (kinds_given g me v x ms ended lt p u h)
            ∙ ap (λ xs. segment g u (Was g me ms u xs)) (inputs_at-given_other v u x ms ne)
        | inr e ↦
            let ne : u ≢ newest ms = λ q. let r = eq-eqb u (newest ms) q in cc in
            segment_kept g me ms (given v x ms) (grows_given g me v x ms ended lt p) u (omega arith)
      ];
    }

entries-append : (v : ℕ) (xs ys : List Item) → entries v (xs ++ ys) ≡ entries v xs ++ entries v ys
entries-append v [] ys = refl
entries-append v (x ∷ xs) ys = ap (λ es. record { version = v; item = x } ∷ es) (entries-append v xs ys)

-- What the newest module delivered comes behind.
pub record Behind (g : Group) (me : ℕ) (ms ns : List Inputs) (more : List Item) : Type 0 where
  pub same_length : length ns ≡ length ms
  pub kinds : (u : ℕ) → u < length ms → kind_at g me u ns ≡ kind_at g me u ms
  pub ended : Ended g me ns
  pub next_is : next_kind (seg_at g me (newest ms) ns) ≡ next_kind (segment g (newest ms) more)
  pub log_is : log_of g me ns ≡ log_of g me ms ++ entries (newest ms) (segment g (newest ms) more)
  pub ends_is : has_ended g me ns ≡ is_some (next_kind (segment g (newest ms) more))

pub behind_newest : (g : Group) (me v : ℕ) (x : Input Order Body) (ms ns : List Inputs) (more : List Item) → v ≡ newest ms → ns ≡ given v x ms → Ended g me ms → 1 ≤ length ms → has_ended g me ms ≡ false
    → Was g me ms v (x ∷ inputs_at v ms) ≡ Was g me ms v (inputs_at v ms) ++ more
    → Behind g me ms ns more
behind_newest g me v x ms ns more vis nis ended some closed is =
    let n = newest_is ms in
    let lt : v < length ms = omega arith in
    let size : length ms ≡ suc v = omega arith in
    let len : length ns ≡ length ms = ap length nis ∙ length-given v x ms in
    let kinds : (u : ℕ) → u < length ms → kind_at g me u ns ≡ kind_at g me u ms =
    λ u h. ap (kind_at g me u) nis ∙ kinds_given g me v x ms ended lt (more, is) u h in
    let kept : (u : ℕ) → suc u < length ms → seg_at g me u ns ≡ seg_at g me u ms =
    λ u h. ap (seg_at g me u) nis ∙ segment_kept g me ms (given v x ms) (grows_given g me v x ms ended lt (more, is)) u h in
    let open_yet : next_kind (seg_at g me v ms) ≡ None = ap (λ w. next_kind (seg_at g me w ms)) vis ∙ open_newest g me ms some closed in
    let seg : seg_at g me v ns ≡ seg_at g me v ms ++ segment g v more =
    ap (λ kd. segment g v (g.rules.delivers kd g.members me (inputs_at v ns))) (kinds v lt)
    ∙ ap (λ xs. segment g v (Was g me ms v xs)) (ap (inputs_at v) nis ∙ inputs_at-given_same v x ms lt)
    ∙ ap (segment g v) is
    ∙ segment-open g v (Was g me ms v (inputs_at v ms)) more open_yet in
    let next : next_kind (seg_at g me v ns) ≡ next_kind (segment g v more) = ap next_kind seg ∙ next_kind-append (seg_at g me v ms) (segment g v more) open_yet in
    let same : newest ns ≡ v = let m = newest_is ns in omega arith in
    let log : log_of g me ns ≡ log_of g me ms ++ entries v (segment g v more) =
    log_of-below g me ns ∙ ap (log_below g me ns) (len ∙ size)
    ∙ ap (λ es. es ++ entries v (seg_at g me v ns)) (logs_same g me me ns ms v (λ u h. kept u (omega arith)))
    ∙ ap (λ xs. log_below g me ms v ++ entries v xs) seg
    ∙ ap (λ es. log_below g me ms v ++ es) (entries-append v (seg_at g me v ms) (segment g v more))
    ∙ sym (append_assoc (log_below g me ms v) (entries v (seg_at g me v ms)) (entries v (segment g v more)))
    ∙ ap (λ es. es ++ entries v (segment g v more)) (sym (log_of-below g me ms ∙ ap (log_below g me ms) size)) in
    record {
      same_length = len;
      kinds = kinds;
      ended = λ u h. let l : suc u < length ms = omega arith in let e = ended u l in (e.0, ap next_kind (kept u l) ∙ e.1);
      next_is = ap (λ w. next_kind (seg_at g me w ns)) (sym vis) ∙ next ∙ ap (λ w. next_kind (segment g w more)) vis;
      log_is = log ∙ ap (λ w. log_of g me ms ++ entries w (segment g w more)) vis;
      ends_is = has_ended_is g me ns (omega arith) ∙ ap (λ w. is_some (next_kind (seg_at g me w ns))) same ∙ ap is_some next ∙ ap (λ w. is_some (next_kind (segment g w more))) vis;
    }

-- What growing modules say where one of them takes a body ---------------------------------------------------------

-- orders to one module leave the others' inputs
told_other : (g : Group) (me v w : ℕ) (t : Turn) (orders : List Order) → v ≢ w → inputs_at v (all_told g me t (in_module w orders)).part.modules ≡ inputs_at v t.part.modules
told_other g me v w t [] ne = refl
told_other g me v w t (o ∷ orders) ne =
    told_other g me v w (stepped g me t (order_step (w, o))) orders ne ∙ inputs_at-given_other w v (Called o) t.part.modules ne

processed_inputs : (g : Group) (me : ℕ) (p : Part) (from : ℕ) (frame : Frame) → frame.version < length p.modules →
    inputs_at frame.version (processed g me p from frame).part.modules ≡ Took from frame.body ∷ inputs_at frame.version p.modules
processed_inputs g me p from frame lt =
    let v : ℕ = frame.version in
    let t : Turn = stepped g me (still p) (record { version = v; input = Took from frame.body }) in
    let now : inputs_at v t.part.modules ≡ Took from frame.body ∷ inputs_at v p.modules = inputs_at-given_same v (Took from frame.body) p.modules lt in
    let len = length-given v (Took from frame.body) p.modules in
    entered_cases g me t (λ u. inputs_at v u.part.modules ≡ Took from frame.body ∷ inputs_at v p.modules) (λ e. now)
    (λ e. told_other g me v (length t.part.modules) (opened t) (first_orders g me t.part) (λ q. omega arith) ∙ inputs_at-bound v t.part.modules ∙ now)

pub more_of : (g : Group) (me : ℕ) (p : Part) (from : ℕ) (frame : Frame) (ns : List Inputs) → frame.version < length p.modules → ns ≡ (processed g me p from frame).part.modules → DeliverMore g me p.modules ns → TakesMore g me p from frame
more_of g me p from frame ns lt e d =
    let v : ℕ = frame.version in
    let kind = kind_at g me v p.modules in
    subst (λ xs. IsPrefix (g.rules.delivers kind g.members me (inputs_at v p.modules)) (g.rules.delivers kind g.members me xs))
    (ap (inputs_at v) e ∙ processed_inputs g me p from frame lt) (d v lt)
