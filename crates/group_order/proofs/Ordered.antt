-- Logs agree, hold no item twice, and hold accepted items alone.
use Rattle.std.proofs.Common.{ℕ, zero, suc, ◌≡◌, ◌<◌, ◌≤◌, ◌+◌, ◌-◌, ◌^◌, inl, inr, Bool, true, false, cond, List, [], ◌∷◌, ◌++◌, length, refl, sym, ◌∙◌, ap, subst, arith, Some, append-nil}
use Rattle.std.specs.Prelude.{Contains}
use Rattle.std.specs.List.{sum_by, count_by}
use Rattle.std.proofs.lemmas.Bool.{cases_lt}
use Rattle.std.proofs.lemmas.List.Sums.{sum_by-cons, sum_by-append}
use Rattle.fifo_net.specs.Net.{IsPrefix}
use Rattle.fifo_net.proofs.Links.{IsPrefix-trans}
use Rattle.order_trait.specs.Runs.{Inputs, Agree}
use Rattle.order_trait.proofs.Broadcasts.{broadcasts}
use Rattle.upd_base.specs.Item.{id_of, has_id, origin_of, number_of}
use Rattle.upd_base.specs.declared.kind.Kind.{Kind}
use Rattle.upd_base.specs.declared.item.Item.{Item}
use Rattle.upd_base.specs.declared.item.Item.TheVariants.{Msg, Switch}
use Rattle.upd_base.specs.declared.entry.Entry.{Entry}
use Rattle.group_run.specs.Group.{Group}
use Rattle.group_run.specs.Version.{ends, segment, next_kind, entries, kind_at, inputs_at, log_of}
use Rattle.group_run.specs.Run.{Moves, group, moves_in, turn_at}
use Rattle.group_run.specs.Projection.{steps_made}
use Rattle.group_run.specs.Laws.{OrdersRuns}
use Rattle.group_run.proofs.Lists.{tested, same_or}
use Rattle.group_run.proofs.Modules.{inputs_at-above}
use Rattle.group_versions.proofs.Versions.{seg_at, segment-prefix, segment-ended, logs_same, prefix_next, log_below, log_of-below, kind_at-served}
use Rattle.group_projection.proofs.World.{World, Sound, Lawful, module_run, segment_run, segment_sent, in_run}
use Rattle.group_projection.proofs.Bind.{ended_agree}
use Rattle.group_members.proofs.Fresh.{has_parts, sent_by_origin}
use Rattle.group_versions.proofs.Logs.{in_segment, logged_segment}
use Rattle.group_projection.proofs.Moved.{world_of}
use Rattle.group_projection.proofs.Numbers.{segment_accepted}
use Rattle.group_projection.proofs.Runs.{run_facts}
use Rattle.group_members.proofs.Accepted.{accepted_alike}

-- Agreement ---------------------------------------------------------------------------------------------------------

log_below-more : (g : Group) (i : ℕ) (ms : List Inputs) (a d : ℕ) → IsPrefix (log_below g i ms a) (log_below g i ms (d + a))
log_below-more g i ms a zero =
    let e : a ≡ zero + a = omega arith in
    subst (λ k. IsPrefix (log_below g i ms a) (log_below g i ms k)) e ([], sym (append-nil (log_below g i ms a)))
log_below-more g i ms a (suc d) =
    let e : suc (d + a) ≡ suc d + a = omega arith in
    subst (λ k. IsPrefix (log_below g i ms a) (log_below g i ms k)) e (IsPrefix-trans (log_below g i ms a) (log_below g i ms (d + a)) (log_below g i ms (suc (d + a)))
    (log_below-more g i ms a d) (entries (d + a) (seg_at g i (d + a) ms), refl))

segments_of_agree : (g : Group) (v : ℕ) (xs ys : List Item) → Agree xs ys → Agree (segment g v xs) (segment g v ys)
segments_of_agree g v xs ys (inl p) =
    let q = segment-prefix g v xs p.0 in inl (q.0, ap (segment g v) p.1 ∙ q.1)
segments_of_agree g v xs ys (inr p) =
    let q = segment-prefix g v ys p.0 in inr (q.0, ap (segment g v) p.1 ∙ q.1)

segment_to_ended : (g : Group) (v : ℕ) (xs ys : List Item) (k : Kind) → Agree xs ys → next_kind (segment g v ys) ≡ Some k → IsPrefix (segment g v xs) (segment g v ys)
segment_to_ended g v xs ys k (inl p) e = let q = segment-prefix g v xs p.0 in (q.0, ap (segment g v) p.1 ∙ q.1)
segment_to_ended g v xs ys k (inr p) e = ([], sym (append-nil (segment g v xs) ∙ ap (segment g v) p.1 ∙ segment-ended g v ys p.0 k e))

-- the segments of versions that two members have ended
pub below_same : (g : Group) (a : World) → Lawful g → (s : Sound g a) → ((v : ℕ) → length (a.proj v) < 2 ^ 40) → (i j u : ℕ) → i < g.members → j < g.members → suc u < length (a.mods i) → suc u < length (a.mods j) →
    seg_at g i u (a.mods i) ≡ seg_at g j u (a.mods j)
below_same g a l s c i j u hi hj ui uj =
    let ki = s.ended i u hi ui in
    let kj = s.ended j u hj uj in
    ended_agree g a l s i j u hi hj (omega arith) (omega arith) (c u) ki.0 kj.0 ki.1 kj.1

-- of two logs the one of the lower version begins the other, or they agree
logs_agree_le : (g : Group) (w : World) → Lawful g → (s : Sound g w) → ((v : ℕ) → length (w.proj v) < 2 ^ 40) → (i j : ℕ) → i < g.members → j < g.members → (a : ℕ) →
    length (w.mods i) ≡ suc a → suc a ≤ length (w.mods j) → Agree (log_of g i (w.mods i)) (log_of g j (w.mods j))
logs_agree_le g w l s c i j hi hj a ei lj =
    let im : List Inputs = w.mods i in
    let jm : List Inputs = w.mods j in
    let below : log_below g i im a ≡ log_below g j jm a = logs_same g i j im jm a (λ u h. below_same g w l s c i j u hi hj (omega arith) (omega arith)) in
    let ai : a < length im = omega arith in
    let aj : a < length jm = omega arith in
    let xs : List Item = in_run g w i a i in
    let ys : List Item = in_run g w i a j in
    let sx : seg_at g i a im ≡ segment g a xs = segment_run g w s i i a hi hi ai ai in
    let sy : seg_at g j a jm ≡ segment g a ys = segment_run g w s i j a hi hj ai aj in
    let agree : Agree xs ys = (l.keeps.agreement (kind_at g i a im) (kind_at-served g i im l.serves a ai)).agree g.members (w.proj a) (module_run g w l s i a hi ai (c a)) i j hi hj in
    let logi : log_of g i im ≡ log_below g i im (suc a) = log_of-below g i im ∙ ap (log_below g i im) ei in
    let logj = log_of-below g j jm in
    elim (same_or (suc a) (length jm)) [
      | inl e ↦
          let logj2 : log_of g j jm ≡ log_below g j jm (suc a) = logj ∙ ap (log_below g j jm) (sym e) in
          both logi logj2 (elim (segments_of_agree g a xs ys agree) [
            | inl p ↦ inl (prefix_next g i j im jm a below (p.0, sy ∙ p.1 ∙ ap (λ zs. zs ++ p.0) (sym sx)))
            | inr p ↦ inr (prefix_next g j i jm im a (sym below) (p.0, sx ∙ p.1 ∙ ap (λ zs. zs ++ p.0) (sym sy)))
          ])
      | inr ne ↦
          let kj = s.ended j a hj (omega arith) in
          let p = segment_to_ended g a xs ys kj.0 agree (ap next_kind (sym sy) ∙ kj.1) in
          let first : IsPrefix (log_below g i im (suc a)) (log_below g j jm (suc a)) = prefix_next g i j im jm a below (p.0, sy ∙ p.1 ∙ ap (λ zs. zs ++ p.0) (sym sx)) in
          let gap : (k : ℕ) × (k + suc a ≡ length jm) = (length jm - suc a, omega arith) in
          let rest : IsPrefix (log_below g j jm (suc a)) (log_below g j jm (length jm)) =
          subst (λ k. IsPrefix (log_below g j jm (suc a)) (log_below g j jm k)) gap.1 (log_below-more g j jm (suc a) gap.0) in
          both logi logj (inl (IsPrefix-trans (log_below g i im (suc a)) (log_below g j jm (suc a)) (log_below g j jm (length jm)) first rest))
    ]
  where
    both : {xs ys zs ws : List Entry} → xs ≡ zs → ys ≡ ws → Agree zs ws → Agree xs ys
    both {xs} {ys} {zs} {ws} p q r = subst (λ us. Agree us ys) (sym p) (subst (λ us. Agree zs us) (sym q) r)

turned : {A : Type 0} (xs ys : List A) → Agree xs ys → Agree ys xs
turned xs ys (inl p) = inr p
turned xs ys (inr p) = inl p

logs_agree : (g : Group) (w : World) → Lawful g → (s : Sound g w) → ((v : ℕ) → length (w.proj v) < 2 ^ 40) → (i j : ℕ) → i < g.members → j < g.members → Agree (log_of g i (w.mods i)) (log_of g j (w.mods j))
logs_agree g w l s c i j hi hj =
    let oi = s.one i in
    let oj = s.one j in
    elim (cases_lt (length (w.mods j)) (length (w.mods i))) [
      | inl h ↦ turned (log_of g j (w.mods j)) (log_of g i (w.mods i)) (logs_agree_le g w l s c j i hj hi (length (w.mods j) - 1) (omega arith) (omega arith))
      | inr h ↦ logs_agree_le g w l s c i j hi hj (length (w.mods i) - 1) (omega arith) (omega arith)
    ]

-- No item twice -----------------------------------------------------------------------------------------------------

-- the count of an id in a segment, in entries, and what a count of one shows
abbrev weight : ℕ × ℕ → Item → ℕ
weight id x = cond (has_id id x) 1 0

count_segment : (g : Group) (v : ℕ) (id : ℕ × ℕ) (xs : List Item) → count_by (has_id id) (segment g v xs) ≤ count_by (has_id id) xs
count_segment g v id [] = omega arith
count_segment g v id (Msg o n t ∷ xs) =
    let a : sum_by (weight id) (Msg o n t ∷ segment g v xs) ≡ weight id (Msg o n t) + sum_by (weight id) (segment g v xs) = sum_by-cons (weight id) (Msg o n t) (segment g v xs) in
    let b : sum_by (weight id) (Msg o n t ∷ xs) ≡ weight id (Msg o n t) + sum_by (weight id) xs = sum_by-cons (weight id) (Msg o n t) xs in
    let r : sum_by (weight id) (segment g v xs) ≤ sum_by (weight id) xs = count_segment g v id xs in
    omega (arith, a, b, r)
count_segment g v id (Switch o n k ∷ xs) =
    let b : sum_by (weight id) (Switch o n k ∷ xs) ≡ weight id (Switch o n k) + sum_by (weight id) xs = sum_by-cons (weight id) (Switch o n k) xs in
    let a : sum_by (weight id) (Switch o n k ∷ []) ≡ weight id (Switch o n k) + sum_by (weight id) [] = sum_by-cons (weight id) (Switch o n k) [] in
    let z : sum_by (weight id) [] ≡ 0 = refl in
    let r : sum_by (weight id) (segment g v xs) ≤ sum_by (weight id) xs = count_segment g v id xs in
    elim (ends g v k) as (λ e. sum_by (weight id) (cond e (Switch o n k ∷ []) (segment g v xs)) ≤ sum_by (weight id) (Switch o n k ∷ xs)) [
      | true ↦ omega (arith, a, b, z)
      | false ↦ omega (arith, b, r)
    ]

pub count_entries : (test : Item → Bool) (v : ℕ) (xs : List Item) → count_by (λ e. test e.item) (entries v xs) ≡ count_by test xs
count_entries test v [] = refl
count_entries test v (x ∷ xs) =
    let h : Item → ℕ = λ y. cond (test y) 1 0 in
    let f : Entry → ℕ = λ e. h e.item in
    let a : sum_by f (record { version = v; item = x } ∷ entries v xs) ≡ h x + sum_by f (entries v xs) = sum_by-cons f (record { version = v; item = x }) (entries v xs) in
    let b : sum_by h (x ∷ xs) ≡ h x + sum_by h xs = sum_by-cons h x xs in
    let r : sum_by f (entries v xs) ≡ sum_by h xs = count_entries test v xs in
    omega (arith, a, b, r)

count_some : {A : Type 0} (test : A → Bool) (xs : List A) → 1 ≤ count_by test xs → (x : A) × Contains xs x × (test x ≡ true)
count_some test [] h = absurd (omega arith)
count_some {A} test (x ∷ xs) h = elim (tested (test x)) [
  | inl e ↦ (x, (zero, omega arith, refl), e)
  | inr e ↦
      let f : A → ℕ = λ y. cond (test y) 1 0 in
      let a : sum_by f (x ∷ xs) ≡ f x + sum_by f xs = sum_by-cons f x xs in
      let z : f x ≡ 0 = ap (λ b. cond b 1 0) e in
      let h2 : 1 ≤ sum_by f (x ∷ xs) = h in
      let h3 : 1 ≤ sum_by f xs = omega (arith, a, z, h2) in
      let r = count_some test xs h3 in
      let c = r.1 in
      (r.0, (suc c.0, (let l = c.1 in omega arith), c.2), r.2)
]

-- an id stands in the segments of one version at most
one_segment : (g : Group) (ms : Moves) → Lawful g → (s : Sound g (world_of g ms)) → ((v : ℕ) → length (steps_made g v ms) < 2 ^ 40) → (i u v : ℕ) → i < g.members → u < v → v < length (turn_at g ms i).part.modules →
    (x y : Item) → Contains (seg_at g i u (turn_at g ms i).part.modules) x → Contains (seg_at g i v (turn_at g ms i).part.modules) y → id_of x ≡ id_of y → ⊥
one_segment g ms l s c i u v hi uv vi x y cx cy e =
    let a : World = world_of g ms in
    let r = sent_by_origin g.members (steps_made g v ms) (s.fit v) y (segment_sent g a l s i v hi vi (c v) y cy) in
    let j : ℕ = origin_of y in
    let b : Contains (broadcasts (inputs_at v (a.mods j))) y = subst (λ xs. Contains (broadcasts xs) y) (s.inputs j v) r.1 in
    let vj : v < length (a.mods j) = elim (cases_lt v (length (a.mods j))) [
      | inl lt ↦ lt
      | inr le ↦ absurd (let n = subst (λ xs. Contains (broadcasts xs) y) (inputs_at-above v (a.mods j) le) b in let q = n.1 in omega arith)
    ] in
    s.apart j u v r.0 uv vj x (subst (λ xs. Contains xs x) (below_same g a l s c i j u hi r.0 (omega arith) (omega arith)) cx) y b e

pub log_once : (g : Group) (ms : Moves) → Lawful g → (s : Sound g (world_of g ms)) → ((v : ℕ) → length (steps_made g v ms) < 2 ^ 40) → (i : ℕ) → i < g.members → (id : ℕ × ℕ) → (v : ℕ) → v ≤ length (turn_at g ms i).part.modules →
    count_by (λ e. has_id id e.item) (log_below g i (turn_at g ms i).part.modules v) ≤ 1
log_once g ms l s c i hi id zero h = omega arith
log_once g ms l s c i hi id (suc v) h =
    let im : List Inputs = (turn_at g ms i).part.modules in
    let a : World = world_of g ms in
    let f : Entry → ℕ = λ e. weight id e.item in
    let old : sum_by f (log_below g i im v) ≤ 1 = log_once g ms l s c i hi id v (omega arith) in
    let parts : sum_by f (log_below g i im v ++ entries v (seg_at g i v im)) ≡ sum_by f (log_below g i im v) + sum_by f (entries v (seg_at g i v im)) =
    sum_by-append f (log_below g i im v) (entries v (seg_at g i v im)) in
    let law = l.keeps.integrity (kind_at g i v im) (kind_at-served g i im l.serves v (omega arith)) in
    let run : count_by (has_id id) (in_run g a i v i) ≤ 1 = law.once g.members (a.proj v) (module_run g a l s i v hi (omega arith) (c v)) i hi id in
    let seg : count_by (has_id id) (segment g v (in_run g a i v i)) ≤ count_by (has_id id) (in_run g a i v i) = count_segment g v id (in_run g a i v i) in
    let same : count_by (has_id id) (seg_at g i v im) ≡ count_by (has_id id) (segment g v (in_run g a i v i)) = ap (count_by (has_id id)) (segment_run g a s i i v hi hi (omega arith) (omega arith)) in
    let ent : sum_by f (entries v (seg_at g i v im)) ≡ count_by (has_id id) (seg_at g i v im) = count_entries (has_id id) v (seg_at g i v im) in
    elim (cases_lt 0 (sum_by f (log_below g i im v))) [
      | inr none ↦ omega (arith, parts, run, seg, same, ent, none)
      | inl some ↦ elim (cases_lt 0 (count_by (has_id id) (seg_at g i v im))) [
        | inr none ↦ omega (arith, parts, old, ent, none)
        | inl more ↦
            let x = count_some (λ e. has_id id e.item) (log_below g i im v) some in
            let y = count_some (has_id id) (seg_at g i v im) more in
            let z = in_segment g i im v x.0 x.1 in
            let px = has_parts id x.0.item x.2 in
            let py = has_parts id y.0 y.2 in
            let o : origin_of x.0.item ≡ origin_of y.0 = px.0 ∙ sym py.0 in
            let m : number_of x.0.item ≡ number_of y.0 = px.1 ∙ sym py.1 in
            absurd (one_segment g ms l s c i z.0 v hi z.1 (omega arith) x.0.item y.0 z.2 y.1 (λ k. (o k, m k)))
      ]
    ]

-- Accepted items ----------------------------------------------------------------------------------------------------

pub orders_runs : OrdersRuns
orders_runs = λ rules k plan s past r.
    let f = run_facts rules k plan s past r in
    let g : Group = group rules plan in
    let ms : Moves = moves_in rules plan past in
    let w = f.kept.sound in
    record {
      agree = logs_agree g (world_of g ms) f.law w f.short;
      once = λ i hi id.
          let im : List Inputs = (turn_at g ms i).part.modules in
          subst (λ es. count_by (λ e. has_id id e.item) es ≤ 1) (sym (log_of-below g i im)) (log_once g ms f.law w f.short i hi id (length im) (omega arith));
      accepted = λ i hi e h.
          let z = logged_segment g i (turn_at g ms i).part.modules e h in
          let q = segment_accepted g ms f.law w f.short i z.0 hi z.1 e.item z.2 in
          (accepted_alike rules plan past f.plan_is r.enabled).within (origin_of e.item) e.item q.1;
    }
