-- A quiet run at rest has every accepted message in every log, and one version.
use Rattle.std.proofs.Common.{ℕ, zero, suc, ◌≡◌, ◌<◌, ◌≤◌, ◌==◌, inl, inr, Bool, true, false, List, [], ◌∷◌, ◌++◌, length, refl, sym, ◌∙◌, ap, subst, arith, Option, Some, None, IsSome, append-nil}
use Rattle.std.specs.Prelude.{Contains, slice_get, is_some, if◌then◌else◌, nat_le}
use Rattle.std.proofs.lemmas.Bool.{cases_lt}
use Rattle.fifo_net.specs.Net.{inputs_of, sent, sent_on, taken, taken_on}
use Rattle.order_trait.specs.Runs.{IsDrained, broadcast_in}
use Rattle.order_trait.proofs.Broadcasts.{broadcasts, broadcasts_among}
use Rattle.upd_base.specs.Item.{id_of}
use Rattle.upd_base.specs.Plan.{Planned}
use Rattle.upd_base.specs.declared.kind.Kind.{Kind}
use Rattle.upd_base.specs.declared.item.Item.{Item}
use Rattle.upd_base.specs.declared.item.Item.TheVariants.{Msg, Switch}
use Rattle.upd_base.specs.declared.frame.Frame.{Frame}
use Rattle.group_run.specs.Group.{Rules, Group}
use Rattle.group_run.specs.Part.{Part, version, log}
use Rattle.group_run.specs.Version.{ends, segment, next_kind, kind_at, newest}
use Rattle.group_run.specs.Held.{first_ready}
use Rattle.group_run.specs.Turn.{member_sends}
use Rattle.group_run.specs.Link.{bodies_of, held_from, processed_from}
use Rattle.group_run.specs.Run.{Events, IsReceipt, IsRelease, Moves, group, moves_in, next_frame, part, turn_at}
use Rattle.group_run.specs.Settled.{IsLogged}
use Rattle.group_run.specs.Projection.{projection}
use Rattle.group_run.specs.Laws.{FulfilsAll, FulfilsRuns}
use Rattle.group_fulfilment.specs.AtRest.{FulfilsAtRest}
use Rattle.group_run.proofs.Lists.{tested, eqb_other}
use Rattle.group_versions.proofs.Versions.{seg_at, kind_at-served, has_ended-at, next_kind-found}
use Rattle.group_run.proofs.Inputs.{one_of}
use Rattle.group_run.proofs.Turns.{leb-false}
use Rattle.group_projection.proofs.World.{World, module_run, segment_run, segment_sent, in_run}
use Rattle.group_members.proofs.Own.{own_all}
use Rattle.group_members.proofs.Fresh.{has_parts, accepted_unique}
use Rattle.group_versions.proofs.Logs.{logged_segment, logged_entry, segment_logged}
use Rattle.group_projection.proofs.Moved.{world_of}
use Rattle.group_links.proofs.Moves.{link_parts, moves_run}
use Rattle.group_projection.proofs.Kept.{newest-length}
use Rattle.group_projection.proofs.Runs.{RunFacts, run_facts}
use Rattle.group_members.proofs.Accepted.{accepted_alike}
use Rattle.group_order.proofs.Ordered.{below_same}
use Rattle.group_projection.proofs.Numbers.{segment_accepted}
use Rattle.group_members.proofs.Quiet.{QuietRun, quiet_run}

-- Segments ----------------------------------------------------------------------------------------------------------

-- a switch to a kind that ends the version ends it
switch_ends : (g : Group) (v : ℕ) (xs : List Item) (o m : ℕ) (k : Kind) → Contains xs (Switch o m k) → ends g v k ≡ true → is_some (next_kind (segment g v xs)) ≡ true
switch_ends g v [] o m k c e = absurd (let l = c.1 in omega arith)
switch_ends g v (Msg origin number payload ∷ xs) o m k (zero, lt, q) e = absurd (let p : Msg origin number payload ≡ Switch o m k = q in cc)
switch_ends g v (Msg origin number payload ∷ xs) o m k (suc j, lt, q) e = switch_ends g v xs o m k (j, omega arith, q) e
switch_ends g v (Switch origin number kind ∷ xs) o m k c e = by_end (ends g v kind) refl c (λ d. switch_ends g v xs o m k d e)
  where
    by_end : (b : Bool) → ends g v kind ≡ b → Contains (Switch origin number kind ∷ xs) (Switch o m k) → (Contains xs (Switch o m k) → is_some (next_kind (segment g v xs)) ≡ true) →
        is_some (next_kind (if b then Switch origin number kind ∷ [] else segment g v xs)) ≡ true
    by_end true f c ih = refl
    by_end false f (zero, lt, q) ih =
        let p : Switch origin number kind ≡ Switch o m k = q in
        let r : kind ≡ k = cc in
        let z : true ≡ false = sym e ∙ sym (ap (ends g v) r) ∙ f in
        absurd (cc)
    by_end false f (suc j, lt, q) ih = ih (j, omega arith, q)

-- where nothing has ended, each message that was delivered counts
message_kept : (g : Group) (v : ℕ) (xs : List Item) (o m : ℕ) (t : List ℕ) → is_some (next_kind (segment g v xs)) ≡ false → Contains xs (Msg o m t) → Contains (segment g v xs) (Msg o m t)
message_kept g v [] o m t h c = c
message_kept g v (Msg origin number payload ∷ xs) o m t h (zero, lt, q) = (zero, omega arith, q)
message_kept g v (Msg origin number payload ∷ xs) o m t h (suc k, lt, q) =
    let c = message_kept g v xs o m t h (k, omega arith, q) in (suc c.0, (let l = c.1 in omega arith), c.2)
message_kept g v (Switch origin number kind ∷ xs) o m t h (zero, lt, q) = absurd (let p : Switch origin number kind ≡ Msg o m t = q in cc)
message_kept g v (Switch origin number kind ∷ xs) o m t h (suc k, lt, q) = by_end (ends g v kind) h (λ d. message_kept g v xs o m t d (k, omega arith, q))
  where
    by_end : (b : Bool) → is_some (next_kind (if b then Switch origin number kind ∷ [] else segment g v xs)) ≡ false → (is_some (next_kind (segment g v xs)) ≡ false → Contains (segment g v xs) (Msg o m t)) →
        Contains (if b then Switch origin number kind ∷ [] else segment g v xs) (Msg o m t)
    by_end true d ih = absurd (let p : true ≡ false = d in cc)
    by_end false d ih = ih d

-- Links -------------------------------------------------------------------------------------------------------------

none_of : {A : Type 0} (o : Option A) → (IsSome o → ⊥) → o ≡ None
none_of None h = refl
none_of (Some a) h = absurd (h refl)

nothing_left : {B : Type 0} (xs ys : List B) → slice_get (xs ++ ys) (length xs) ≡ None → ys ≡ []
nothing_left [] [] e = refl
nothing_left [] (y ∷ ys) e = absurd (let p : Some y ≡ None = e in cc)
nothing_left (x ∷ xs) ys e = nothing_left xs ys e

-- where no frame is ready none of a reached version is held
none_held : (w : ℕ) (held : List (ℕ × Frame)) → first_ready w held ≡ None → (i v : ℕ) → v ≤ w → held_from i v held ≡ []
none_held w [] e i v h = refl
none_held w (x ∷ held) e i v h = elim (tested (nat_le x.1.version w)) [
  | inl f ↦ absurd (let p : Some x ≡ None = rw f at e in cc)
  | inr f ↦
      let lt = leb-false x.1.version w f in
      let other : (x.1.version == v) ≡ false = eqb_other x.1.version v (λ q. omega arith) in
      let ih = none_held w held (rw f at e) i v h in
      elim (tested (x.0 == i)) [
        | inl k ↦ rw (k, other) ih
        | inr k ↦ rw k ih
      ]
]

-- A quiet run at rest ------------------------------------------------------------------------------------------------

-- what is known of one
pub record Rest (rules : Rules) (plan : Planned) (past : Events) : Type 0 where
  pub facts : RunFacts rules plan past
  pub receipts : (from to : ℕ) → IsReceipt rules plan past from to → ⊥
  pub releases : (at : ℕ) → IsRelease rules plan past at → ⊥
  pub quiet : QuietRun true (group rules plan) (moves_in rules plan past)
  pub fulfils : FulfilsAll rules

-- the bodies of a reached version that were sent on a link are those that the module took
all_taken : (rules : Rules) (plan : Planned) (past : Events) → Rest rules plan past → (i j v : ℕ) → i < plan.members → j < plan.members → v < length (part rules plan past j).modules →
    bodies_of v (sent_on (member_sends (group rules plan)) i j (moves_in rules plan past)) ≡ processed_from i v (part rules plan past j)
all_taken rules plan past t i j v hi hj vj =
    let g : Group = group rules plan in
    let ms : Moves = moves_in rules plan past in
    let p : Part = part rules plan past j in
    let up = (t.quiet.parts j).up refl in
    let parts = link_parts g ms (moves_run g plan past) i j v in
    let next : next_frame rules plan past i j ≡ None = none_of (next_frame rules plan past i j) (λ s. t.receipts i j (record { from_member = hi; to_member = hj; up = up; frame = s })) in
    let took : List Frame = taken_on i j ms in
    let unread : parts.0 ≡ [] = nothing_left took parts.0 (sym (ap (λ xs. slice_get xs (length took)) parts.1) ∙ next) in
    let ready : first_ready (version p) p.held ≡ None = none_of (first_ready (version p) p.held) (λ s. t.releases j (record { member = hj; up = up; ready = s })) in
    let len = newest-length p.modules (one_of g j (inputs_of j ms)) in
    let held : held_from i v p.held ≡ [] = none_held (version p) p.held ready i v (omega arith) in
    parts.2
    ∙ ap (λ xs. (processed_from i v p ++ held_from i v p.held) ++ bodies_of v xs) unread
    ∙ append-nil (processed_from i v p ++ held_from i v p.held)
    ∙ ap (λ hs. processed_from i v p ++ hs) held
    ∙ append-nil (processed_from i v p)

-- In a version that all have reached each broadcast item was delivered everywhere.
delivered_all : (rules : Rules) (plan : Planned) (past : Events) → Rest rules plan past → (v : ℕ) → ((j : ℕ) → j < plan.members → v < length (part rules plan past j).modules) → (i j : ℕ) → i < plan.members → j < plan.members →
    (x : Item) → Contains (broadcast_in (projection rules plan past v)) x → Contains (in_run (group rules plan) (world_of (group rules plan) (moves_in rules plan past)) i v j) x
delivered_all rules plan past t v all i j hi hj x c =
    let g : Group = group rules plan in
    let ms : Moves = moves_in rules plan past in
    let a : World = world_of g ms in
    let s = t.facts.kept.sound in
    let kind : Kind = kind_at g i v (a.mods i) in
    let drained : IsDrained (rules.sends kind) g.members (a.proj v) = λ m k hm hk.
    ap (sent (rules.sends kind g.members) m k) (s.inputs m v)
    ∙ s.sent_is m v k kind hm (λ r. s.one_kind m i v hm hi r (all i hi))
    ∙ all_taken rules plan past t m k v hm hk (all k hk)
    ∙ ap (taken m) (sym (s.inputs k v)) in
    t.fulfils kind (kind_at-served g i (a.mods i) t.facts.law.serves v (all i hi)) g.members (a.proj v) (module_run g a t.facts.law s i v hi (all i hi) (t.facts.short v)) (t.quiet.steps v) drained j hj x c

-- a newest version has not ended
newest_open : (rules : Rules) (plan : Planned) (past : Events) → RunFacts rules plan past → (j v : ℕ) → j < plan.members → length (part rules plan past j).modules ≡ suc v → is_some (next_kind (seg_at (group rules plan) j v (part rules plan past j).modules)) ≡ false
newest_open rules plan past f j v hj e = sym (has_ended-at (group rules plan) j v (part rules plan past j).modules e) ∙ f.kept.unended j hj

-- What one member has reached, all have.
reached_all : (rules : Rules) (plan : Planned) (past : Events) → Rest rules plan past → (v i : ℕ) → i < plan.members → v < length (part rules plan past i).modules → (j : ℕ) → j < plan.members → v < length (part rules plan past j).modules
reached_all rules plan past t zero i hi vi j hj = let o = t.facts.kept.sound.one j in omega arith
reached_all rules plan past t (suc v) i hi vi j hj =
    let g : Group = group rules plan in
    let a : World = world_of g (moves_in rules plan past) in
    let f = t.facts in
    let s = f.kept.sound in
    let all = reached_all rules plan past t v i hi (omega arith) in
    let e = s.ended i v hi vi in
    let w = next_kind-found g v (in_run g a i v i) e.0 (sym (ap next_kind (segment_run g a s i i v hi hi (all i hi) (all i hi))) ∙ e.1) in
    let kind : Kind = kind_at g i v (a.mods i) in
    let sent = (f.law.keeps.integrity kind (kind_at-served g i (a.mods i) f.law.serves v (all i hi))).broadcast g.members (a.proj v) (module_run g a f.law s i v hi (all i hi) (f.short v)) i hi (Switch w.0 w.1 e.0) w.2 in
    let there = delivered_all rules plan past t v all i j hi hj (Switch w.0 w.1 e.0) sent in
    let over : is_some (next_kind (seg_at g j v (a.mods j))) ≡ true = ap (λ xs. is_some (next_kind xs)) (segment_run g a s i j v hi hj (all i hi) (all j hj)) ∙ switch_ends g v (in_run g a i v j) w.0 w.1 e.0 there w.3 in
    let vj = all j hj in
    elim (cases_lt (suc v) (length (a.mods j))) [
      | inl lt ↦ lt
      | inr le ↦ absurd (let z : true ≡ false = sym over ∙ newest_open rules plan past f j v hj (omega arith) in cc)
    ]

-- A message that was broadcast in the newest version stands in every log.
logged_newest : (rules : Rules) (plan : Planned) (past : Events) → Rest rules plan past → (v i : ℕ) → i < plan.members → length (part rules plan past i).modules ≡ suc v → (o m : ℕ) (text : List ℕ) →
    Contains (broadcast_in (projection rules plan past v)) (Msg o m text) → (j : ℕ) → j < plan.members → IsLogged rules plan past j (Msg o m text)
logged_newest rules plan past t v i hi e o m text c j hj =
    let g : Group = group rules plan in
    let a : World = world_of g (moves_in rules plan past) in
    let s = t.facts.kept.sound in
    let all = reached_all rules plan past t v i hi (omega arith) in
    let vj = all j hj in
    let last : length (a.mods j) ≡ suc v = elim (cases_lt (suc v) (length (a.mods j))) [
      | inl lt ↦ absurd (let q = reached_all rules plan past t (suc v) j hj lt i hi in omega arith)
      | inr le ↦ omega arith
    ] in
    let seg = segment_run g a s i j v hi hj (all i hi) vj in
    let unended : is_some (next_kind (segment g v (in_run g a i v j))) ≡ false = sym (ap (λ xs. is_some (next_kind xs)) seg) ∙ newest_open rules plan past t.facts j v hj last in
    let here : Contains (seg_at g j v (a.mods j)) (Msg o m text) =
    subst (λ xs. Contains xs (Msg o m text)) (sym seg) (message_kept g v (in_run g a i v j) o m text unended (delivered_all rules plan past t v all i j hi hj (Msg o m text) c)) in
    (record { version = v; item = Msg o m text }, segment_logged g j (a.mods j) v (Msg o m text) vj here, refl)

-- One that stands in the log of a member stands in every log.
logged_everywhere : (rules : Rules) (plan : Planned) (past : Events) → Rest rules plan past → (u i : ℕ) → i < plan.members → u < length (part rules plan past i).modules → (o m : ℕ) (text : List ℕ) →
    Contains (seg_at (group rules plan) i u (part rules plan past i).modules) (Msg o m text) → (j : ℕ) → j < plan.members → IsLogged rules plan past j (Msg o m text)
logged_everywhere rules plan past t u i hi ui o m text c j hj =
    let g : Group = group rules plan in
    let a : World = world_of g (moves_in rules plan past) in
    let f = t.facts in
    let s = f.kept.sound in
    elim (cases_lt (suc u) (length (a.mods i))) [
      | inl lt ↦
          let uj = reached_all rules plan past t (suc u) i hi lt j hj in
          let here : Contains (seg_at g j u (a.mods j)) (Msg o m text) = subst (λ xs. Contains xs (Msg o m text)) (below_same g a f.law s f.short i j u hi hj lt uj) c in
          (record { version = u; item = Msg o m text }, segment_logged g j (a.mods j) u (Msg o m text) (omega arith) here, refl)
      | inr le ↦ logged_newest rules plan past t u i hi (omega arith) o m text (segment_sent g a f.law s i u hi ui (f.short u) (Msg o m text) c) j hj
    ]

pub fulfils_at_rest : FulfilsAtRest
fulfils_at_rest = λ rules k fa plan s past r receipts releases q.
    let t : Rest rules plan past = record { facts = run_facts rules k plan s past r; receipts = receipts; releases = releases; quiet = quiet_run rules plan past r.enabled q; fulfils = fa } in
    let g : Group = group rules plan in
    let ms : Moves = moves_in rules plan past in
    let w = t.facts.kept.sound in
    let len : (i : ℕ) → suc (newest (part rules plan past i).modules) ≡ length (part rules plan past i).modules = λ i. newest-length (part rules plan past i).modules (one_of g i (inputs_of i ms)) in
    record {
      delivered = λ o m text c j hj.
          let item : Item = Msg o m text in
          let y = (accepted_alike rules plan past t.facts.plan_is r.enabled).kept item c in
          let p : Part = part rules plan past o in
          elim (t.facts.kept.covered o y.0 item y.1 refl) [
            | inl logged ↦
                let e = logged_entry item (log g o p) logged in
                let z = logged_segment g o p.modules e.0 e.1 in
                let id = has_parts (id_of item) e.0.item e.2 in
                let own = segment_accepted g ms t.facts.law w t.facts.short o z.0 y.0 z.1 e.0.item z.2 in
                let mine : Contains p.accepted e.0.item = subst (λ k. Contains (turn_at g ms k).part.accepted e.0.item) id.0 own.1 in
                let is : e.0.item ≡ item = accepted_unique g o p (own_all g o (inputs_of o ms) y.0) e.0.item item mine y.1 id.1 in
                logged_everywhere rules plan past t z.0 o y.0 z.1 o m text (subst (λ x. Contains (seg_at g o z.0 p.modules) x) is z.2) j hj
            | inr given ↦
                let v : ℕ = version p in
                let b : Contains (broadcasts (inputs_of o (projection rules plan past v))) item = subst (λ xs. Contains (broadcasts xs) item) (sym (w.inputs o v)) given in
                logged_newest rules plan past t v o y.0 (sym (len o)) o m text (broadcasts_among (projection rules plan past v) o item b) j hj
          ];
      one_version = λ i j hi hj.
          let li = len i in
          let lj = len j in
          let a = reached_all rules plan past t (newest (part rules plan past i).modules) i hi (omega arith) j hj in
          let b = reached_all rules plan past t (newest (part rules plan past j).modules) j hj (omega arith) i hi in
          omega arith;
    }

pub fulfils_runs : FulfilsRuns
fulfils_runs = λ rules k fa plan s past r st q. fulfils_at_rest rules k fa plan s past r st.receipts st.releases q
