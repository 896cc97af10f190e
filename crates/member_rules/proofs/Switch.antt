-- A frame at which a version ends.
use Rattle.std.proofs.Common.{ℕ, suc, ◌≡◌, ◌≢◌, ◌<◌, ◌≤◌, ◌+◌, ◌-◌, ◌==◌, inl, inr, true, List, [], ◌∷◌, ◌++◌, length, map, refl, sym, ◌∙◌, ap, subst, arith, Some, set, append-nil}
use Rattle.std.specs.Prelude.{slice_get, is_some, unwrap_or}
use Rattle.std.proofs.lemmas.Bool.{eqb-true, eq-eqb}
use Rattle.fifo_net.specs.Net.{Input, Took}
use Rattle.order_trait.specs.Runs.{Order, Broadcast, Suspect, Inputs, at_seat}
use Rattle.order_trait.specs.declared.ordering.Ordering.{Ghosts}
use Rattle.upd_base.specs.Kind.{KindFits}
use Rattle.upd_base.specs.declared.body.Body.{Body}
use Rattle.upd_base.specs.declared.kind.Kind.{Kind}
use Rattle.upd_base.specs.declared.item.Item.{Item}
use Rattle.upd_base.specs.declared.frame.Frame.{Frame}
use Rattle.replacement.specs.Repl.{State, left}
use Rattle.group_run.specs.Group.{Group}
use Rattle.group_run.specs.Version.{kind_at, kind_above, newest, inputs_at, given, has_ended, entries, log_of, segment, next_kind}
use Rattle.group_run.specs.Part.{Part, version, with_modules, suspicions}
use Rattle.group_run.specs.Turn.{Turn, still, stepped, opened, processed, first_orders, in_module, all_told, framed}
use Rattle.group_run.proofs.Lists.{tested}
use Rattle.group_run.proofs.Modules.{length-given}
use Rattle.group_versions.proofs.Versions.{seg_at, seg_at-older, kind_above-next}
use Rattle.member_rules.specs.Kept.{Kept}
use Rattle.member_rules.specs.Stands.{InOrder, Holds}
use Rattle.member_rules.specs.Steps.{Calm, IsNext, Lasts, moved, fresh_orders}
use Rattle.member_rules.specs.Acts.{orders_after, orders_sent}
use Rattle.member_rules.proofs.Alike.{Ended, newest_is}
use Rattle.member_rules.proofs.Took.{Behind}
use Rattle.member_rules.proofs.Modules.{modules_given, modules_bound, sent_by}
use Rattle.member_rules.proofs.Turns.{absent_from}
use Rattle.member_rules.proofs.Deliver.{left_is}
use Rattle.member_rules.proofs.Enter.{all_told_part, all_told_frames, suspicions_are}
use Rattle.member_rules.proofs.Process.{step_of, behind_of, still_fresh}

-- the turn goes on in the next version
pub entry : (g : Group) (me : ℕ) (part : Part) (from : ℕ) (frame : Frame) (ns : List Inputs) → ns ≡ given frame.version (Took from frame.body) part.modules → has_ended g me ns ≡ true
    → processed g me part from frame
    ≡ all_told g me (opened (stepped g me (still part) (step_of from frame))) (in_module (length ns) (first_orders g me (with_modules part ns)))
entry g me part from frame ns is h =
    let a : has_ended g me (given frame.version (Took from frame.body) part.modules) ≡ true = ap (has_ended g me) (sym is) ∙ h in
    rw (is, a) refl

-- What the end of a version gives: the kinds, and the orders of the fresh module.
pub record Switched (g : Group) (me : ℕ) (ns : List Inputs) (kind : Kind) : Type 0 where
  pub ends_is : has_ended g me ns ≡ true
  pub kind_is : kind_above g me ns ≡ kind
  pub ended : Ended g me ns
  pub last : next_kind (seg_at g me (newest ns) ns) ≡ Some kind
  pub some : 1 ≤ length ns

kind_above_is : (g : Group) (me : ℕ) (ns : List Inputs) (kind : Kind) → 1 ≤ length ns → next_kind (seg_at g me (newest ns) ns) ≡ Some kind → kind_above g me ns ≡ kind
kind_above_is g me [] kind some h = absurd (omega arith)
kind_above_is g me (m ∷ older) kind some h = kind_above-next g me m older ∙ ap (λ o. unwrap_or o (kind_at g me (length older) (m ∷ older))) h

pub switched_of : (g : Group) (me : ℕ) (ms ns : List Inputs) (more items : List Item) (kind : Kind) → 1 ≤ length ms → Behind g me ms ns more → items ≡ segment g (newest ms) more → next_kind items ≡ Some kind → Switched g me ns kind
switched_of g me ms ns more items kind some b is h =
    let n : next_kind (segment g (newest ms) more) ≡ Some kind = ap next_kind (sym is) ∙ h in
    let s : 1 ≤ length ns = let e = b.same_length in omega arith in
    let same : newest ns ≡ newest ms = newest_is ns ∙ ap (λ k. k - 1) b.same_length ∙ sym (newest_is ms) in
    let last : next_kind (seg_at g me (newest ns) ns) ≡ Some kind = ap (λ w. next_kind (seg_at g me w ns)) same ∙ b.next_is ∙ n in
    record {
      ends_is = b.ends_is ∙ ap is_some n;
      kind_is = kind_above_is g me ns kind s last;
      ended = b.ended;
      last = last;
      some = s;
    }

-- the next version is in order
pub order_bound : (g : Group) (me : ℕ) (ns : List Inputs) (kind : Kind) (orders : List Order) → Switched g me ns kind → Calm g me → g.rules.serves kind ≡ true → KindFits g.members kind
    → InOrder g me (orders_after orders [] ∷ ns)
order_bound g me ns kind orders sw calm served fits =
    let new = orders_after orders [] in
    let none : g.rules.delivers (kind_above g me ns) g.members me new ≡ [] =
    ap (λ kd. g.rules.delivers kd g.members me new) sw.kind_is ∙ still_fresh g me kind orders [] calm served ∙ calm.fresh kind served fits in
    record {
      some = omega arith;
      ended = λ u h. elim (tested (u == newest ns)) [
        | inl e ↦
            let is : u ≡ newest ns = eqb-true u (newest ns) e in
            let l : u < length ns = let n = newest_is ns in let s = sw.some in omega arith in
            (kind, ap next_kind (seg_at-older g me u new ns l) ∙ ap (λ w. next_kind (seg_at g me w ns)) is ∙ sw.last)
        | inr e ↦
            let ne : u ≢ newest ns = λ q. let r = eq-eqb u (newest ns) q in cc in
            let l : u < length ns = omega arith in
            let l2 : suc u < length ns = let n = newest_is ns in omega arith in
            let f = sw.ended u l2 in
            (f.0, ap next_kind (seg_at-older g me u new ns l) ∙ f.1)
      ];
      open_yet = rw none refl;
    }

pub log_bound : (g : Group) (me : ℕ) (ns : List Inputs) (kind : Kind) (orders : List Order) → Switched g me ns kind → Calm g me → g.rules.serves kind ≡ true → KindFits g.members kind
    → log_of g me (orders_after orders [] ∷ ns) ≡ log_of g me ns
log_bound g me ns kind orders sw calm served fits =
    let new = orders_after orders [] in
    let none : g.rules.delivers (kind_above g me ns) g.members me new ≡ [] =
    ap (λ kd. g.rules.delivers kd g.members me new) sw.kind_is ∙ still_fresh g me kind orders [] calm served ∙ calm.fresh kind served fits in
    ap (λ xs. log_of g me ns ++ entries (length ns) (segment g (length ns) xs)) none ∙ append-nil (log_of g me ns)

-- the orders of the fresh module, as the code gives them
pub orders_are : {O : Type 0} (G : Ghosts O) (g : Group) (me : ℕ) (k : Kept O) (part : Part) (v : ℕ) (ns : List Inputs) (items again : List Item) →
    Holds G g me k part → length k.suspected ≡ g.members
    → log_of g me ns ≡ log_of g me part.modules ++ entries v items → again ≡ left k.repl.undelivered items
    → fresh_orders k.suspected again ≡ first_orders g me (with_modules part ns)
orders_are G g me k part v ns items again h row logs rest =
    ap (λ os. os ++ map (λ item. Broadcast item) again) (suspicions_are part.suspects g.members k.suspected row h.suspected_is)
    ∙ ap (λ us. map (λ who. Suspect who) (suspicions g part) ++ map (λ item. Broadcast item) us)
    (rest ∙ ap (λ us. left us items) h.undelivered_is ∙ left_is v items (log_of g me part.modules) part.accepted ∙ ap (λ l. absent_from l part.accepted) (sym logs))

pub logs_are : {O : Type 0} (G : Ghosts O) (g : Group) (me : ℕ) (from : ℕ) (frame : Frame) (k : Kept O) (part : Part) (items : List Item) →
    Holds G g me k part → frame.version ≡ version part
    → (lasts : Lasts g me part.modules frame.version (Took from frame.body)) → items ≡ segment g frame.version lasts.0
    → log_of g me (given frame.version (Took from frame.body) part.modules) ≡ log_of g me part.modules ++ entries frame.version items
logs_are G g me from frame k part items h here lasts is =
    let b = behind_of G g me from frame k part h here lasts in
    let seg : segment g (newest part.modules) lasts.0 ≡ items = ap (λ w. segment g w lasts.0) (sym here) ∙ sym is in
    b.log_is ∙ ap (λ xs. log_of g me part.modules ++ entries (newest part.modules) xs) seg ∙ ap (λ w. log_of g me part.modules ++ entries w items) (sym here)

pub switched_at : {O : Type 0} (G : Ghosts O) (g : Group) (me : ℕ) (from : ℕ) (frame : Frame) (k : Kept O) (part : Part) (items : List Item) (kind : Kind) →
    Holds G g me k part → frame.version ≡ version part
    → (lasts : Lasts g me part.modules frame.version (Took from frame.body)) → items ≡ segment g frame.version lasts.0 → next_kind items ≡ Some kind
    → Switched g me (given frame.version (Took from frame.body) part.modules) kind
switched_at G g me from frame k part items kind h here lasts is next =
    switched_of g me part.modules (given frame.version (Took from frame.body) part.modules) lasts.0 items kind h.in_order.some
    (behind_of G g me from frame k part h here lasts) (is ∙ ap (λ w. segment g w lasts.0) here) next

-- a switch came: the member holds what the turn leaves
pub holds_some : {O : Type 0} (G : Ghosts O) (g : Group) (me : ℕ) (from : ℕ) (frame : Frame) (k : Kept O) (m next fresh : O) (state2 : State) (part : Part) (items again : List Item) (kind : Kind) →
    Holds G g me k part → Calm g me → g.rules.serves kind ≡ true → KindFits g.members kind → length k.suspected ≡ g.members
    → frame.version ≡ version part
    → (lasts : Lasts g me part.modules frame.version (Took from frame.body))
    → slice_get k.modules frame.version ≡ Some m → IsNext G (Took from frame.body) m next
    → items ≡ segment g frame.version lasts.0 → next_kind items ≡ Some kind
    → state2 ≡ record { me = k.repl.me; version = k.repl.version + 1; kind = kind; made = k.repl.made; undelivered = left k.repl.undelivered items }
    → again ≡ left k.repl.undelivered items
    → (G.seat fresh).kind ≡ kind → G.stands fresh (orders_after (fresh_orders k.suspected again) [])
    → Holds G g me (moved k (set k.modules frame.version next ++ fresh ∷ []) state2 k.held (k.entries ++ entries frame.version items)) (processed g me part from frame).part
holds_some {O} G g me from frame k m next fresh state2 part items again kind h calm served fits row here lasts at step is kinds st rest fkind fstands =
    let v = frame.version in
    let x : Input Order Body = Took from frame.body in
    let ms = part.modules in
    let ns = given v x ms in
    let lt : v < length ms = let n = newest_is ms in let s = h.in_order.some in omega arith in
    let b = behind_of G g me from frame k part h here lasts in
    let sw = switched_at G g me from frame k part items kind h here lasts is kinds in
    let logs = logs_are G g me from frame k part items h here lasts is in
    let orders = first_orders g me (with_modules part ns) in
    let os = orders_are G g me k part v ns items again h row logs rest in
    let fstands2 : G.stands fresh (orders_after orders []) = subst (λ o. G.stands fresh (orders_after o [])) os fstands in
    let lb = log_bound g me ns kind orders sw calm served fits in
    let turn : Turn = opened (stepped g me (still part) (step_of from frame)) in
    let told = all_told_part g me turn orders [] ns refl in
    let k2 : Kept O = moved k (set k.modules v next ++ fresh ∷ []) state2 k.held (k.entries ++ entries v items) in
    subst (λ (t : Turn). Holds G g me k2 t.part) (sym (entry g me part from frame ns refl sw.ends_is))
    (subst (λ p. Holds G g me k2 p) (sym told)
    (record {
      modules_are = modules_bound G g me (set k.modules v next) fresh ns (orders_after orders []) (modules_given G g me v x k.modules ms m next h.modules_are lt b.kinds at step) (fkind ∙ sym sw.kind_is) fstands2;
      in_order = order_bound g me ns kind orders sw calm served fits;
      kind_is = ap (λ (s : State). s.kind) st ∙ sym sw.kind_is;
      made_is = ap (λ (s : State). s.made) st ∙ h.made_is;
      undelivered_is = ap (λ (s : State). s.undelivered) st ∙ ap (λ us. left us items) h.undelivered_is ∙ left_is v items (log_of g me ms) part.accepted ∙ ap (λ l. absent_from l part.accepted) (sym logs ∙ sym lb);
      held_is = h.held_is;
      log_is = ap (λ l. l ++ entries v items) h.log_is ∙ sym logs ∙ sym lb;
      suspected_is = h.suspected_is;
      crashed_is = h.crashed_is;
    }))

pub frames_some : {O : Type 0} (G : Ghosts O) (g : Group) (me : ℕ) (from : ℕ) (frame : Frame) (k : Kept O) (m : O) (part : Part) (items again : List Item) (kind : Kind) →
    Holds G g me k part → length k.suspected ≡ g.members
    → frame.version ≡ version part
    → (lasts : Lasts g me part.modules frame.version (Took from frame.body))
    → slice_get k.modules frame.version ≡ Some m → (G.seat m).members ≡ g.members → (G.seat m).me ≡ me → g.rules.sends ≡ G.sends
    → items ≡ segment g frame.version lasts.0 → next_kind items ≡ Some kind
    → again ≡ left k.repl.undelivered items
    → framed frame.version (at_seat G.sends (G.seat m) (Took from frame.body ∷ inputs_at frame.version part.modules))
    ++ framed (frame.version + 1) (orders_sent (g.rules.sends kind g.members me) (fresh_orders k.suspected again) [])
    ≡ (processed g me part from frame).frames
frames_some G g me from frame k m part items again kind h row here lasts at members mine sends is kinds rest =
    let v = frame.version in
    let x : Input Order Body = Took from frame.body in
    let ms = part.modules in
    let ns = given v x ms in
    let size : v + 1 ≡ length ns = let n = newest_is ms in let s = h.in_order.some in let l = length-given v x ms in omega arith in
    let sw = switched_at G g me from frame k part items kind h here lasts is kinds in
    let logs = logs_are G g me from frame k part items h here lasts is in
    let orders = first_orders g me (with_modules part ns) in
    let os = orders_are G g me k part v ns items again h row logs rest in
    let turn : Turn = opened (stepped g me (still part) (step_of from frame)) in
    let first : framed v (at_seat G.sends (G.seat m) (x ∷ inputs_at v ms)) ≡ turn.frames = sent_by G g me v x k.modules part m h.modules_are at members mine sends in
    let second : framed (v + 1) (orders_sent (g.rules.sends kind g.members me) (fresh_orders k.suspected again) [])
    ≡ framed (length ns) (orders_sent (g.rules.sends (kind_above g me ns) g.members me) orders []) =
    ap (λ w. framed w (orders_sent (g.rules.sends kind g.members me) (fresh_orders k.suspected again) [])) size
    ∙ ap (λ o. framed (length ns) (orders_sent (g.rules.sends kind g.members me) o [])) os
    ∙ ap (λ kd. framed (length ns) (orders_sent (g.rules.sends kd g.members me) orders [])) (sym sw.kind_is) in
    let whole : (processed g me part from frame).frames ≡ turn.frames ++ framed (length ns) (orders_sent (g.rules.sends (kind_above g me ns) g.members me) orders []) =
    ap (λ (t : Turn). t.frames) (entry g me part from frame ns refl sw.ends_is) ∙ all_told_frames g me turn orders [] ns refl in
    ap (λ ys. ys ++ framed (v + 1) (orders_sent (g.rules.sends kind g.members me) (fresh_orders k.suspected again) [])) first
    ∙ ap (λ ys. turn.frames ++ ys) second
    ∙ sym whole
