-- A frame that is processed, where no version ends.
use Rattle.std.proofs.Common.{ℕ, ◌≡◌, ◌<◌, ◌+◌, ◌-◌, true, false, List, [], ◌∷◌, ◌++◌, length, refl, sym, ◌∙◌, ap, subst, arith, Some, None, set}
use Rattle.std.specs.Prelude.{slice_get, is_some}
use Rattle.fifo_net.specs.Net.{Input, Called, Took}
use Rattle.order_trait.specs.Runs.{Order, Inputs, at_seat}
use Rattle.order_trait.specs.declared.ordering.Ordering.{Ghosts}
use Rattle.upd_base.specs.declared.body.Body.{Body}
use Rattle.upd_base.specs.declared.kind.Kind.{Kind}
use Rattle.upd_base.specs.declared.item.Item.{Item}
use Rattle.upd_base.specs.declared.frame.Frame.{Frame}
use Rattle.replacement.specs.Repl.{State, left, state_after, renewed}
use Rattle.group_run.specs.Group.{Group}
use Rattle.group_run.specs.Version.{kind_at, newest, inputs_at, given, has_ended, entries, log_of, segment, next_kind}
use Rattle.group_run.specs.Part.{Part, version}
use Rattle.group_run.specs.Turn.{Turn, ModuleStep, still, stepped, processed, framed}
use Rattle.member_rules.specs.Kept.{Kept}
use Rattle.member_rules.specs.Stands.{AreModules, Holds}
use Rattle.member_rules.specs.Steps.{Calm, IsNext, Lasts, moved}
use Rattle.member_rules.specs.Acts.{orders_after}
use Rattle.member_rules.proofs.Alike.{alike_open, newest_is, newest_lt, newest_kind_is}
use Rattle.member_rules.proofs.Took.{Behind, alike_older, behind_newest}
use Rattle.member_rules.proofs.Modules.{modules_given, sent_by}
use Rattle.member_rules.proofs.Turns.{holds_alike, absent_from}
use Rattle.member_rules.proofs.Deliver.{left_is}

-- the step of a frame
abbrev pub step_of : ℕ → Frame → ModuleStep
step_of from frame = record { version = frame.version; input = Took from frame.body }

-- where the newest version has not ended, the turn is the step alone
pub no_entry : (g : Group) (me : ℕ) (part : Part) (from : ℕ) (frame : Frame) → has_ended g me (given frame.version (Took from frame.body) part.modules) ≡ false
    → processed g me part from frame ≡ stepped g me (still part) (step_of from frame)
no_entry g me part from frame h = rw h refl

-- a frame of an older version
pub holds_older : {O : Type 0} (G : Ghosts O) (g : Group) (me : ℕ) (from : ℕ) (frame : Frame) (k : Kept O) (m next : O) (part : Part) →
    Holds G g me k part → frame.version < version part
    → Lasts g me part.modules frame.version (Took from frame.body)
    → slice_get k.modules frame.version ≡ Some m → IsNext G (Took from frame.body) m next
    → (has_ended g me (given frame.version (Took from frame.body) part.modules) ≡ false)
    × Holds G g me (moved k (set k.modules frame.version next) k.repl k.held k.entries) (processed g me part from frame).part
holds_older G g me from frame k m next part h older lasts at step =
    let v = frame.version in
    let x : Input Order Body = Took from frame.body in
    let ms = part.modules in
    let n = newest_is ms in
    let some = h.in_order.some in
    let lt : v < length ms = omega arith in
    let alike = alike_older g me v x ms h.in_order.ended older some lasts in
    let closed = alike_open g me ms (given v x ms) some alike ∙ h.in_order.open_yet in (
      closed,
      subst (λ (t : Turn). Holds G g me (moved k (set k.modules v next) k.repl k.held k.entries) t.part) (sym (no_entry g me part from frame closed))
          (holds_alike G g me k (moved k (set k.modules v next) k.repl k.held k.entries) part (given v x ms) part.accepted part.suspects
          h alike (modules_given G g me v x k.modules ms m next h.modules_are lt alike.kinds at step) refl h.made_is h.undelivered_is refl refl refl h.suspected_is),
    )

-- a frame of the newest version, with what its module delivered
pub behind_of : {O : Type 0} (G : Ghosts O) (g : Group) (me : ℕ) (from : ℕ) (frame : Frame) (k : Kept O) (part : Part) →
    Holds G g me k part → frame.version ≡ version part
    → (lasts : Lasts g me part.modules frame.version (Took from frame.body))
    → Behind g me part.modules (given frame.version (Took from frame.body) part.modules) lasts.0
behind_of G g me from frame k part h here lasts =
    behind_newest g me frame.version (Took from frame.body) part.modules (given frame.version (Took from frame.body) part.modules) lasts.0 here refl h.in_order.ended h.in_order.some h.in_order.open_yet lasts.1

pub state_none : (s : State) (items : List Item) → next_kind items ≡ None → state_after s items ≡ record { me = s.me; version = s.version; kind = s.kind; made = s.made; undelivered = left s.undelivered items }
state_none s items h = ap (renewed s (left s.undelivered items)) h

pub state_some : (s : State) (items : List Item) (kind : Kind) → next_kind items ≡ Some kind
    → state_after s items ≡ record { me = s.me; version = s.version + 1; kind = kind; made = s.made; undelivered = left s.undelivered items }
state_some s items kind h = ap (renewed s (left s.undelivered items)) h

-- no switch came
pub holds_newest : {O : Type 0} (G : Ghosts O) (g : Group) (me : ℕ) (from : ℕ) (frame : Frame) (k : Kept O) (m next : O) (state2 : State) (part : Part) (items : List Item) →
    Holds G g me k part → frame.version ≡ version part
    → (lasts : Lasts g me part.modules frame.version (Took from frame.body))
    → slice_get k.modules frame.version ≡ Some m → IsNext G (Took from frame.body) m next
    → items ≡ segment g frame.version lasts.0 → next_kind items ≡ None → state2 ≡ state_after k.repl items
    → (has_ended g me (given frame.version (Took from frame.body) part.modules) ≡ false)
    × Holds G g me (moved k (set k.modules frame.version next) state2 k.held (k.entries ++ entries frame.version items)) (processed g me part from frame).part
holds_newest G g me from frame k m next state2 part items h here lasts at step is none after =
    let v = frame.version in
    let x : Input Order Body = Took from frame.body in
    let ms = part.modules in
    let ns = given v x ms in
    let n = newest_is ms in
    let some = h.in_order.some in
    let lt : v < length ms = omega arith in
    let b = behind_of G g me from frame k part h here lasts in
    let seg : segment g (newest ms) lasts.0 ≡ items = ap (λ w. segment g w lasts.0) (sym here) ∙ sym is in
    let closed : has_ended g me ns ≡ false = b.ends_is ∙ ap is_some (ap next_kind seg ∙ none) in
    let logs : log_of g me ns ≡ log_of g me ms ++ entries v items = b.log_is ∙ ap (λ xs. log_of g me ms ++ entries (newest ms) xs) seg ∙ ap (λ w. log_of g me ms ++ entries w items) (sym here) in
    let st = after ∙ state_none k.repl items none in (
      closed,
      subst (λ (t : Turn). Holds G g me (moved k (set k.modules v next) state2 k.held (k.entries ++ entries v items)) t.part) (sym (no_entry g me part from frame closed))
          (record {
            modules_are = modules_given G g me v x k.modules ms m next h.modules_are lt b.kinds at step;
            in_order = record { some = let e = b.same_length in omega arith; ended = b.ended; open_yet = closed };
            kind_is = ap (λ (s : State). s.kind) st ∙ h.kind_is ∙ newest_kind_is g me ms some ∙ sym (b.kinds (newest ms) (newest_lt ms some))
                ∙ ap (λ w. kind_at g me w ns) (n ∙ ap (λ j. j - 1) (sym b.same_length) ∙ sym (newest_is ns)) ∙ sym (newest_kind_is g me ns (let e = b.same_length in omega arith));
            made_is = ap (λ (s : State). s.made) st ∙ h.made_is;
            undelivered_is = ap (λ (s : State). s.undelivered) st ∙ ap (λ us. left us items) h.undelivered_is ∙ left_is v items (log_of g me ms) part.accepted ∙ ap (λ l. absent_from l part.accepted) (sym logs);
            held_is = h.held_is;
            log_is = ap (λ l. l ++ entries v items) h.log_is ∙ sym logs;
            suspected_is = h.suspected_is;
            crashed_is = h.crashed_is;
          }),
    )

-- the frames of the step
pub frames_step : {O : Type 0} (G : Ghosts O) (g : Group) (me : ℕ) (from : ℕ) (frame : Frame) (modules : List O) (m : O) (part : Part) →
    AreModules G g me modules part.modules → slice_get modules frame.version ≡ Some m → (G.seat m).members ≡ g.members → (G.seat m).me ≡ me → g.rules.sends ≡ G.sends
    → has_ended g me (given frame.version (Took from frame.body) part.modules) ≡ false
    → framed frame.version (at_seat G.sends (G.seat m) (Took from frame.body ∷ inputs_at frame.version part.modules)) ≡ (processed g me part from frame).frames
frames_step G g me from frame modules m part are at members mine sends closed =
    sent_by G g me frame.version (Took from frame.body) modules part m are at members mine sends ∙ ap (λ (t : Turn). t.frames) (sym (no_entry g me part from frame closed))

-- orders deliver nothing to a fresh module
pub still_fresh : (g : Group) (me : ℕ) (kind : Kind) (orders : List Order) (past : Inputs) → Calm g me → g.rules.serves kind ≡ true
    → g.rules.delivers kind g.members me (orders_after orders past) ≡ g.rules.delivers kind g.members me past
still_fresh g me kind [] past calm served = refl
still_fresh g me kind (o ∷ orders) past calm served = still_fresh g me kind orders (Called o ∷ past) calm served ∙ calm.takes kind served o past
