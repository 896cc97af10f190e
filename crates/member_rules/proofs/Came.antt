-- What a replacement makes of the items of a receipt, and what the member holds then.
use Rattle.std.proofs.Common.{ℕ, ◌≡◌, ◌≢◌, ◌<◌, ◌≤◌, ◌+◌, ◌==◌, inl, inr, Bool, true, false, not, Option, List, [], ◌∷◌, ◌++◌, length, refl, sym, ◌∙◌, ap, subst, arith, Some, None, set, All, append-nil}
use Rattle.std.specs.Prelude.{slice_get, option_to_list}
use Rattle.std.specs.List.{filter}
use Rattle.std.proofs.lemmas.Bool.{eqb-true, eq-eqb}
use Rattle.std.proofs.lemmas.List.Elements.{All-filter, All-same, All-contains}
use Rattle.fifo_net.specs.Net.{Input, Took}
use Rattle.order_trait.specs.Runs.{Order, Inputs, KindSends, at_seat}
use Rattle.order_trait.specs.declared.ordering.Ordering.{Ghosts}
use Rattle.upd_base.specs.Kind.{KindFits}
use Rattle.upd_base.specs.Item.{has_id, id_of, ItemFits}
use Rattle.upd_base.specs.declared.body.Body.{Body}
use Rattle.upd_base.specs.declared.kind.Kind.{Kind}
use Rattle.upd_base.specs.declared.item.Item.{Item}
use Rattle.upd_base.specs.declared.item.Item.TheVariants.{Switch}
use Rattle.upd_base.specs.declared.frame.Frame.{Frame}
use Rattle.upd_base.specs.declared.entry.Entry.{Entry}
use Rattle.upd_base.proofs.Fits.{switch_kind}
use Rattle.replacement.specs.declared.act.Act.{Act}
use Rattle.replacement.specs.Repl.{State, counted, left, other_than, state_after, renewed, acts_on}
use Rattle.group_run.specs.Group.{Group}
use Rattle.group_run.specs.Version.{inputs_at, given, has_ended, entries, segment, next_kind}
use Rattle.group_run.specs.Part.{Part, version}
use Rattle.group_run.specs.Turn.{processed, framed}
use Rattle.group_run.proofs.Lists.{tested}
use Rattle.group_versions.proofs.Versions.{next_kind-found, ends_served}
use Rattle.member_rules.specs.Kept.{Kept}
use Rattle.member_rules.specs.Stands.{AreModules, Holds}
use Rattle.member_rules.specs.Steps.{Came, Calm, IsNext, Lasts, moved, fresh_orders, Enters, entering}
use Rattle.member_rules.specs.Acts.{is_kept, counting, delivered_by, reissued_by, bound_by, orders_sent}
use Rattle.member_rules.proofs.Deliver.{segment_is, delivered_acts, bound_acts, reissued_acts}
use Rattle.member_rules.proofs.Process.{holds_older, holds_newest, frames_step, state_some}
use Rattle.member_rules.proofs.Switch.{holds_some, frames_some}

pub came_of : (serves : Kind → Bool) (s s2 : State) (v : ℕ) (delivered : List Item) (es : List Entry) (bound : Option Kind) (again : List Item) → v ≤ s.version
    → (v < s.version → (s2 ≡ s) × (es ≡ []) × (bound ≡ None))
    → (v ≡ s.version → (s2 ≡ state_after s (counting serves v delivered)) × (es ≡ entries v (counting serves v delivered)) × (bound ≡ next_kind (counting serves v delivered))
    × ((kind : Kind) → bound ≡ Some kind → again ≡ left s.undelivered (counting serves v delivered)))
    → Came serves s s2 v delivered es bound again
came_of serves s s2 v delivered es bound again le older present = elim (tested (v == s.version)) [
  | inl e ↦ let here : v ≡ s.version = eqb-true v s.version e in let p = present here in inr (here, p.0, p.1, p.2, p.3)
  | inr e ↦
      let ne : v ≢ s.version = λ q. let r = eq-eqb v s.version q in cc in
      let lt : v < s.version = omega arith in
      let o = older lt in inl (lt, o.0, o.1, o.2)
]

pub all_left : (P : Item → Type 0) (us items : List Item) → All P us → All P (left us items)
all_left P us [] h = h
all_left P us (x ∷ items) h = all_left P (other_than x us) items (All-filter (λ (y : Item). not (has_id (id_of y) x)) P us h)

-- the kind of a switch that counts is served, and fits
pub next_is_served : (g : Group) (v : ℕ) (delivered : List Item) (kind : Kind) → next_kind (counting g.rules.serves v delivered) ≡ Some kind → g.rules.serves kind ≡ true
next_is_served g v delivered kind next =
    let found = next_kind-found g v delivered kind (ap next_kind (sym (segment_is g v delivered)) ∙ next) in
    ends_served g v kind found.3

pub next_fits : (g : Group) (n v : ℕ) (delivered : List Item) (kind : Kind) → next_kind (counting g.rules.serves v delivered) ≡ Some kind → All (ItemFits n) delivered → KindFits n kind
next_fits g n v delivered kind next all =
    let f = next_kind-found g v delivered kind (ap next_kind (sym (segment_is g v delivered)) ∙ next) in
    switch_kind n f.0 f.1 kind (All-contains (ItemFits n) delivered (Switch f.0 f.1 kind) all f.2)

-- what the replacement bound: the version was the present one, the kind is served and fits, and the messages that are left are issued again
pub some_bound : (serves : Kind → Bool) (s s2 : State) (v : ℕ) (delivered : List Item) (es : List Entry) (again : List Item) (kind : Kind) → Came serves s s2 v delivered es (Some kind) again →
    (v ≡ s.version) × (next_kind (counting serves v delivered) ≡ Some kind)
    × (s2 ≡ record { me = s.me; version = s.version + 1; kind = kind; made = s.made; undelivered = left s.undelivered (counting serves v delivered) })
    × (again ≡ left s.undelivered (counting serves v delivered)) × (es ≡ entries v (counting serves v delivered))
some_bound serves s s2 v delivered es again kind (inl (lt, same, nothing, none)) = absurd (let p : Some kind ≡ None = none in cc)
some_bound serves s s2 v delivered es again kind (inr (here, after, logs, next, rest)) =
    (here, sym next, after ∙ state_some s (counting serves v delivered) kind (sym next), rest kind refl, logs)

-- no kind is bound
pub none_bound : (serves : Kind → Bool) (s s2 : State) (v : ℕ) (delivered : List Item) (es : List Entry) (again : List Item) → Came serves s s2 v delivered es None again →
    (s2.me ≡ s.me) × (s2.version ≡ s.version) × ((P : Item → Type 0) → All P s.undelivered → All P s2.undelivered)
none_bound serves s s2 v delivered es again (inl (lt, same, nothing, none)) =
    (ap (λ (t : State). t.me) same, ap (λ (t : State). t.version) same, λ P h. All-same P s2.undelivered s.undelivered (ap (λ (t : State). t.undelivered) same) h)
none_bound serves s s2 v delivered es again (inr (here, after, logs, next, rest)) =
    let items = counting serves v delivered in
    let st : s2 ≡ record { me = s.me; version = s.version; kind = s.kind; made = s.made; undelivered = left s.undelivered items } = after ∙ ap (renewed s (left s.undelivered items)) (sym next) in
    (ap (λ (t : State). t.me) st, ap (λ (t : State). t.version) st, λ P h. All-same P s2.undelivered (left s.undelivered items) (ap (λ (t : State). t.undelivered) st) (all_left P s.undelivered items h))

-- what the items of the kinds that are served come to
items_are : (g : Group) (v : ℕ) (delivered more : List Item) → delivered ≡ more → counting g.rules.serves v delivered ≡ segment g v more
items_are g v delivered more got = ap (counting g.rules.serves v) got ∙ segment_is g v more

-- no kind is bound: the member holds what the turn leaves
pub holds_none : {O : Type 0} (G : Ghosts O) (g : Group) (me : ℕ) (from : ℕ) (frame : Frame) (k : Kept O) (m next : O) (state2 : State) (es : List Entry) (again : List Item) (delivered : List Item) (part : Part) →
    Holds G g me k part → version part ≡ k.repl.version
    → (lasts : Lasts g me part.modules frame.version (Took from frame.body))
    → slice_get k.modules frame.version ≡ Some m → IsNext G (Took from frame.body) m next
    → delivered ≡ lasts.0
    → Came g.rules.serves k.repl state2 frame.version delivered es None again
    → (has_ended g me (given frame.version (Took from frame.body) part.modules) ≡ false)
    × Holds G g me (moved k (set k.modules frame.version next) state2 k.held (k.entries ++ es)) (processed g me part from frame).part
holds_none {O} G g me from frame k m next state2 es again delivered part h ver lasts at step got (inl (lt, same, nothing, none)) =
    let older : frame.version < version part = omega arith in
    let r = holds_older G g me from frame k m next part h older lasts at step in
    let t = (processed g me part from frame).part in
    let all : List O = set k.modules frame.version next in
    let logs : k.entries ≡ k.entries ++ es = sym (append-nil k.entries) ∙ ap (λ ys. k.entries ++ ys) (sym nothing) in
    let a : Holds G g me (moved k all state2 k.held k.entries) t = subst (λ s. Holds G g me (moved k all s k.held k.entries) t) (sym same) r.1 in
    (r.0, subst (λ xs. Holds G g me (moved k all state2 k.held xs) t) logs a)
holds_none {O} G g me from frame k m next state2 es again delivered part h ver lasts at step got (inr (here, after, logs, none, rest)) =
    let v = frame.version in
    let items = counting g.rules.serves v delivered in
    let r = holds_newest G g me from frame k m next state2 part items h (here ∙ sym ver) lasts at step (items_are g v delivered lasts.0 got) (sym none) after in
    (r.0, subst (λ xs. Holds G g me (moved k (set k.modules v next) state2 k.held (k.entries ++ xs)) (processed g me part from frame).part) (sym logs) r.1)

-- The member holds what the turn leaves.
pub holds_processed : {O : Type 0} (G : Ghosts O) (g : Group) (me : ℕ) (from : ℕ) (frame : Frame) (k : Kept O) (m next : O) (state2 : State) (es : List Entry) (bound : Option Kind) (again : List Item) (fresh : Option O)
    (delivered : List Item) (part : Part) →
    Holds G g me k part → version part ≡ k.repl.version → Calm g me → length k.suspected ≡ g.members
    → (lasts : Lasts g me part.modules frame.version (Took from frame.body))
    → slice_get k.modules frame.version ≡ Some m → IsNext G (Took from frame.body) m next
    → delivered ≡ lasts.0 → All (ItemFits g.members) delivered
    → Came g.rules.serves k.repl state2 frame.version delivered es bound again
    → Enters G g.members me (fresh_orders k.suspected again) bound fresh
    → Holds G g me (moved k (set k.modules frame.version next ++ option_to_list fresh) state2 k.held (k.entries ++ es)) (processed g me part from frame).part
holds_processed G g me from frame k m next state2 es None again None delivered part h ver calm row lasts at step got fit came enters =
    let r = holds_none G g me from frame k m next state2 es again delivered part h ver lasts at step got came in
    subst (λ ms. Holds G g me (moved k ms state2 k.held (k.entries ++ es)) (processed g me part from frame).part) (sym (append-nil (set k.modules frame.version next))) r.1
holds_processed G g me from frame k m next state2 es None again (Some fresh) delivered part h ver calm row lasts at step got fit came enters = absurd enters
holds_processed G g me from frame k m next state2 es (Some kind) again None delivered part h ver calm row lasts at step got fit came enters = absurd enters
holds_processed G g me from frame k m next state2 es (Some kind) again (Some fresh) delivered part h ver calm row lasts at step got fit came enters =
    let v = frame.version in
    let items = counting g.rules.serves v delivered in
    let b = some_bound g.rules.serves k.repl state2 v delivered es again kind came in
    let r = holds_some G g me from frame k m next fresh state2 part items again kind h calm (next_is_served g v delivered kind b.1) (next_fits g g.members v delivered kind b.1 fit) row
    (b.0 ∙ sym ver) lasts at step (items_are g v delivered lasts.0 got) b.1 b.2 b.3 (ap (λ s. s.kind) enters.0) enters.1 in
    subst (λ xs. Holds G g me (moved k (set k.modules v next ++ fresh ∷ []) state2 k.held (k.entries ++ xs)) (processed g me part from frame).part) (sym b.4) r

-- and its frames are those that it sends
pub frames_processed : {O : Type 0} (G : Ghosts O) (g : Group) (me : ℕ) (from : ℕ) (frame : Frame) (k : Kept O) (m next : O) (state2 : State) (es : List Entry) (bound : Option Kind) (again : List Item) (fresh : Option O)
    (delivered : List Item) (part : Part) →
    Holds G g me k part → version part ≡ k.repl.version → length k.suspected ≡ g.members
    → (lasts : Lasts g me part.modules frame.version (Took from frame.body))
    → slice_get k.modules frame.version ≡ Some m → IsNext G (Took from frame.body) m next
    → (G.seat m).members ≡ g.members → (G.seat m).me ≡ me → g.rules.sends ≡ G.sends
    → delivered ≡ lasts.0
    → Came g.rules.serves k.repl state2 frame.version delivered es bound again
    → framed frame.version (at_seat G.sends (G.seat m) (Took from frame.body ∷ inputs_at frame.version part.modules))
    ++ entering G g.members me (frame.version + 1) (fresh_orders k.suspected again) bound
    ≡ (processed g me part from frame).frames
frames_processed G g me from frame k m next state2 es None again fresh delivered part h ver row lasts at step members mine sends got came =
    let r = holds_none G g me from frame k m next state2 es again delivered part h ver lasts at step got came in
    append-nil (framed frame.version (at_seat G.sends (G.seat m) (Took from frame.body ∷ inputs_at frame.version part.modules)))
    ∙ frames_step G g me from frame k.modules m part h.modules_are at members mine sends r.0
frames_processed G g me from frame k m next state2 es (Some kind) again fresh delivered part h ver row lasts at step members mine sends got came =
    let v = frame.version in
    let items = counting g.rules.serves v delivered in
    let b = some_bound g.rules.serves k.repl state2 v delivered es again kind came in
    let r = frames_some G g me from frame k m part items again kind h row (b.0 ∙ sym ver) lasts at members mine sends (items_are g v delivered lasts.0 got) b.1 b.3 in
    subst (λ (sent : Kind → KindSends). framed v (at_seat G.sends (G.seat m) (Took from frame.body ∷ inputs_at v part.modules)) ++ framed (v + 1) (orders_sent (sent kind g.members me) (fresh_orders k.suspected again) []) ≡ (processed g me part from frame).frames) sends r

-- what a module delivered at a receipt, by its seat
pub got_more : {O : Type 0} (G : Ghosts O) (g : Group) (me v : ℕ) (x : Input Order Body) (modules : List O) (ms : List Inputs) (m : O) →
    AreModules G g me modules ms → slice_get modules v ≡ Some m → (G.seat m).members ≡ g.members → (G.seat m).me ≡ me → g.rules.delivers ≡ G.delivers
    → (lasts : Lasts g me ms v x)
    → at_seat G.delivers (G.seat m) (x ∷ inputs_at v ms) ≡ at_seat G.delivers (G.seat m) (inputs_at v ms) ++ lasts.0
got_more G g me v x modules ms m are at members mine delivers lasts = rw (are.kinds v m at, members, mine, ← delivers) lasts.1

-- what acts say of a replacement's items, by the words of the code
pub acts_say : (s copied s2 : State) (v : ℕ) (items : List Item) (acts : List Act) → copied ≡ s → v ≡ s.version
    → (v ≡ copied.version → acts ≡ acts_on copied.undelivered items) → (v ≡ copied.version → s2 ≡ state_after copied items)
    → (s2 ≡ state_after s items) × (delivered_by acts ≡ items) × (bound_by None acts ≡ next_kind items) × ((kind : Kind) → next_kind items ≡ Some kind → reissued_by acts ≡ left s.undelivered items)
acts_say s copied s2 v items acts is here on after =
    let there : v ≡ copied.version = here ∙ ap (λ (t : State). t.version) (sym is) in
    let a : acts ≡ acts_on s.undelivered items = on there ∙ ap (λ (t : State). acts_on t.undelivered items) is in (
      after there ∙ ap (λ (t : State). state_after t items) is,
      ap delivered_by a ∙ delivered_acts s.undelivered items,
      ap (bound_by None) a ∙ bound_acts s.undelivered items,
      λ kind n. ap reissued_by a ∙ reissued_acts s.undelivered items kind n,
    )

-- what the code has of them
pub came_acts : (serves : Kind → Bool) (s copied s2 : State) (v : ℕ) (delivered served : List Item) (acts : List Act) (es0 es : List Entry) (bound : Option Kind) (again0 again : List Item) →
    v ≡ s.version → copied ≡ s → served ≡ filter (is_kept serves) delivered
    → (v ≡ copied.version → acts ≡ acts_on copied.undelivered (counted v served)) → (v ≡ copied.version → s2 ≡ state_after copied (counted v served))
    → es0 ≡ [] → again0 ≡ [] → es ≡ es0 ++ entries v (delivered_by acts) → again ≡ again0 ++ reissued_by acts → bound ≡ bound_by None acts
    → Came serves s s2 v delivered es bound again
came_acts serves s copied s2 v delivered served acts es0 es bound again0 again here is kept on after none0 none1 logs rest binds =
    let same : counted v served ≡ counting serves v delivered = ap (counted v) kept in
    let said = acts_say s copied s2 v (counted v served) acts is here on after in
    inr (
      here,
      said.0 ∙ ap (state_after s) same,
      logs ∙ ap (λ xs. xs ++ entries v (delivered_by acts)) none0 ∙ ap (entries v) (said.1 ∙ same),
      binds ∙ said.2 ∙ ap next_kind same,
      λ kind e. rest ∙ ap (λ xs. xs ++ reissued_by acts) none1 ∙ said.3 kind (sym said.2 ∙ sym binds ∙ e) ∙ ap (left s.undelivered) same,
    )

-- no item is made by what comes
pub came_made : (serves : Kind → Bool) (s s2 : State) (v : ℕ) (delivered : List Item) (es : List Entry) (bound : Option Kind) (again : List Item) → Came serves s s2 v delivered es bound again → s2.made ≡ s.made
came_made serves s s2 v delivered es None again (inl (lt, same, nothing, none)) = ap (λ (t : State). t.made) same
came_made serves s s2 v delivered es (Some kind) again (inl (lt, same, nothing, none)) = ap (λ (t : State). t.made) same
came_made serves s s2 v delivered es None again (inr (here, after, logs, next, rest)) =
    ap (λ (t : State). t.made) (after ∙ ap (renewed s (left s.undelivered (counting serves v delivered))) (sym next))
came_made serves s s2 v delivered es (Some kind) again (inr (here, after, logs, next, rest)) =
    ap (λ (t : State). t.made) (after ∙ ap (renewed s (left s.undelivered (counting serves v delivered))) (sym next))

-- a version that ends is no member's last, and what is issued again is the member's own
pub came_below : (serves : Kind → Bool) (s s2 : State) (v : ℕ) (delivered : List Item) (es : List Entry) (again : List Item) (kind : Kind) → Came serves s s2 v delivered es (Some kind) again → s2.version ≡ v + 1
came_below serves s s2 v delivered es again kind came =
    let b = some_bound serves s s2 v delivered es again kind came in
    ap (λ (t : State). t.version) b.2 ∙ ap (λ j. j + 1) (sym b.0)

pub came_again : (P : Item → Type 0) (serves : Kind → Bool) (s s2 : State) (v : ℕ) (delivered : List Item) (es : List Entry) (bound : Option Kind) (again : List Item) (kind : Kind) →
    Came serves s s2 v delivered es bound again → bound ≡ Some kind → All P s.undelivered → All P again
came_again P serves s s2 v delivered es bound again kind came is h =
    let b = some_bound serves s s2 v delivered es again kind (subst (λ o. Came serves s s2 v delivered es o again) is came) in
    All-same P again (left s.undelivered (counting serves v delivered)) b.3 (all_left P s.undelivered (counting serves v delivered) h)

pub came_kind : (g : Group) (n : ℕ) (s s2 : State) (v : ℕ) (delivered : List Item) (es : List Entry) (bound : Option Kind) (again : List Item) (kind : Kind) →
    Came g.rules.serves s s2 v delivered es bound again → bound ≡ Some kind → All (ItemFits n) delivered → (g.rules.serves kind ≡ true) × KindFits n kind × (s2.version ≡ v + 1)
came_kind g n s s2 v delivered es bound again kind came is all =
    let now = subst (λ o. Came g.rules.serves s s2 v delivered es o again) is came in
    let b = some_bound g.rules.serves s s2 v delivered es again kind now in
    (next_is_served g v delivered kind b.1, next_fits g n v delivered kind b.1 all, came_below g.rules.serves s s2 v delivered es again kind now)
