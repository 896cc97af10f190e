-- What a member keeps of its own: the suspicions, the accepted items by number, and that it broadcasts no others.
use Rattle.std.proofs.Common.{ℕ, suc, ◌≡◌, ◌≢◌, ◌<◌, ◌≤◌, ◌==◌, ◌&&◌, inl, inr, Bool, true, false, List, [], ◌∷◌, ◌++◌, length, refl, sym, ◌∙◌, ap, subst, arith, cond, map, reverse}
use Rattle.std.specs.Prelude.{Contains, filter, not, nat_lt, nat_le}
use Rattle.std.proofs.lemmas.Bool.{eqb-true, eq-eqb}
use Rattle.std.proofs.lemmas.List.Elements.{Contains-append_cases}
use mathlib.Core.List.{reverse-cons}
use Rattle.fifo_net.specs.Net.{Input, Called, Took}
use Rattle.order_trait.specs.Runs.{Order, Broadcast, Suspect as SuspectOrder, Trust as TrustOrder, Inputs, broadcast_at}
use Rattle.order_trait.proofs.Broadcasts.{broadcasts}
use Rattle.upd_base.specs.Item.{ItemFits, origin_of, number_of}
use Rattle.upd_base.specs.Kind.{KindFits, kind_fits}
use Rattle.upd_base.proofs.Fits.{nat_lt-true, msg_fits, switch_fits}
use Rattle.upd_base.specs.declared.kind.Kind.{Kind}
use Rattle.upd_base.specs.declared.item.Item.{Item}
use Rattle.upd_base.specs.declared.item.Item.TheVariants.{Msg, Switch}
use Rattle.upd_base.specs.declared.body.Body.{Body}
use Rattle.upd_base.specs.declared.frame.Frame.{Frame}
use Rattle.upd_base.specs.declared.call.Call.TheVariants.{Send, Change, Suspect, Trust}
use Rattle.upd_base.specs.declared.answer.Answer.TheVariants.{Accepted, Done, Full, Crashed, VersionLimit, BadKind, BadMember}
use Rattle.upd_base.specs.declared.limits.TheConstants.{MAX_VERSION, MAX_UNDELIVERED}
use Rattle.group_run.specs.Group.{Group, Outer}
use Rattle.group_run.specs.Part.{Part, version, undelivered, suspicions, is_suspected, below, without, with_accepted, with_suspects, with_held}
use Rattle.group_run.specs.Turn.{Turn, still, stepped, order_step, all_told, in_module, in_each, opened, processed, first_orders, turn_after, turn_of}
use Rattle.group_run.specs.Answer.{answer}
use Rattle.group_run.specs.Held.{without_ready}
use Rattle.group_run.specs.Version.{inputs_at, given}
use Rattle.group_run.proofs.Lists.{nothing, only, contains_filter, contains_reverse, tested}
use Rattle.group_run.proofs.Modules.{inputs_at-given, inputs_at-bound}
use Rattle.group_run.proofs.Turns.{turn_cases, entered_cases}
use Rattle.group_run.proofs.Inputs.{contains_below}

-- Items by number ----------------------------------------------------------------------------------------------

-- items of one origin with numbers from lo to below hi, ascending
abbrev pub Ascends : ℕ → ℕ → ℕ → List Item → ℕ → Type 0
Ascends n me lo [] hi = lo ≤ hi
Ascends n me lo (x ∷ xs) hi = (origin_of x ≡ me) × ItemFits n x × (lo ≤ number_of x) × Ascends n me (suc (number_of x)) xs hi

ascends-lower : (n me lo lo' : ℕ) (xs : List Item) (hi : ℕ) → lo' ≤ lo → Ascends n me lo xs hi → Ascends n me lo' xs hi
ascends-lower n me lo lo' [] hi l a = let b : lo ≤ hi = a in omega arith
ascends-lower n me lo lo' (x ∷ xs) hi l a = (a.0, a.1, (let b = a.2 in omega arith), a.3)

ascends-append : (n me lo : ℕ) (xs : List Item) (x : Item) (hi : ℕ) → Ascends n me lo xs hi → origin_of x ≡ me → ItemFits n x → number_of x ≡ hi → Ascends n me lo (xs ++ x ∷ []) (suc hi)
ascends-append n me lo [] x hi a o f e = (o, f, (let b : lo ≤ hi = a in omega arith), (let b : lo ≤ hi = a in omega arith))
ascends-append n me lo (y ∷ xs) x hi a o f e = (a.0, a.1, a.2, ascends-append n me (suc (number_of y)) xs x hi a.3 o f e)

ascends-filter : (n me lo : ℕ) (test : Item → Bool) (xs : List Item) (hi : ℕ) → Ascends n me lo xs hi → Ascends n me lo (filter test xs) hi
ascends-filter n me lo test [] hi a = a
ascends-filter n me lo test (x ∷ xs) hi a = elim (tested (test x)) [
  | inl e ↦ rw e (a.0, a.1, a.2, ascends-filter n me (suc (number_of x)) test xs hi a.3)
  | inr e ↦ rw e (ascends-lower n me (suc (number_of x)) lo (filter test xs) hi (let b = a.2 in omega arith) (ascends-filter n me (suc (number_of x)) test xs hi a.3))
]

-- Answers -----------------------------------------------------------------------------------------------------

pub sent_number : (g : Group) (me : ℕ) (p : Part) (text : List ℕ) (number : ℕ) → answer g me p (Send text) ≡ Accepted number → number ≡ length p.accepted
sent_number g me p text number e = go p.crashed (nat_le MAX_UNDELIVERED (length (undelivered g me p))) e
  where
    go : (a b : Bool) → cond a Crashed (cond b Full (Accepted (length p.accepted))) ≡ Accepted number → number ≡ length p.accepted
    go true b e = let q : Crashed ≡ Accepted number = e in cc
    go false true e = let q : Full ≡ Accepted number = e in cc
    go false false e = let q : Accepted (length p.accepted) ≡ Accepted number = e in cc

pub changed_number : (g : Group) (me : ℕ) (p : Part) (kind : Kind) (number : ℕ) → answer g me p (Change kind) ≡ Accepted number → (number ≡ length p.accepted) × KindFits g.members kind
changed_number g me p kind number e = go p.crashed (kind_fits g.members kind) (version p == MAX_VERSION) (λ h. h) e
  where
    go : (a b c : Bool) → (b ≡ true → KindFits g.members kind) → cond a Crashed (cond b (cond c VersionLimit (Accepted (length p.accepted))) BadKind) ≡ Accepted number →
        (number ≡ length p.accepted) × KindFits g.members kind
    go true b c f e = absurd (let q : Crashed ≡ Accepted number = e in cc)
    go false false c f e = absurd (let q : BadKind ≡ Accepted number = e in cc)
    go false true true f e = absurd (let q : VersionLimit ≡ Accepted number = e in cc)
    go false true false f e = let q : Accepted (length p.accepted) ≡ Accepted number = e in (cc, f refl)

other_member : (who n me : ℕ) → (nat_lt who n && not (who == me)) ≡ true → (who < n) × (who ≢ me)
other_member who n me e = go (nat_lt who n) (who == me) refl refl e
  where
    go : (a b : Bool) → nat_lt who n ≡ a → (who == me) ≡ b → (a && not b) ≡ true → (who < n) × (who ≢ me)
    go true true p q e = absurd (let r : false ≡ true = e in cc)
    go true false p q e = (nat_lt-true who n p, λ s. let r = eq-eqb who me s in cc)
    go false b p q e = absurd (let r : false ≡ true = e in cc)

pub suspected_other : (g : Group) (me : ℕ) (p : Part) (who : ℕ) → answer g me p (Suspect who) ≡ Done → (who < g.members) × (who ≢ me)
suspected_other g me p who e = other_member who g.members me (go p.crashed (nat_lt who g.members && not (who == me)) e)
  where
    go : (a b : Bool) → cond a Crashed (cond b Done BadMember) ≡ Done → b ≡ true
    go true b e = absurd (let q : Crashed ≡ Done = e in cc)
    go false true e = refl
    go false false e = absurd (let q : BadMember ≡ Done = e in cc)

pub trusted_other : (g : Group) (me : ℕ) (p : Part) (who : ℕ) → answer g me p (Trust who) ≡ Done → (who < g.members) × (who ≢ me)
trusted_other g me p who e = other_member who g.members me (go p.crashed (nat_lt who g.members && not (who == me)) e)
  where
    go : (a b : Bool) → cond a Crashed (cond b Done BadMember) ≡ Done → b ≡ true
    go true b e = absurd (let q : Crashed ≡ Done = e in cc)
    go false true e = refl
    go false false e = absurd (let q : BadMember ≡ Done = e in cc)

any_filter : (who out : ℕ) (xs : List ℕ) → is_suspected who (without out xs) ≡ true → is_suspected who xs ≡ true
any_filter who out [] e = e
any_filter who out (x ∷ xs) e = elim (tested (x == who)) [
  | inl h ↦ rw h refl
  | inr h ↦ elim (tested (x == out)) [
    | inl k ↦ rw h (any_filter who out xs (rw k at e))
    | inr k ↦ rw h (any_filter who out xs (rw (k, h) at e))
  ]
]

-- What a member has broadcast was accepted ----------------------------------------------------------------------

-- what an input broadcasts stands among these items
abbrev pub InputOwn : List Item → Input Order Body → Type 0
InputOwn items x = (y : Item) → Contains (broadcast_at x) y → Contains items y

abbrev pub AllOwn : List Item → List (ℕ × Order) → Type 0
AllOwn items [] = Unit {0}
AllOwn items (o ∷ os) = InputOwn items (Called o.1) × AllOwn items os

-- what the modules broadcast stands among these items
abbrev pub Sent : List Item → List Inputs → Type 0
Sent items ms = (u : ℕ) (y : Item) → Contains (broadcasts (inputs_at u ms)) y → Contains items y

sent_given : (items : List Item) (v : ℕ) (x : Input Order Body) (ms : List Inputs) → InputOwn items x → Sent items ms → Sent items (given v x ms)
sent_given items v x ms own s u y =
    inputs_at-given (λ xs. Contains (broadcasts xs) y → Contains items y) v u x ms
    (λ e lt c. elim (Contains-append_cases (broadcasts (inputs_at u ms)) (broadcast_at x) y c) [ inl d ↦ s u y d | inr d ↦ own y d ])
    (s u y)

sent_told : (g : Group) (me : ℕ) (items : List Item) (t : Turn) (os : List (ℕ × Order)) → AllOwn items os → Sent items t.part.modules → Sent items (all_told g me t os).part.modules
sent_told g me items t [] a s = s
sent_told g me items t (o ∷ os) a s =
    sent_told g me items (stepped g me t (order_step o)) os a.1 (sent_given items o.0 (Called o.1) t.part.modules a.0 s)

sent_bound : (items : List Item) (ms : List Inputs) → Sent items ms → Sent items ([] ∷ ms)
sent_bound items ms s u y c = s u y (let P : Inputs → Type 0 = λ xs. Contains (broadcasts xs) y in subst P (inputs_at-bound u ms) c)

own_items : (items : List Item) (v : ℕ) (xs : List Item) → ((y : Item) → Contains xs y → Contains items y) → AllOwn items (in_module v (map (λ item. Broadcast item) xs))
own_items items v [] h = tt
own_items items v (x ∷ xs) h = (
  (λ y c. only (λ z. Contains items z) x y (h x (0, omega arith, refl)) c),
  own_items items v xs (λ y c. h y (suc c.0, (let l = c.1 in omega arith), c.2)),
)

own_suspects : (items : List Item) (v : ℕ) (whos : List ℕ) (orders : List Order) → AllOwn items (in_module v orders) → AllOwn items (in_module v (map (λ who. SuspectOrder who) whos ++ orders))
own_suspects items v [] orders a = a
own_suspects items v (w ∷ whos) orders a = ((λ y c. absurd (nothing y c)), own_suspects items v whos orders a)

own_each : (items : List Item) (order : Order) (vs : List ℕ) → InputOwn items (Called order) → AllOwn items (map (λ v. (v, order)) vs)
own_each items order [] h = tt
own_each items order (v ∷ vs) h = (h, own_each items order vs h)

undelivered_accepted : (g : Group) (me : ℕ) (p : Part) (y : Item) → Contains (undelivered g me p) y → Contains p.accepted y
undelivered_accepted g me p y c = contains_reverse p.accepted y (contains_filter _ (reverse p.accepted) y c).0

own_first : (g : Group) (me : ℕ) (p : Part) (v : ℕ) → AllOwn p.accepted (in_module v (first_orders g me p))
own_first g me p v =
    own_suspects p.accepted v (suspicions g p) (map (λ item. Broadcast item) (undelivered g me p))
    (own_items p.accepted v (undelivered g me p) (undelivered_accepted g me p))

-- A member's own ----------------------------------------------------------------------------------------------------

pub record Own (g : Group) (me : ℕ) (p : Part) : Type 0 where
  pub suspects_other : (who : ℕ) → is_suspected who p.suspects ≡ true → who ≢ me
  pub ascends : Ascends g.members me 0 (reverse p.accepted) (length p.accepted)
  pub sent : Sent p.accepted p.modules

-- orders leave the member's own
pub record Beside (p q : Part) : Type 0 where
  pub accepted_same : q.accepted ≡ p.accepted
  pub suspects_same : q.suspects ≡ p.suspects

pub beside_told : (g : Group) (me : ℕ) (t : Turn) (os : List (ℕ × Order)) → Beside t.part (all_told g me t os).part
beside_told g me t [] = record { accepted_same = refl; suspects_same = refl }
beside_told g me t (o ∷ os) = let k = beside_told g me (stepped g me t (order_step o)) os in record { accepted_same = k.accepted_same; suspects_same = k.suspects_same }

own_beside : (g : Group) (me : ℕ) (p q : Part) → Beside p q → Sent p.accepted q.modules → Own g me p → Own g me q
own_beside g me p q b s o = record {
  suspects_other = λ who h. o.suspects_other who (sym (ap (is_suspected who) b.suspects_same) ∙ h);
  ascends = let P : List Item → Type 0 = λ items. Ascends g.members me 0 (reverse items) (length items) in subst P (sym b.accepted_same) o.ascends;
  sent = let P : List Item → Type 0 = λ items. Sent items q.modules in subst P (sym b.accepted_same) s;
}

own_told : (g : Group) (me : ℕ) (t : Turn) (os : List (ℕ × Order)) → AllOwn t.part.accepted os → Own g me t.part → Own g me (all_told g me t os).part
own_told g me t os a o = own_beside g me t.part (all_told g me t os).part (beside_told g me t os) (sent_told g me t.part.accepted t os a o.sent) o

own_issued : (g : Group) (me : ℕ) (p : Part) (item : Item) → origin_of item ≡ me → ItemFits g.members item → number_of item ≡ length p.accepted → Own g me p →
    Own g me (all_told g me (still (with_accepted p item)) (in_module (version p) (Broadcast item ∷ []))).part
own_issued g me p item o f e w =
    own_told g me (still (with_accepted p item)) (in_module (version p) (Broadcast item ∷ []))
    ((λ y c. only (λ z. Contains (item ∷ p.accepted) z) item y (0, omega arith, refl) c), tt)
    (record {
      suspects_other = w.suspects_other;
      ascends =
          let P : List Item → Type 0 = λ xs. Ascends g.members me 0 xs (suc (length p.accepted)) in
          subst P (sym (reverse-cons item p.accepted)) (ascends-append g.members me 0 (reverse p.accepted) item (length p.accepted) w.ascends o f e);
      sent = λ u y c. let r = w.sent u y c in (suc r.0, (let l = r.1 in omega arith), r.2);
    })

own_suspecting : (g : Group) (me : ℕ) (p : Part) (suspects : List ℕ) (order : Order) → ((y : Item) → Contains (broadcast_at (Called order)) y → ⊥) →
    ((who : ℕ) → is_suspected who suspects ≡ true → who ≢ me) → Own g me p → Own g me (all_told g me (still (with_suspects p suspects)) (in_each p order)).part
own_suspecting g me p suspects order h s o =
    own_told g me (still (with_suspects p suspects)) (in_each p order) (own_each p.accepted order (below (length p.modules)) (λ y c. absurd (h y c)))
    (record { suspects_other = s; ascends = o.ascends; sent = o.sent })

-- a body is taken
pub own_step : (g : Group) (me : ℕ) (p : Part) (from : ℕ) (frame : Frame) → Own g me p → Own g me (stepped g me (still p) (record { version = frame.version; input = Took from frame.body })).part
own_step g me p from frame o = record {
  suspects_other = o.suspects_other;
  ascends = o.ascends;
  sent = sent_given p.accepted frame.version (Took from frame.body) p.modules (λ y c. absurd (nothing y c)) o.sent;
}

own_processed : (g : Group) (me : ℕ) (p : Part) (from : ℕ) (frame : Frame) → Own g me p → Own g me (processed g me p from frame).part
own_processed g me p from frame o =
    let t : Turn = stepped g me (still p) (record { version = frame.version; input = Took from frame.body }) in
    let one : Own g me t.part = own_step g me p from frame o in
    let two : Own g me (opened t).part = record { suspects_other = o.suspects_other; ascends = o.ascends; sent = sent_bound p.accepted t.part.modules one.sent } in
    entered_cases g me t (λ u. Own g me u.part) (λ e. one) (λ e.
    own_told g me (opened t) (in_module (length t.part.modules) (first_orders g me t.part)) (own_first g me t.part (length t.part.modules)) two)

own_turn : (g : Group) (me : ℕ) (p : Part) (x : Input Outer Frame) → me < g.members → Own g me p → Own g me (turn_after g me p x).part
own_turn g me p x member o = turn_cases g me p x (λ t. Own g me t.part) (record {
  idle = o;
  sends = λ text number e. own_issued g me p (Msg me number text) refl (msg_fits g.members me number text member) (sent_number g me p text number e) o;
  changes = λ kind number e.
      let r = changed_number g me p kind number e in
      own_issued g me p (Switch me number kind) refl (switch_fits g.members me number kind member r.1) r.0 o;
  suspects = λ who q e.
      let ne = (suspected_other g me p who e).1 in
      own_suspecting g me p (who ∷ without who p.suspects) (SuspectOrder who) nothing (λ z h. elim (tested (who == z)) [
        | inl k ↦ λ q. ne (eqb-true who z k ∙ q)
        | inr k ↦ o.suspects_other z (any_filter z who p.suspects (rw k at h))
      ]) o;
  trusts = λ who e. own_suspecting g me p (without who p.suspects) (TrustOrder who) nothing (λ z h. o.suspects_other z (any_filter z who p.suspects h)) o;
  crashes = λ q e. record { suspects_other = o.suspects_other; ascends = o.ascends; sent = o.sent };
  holds = λ from frame e h. record { suspects_other = o.suspects_other; ascends = o.ascends; sent = o.sent };
  takes = λ from frame e h. own_processed g me p from frame o;
  frees = λ h e f. own_processed g me (with_held p (without_ready (version p) p.held)) h.0 h.1 (record { suspects_other = o.suspects_other; ascends = o.ascends; sent = o.sent });
})

pub own_all : (g : Group) (me : ℕ) (xs : List (Input Outer Frame)) → me < g.members → Own g me (turn_of g me xs).part
own_all g me [] member = record {
  suspects_other = λ who e. absurd (let q : false ≡ true = e in cc);
  ascends = omega arith;
  sent = λ u y c. absurd (nothing y (let P : Inputs → Type 0 = λ xs. Contains (broadcasts xs) y in subst P (inputs_at-bound u []) c));
}
own_all g me (x ∷ xs) member = own_turn g me (turn_of g me xs).part x member (own_all g me xs member)

-- the suspected members are others
pub suspicions_fit : (g : Group) (me : ℕ) (p : Part) → Own g me p → (who : ℕ) → Contains (suspicions g p) who → (who < g.members) × (who ≢ me)
suspicions_fit g me p w who c =
    let r = contains_filter (λ x. is_suspected x p.suspects) (below g.members) who c in
    (contains_below g.members who r.0, w.suspects_other who r.1)

pub undelivered_ascends : (g : Group) (me : ℕ) (p : Part) → Own g me p → Ascends g.members me 0 (undelivered g me p) (length p.accepted)
undelivered_ascends g me p w = ascends-filter g.members me 0 _ (reverse p.accepted) (length p.accepted) w.ascends
