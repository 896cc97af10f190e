-- A member's version is at most the highest, and in that one it broadcasts no switch: for every list of inputs, and
-- whatever the kinds do.
use Rattle.std.proofs.Common.{ℕ, suc, ◌≡◌, ◌<◌, ◌≤◌, ◌==◌, ◌&&◌, inl, inr, Bool, true, false, cond, List, [], ◌∷◌, ◌++◌, length, refl, subst, arith, map, Option, Some, None, reverse}
use Rattle.std.specs.Prelude.{Contains, not, is_some}
use Rattle.std.proofs.lemmas.Bool.{eq-eqb, and_parts}
use Rattle.std.proofs.lemmas.List.Elements.{Contains-append_cases}
use Rattle.fifo_net.specs.Net.{Input, Called, Took}
use Rattle.order_trait.specs.Runs.{Order, Broadcast, Suspect as SuspectOrder, Trust as TrustOrder, Inputs, broadcast_at}
use Rattle.order_trait.proofs.Broadcasts.{broadcasts}
use Rattle.upd_base.specs.Item.{is_message}
use Rattle.upd_base.specs.Kind.{kind_fits}
use Rattle.upd_base.specs.declared.kind.Kind.{Kind}
use Rattle.upd_base.specs.declared.item.Item.{Item}
use Rattle.upd_base.specs.declared.item.Item.TheVariants.{Msg, Switch}
use Rattle.upd_base.specs.declared.body.Body.{Body}
use Rattle.upd_base.specs.declared.frame.Frame.{Frame}
use Rattle.upd_base.specs.declared.call.Call.TheVariants.{Change}
use Rattle.upd_base.specs.declared.answer.Answer.TheVariants.{Accepted, Crashed, VersionLimit, BadKind}
use Rattle.upd_base.specs.declared.limits.TheConstants.{MAX_VERSION}
use Rattle.group_run.specs.Group.{Group, Outer}
use Rattle.group_run.specs.Version.{has_ended, kind_above, segment_above, next_kind, inputs_at, given}
use Rattle.group_run.specs.Part.{Part, version, undelivered, suspicions, is_logged, log, below, without, with_accepted, with_suspects, with_held}
use Rattle.group_run.specs.Held.{without_ready}
use Rattle.group_run.specs.Answer.{answer}
use Rattle.group_run.specs.Turn.{Turn, still, stepped, order_step, all_told, in_module, in_each, opened, processed, first_orders, turn_after, turn_of}
use Rattle.group_run.proofs.Lists.{nothing, only, contains_filter}
use Rattle.group_run.proofs.Modules.{length-given, inputs_at-given, inputs_at-bound}
use Rattle.group_run.proofs.Turns.{turn_cases, entered_cases, newest-below}
use Rattle.group_run.proofs.Inputs.{one_of}
use Rattle.group_versions.proofs.Versions.{next_kind-found, ends_below}

-- what an input of a version broadcasts is a message, or the version can be left
abbrev InputBelow : ℕ → Input Order Body → Type 0
InputBelow v x = (y : Item) → Contains (broadcast_at x) y → is_message y ≡ false → v < MAX_VERSION

abbrev AllBelow : List (ℕ × Order) → Type 0
AllBelow [] = Unit {0}
AllBelow (o ∷ os) = InputBelow o.0 (Called o.1) × AllBelow os

-- no more versions than there may be, and no switch broadcast in the highest
pub record Limited (ms : List Inputs) : Type 0 where
  pub few : length ms ≤ suc MAX_VERSION
  pub below : (v : ℕ) (y : Item) → Contains (broadcasts (inputs_at v ms)) y → is_message y ≡ false → v < MAX_VERSION

limited_given : (w : ℕ) (x : Input Order Body) (ms : List Inputs) → InputBelow w x → Limited ms → Limited (given w x ms)
limited_given w x ms h l = record {
  few = let f = l.few in let e = length-given w x ms in omega arith;
  below = λ v y. inputs_at-given (λ xs. Contains (broadcasts xs) y → is_message y ≡ false → v < MAX_VERSION) w v x ms
      (λ e lt c m. elim (Contains-append_cases (broadcasts (inputs_at v ms)) (broadcast_at x) y c) [
        | inl d ↦ l.below v y d m
        | inr d ↦ let k = h y d m in omega arith
      ])
      (l.below v y);
}

limited_told : (g : Group) (me : ℕ) (t : Turn) (os : List (ℕ × Order)) → AllBelow os → Limited t.part.modules → Limited (all_told g me t os).part.modules
limited_told g me t [] h l = l
limited_told g me t (o ∷ os) h l =
    limited_told g me (stepped g me t (order_step o)) os h.1 (limited_given o.0 (Called o.1) t.part.modules h.0 l)

-- an item is a message, and the fresh module is told of messages alone
one_message : (v : ℕ) (x : Item) → is_message x ≡ true → InputBelow v (Called (Broadcast x))
one_message v x h y c m = only (λ z. is_message z ≡ false → v < MAX_VERSION) x y (λ q. let e : true ≡ false = sym_of x h q in absurd (cc)) c m
  where
    sym_of : (z : Item) → is_message z ≡ true → is_message z ≡ false → true ≡ false
    sym_of z a b = cc

below_items : (v : ℕ) (xs : List Item) → ((y : Item) → Contains xs y → is_message y ≡ true) → AllBelow (in_module v (map (λ item. Broadcast item) xs))
below_items v [] h = tt
below_items v (x ∷ xs) h = (one_message v x (h x (0, omega arith, refl)), below_items v xs (λ y c. h y (suc c.0, (let l = c.1 in omega arith), c.2)))

below_first : (v : ℕ) (whos : List ℕ) (xs : List Item) → ((y : Item) → Contains xs y → is_message y ≡ true) → AllBelow (in_module v (map (λ who. SuspectOrder who) whos ++ map (λ item. Broadcast item) xs))
below_first v [] xs h = below_items v xs h
below_first v (w ∷ whos) xs h = ((λ y c m. absurd (nothing y c)), below_first v whos xs h)

below_each : (order : Order) (vs : List ℕ) → ((y : Item) → Contains (broadcast_at (Called order)) y → ⊥) → AllBelow (map (λ v. (v, order)) vs)
below_each order [] h = tt
below_each order (v ∷ vs) h = ((λ y c m. absurd (h y c)), below_each order vs h)

-- where the newest version has ended there may be one more
limited_bound : (g : Group) (me : ℕ) (ms : List Inputs) → has_ended g me ms ≡ true → Limited ms → Limited ([] ∷ ms)
limited_bound g me [] h l = absurd (let e : false ≡ true = h in cc)
limited_bound g me (m ∷ older) h l = record {
  few = by_some (next_kind (segment_above g me older m)) refl h;
  below = λ v y c. l.below v y (subst (λ xs. Contains (broadcasts xs) y) (inputs_at-bound v (m ∷ older)) c);
}
  where
    by_some : (o : Option Kind) → next_kind (segment_above g me older m) ≡ o → is_some o ≡ true → suc (suc (length older)) ≤ suc MAX_VERSION
    by_some None e s = absurd (let q : false ≡ true = s in cc)
    by_some (Some k) e s =
        let f = next_kind-found g (length older) (g.rules.delivers (kind_above g me older) g.members me m) k e in
        let lt = ends_below g (length older) k f.3 in
        omega arith

limited_processed : (g : Group) (me : ℕ) (p : Part) (from : ℕ) (frame : Frame) → Limited p.modules → Limited (processed g me p from frame).part.modules
limited_processed g me p from frame l =
    let t : Turn = stepped g me (still p) (record { version = frame.version; input = Took from frame.body }) in
    let one : Limited t.part.modules = limited_given frame.version (Took from frame.body) p.modules (λ y c m. absurd (nothing y c)) l in
    entered_cases g me t (λ u. Limited u.part.modules) (λ e. one) (λ e.
    limited_told g me (opened t) (in_module (length t.part.modules) (first_orders g me t.part))
    (below_first (length t.part.modules) (suspicions g t.part) (undelivered g me t.part) (λ y c.
    (and_parts (is_message y) (not (is_logged y (log g me t.part))) (contains_filter (λ item. is_message item && not (is_logged item (log g me t.part))) (reverse t.part.accepted) y c).1).0))
    (limited_bound g me t.part.modules e one))

-- a change isn't accepted at the highest version
changed_below : (g : Group) (me : ℕ) (p : Part) (kind : Kind) (number : ℕ) → answer g me p (Change kind) ≡ Accepted number → (version p == MAX_VERSION) ≡ false
changed_below g me p kind number e = go p.crashed (kind_fits g.members kind) (version p == MAX_VERSION) e
  where
    go : (a b c : Bool) → cond a Crashed (cond b (cond c VersionLimit (Accepted (length p.accepted))) BadKind) ≡ Accepted number → c ≡ false
    go true b c f = absurd (let q : Crashed ≡ Accepted number = f in cc)
    go false false c f = absurd (let q : BadKind ≡ Accepted number = f in cc)
    go false true true f = absurd (let q : VersionLimit ≡ Accepted number = f in cc)
    go false true false f = refl

limited_turn : (g : Group) (me : ℕ) (p : Part) (x : Input Outer Frame) → 1 ≤ length p.modules → Limited p.modules → Limited (turn_after g me p x).part.modules
limited_turn g me p x some l =
    let lt = newest-below p.modules some in
    let few = l.few in
    turn_cases g me p x (λ t. Limited t.part.modules) (record {
      idle = l;
      sends = λ text number e. limited_told g me (still (with_accepted p (Msg me number text))) (in_module (version p) (Broadcast (Msg me number text) ∷ []))
          (one_message (version p) (Msg me number text) refl, tt) l;
      changes = λ kind number e.
          let other = changed_below g me p kind number e in
          let ne : version p ≡ MAX_VERSION → ⊥ = λ q. let a = eq-eqb (version p) MAX_VERSION q in let b : true ≡ false = not_both (version p == MAX_VERSION) a other in absurd (cc) in
          limited_told g me (still (with_accepted p (Switch me number kind))) (in_module (version p) (Broadcast (Switch me number kind) ∷ [])) ((λ y c m. omega arith), tt) l;
      suspects = λ who q e. limited_told g me (still (with_suspects p (who ∷ without who p.suspects))) (in_each p (SuspectOrder who)) (below_each (SuspectOrder who) (below (length p.modules)) nothing) l;
      trusts = λ who e. limited_told g me (still (with_suspects p (without who p.suspects))) (in_each p (TrustOrder who)) (below_each (TrustOrder who) (below (length p.modules)) nothing) l;
      crashes = λ q e. l;
      holds = λ from frame e h. l;
      takes = λ from frame e h. limited_processed g me p from frame l;
      frees = λ h e f. limited_processed g me (with_held p (without_ready (version p) p.held)) h.0 h.1 l;
    })
  where
    not_both : (b : Bool) → b ≡ true → b ≡ false → true ≡ false
    not_both b p q = cc

pub limited_all : (g : Group) (me : ℕ) (xs : List (Input Outer Frame)) → Limited (turn_of g me xs).part.modules
limited_all g me [] = record {
  few = omega arith;
  below = λ v y c. absurd (nothing y (subst (λ xs. Contains (broadcasts xs) y) (inputs_at-bound v []) c));
}
limited_all g me (x ∷ xs) = limited_turn g me (turn_of g me xs).part x (one_of g me xs) (limited_all g me xs)
