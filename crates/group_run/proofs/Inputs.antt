-- What a turn gives to the modules of its member, and that these are the steps that it makes.
use Rattle.std.proofs.Common.{ℕ, zero, suc, ◌≡◌, ◌<◌, ◌≤◌, ◌==◌, inl, inr, List, [], ◌∷◌, ◌++◌, length, refl, sym, ◌∙◌, ap, subst, arith, ◌≢◌, map}
use Rattle.std.specs.Prelude.{Contains}
use Rattle.std.proofs.lemmas.List.Elements.{Contains-append_cases}
use Rattle.fifo_net.specs.Net.{Input, Called, Took, Step, inputs_of}
use Rattle.fifo_net.proofs.Links.{inputs_here, inputs_away}
use Rattle.order_trait.specs.Runs.{Order, Broadcast, Suspect as SuspectOrder, Trust as TrustOrder, Inputs}
use Rattle.upd_base.specs.declared.item.Item.TheVariants.{Msg, Switch}
use Rattle.upd_base.specs.declared.frame.Frame.{Frame}
use Rattle.group_run.specs.Group.{Group, Outer}
use Rattle.group_run.specs.Part.{Part, below, with_accepted, with_suspects, with_held, stopped, without, version}
use Rattle.group_run.specs.Turn.{Turn, ModuleStep, still, stepped, order_step, all_told, in_module, in_each, opened, processed, first_orders, turn_after, turn_of}
use Rattle.group_run.specs.Version.{inputs_at, given}
use Rattle.group_run.specs.Held.{without_ready}
use Rattle.group_run.specs.Run.{Moves, turn_at}
use Rattle.group_run.specs.Projection.{steps_in, steps_made}
use Rattle.group_run.proofs.Lists.{tested, eqb_self, eqb_other, same_or}
use Rattle.group_run.proofs.Modules.{length-given, inputs_at-given_same, inputs_at-given_other, inputs_at-bound}
use Rattle.group_run.proofs.Turns.{turn_cases, entered_cases, newest-below, early_false, ready-le}

-- The inputs of a member's modules are those of its steps ------------------------------------------------------------

-- Of a turn from a part with at least one module: it has as many or more, and its steps are what the modules got.
pub record Tracks (me : ℕ) (ms : List Inputs) (t : Turn) : Type 0 where
  pub more : length ms ≤ length t.part.modules
  pub inputs : (v : ℕ) → inputs_at v t.part.modules ≡ inputs_of me (steps_in v me t.steps) ++ inputs_at v ms

-- one step in a module that was reached
tracks_step : (g : Group) (me : ℕ) (ms : List Inputs) (t : Turn) (s : ModuleStep) → s.version < length t.part.modules → Tracks me ms t → Tracks me ms (stepped g me t s)
tracks_step g me ms t s lt k = record {
  more = let e = length-given s.version s.input t.part.modules in let m = k.more in omega arith;
  inputs = λ v. elim (same_or v s.version) [
    | inl e ↦
        let P : ℕ → Type 0 = λ u. inputs_at u (given s.version s.input t.part.modules) ≡ inputs_of me (steps_in u me (s ∷ t.steps)) ++ inputs_at u ms in
        let now : inputs_of me (steps_in s.version me (s ∷ t.steps)) ≡ s.input ∷ inputs_of me (steps_in s.version me t.steps) = rw (eqb_self s.version, eqb_self me) refl in
        subst P (sym e) (inputs_at-given_same s.version s.input t.part.modules lt ∙ ap (λ xs. s.input ∷ xs) (k.inputs s.version) ∙ sym (ap (λ xs. xs ++ inputs_at s.version ms) now))
    | inr ne ↦
        let ne2 : s.version ≡ v → ⊥ = λ q. ne (sym q) in
        let now : steps_in v me (s ∷ t.steps) ≡ steps_in v me t.steps = rw (eqb_other s.version v ne2) refl in
        inputs_at-given_other s.version v s.input t.part.modules ne ∙ k.inputs v ∙ sym (ap (λ ss. inputs_of me ss ++ inputs_at v ms) now)
  ];
}

-- all orders go to modules that were reached
abbrev pub AllReached : ℕ → List (ℕ × Order) → Type 0
AllReached n [] = Unit {0}
AllReached n (o ∷ os) = (o.0 < n) × AllReached n os

reached_more : (n m : ℕ) (os : List (ℕ × Order)) → n ≤ m → AllReached n os → AllReached m os
reached_more n m [] l r = tt
reached_more n m (o ∷ os) l r = ((let h = r.0 in omega arith), reached_more n m os l r.1)

reached_module : (n v : ℕ) (orders : List Order) → v < n → AllReached n (in_module v orders)
reached_module n v [] l = tt
reached_module n v (o ∷ orders) l = (l, reached_module n v orders l)

reached_all : (n : ℕ) (order : Order) (vs : List ℕ) → ((v : ℕ) → Contains vs v → v < n) → AllReached n (map (λ v. (v, order)) vs)
reached_all n order [] h = tt
reached_all n order (v ∷ vs) h = (h v (0, omega arith, refl), reached_all n order vs (λ u c. h u (suc c.0, (let l = c.1 in omega arith), c.2)))

pub contains_below : (n who : ℕ) → Contains (below n) who → who < n
contains_below zero who c = let l = c.1 in absurd (omega arith)
contains_below (suc n) who c = elim (Contains-append_cases (below n) (n ∷ []) who c) [
  | inl d ↦ let l = contains_below n who d in omega arith
  | inr d ↦ last d
]
  where
    last : Contains (n ∷ []) who → who < suc n
    last (zero, lt, q) = let e : n ≡ who = q in omega arith
    last (suc k, lt, q) = absurd (omega arith)

reached_each : (p : Part) (order : Order) → AllReached (length p.modules) (in_each p order)
reached_each p order = reached_all (length p.modules) order (below (length p.modules)) (contains_below (length p.modules))

tracks_told : (g : Group) (me : ℕ) (ms : List Inputs) (t : Turn) (os : List (ℕ × Order)) → AllReached (length t.part.modules) os → Tracks me ms t → Tracks me ms (all_told g me t os)
tracks_told g me ms t [] r k = k
tracks_told g me ms t (o ∷ os) r k =
    let e = length-given o.0 (Called o.1) t.part.modules in
    tracks_told g me ms (stepped g me t (order_step o)) os
    (reached_more (length t.part.modules) (length (given o.0 (Called o.1) t.part.modules)) os (omega arith) r.1)
    (tracks_step g me ms t (order_step o) r.0 k)

tracks_still : (me : ℕ) (p : Part) → Tracks me p.modules (still p)
tracks_still me p = record { more = omega arith; inputs = λ v. refl }

tracks_processed : (g : Group) (me : ℕ) (p : Part) (from : ℕ) (frame : Frame) → frame.version < length p.modules → Tracks me p.modules (processed g me p from frame)
tracks_processed g me p from frame lt =
    let s : ModuleStep = record { version = frame.version; input = Took from frame.body } in
    let t : Turn = stepped g me (still p) s in
    let one : Tracks me p.modules t = tracks_step g me p.modules (still p) s lt (tracks_still me p) in
    let two : Tracks me p.modules (opened t) = record {
      more = let m = one.more in omega arith;
      inputs = λ v. inputs_at-bound v t.part.modules ∙ one.inputs v;
    } in
    entered_cases g me t (Tracks me p.modules) (λ e. one) (λ e.
    tracks_told g me p.modules (opened t) (in_module (length t.part.modules) (first_orders g me t.part))
    (reached_module (length (opened t).part.modules) (length t.part.modules) (first_orders g me t.part) (omega arith)) two)

tracks_turn : (g : Group) (me : ℕ) (p : Part) (x : Input Outer Frame) → 1 ≤ length p.modules → Tracks me p.modules (turn_after g me p x)
tracks_turn g me p x one =
    let lt = newest-below p.modules one in
    turn_cases g me p x (Tracks me p.modules) (record {
      idle = tracks_still me p;
      sends = λ text number e. tracks_told g me p.modules (still (with_accepted p (Msg me number text))) (in_module (version p) (Broadcast (Msg me number text) ∷ [])) (lt, tt) (tracks_still me (with_accepted p (Msg me number text)));
      changes = λ kind number e. tracks_told g me p.modules (still (with_accepted p (Switch me number kind))) (in_module (version p) (Broadcast (Switch me number kind) ∷ [])) (lt, tt) (tracks_still me (with_accepted p (Switch me number kind)));
      suspects = λ who q e. tracks_told g me p.modules (still (with_suspects p (who ∷ without who p.suspects))) (in_each p (SuspectOrder who)) (reached_each p (SuspectOrder who)) (tracks_still me (with_suspects p (who ∷ without who p.suspects)));
      trusts = λ who e. tracks_told g me p.modules (still (with_suspects p (without who p.suspects))) (in_each p (TrustOrder who)) (reached_each p (TrustOrder who)) (tracks_still me (with_suspects p (without who p.suspects)));
      crashes = λ q e. tracks_still me (stopped p);
      holds = λ from frame e h. tracks_still me (with_held p (p.held ++ (from, frame) ∷ []));
      takes = λ from frame e h. let l = (early_false p from frame h).0 in tracks_processed g me p from frame (omega arith);
      frees = λ h e f. let l = ready-le (version p) p.held h f in tracks_processed g me (with_held p (without_ready (version p) p.held)) h.0 h.1 (omega arith);
    })

pub one_of : (g : Group) (me : ℕ) (xs : List (Input Outer Frame)) → 1 ≤ length (turn_of g me xs).part.modules
one_of g me [] = omega arith
one_of g me (x ∷ xs) =
    let o = one_of g me xs in
    let m = (tracks_turn g me (turn_of g me xs).part x o).more in
    omega arith

-- Moves --------------------------------------------------------------------------------------------------------------

pub turn_here : (g : Group) (s : Step Outer Frame) (ms : Moves) → turn_at g (s ∷ ms) s.at ≡ turn_after g s.at (turn_at g ms s.at).part s.input
turn_here g s ms = ap (turn_of g s.at) (inputs_here s.at s ms refl)

pub turn_away : (g : Group) (s : Step Outer Frame) (ms : Moves) (i : ℕ) → i ≢ s.at → turn_at g (s ∷ ms) i ≡ turn_at g ms i
turn_away g s ms i ne = ap (turn_of g i) (inputs_away i s ms (λ q. ne (sym q)))

inputs_of-append : {X B : Type 0} (i : ℕ) (xs ys : List (Step X B)) → inputs_of i (xs ++ ys) ≡ inputs_of i xs ++ inputs_of i ys
inputs_of-append i [] ys = refl
inputs_of-append i (x ∷ xs) ys = elim (tested (x.at == i)) [
  | inl e ↦ rw e (ap (λ l. x.input ∷ l) (inputs_of-append i xs ys))
  | inr e ↦ rw e (inputs_of-append i xs ys)
]

inputs_of-other : (i v at : ℕ) (ss : List ModuleStep) → i ≢ at → inputs_of i (steps_in v at ss) ≡ []
inputs_of-other i v at [] ne = refl
inputs_of-other i v at (s ∷ ss) ne = elim (tested (s.version == v)) [
  | inl e ↦ rw (e, eqb_other at i (λ q. ne (sym q))) (inputs_of-other i v at ss ne)
  | inr e ↦ rw e (inputs_of-other i v at ss ne)
]

-- For every list of moves and whatever the kinds do.
pub inputs_are : (g : Group) (ms : Moves) (i v : ℕ) → inputs_of i (steps_made g v ms) ≡ inputs_at v (turn_at g ms i).part.modules
inputs_are g [] i v = sym (inputs_at-bound v [])
inputs_are g (s ∷ ms) i v =
    let t : Turn = turn_at g (s ∷ ms) s.at in
    let parts = inputs_of-append i (steps_in v s.at t.steps) (steps_made g v ms) in
    elim (same_or i s.at) [
      | inl e ↦
          let P : ℕ → Type 0 = λ k. inputs_of k (steps_made g v ms) ≡ inputs_at v (turn_at g ms k).part.modules → inputs_of k (steps_in v s.at t.steps ++ steps_made g v ms) ≡ inputs_at v (turn_at g (s ∷ ms) k).part.modules in
          let p : Part = (turn_at g ms s.at).part in
          let k = tracks_turn g s.at p s.input (one_of g s.at (inputs_of s.at ms)) in
          subst P (sym e) (λ old.
          inputs_of-append s.at (steps_in v s.at t.steps) (steps_made g v ms)
          ∙ ap (λ xs. inputs_of s.at (steps_in v s.at t.steps) ++ xs) old
          ∙ ap (λ u. inputs_of s.at (steps_in v s.at u.steps) ++ inputs_at v p.modules) (turn_here g s ms)
          ∙ sym (k.inputs v)
          ∙ sym (ap (λ u. inputs_at v u.part.modules) (turn_here g s ms))) (inputs_are g ms i v)
      | inr ne ↦
          parts ∙ ap (λ xs. xs ++ inputs_of i (steps_made g v ms)) (inputs_of-other i v s.at t.steps ne)
          ∙ inputs_are g ms i v ∙ sym (ap (λ u. inputs_at v u.part.modules) (turn_away g s ms i ne))
    ]
