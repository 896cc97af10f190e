-- What a member received on a link is what its modules took, and then what it holds.
use Rattle.std.proofs.Common.{ℕ, ◌≡◌, ◌≢◌, ◌<◌, ◌≤◌, ◌==◌, ◌&&◌, inl, inr, Bool, true, false, List, [], ◌∷◌, ◌++◌, length, refl, sym, ◌∙◌, ap, arith, Some, None, append_assoc, append-nil}
use Rattle.std.specs.Prelude.{if◌then◌else◌, nat_le}
use Rattle.std.proofs.lemmas.Bool.{eqb-true, eq-eqb, and_parts}
use Rattle.fifo_net.specs.Net.{Input, Called, Took, taken, bodies_to}
use Rattle.order_trait.specs.Runs.{Order, Broadcast, Suspect as SuspectOrder, Trust as TrustOrder, Inputs}
use Rattle.upd_base.specs.declared.item.Item.TheVariants.{Msg, Switch}
use Rattle.upd_base.specs.declared.body.Body.{Body}
use Rattle.upd_base.specs.declared.frame.Frame.{Frame}
use Rattle.group_run.specs.Group.{Group, Outer, Releases}
use Rattle.group_run.specs.Part.{Part, with_accepted, with_suspects, with_held, stopped, without, version}
use Rattle.group_run.specs.Turn.{Turn, stepped, all_told, in_module, in_each, opened, processed, turn_after, turn_of, still, first_orders, framed}
use Rattle.group_run.specs.Version.{given, inputs_at}
use Rattle.group_run.specs.Held.{waits, is_early, first_ready, without_ready}
use Rattle.group_run.specs.Link.{bodies_of, held_from, processed_from}
use Rattle.group_run.proofs.Lists.{tested, eqb_self, eqb_other}
use Rattle.group_run.proofs.Modules.{inputs_at-given, inputs_at-given_same, inputs_at-given_other, inputs_at-bound}
use Rattle.group_run.proofs.Turns.{turn_cases, told_keeps, entered_cases, newest-below, early_false, ready-le, leb-false}
use Rattle.group_run.proofs.Inputs.{one_of}

-- the body of a frame, where it is of this link and version
abbrev pub new_body : ℕ → ℕ → ℕ → Frame → List Body
new_body i v from frame = if (from == i) && (frame.version == v) then frame.body ∷ [] else []

pub bodies_of-append : (v : ℕ) (xs ys : List Frame) → bodies_of v (xs ++ ys) ≡ bodies_of v xs ++ bodies_of v ys
bodies_of-append v [] ys = refl
bodies_of-append v (x ∷ xs) ys = elim (tested (x.version == v)) [
  | inl e ↦ rw e (ap (λ zs. x.body ∷ zs) (bodies_of-append v xs ys))
  | inr e ↦ rw e (bodies_of-append v xs ys)
]

-- the bodies that a module sends, as frames of its version and of another
pub framed-same : (v j : ℕ) (bs : List (ℕ × Body)) → bodies_of v (bodies_to j (framed v bs)) ≡ bodies_to j bs
framed-same v j [] = refl
framed-same v j (b ∷ bs) = elim (tested (b.0 == j)) [
  | inl e ↦ rw (e, eqb_self v) (ap (λ zs. b.1 ∷ zs) (framed-same v j bs))
  | inr e ↦ rw e (framed-same v j bs)
]

pub framed-other : (v w j : ℕ) (bs : List (ℕ × Body)) → w ≢ v → bodies_of v (bodies_to j (framed w bs)) ≡ []
framed-other v w j [] ne = refl
framed-other v w j (b ∷ bs) ne = elim (tested (b.0 == j)) [
  | inl e ↦ rw (e, eqb_other w v ne) (framed-other v w j bs ne)
  | inr e ↦ rw e (framed-other v w j bs ne)
]

-- one frame more was received
pub received : (i v from : ℕ) (frame : Frame) (xs : List (Input Outer Frame)) →
    bodies_of v (taken i (Took from frame ∷ xs)) ≡ bodies_of v (taken i xs) ++ new_body i v from frame
received i v from frame xs = elim (tested (from == i)) [
  | inl e ↦ rw (e) (bodies_of-append v (taken i xs) (frame ∷ []))
  | inr e ↦ rw e (sym (append-nil (bodies_of v (taken i xs))))
]

-- one frame more is held
held_more : (i v from : ℕ) (frame : Frame) (held : List (ℕ × Frame)) →
    held_from i v (held ++ (from, frame) ∷ []) ≡ held_from i v held ++ new_body i v from frame
held_more i v from frame [] = refl
held_more i v from frame (h ∷ held) = elim (tested ((h.0 == i) && (h.1.version == v))) [
  | inl e ↦ rw e (ap (λ ys. h.1.body ∷ ys) (held_more i v from frame held))
  | inr e ↦ rw e (held_more i v from frame held)
]

-- Where no frame of a link and version waits, none of them is held.
pub no_wait : (i v : ℕ) (held : List (ℕ × Frame)) → waits i v held ≡ false → held_from i v held ≡ []
no_wait i v [] h = refl
no_wait i v (x ∷ held) h = elim (tested ((x.0 == i) && (x.1.version == v))) [
  | inl e ↦ absurd (let p : true ≡ false = rw e at h in cc)
  | inr e ↦ let p : waits i v held ≡ false = rw e at h in rw e (no_wait i v held p)
]

-- a new body that no held one waits for may go before or behind those held
no_wait_swap : (i v from : ℕ) (frame : Frame) (held : List (ℕ × Frame)) → waits from frame.version held ≡ false →
    new_body i v from frame ++ held_from i v held ≡ held_from i v held ++ new_body i v from frame
no_wait_swap i v from frame held h = elim (tested ((from == i) && (frame.version == v))) [
  | inl e ↦
      let a : from ≡ i = eqb-true from i (and_parts (from == i) (frame.version == v) e).0 in
      let b : frame.version ≡ v = eqb-true frame.version v (and_parts (from == i) (frame.version == v) e).1 in
      let k : waits i v held ≡ false = rw (← a, ← b) h in
      rw (e, no_wait i v held k) refl
  | inr e ↦ rw e (sym (append-nil (held_from i v held)))
]

new_body-other_version : (i v from : ℕ) (frame : Frame) → frame.version ≢ v → new_body i v from frame ≡ []
new_body-other_version i v from frame ne = elim (tested (from == i)) [
  | inl e ↦ rw (e, eqb_other frame.version v ne) refl
  | inr e ↦ rw e refl
]

-- the frame that is released is the first held of its link and version
pub released_from : (i v w : ℕ) (held : List (ℕ × Frame)) (h : ℕ × Frame) → first_ready w held ≡ Some h →
    held_from i v held ≡ new_body i v h.0 h.1 ++ held_from i v (without_ready w held)
released_from i v w [] h e = absurd (let p : None ≡ Some h = e in cc)
released_from i v w (x ∷ held) h e = elim (tested (nat_le x.1.version w)) [
  | inl f ↦
      let p : Some x ≡ Some h = rw f at e in
      let q : x ≡ h = cc in
      rw (← q, f) (elim (tested ((x.0 == i) && (x.1.version == v))) [ inl k ↦ rw k refl | inr k ↦ rw k refl ])
  | inr f ↦
      let p : first_ready w held ≡ Some h = rw f at e in
      let ih = released_from i v w held h p in
      elim (tested ((x.0 == i) && (x.1.version == v))) [
        | inl k ↦
            let a : x.1.version ≡ v = eqb-true x.1.version v ((and_parts (x.0 == i) (x.1.version == v) k).1) in
            let b : h.1.version ≤ w = ready-le w held h p in
            let c : w < x.1.version = leb-false x.1.version w f in
            let ne : h.1.version ≢ v = λ s. let t : h.1.version ≡ v = s in omega arith in
            let none = new_body-other_version i v h.0 h.1 ne in
            let ih2 : held_from i v held ≡ held_from i v (without_ready w held) = rw none at ih in
            rw (k, none, f, k) (ap (λ ys. x.1.body ∷ ys) ih2)
        | inr k ↦ rw (k, f, k) ih
      ]
]

-- One more input of a module --------------------------------------------------------------------------------

taken-given_call : (i w v : ℕ) (order : Order) (ms : List Inputs) → taken i (inputs_at w (given v (Called order) ms)) ≡ taken i (inputs_at w ms)
taken-given_call i w v order ms = inputs_at-given (λ xs. taken i xs ≡ taken i (inputs_at w ms)) v w (Called order) ms (λ e lt. refl) refl

taken-given_body : (i w from : ℕ) (frame : Frame) (ms : List Inputs) → frame.version < length ms →
    taken i (inputs_at w (given frame.version (Took from frame.body) ms)) ≡ taken i (inputs_at w ms) ++ new_body i w from frame
taken-given_body i w from frame ms h = elim (tested (frame.version == w)) [
  | inl e ↦
      let is : frame.version ≡ w = eqb-true frame.version w e in
      let lt : w < length ms = rw (← is) h in
      let s : inputs_at w (given frame.version (Took from frame.body) ms) ≡ Took from frame.body ∷ inputs_at w ms =
      rw is (inputs_at-given_same w (Took from frame.body) ms lt) in
      rw s (elim (tested (from == i)) [ inl f ↦ rw (f, e) refl | inr f ↦ rw f (sym (append-nil (taken i (inputs_at w ms)))) ])
  | inr e ↦
      let ne : frame.version ≢ w = λ p. let q = eq-eqb frame.version w p in cc in
      let ne2 : w ≢ frame.version = λ p. ne (sym p) in
      rw (inputs_at-given_other frame.version w (Took from frame.body) ms ne2, new_body-other_version i w from frame ne)
      (sym (append-nil (taken i (inputs_at w ms))))
]

-- Inputs and a part ------------------------------------------------------------------------------------------

abbrev pub InOrder : List (Input Outer Frame) → Part → Type 0
InOrder xs p = (i v : ℕ) → bodies_of v (taken i xs) ≡ processed_from i v p ++ held_from i v p.held

-- the second part has taken and holds what the first did
pub record SameTaken (p q : Part) : Type 0 where
  pub taken_same : (i w : ℕ) → taken i (inputs_at w q.modules) ≡ taken i (inputs_at w p.modules)
  pub held_same : q.held ≡ p.held

same_told : (g : Group) (me : ℕ) (p : Part) (t : Turn) (os : List (ℕ × Order)) → SameTaken p t.part → SameTaken p (all_told g me t os).part
same_told g me p t os s = told_keeps g me (λ u. SameTaken p u.part)
    (λ u o k. record { taken_same = λ i w. taken-given_call i w o.0 o.1 u.part.modules ∙ k.taken_same i w; held_same = k.held_same }) t os s

still_taken : (p q : Part) → q.modules ≡ p.modules → q.held ≡ p.held → SameTaken p q
still_taken p q m h = record { taken_same = λ i w. ap (λ ms. taken i (inputs_at w ms)) m; held_same = h }

-- a part that took nothing more
same_order : (xs ys : List (Input Outer Frame)) (p q : Part) → ((i : ℕ) → taken i ys ≡ taken i xs) → SameTaken p q → InOrder xs p → InOrder ys q
same_order xs ys p q e s k i v =
    ap (bodies_of v) (e i) ∙ k i v ∙ ap (λ bs. bs ++ held_from i v p.held) (sym (s.taken_same i v))
    ∙ ap (λ hs. processed_from i v q ++ held_from i v hs) (sym s.held_same)

-- one frame is processed
pub record Processed (p q : Part) (from : ℕ) (frame : Frame) : Type 0 where
  pub body : (i v : ℕ) → processed_from i v q ≡ processed_from i v p ++ new_body i v from frame
  pub held_same : q.held ≡ p.held

processed_one : (g : Group) (me : ℕ) (p : Part) (from : ℕ) (frame : Frame) → frame.version < length p.modules → Processed p (processed g me p from frame).part from frame
processed_one g me p from frame h =
    let t : Turn = stepped g me (still p) (record { version = frame.version; input = Took from frame.body }) in
    let s : SameTaken t.part (processed g me p from frame).part =
    entered_cases g me t (λ u. SameTaken t.part u.part) (λ e. still_taken t.part t.part refl refl)
    (λ e. same_told g me t.part (opened t) (in_module (length t.part.modules) (first_orders g me t.part))
    (record { taken_same = λ i w. ap (taken i) (inputs_at-bound w t.part.modules); held_same = refl })) in
    record { body = λ i v. s.taken_same i v ∙ taken-given_body i v from frame p.modules h; held_same = s.held_same }

order_processed : (xs : List (Input Outer Frame)) (p q : Part) (from : ℕ) (frame : Frame) → Processed p q from frame → waits from frame.version p.held ≡ false →
    InOrder xs p → InOrder (Took from frame ∷ xs) q
order_processed xs p q from frame s w k i v =
    received i v from frame xs
    ∙ ap (λ ys. ys ++ new_body i v from frame) (k i v)
    ∙ append_assoc (processed_from i v p) (held_from i v p.held) (new_body i v from frame)
    ∙ ap (λ ys. processed_from i v p ++ ys) (sym (no_wait_swap i v from frame p.held w))
    ∙ sym (append_assoc (processed_from i v p) (new_body i v from frame) (held_from i v p.held))
    ∙ ap (λ ys. ys ++ held_from i v p.held) (sym (s.body i v))
    ∙ ap (λ hs. processed_from i v q ++ held_from i v hs) (sym s.held_same)

order_held : (xs : List (Input Outer Frame)) (p : Part) (from : ℕ) (frame : Frame) → InOrder xs p → InOrder (Took from frame ∷ xs) (with_held p (p.held ++ (from, frame) ∷ []))
order_held xs p from frame k i v =
    received i v from frame xs
    ∙ ap (λ ys. ys ++ new_body i v from frame) (k i v)
    ∙ append_assoc (processed_from i v p) (held_from i v p.held) (new_body i v from frame)
    ∙ ap (λ ys. processed_from i v p ++ ys) (sym (held_more i v from frame p.held))

order_freed : (xs : List (Input Outer Frame)) (p q : Part) (h : ℕ × Frame) → first_ready (version p) p.held ≡ Some h →
    Processed (with_held p (without_ready (version p) p.held)) q h.0 h.1 → InOrder xs p → InOrder (Called Releases ∷ xs) q
order_freed xs p q h e s k i v =
    let later : List (ℕ × Frame) = without_ready (version p) p.held in
    k i v
    ∙ ap (λ ys. processed_from i v p ++ ys) (released_from i v (version p) p.held h e)
    ∙ sym (append_assoc (processed_from i v p) (new_body i v h.0 h.1) (held_from i v later))
    ∙ ap (λ ys. ys ++ held_from i v later) (sym (s.body i v))
    ∙ ap (λ hs. processed_from i v q ++ held_from i v hs) (sym s.held_same)

-- a turn in which nothing is taken, by the input
untaken : (g : Group) (me : ℕ) (xs : List (Input Outer Frame)) (p : Part) (call : Outer) (q : Part) → SameTaken p q → InOrder xs p → InOrder (Called call ∷ xs) q
untaken g me xs p call q s k = same_order xs (Called call ∷ xs) p q (λ i. refl) s k

order_turn : (g : Group) (me : ℕ) (xs : List (Input Outer Frame)) (p : Part) (x : Input Outer Frame) → 1 ≤ length p.modules → InOrder xs p → InOrder (x ∷ xs) (turn_after g me p x).part
order_turn g me xs p (Called call) one k =
    let go = λ (q : Part) (s : SameTaken p q). untaken g me xs p call q s k in
    let lt = newest-below p.modules one in
    turn_cases g me p (Called call) (λ t. InOrder (Called call ∷ xs) t.part) (record {
      idle = go p (still_taken p p refl refl);
      sends = λ text number e. let q = with_accepted p (Msg me number text) in go _ (same_told g me p (still q) (in_module (version p) (Broadcast (Msg me number text) ∷ [])) (still_taken p q refl refl));
      changes = λ kind number e. let q = with_accepted p (Switch me number kind) in go _ (same_told g me p (still q) (in_module (version p) (Broadcast (Switch me number kind) ∷ [])) (still_taken p q refl refl));
      suspects = λ who z e. let q = with_suspects p (who ∷ without who p.suspects) in go _ (same_told g me p (still q) (in_each p (SuspectOrder who)) (still_taken p q refl refl));
      trusts = λ who e. let q = with_suspects p (without who p.suspects) in go _ (same_told g me p (still q) (in_each p (TrustOrder who)) (still_taken p q refl refl));
      crashes = λ q e. go (stopped p) (still_taken p (stopped p) refl refl);
      holds = λ from frame e h. let q : Called call ≡ Took from frame = e in cc;
      takes = λ from frame e h. let q : Called call ≡ Took from frame = e in cc;
      frees = λ h e f.
          let le = ready-le (version p) p.held h f in
          order_freed xs p _ h f (processed_one g me (with_held p (without_ready (version p) p.held)) h.0 h.1 (omega arith)) k;
    })
order_turn g me xs p (Took from frame) one k = go (is_early p from frame) refl
  where
    go : (b : Bool) → is_early p from frame ≡ b → InOrder (Took from frame ∷ xs) (if b then still (with_held p (p.held ++ (from, frame) ∷ [])) else processed g me p from frame).part
    go true e = order_held xs p from frame k
    go false e =
        let f = early_false p from frame e in
        let le = f.0 in
        let lt = newest-below p.modules one in
        order_processed xs p (processed g me p from frame).part from frame (processed_one g me p from frame (omega arith)) f.1 k

-- For every list of inputs that a member may have.
pub in_order : (g : Group) (me : ℕ) (xs : List (Input Outer Frame)) → InOrder xs (turn_of g me xs).part
in_order g me [] = λ i v. ap (λ ms. taken i ms ++ []) (sym (inputs_at-bound v []))
in_order g me (x ∷ xs) = order_turn g me xs (turn_of g me xs).part x (one_of g me xs) (in_order g me xs)
