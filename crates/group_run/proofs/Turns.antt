-- A turn by its cases, and what any turn does to the lists of its member.
use Rattle.std.proofs.Common.{ℕ, ◌≡◌, ◌<◌, ◌≤◌, inl, inr, Bool, true, false, List, [], ◌∷◌, ◌++◌, length, refl, subst, arith, cond, Option, Some, None}
use Rattle.std.specs.Prelude.{if◌then◌else◌, nat_lt, nat_le}
use Rattle.std.proofs.lemmas.Bool.Decides.{nat_tests}
use Rattle.fifo_net.specs.Net.{Input, Called, Took}
use Rattle.order_trait.specs.Runs.{Order, Suspect as SuspectOrder, Trust as TrustOrder, Inputs}
use Rattle.upd_base.specs.declared.kind.Kind.{Kind}
use Rattle.upd_base.specs.declared.item.Item.TheVariants.{Msg, Switch}
use Rattle.upd_base.specs.declared.frame.Frame.{Frame}
use Rattle.upd_base.specs.declared.call.Call.{Call}
use Rattle.upd_base.specs.declared.call.Call.TheVariants.{Send, Change, Suspect, Trust, Crash}
use Rattle.upd_base.specs.declared.answer.Answer.{Answer}
use Rattle.upd_base.specs.declared.answer.Answer.TheVariants.{Accepted, Done}
use Rattle.group_run.specs.Group.{Group, Outer, Makes, Releases}
use Rattle.group_run.specs.Part.{Part, with_held, stopped, without, version}
use Rattle.group_run.specs.Turn.{Turn, still, stepped, order_step, all_told, in_module, opened, entered, processed, issued, told, called, released, first_orders, turn_after}
use Rattle.group_run.specs.Version.{has_ended, newest}
use Rattle.group_run.specs.Held.{first_ready, without_ready, waits, is_early}
use Rattle.group_run.specs.Answer.{answer}
use Rattle.group_run.proofs.Lists.{tested}

-- What has to be shown of a turn, by the cases of its input.
pub record TurnCases (g : Group) (me : ℕ) (p : Part) (x : Input Outer Frame) (P : Turn → Type 0) : Type 0 where
  pub idle : P (still p)
  pub sends : (text : List ℕ) (number : ℕ) → answer g me p (Send text) ≡ Accepted number → P (issued g me p (Msg me number text))
  pub changes : (kind : Kind) (number : ℕ) → answer g me p (Change kind) ≡ Accepted number → P (issued g me p (Switch me number kind))
  pub suspects : (who : ℕ) → x ≡ Called (Makes (Suspect who)) → answer g me p (Suspect who) ≡ Done → P (told g me p (who ∷ without who p.suspects) (SuspectOrder who))
  pub trusts : (who : ℕ) → answer g me p (Trust who) ≡ Done → P (told g me p (without who p.suspects) (TrustOrder who))
  pub crashes : x ≡ Called (Makes Crash) → answer g me p Crash ≡ Done → P (still (stopped p))
  pub holds : (from : ℕ) (frame : Frame) → x ≡ Took from frame → is_early p from frame ≡ true → P (still (with_held p (p.held ++ (from, frame) ∷ [])))
  pub takes : (from : ℕ) (frame : Frame) → x ≡ Took from frame → is_early p from frame ≡ false → P (processed g me p from frame)
  pub frees : (h : ℕ × Frame) → x ≡ Called Releases → first_ready (version p) p.held ≡ Some h → P (processed g me (with_held p (without_ready (version p) p.held)) h.0 h.1)

call_cases : (g : Group) (me : ℕ) (p : Part) (call : Call) (given : Answer) (P : Turn → Type 0) → TurnCases g me p (Called (Makes call)) P → answer g me p call ≡ given → P (called g me p call given)
call_cases g me p (Send text) (Accepted number) P c e = c.sends text number e
call_cases g me p (Change kind) (Accepted number) P c e = c.changes kind number e
call_cases g me p (Suspect who) Done P c e = c.suspects who refl e
call_cases g me p (Trust who) Done P c e = c.trusts who e
call_cases g me p Crash Done P c e = c.crashes refl e
call_cases g me p call refusal P c e = c.idle

free_cases : (g : Group) (me : ℕ) (p : Part) (h : Option (ℕ × Frame)) (P : Turn → Type 0) → TurnCases g me p (Called Releases) P → first_ready (version p) p.held ≡ h → P (released g me p h)
free_cases g me p None P c e = c.idle
free_cases g me p (Some h) P c e = c.frees h refl e

take_cases : (g : Group) (me : ℕ) (p : Part) (from : ℕ) (frame : Frame) (P : Turn → Type 0) → TurnCases g me p (Took from frame) P → (b : Bool) → is_early p from frame ≡ b →
    P (if b then still (with_held p (p.held ++ (from, frame) ∷ [])) else processed g me p from frame)
take_cases g me p from frame P c true e = c.holds from frame refl e
take_cases g me p from frame P c false e = c.takes from frame refl e

pub turn_cases : (g : Group) (me : ℕ) (p : Part) (x : Input Outer Frame) (P : Turn → Type 0) → TurnCases g me p x P → P (turn_after g me p x)
turn_cases g me p (Called (Makes call)) P c = call_cases g me p call (answer g me p call) P c refl
turn_cases g me p (Called Releases) P c = free_cases g me p (first_ready (version p) p.held) P c refl
turn_cases g me p (Took from frame) P c = take_cases g me p from frame P c (is_early p from frame) refl

-- What each order keeps, all orders keep; and entering a version is a fresh module and its orders.
pub told_keeps : (g : Group) (me : ℕ) (P : Turn → Type 0) → ((t : Turn) (o : ℕ × Order) → P t → P (stepped g me t (order_step o))) → (t : Turn) (os : List (ℕ × Order)) → P t → P (all_told g me t os)
told_keeps g me P h t [] p = p
told_keeps g me P h t (o ∷ os) p = told_keeps g me P h (stepped g me t (order_step o)) os (h t o p)

pub entered_cases : (g : Group) (me : ℕ) (t : Turn) (P : Turn → Type 0) → (has_ended g me t.part.modules ≡ false → P t) →
    (has_ended g me t.part.modules ≡ true → P (all_told g me (opened t) (in_module (length t.part.modules) (first_orders g me t.part)))) → P (entered g me t)
entered_cases g me t P stays goes = go (has_ended g me t.part.modules) refl
  where
    go : (b : Bool) → has_ended g me t.part.modules ≡ b → P (if b then all_told g me (opened t) (in_module (length t.part.modules) (first_orders g me t.part)) else t)
    go true e = goes e
    go false e = stays e

-- Tests on versions ------------------------------------------------------------------------------------------------

pub newest-below : (ms : List Inputs) → 1 ≤ length ms → newest ms < length ms
newest-below [] h = absurd (omega arith)
newest-below (m ∷ older) h = omega arith

leb-true : (a b : ℕ) → nat_le a b ≡ true → a ≤ b
leb-true a b e = grind (arith, nat_tests)

pub leb-false : (a b : ℕ) → nat_le a b ≡ false → b < a
leb-false a b e = grind (arith, nat_tests)

-- a frame that isn't held has a version that was reached, and no other of its link and version waits
pub early_false : (p : Part) (from : ℕ) (frame : Frame) → is_early p from frame ≡ false → (frame.version ≤ version p) × (waits from frame.version p.held ≡ false)
early_false p from frame e = go (nat_lt (version p) frame.version) refl e
  where
    le : nat_lt (version p) frame.version ≡ false → frame.version ≤ version p
    le h = grind (arith, nat_tests)

    go : (a : Bool) → nat_lt (version p) frame.version ≡ a → cond a true (waits from frame.version p.held) ≡ false → (frame.version ≤ version p) × (waits from frame.version p.held ≡ false)
    go true h e = absurd (let q : true ≡ false = e in cc)
    go false h e = (le h, e)

-- the version of the frame that is released was reached
pub ready-le : (w : ℕ) (held : List (ℕ × Frame)) (h : ℕ × Frame) → first_ready w held ≡ Some h → h.1.version ≤ w
ready-le w [] h e = absurd (let p : None ≡ Some h = e in cc)
ready-le w (x ∷ held) h e = elim (tested (nat_le x.1.version w)) [
  | inl f ↦ let p : Some x ≡ Some h = rw f at e in let q : x ≡ h = cc in let P : ℕ × Frame → Type 0 = λ z. z.1.version ≤ w in subst P q (leb-true x.1.version w f)
  | inr f ↦ ready-le w held h (rw f at e)
]
