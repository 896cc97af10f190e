-- Frames that are held, and frames that are released.
use Rattle.std.proofs.Common.{ℕ, ◌≡◌, ◌≤◌, inl, inr, Bool, true, false, if◌then◌else◌, Some, None, List, [], ◌∷◌, ◌++◌, refl, sym, ◌∙◌, ap, subst, All}
use Rattle.std.specs.Prelude.{nat_lt, nat_le}
use Rattle.std.proofs.lemmas.Bool.{ltb-false}
use Rattle.std.proofs.lemmas.List.Elements.{All-head, All-tail, All-cons}
use Rattle.order_trait.specs.declared.ordering.Ordering.{Ghosts}
use Rattle.upd_base.specs.declared.frame.Frame.{Frame}
use Rattle.group_run.specs.Group.{Group}
use Rattle.group_run.specs.Part.{Part, with_held, stopped, version}
use Rattle.group_run.specs.Held.{waits, first_ready, without_ready, is_early}
use Rattle.group_run.specs.Turn.{took, released, processed}
use Rattle.group_run.proofs.Lists.{tested}
use Rattle.group_run.proofs.Turns.{ready-le}
use Rattle.member_rules.specs.Kept.{Kept, IsMember}
use Rattle.member_rules.specs.Stands.{Holds}
use Rattle.member_rules.specs.Steps.{moved, releasing}
use Rattle.member_rules.proofs.Basics.{version_is}

pub all_without : (P : ℕ × Frame → Type 0) (v : ℕ) (held : List (ℕ × Frame)) → All P held → All P (without_ready v held)
all_without P v [] h = h
all_without P v (x ∷ held) h = elim (tested (nat_le x.1.version v)) [
  | inl e ↦ rw e (All-tail P x held h)
  | inr e ↦ rw e (All-cons P x (without_ready v held) (All-head P x held h) (all_without P v held (All-tail P x held h)))
]

pub all_first : (P : ℕ × Frame → Type 0) (v : ℕ) (held : List (ℕ × Frame)) (x : ℕ × Frame) → All P held → first_ready v held ≡ Some x → P x
all_first P v [] x h e = absurd (let p : None ≡ Some x = e in cc)
all_first P v (y ∷ held) x h e = elim (tested (nat_le y.1.version v)) [
  | inl t ↦
      let p : Some y ≡ Some x = rw t at e in
      let q : y ≡ x = (cc) in
      subst P q (All-head P y held h)
  | inr t ↦ let p : first_ready v held ≡ Some x = rw t at e in all_first P v held x (All-tail P y held h) p
]

-- what is held where a frame is processed, by the words of the code
pub all_releasing : (P : ℕ × Frame → Type 0) (releases : Bool) (v : ℕ) (held : List (ℕ × Frame)) → All P held → All P (if releases then without_ready v held else held)
all_releasing P true v held h = all_without P v held h
all_releasing P false v held h = h

-- with other frames held
pub holds_with : {O : Type 0} (G : Ghosts O) (g : Group) (me : ℕ) (k : Kept O) (held held2 : List (ℕ × Frame)) (part : Part) →
    Holds G g me k part → held ≡ held2 → Holds G g me (moved k k.modules k.repl held k.entries) (with_held part held2)
holds_with G g me k held held2 part h is = record {
  modules_are = h.modules_are;
  in_order = h.in_order;
  kind_is = h.kind_is;
  made_is = h.made_is;
  undelivered_is = h.undelivered_is;
  held_is = is;
  log_is = h.log_is;
  suspected_is = h.suspected_is;
  crashed_is = h.crashed_is;
}

held_rest : (releases : Bool) (v w : ℕ) (held held2 : List (ℕ × Frame)) → v ≡ w → held ≡ held2 → (if releases then without_ready v held else held) ≡ (if releases then without_ready w held2 else held2)
held_rest releases v w held held2 a b = rw (a, b) refl

-- where a held frame is processed
pub holds_releasing : {O : Type 0} (G : Ghosts O) (g : Group) (me : ℕ) (releases : Bool) (k : Kept O) (part : Part) → IsMember G k → Holds G g me k part
    → Holds G g me (moved k k.modules k.repl (if releases then without_ready k.repl.version k.held else k.held) k.entries) (releasing releases part)
holds_releasing G g me releases k part m h =
    holds_with G g me k (if releases then without_ready k.repl.version k.held else k.held) (if releases then without_ready (version part) part.held else part.held) part h
    (held_rest releases k.repl.version (version part) k.held part.held (sym (version_is G k g me part m h)) h.held_is)

-- a frame that must wait
pub early_is : {O : Type 0} (G : Ghosts O) (g : Group) (me : ℕ) (k : Kept O) (part : Part) (from : ℕ) (frame : Frame) → IsMember G k → Holds G g me k part
    → is_early part from frame ≡ (if nat_lt k.repl.version frame.version then true else waits from frame.version k.held)
early_is G g me k part from frame m h = rw (version_is G k g me part m h, ← h.held_is) refl

pub not_early : (a b : ℕ) (c : Bool) → (if nat_lt a b then true else c) ≡ false → b ≤ a
not_early a b c f = elim (tested (nat_lt a b)) [
  | inl t ↦ absurd (let p : true ≡ false = rw t at f in cc)
  | inr t ↦ ltb-false a b t
]

-- it is held
pub holds_kept : {O : Type 0} (G : Ghosts O) (g : Group) (me : ℕ) (k : Kept O) (part : Part) (from : ℕ) (frame : Frame) →
    Holds G g me k part → is_early part from frame ≡ true
    → Holds G g me (moved k k.modules k.repl (k.held ++ (from, frame) ∷ []) k.entries) (took g me part from frame).part
holds_kept G g me k part from frame h early =
    let e : k.held ++ (from, frame) ∷ [] ≡ part.held ++ (from, frame) ∷ [] = ap (λ hs. hs ++ (from, frame) ∷ []) h.held_is in
    rw early (holds_with G g me k (k.held ++ (from, frame) ∷ []) (part.held ++ (from, frame) ∷ []) part h e)

pub frames_kept : (g : Group) (me : ℕ) (part : Part) (from : ℕ) (frame : Frame) → is_early part from frame ≡ true → [] ≡ (took g me part from frame).frames
frames_kept g me part from frame early = rw early refl

-- any other is processed
pub took_late : (g : Group) (me : ℕ) (part : Part) (from : ℕ) (frame : Frame) → is_early part from frame ≡ false → took g me part from frame ≡ processed g me (releasing false part) from frame
took_late g me part from frame late = rw late refl

-- a held frame is released
pub ready_is : {O : Type 0} (G : Ghosts O) (g : Group) (me : ℕ) (k : Kept O) (part : Part) → IsMember G k → Holds G g me k part
    → first_ready (version part) part.held ≡ first_ready k.repl.version k.held
ready_is G g me k part m h = ap (λ w. first_ready w part.held) (version_is G k g me part m h) ∙ ap (first_ready k.repl.version) (sym h.held_is)

pub released_is : (g : Group) (me : ℕ) (part : Part) (first : ℕ × Frame) → first_ready (version part) part.held ≡ Some first
    → released g me part (first_ready (version part) part.held) ≡ processed g me (releasing true part) first.0 first.1
released_is g me part first is = ap (released g me part) is

pub ready_reached : (v : ℕ) (held : List (ℕ × Frame)) (h : ℕ × Frame) → first_ready v held ≡ Some h → h.1.version ≤ v
ready_reached v held h e = ready-le v held h e

-- a member that crashed
pub holds_stopped : {O : Type 0} (G : Ghosts O) (g : Group) (me : ℕ) (k : Kept O) (part : Part) → Holds G g me k part
    → Holds G g me (record { members = k.members; me = k.me; first = k.first; modules = k.modules; repl = k.repl; held = k.held; entries = k.entries; suspected = k.suspected; crashed = true }) (stopped part)
holds_stopped G g me k part h = record {
  modules_are = h.modules_are;
  in_order = h.in_order;
  kind_is = h.kind_is;
  made_is = h.made_is;
  undelivered_is = h.undelivered_is;
  held_is = h.held_is;
  log_is = h.log_is;
  suspected_is = h.suspected_is;
  crashed_is = refl;
}
