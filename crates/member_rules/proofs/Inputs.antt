-- What growing says of a member's next input, and what goes out.
use Rattle.std.proofs.Common.{ℕ, ◌≡◌, ◌≤◌, ◌==◌, ◌&&◌, Bool, true, false, if◌then◌else◌, List, [], ◌∷◌, ◌++◌, length, refl, sym, ◌∙◌, ap, arith, All, append_assoc, append-nil}
use Rattle.std.specs.Prelude.{nat_lt, nat_le, not}
use Rattle.std.proofs.lemmas.List.Elements.{All-head, All-tail, All-cons, All-nil, All-append, All-same}
use Rattle.fifo_net.specs.Net.{Input, Called, Took}
use Rattle.order_trait.specs.declared.ordering.Ordering.{Ghosts}
use Rattle.order_trait.specs.Outbox.{SendFits, Grows}
use Rattle.upd_base.specs.Kind.{kind_fits}
use Rattle.upd_base.specs.declared.kind.Kind.{Kind}
use Rattle.upd_base.specs.declared.body.Body.{Body}
use Rattle.upd_base.specs.declared.frame.Frame.{Frame}
use Rattle.upd_base.specs.declared.call.Call.{Call}
use Rattle.upd_base.specs.declared.call.Call.TheVariants.{Send, Change, Suspect, Trust, Crash}
use Rattle.upd_base.specs.declared.answer.Answer.TheVariants.{Accepted, Done, Full, Crashed, VersionLimit, BadKind, BadMember}
use Rattle.upd_base.specs.declared.limits.TheConstants.{MAX_VERSION, MAX_UNDELIVERED}
use Rattle.group_run.specs.Group.{Group, Outer, Makes, Releases}
use Rattle.group_run.specs.Part.{Part, version, with_held}
use Rattle.group_run.specs.Held.{without_ready}
use Rattle.group_run.specs.Answer.{answer}
use Rattle.group_run.specs.Turn.{still, framed, called, released, processed, turn_of}
use Rattle.group_run.proofs.Turns.{early_false, ready-le}
use Rattle.member_rules.specs.Kept.{Kept, IsMember, group_of}
use Rattle.member_rules.specs.Stands.{Holds, Grows as GrowsAt}
use Rattle.member_rules.specs.Steps.{SentFits, MayMake, suspicion}
use Rattle.member_rules.proofs.Alike.{newest_lt}
use Rattle.member_rules.proofs.Basics.{version_is}
use Rattle.member_rules.proofs.Took.{more_of}

-- What growing gives -----------------------------------------------------------------------------------------------

pub may_make : (g : Group) (me : ℕ) (past : List (Input Outer Frame)) (x : Input Outer Frame) → 1 ≤ length (turn_of g me past).part.modules → GrowsAt g me past x → MayMake g me (turn_of g me past).part x
may_make g me past (Called (Makes call)) one grows = grows.1
may_make g me past (Called Releases) one grows = λ h e.
    let p : Part = (turn_of g me past).part in
    let q : Part = with_held p (without_ready (version p) p.held) in
    let le = ready-le (version p) p.held h e in
    let lt = newest_lt p.modules one in
    more_of g me q h.0 h.1 (turn_of g me (Called Releases ∷ past)).part.modules (omega arith) (ap (λ o. (released g me p o).part.modules) e) grows.0
may_make g me past (Took from frame) one grows = λ e.
    let p : Part = (turn_of g me past).part in
    let le = (early_false p from frame e).0 in
    let lt = newest_lt p.modules one in
    more_of g me p from frame (turn_of g me (Took from frame ∷ past)).part.modules (omega arith)
    (ap (λ b. (if b then still (with_held p (p.held ++ (from, frame) ∷ [])) else processed g me p from frame).part.modules) e) grows.0

-- What goes out fits -----------------------------------------------------------------------------------------------

all_framed : (n v : ℕ) (bodies : List (ℕ × Body)) → v ≤ MAX_VERSION → All (SendFits n) bodies → All (SentFits n) (framed v bodies)
all_framed n v [] low h = All-nil (SentFits n)
all_framed n v (b ∷ bodies) low h =
    let first = All-head (SendFits n) b bodies h in
    All-cons (SentFits n) (b.0, record { version = v; body = b.1 }) (framed v bodies) (first.0, first.1, first.2, low) (all_framed n v bodies low (All-tail (SendFits n) b bodies h))

pub grows_framed : (n v : ℕ) (bodies0 bodies1 : List (ℕ × Body)) (sent0 sent1 : List (ℕ × Frame)) → bodies0 ≡ [] → v ≤ MAX_VERSION → Grows (SendFits n) bodies0 bodies1 → sent1 ≡ sent0 ++ framed v bodies1
    → Grows (SentFits n) sent0 sent1
grows_framed n v bodies0 bodies1 sent0 sent1 none low grows is =
    let same : bodies1 ≡ grows.0 = grows.1 ∙ ap (λ bs. bs ++ grows.0) none in
    (framed v bodies1, is, all_framed n v bodies1 low (All-same (SendFits n) bodies1 grows.0 same grows.2))

pub grows_none : {A : Type 0} (P : A → Type 0) (xs ys : List A) → ys ≡ xs → Grows P xs ys
grows_none P xs ys is = ([], is ∙ sym (append-nil xs), All-nil P)

pub grows_then : {A : Type 0} (P : A → Type 0) (xs ys zs : List A) → Grows P xs ys → Grows P ys zs → Grows P xs zs
grows_then P xs ys zs a b =
    (a.0 ++ b.0, b.1 ∙ ap (λ l. l ++ b.0) a.1 ∙ append_assoc xs a.0 b.0, All-append P a.0 b.0 a.2 b.2)

pub all_grown : {A : Type 0} (P : A → Type 0) (xs ys : List A) → xs ≡ [] → Grows P xs ys → All P ys
all_grown P xs ys none grows = All-same P ys grows.0 (grows.1 ∙ ap (λ l. l ++ grows.0) none) grows.2

-- Answers ------------------------------------------------------------------------------------------------------------

pub answer_down : {O : Type 0} (G : Ghosts O) (g : Group) (me : ℕ) (k : Kept O) (part : Part) (call : Call) → Holds G g me k part → k.crashed ≡ true → answer g me part call ≡ Crashed
answer_down G g me k part call h down = rw (sym h.crashed_is ∙ down) refl

pub answer_send : {O : Type 0} (G : Ghosts O) (g : Group) (me : ℕ) (k : Kept O) (part : Part) (text : List ℕ) → Holds G g me k part → k.crashed ≡ false
    → answer g me part (Send text) ≡ (if nat_le MAX_UNDELIVERED (length k.repl.undelivered) then Full else Accepted k.repl.made)
answer_send G g me k part text h up = rw (sym h.crashed_is ∙ up, ← h.undelivered_is, ← h.made_is) refl

pub answer_change : {O : Type 0} (G : Ghosts O) (k : Kept O) (part : Part) (kind : Kind) → IsMember G k → Holds G (group_of G k) k.me k part → k.crashed ≡ false
    → answer (group_of G k) k.me part (Change kind) ≡ (if kind_fits k.members kind then (if k.repl.version == MAX_VERSION then VersionLimit else Accepted k.repl.made) else BadKind)
answer_change G k part kind m h up = rw (sym h.crashed_is ∙ up, version_is G k (group_of G k) k.me part m h, ← h.made_is) refl

pub answer_suspicion : {O : Type 0} (G : Ghosts O) (k : Kept O) (part : Part) (on : Bool) (who : ℕ) → Holds G (group_of G k) k.me k part → k.crashed ≡ false
    → answer (group_of G k) k.me part (suspicion on who) ≡ (if nat_lt who k.members && not (who == k.me) then Done else BadMember)
answer_suspicion G k part true who h up = rw (sym h.crashed_is ∙ up) refl
answer_suspicion G k part false who h up = rw (sym h.crashed_is ∙ up) refl

pub answer_crash : {O : Type 0} (G : Ghosts O) (g : Group) (me : ℕ) (k : Kept O) (part : Part) → Holds G g me k part → k.crashed ≡ false → answer g me part Crash ≡ Done
answer_crash G g me k part h up = rw (sym h.crashed_is ∙ up) refl

pub crashed_still : (g : Group) (me : ℕ) (part : Part) (call : Call) → called g me part call Crashed ≡ still part
crashed_still g me part (Send text) = refl
crashed_still g me part (Change kind) = refl
crashed_still g me part (Suspect who) = refl
crashed_still g me part (Trust who) = refl
crashed_still g me part Crash = refl

pub bad_member_still : (g : Group) (me : ℕ) (part : Part) (on : Bool) (who : ℕ) → called g me part (suspicion on who) BadMember ≡ still part
bad_member_still g me part true who = refl
bad_member_still g me part false who = refl
