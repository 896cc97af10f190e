-- What a member holds after a turn that delivers nothing.
use Rattle.std.proofs.Common.{ℕ, suc, ◌≡◌, ◌≢◌, ◌<◌, ◌+◌, ◌==◌, ◌&&◌, ◌||◌, inl, inr, Bool, true, false, not, if◌then◌else◌, List, [], ◌∷◌, ◌++◌, length, refl, sym, ◌∙◌, ap, subst, arith, Some, set, append-nil, reverse}
use Rattle.std.specs.Prelude.{slice_get}
use Rattle.std.specs.List.{AllZip, list_any, filter}
use Rattle.std.proofs.lemmas.Bool.{eqb-true, eq-eqb}
use Rattle.std.proofs.lemmas.List.{reverse-append}
use Rattle.std.proofs.lemmas.List.Elements.{filter-append}
use Rattle.fifo_net.specs.Net.{Input, Called}
use Rattle.order_trait.specs.Runs.{Order, Broadcast, Suspect, Trust, Inputs, at_seat}
use Rattle.order_trait.specs.declared.ordering.Ordering.{Ghosts}
use Rattle.upd_base.specs.Item.{has_id, is_message}
use Rattle.upd_base.specs.declared.body.Body.{Body}
use Rattle.upd_base.specs.declared.kind.Kind.{Kind}
use Rattle.upd_base.specs.declared.item.Item.{Item}
use Rattle.upd_base.specs.declared.item.Item.TheVariants.{Msg, Switch}
use Rattle.upd_base.specs.declared.frame.Frame.{Frame}
use Rattle.upd_base.specs.declared.entry.Entry.{Entry}
use Rattle.upd_base.specs.declared.answer.Answer.TheVariants.{Done}
use Rattle.replacement.specs.Repl.{State}
use Rattle.group_run.specs.Group.{Group}
use Rattle.group_run.specs.Version.{kind_at, inputs_at, given}
use Rattle.group_run.specs.Part.{Part, with_suspects, version, log, is_logged, is_suspected, without}
use Rattle.group_run.specs.Turn.{still, order_step, framed, sent_at, told, issued, called}
use Rattle.group_run.proofs.Lists.{tested, eqb_other}
use Rattle.group_versions.proofs.Versions.{kind_at-served}
use Rattle.member_rules.specs.Kept.{Kept}
use Rattle.member_rules.specs.Stands.{AreModules, InOrder, Holds}
use Rattle.member_rules.specs.Steps.{Calm, IsNext, sent_from, suspicion, moved, informed}
use Rattle.member_rules.proofs.Alike.{Alike, alike_given, alike_ended, alike_open, alike_kind, alike_log, run_of, Told, told_modules, all_told_once, told_part, told_frames, newest_lt}
use Rattle.member_rules.proofs.Modules.{modules_given, modules_told, sent_by, slice_get-set_same, slice_get-set_other}

-- the accepted messages that are in no entry of a log, by number
abbrev pub absent_from : List Entry → List Item → List Item
absent_from entries accepted = filter (λ item. is_message item && not (is_logged item entries)) (reverse accepted)

-- modules with the same kinds and segments
pub holds_alike : {O : Type 0} (G : Ghosts O) (g : Group) (me : ℕ) (k k2 : Kept O) (part : Part) (ns : List Inputs) (accepted : List Item) (suspects : List ℕ) →
    Holds G g me k part
    → Alike g me part.modules ns → AreModules G g me k2.modules ns
    → k2.repl.kind ≡ k.repl.kind → k2.repl.made ≡ length accepted → k2.repl.undelivered ≡ absent_from (log g me part) accepted
    → k2.held ≡ k.held → k2.entries ≡ k.entries → k2.crashed ≡ k.crashed
    → ((who : ℕ) → who < g.members → slice_get k2.suspected who ≡ Some (is_suspected who suspects))
    → Holds G g me k2 (record { modules = ns; accepted = accepted; suspects = suspects; held = part.held; crashed = part.crashed })
holds_alike G g me k k2 part ns accepted suspects h alike are kind made waiting held entries crashed row = record {
  modules_are = are;
  in_order = record {
    some = let e = alike.same_length in let s = h.in_order.some in omega arith;
    ended = alike_ended g me part.modules ns alike h.in_order.ended;
    open_yet = alike_open g me part.modules ns h.in_order.some alike ∙ h.in_order.open_yet;
  };
  kind_is = kind ∙ h.kind_is ∙ sym (alike_kind g me part.modules ns h.in_order.some alike);
  made_is = made;
  undelivered_is = waiting ∙ ap (λ es. absent_from es accepted) (sym (alike_log g me part.modules ns alike));
  held_is = held ∙ h.held_is;
  log_is = entries ∙ h.log_is ∙ sym (alike_log g me part.modules ns alike);
  suspected_is = row;
  crashed_is = crashed ∙ h.crashed_is;
}

-- the frames of all modules
pub sent_is_run : {O : Type 0} (G : Ghosts O) (f : ℕ → List (ℕ × Frame)) (k : ℕ) (modules : List O) (inputs : ℕ → Inputs) (x : Input Order Body) →
    ((u : ℕ) (m : O) → slice_get modules u ≡ Some m → framed (k + u) (at_seat G.sends (G.seat m) (x ∷ inputs (k + u))) ≡ f (k + u))
    → sent_from G k modules inputs x ≡ run_of f k (length modules)
sent_is_run G f k [] inputs x h = refl
sent_is_run G f k (m ∷ modules) inputs x h =
    let z : k + 0 ≡ k = omega arith in
    let here : framed k (at_seat G.sends (G.seat m) (x ∷ inputs k)) ≡ f k = subst (λ j. framed j (at_seat G.sends (G.seat m) (x ∷ inputs j)) ≡ f j) z (h 0 m refl) in
    let rest = sent_is_run G f (suc k) modules inputs x (λ u y at.
    let e : k + suc u ≡ suc k + u = omega arith in
    subst (λ j. framed j (at_seat G.sends (G.seat y) (x ∷ inputs j)) ≡ f j) e (h (suc u) y at)) in
    ap (λ ys. ys ++ sent_from G (suc k) modules inputs x) here ∙ ap (λ ys. f k ++ ys) rest

-- an order to all modules, with other suspicions
pub holds_told : {O : Type 0} (G : Ghosts O) (g : Group) (me : ℕ) (order : Order) (k : Kept O) (all : List O) (row2 : List Bool) (part : Part) (suspects : List ℕ) →
    Holds G g me k part
    → Calm g me → g.rules.serves g.first ≡ true
    → AllZip (IsNext G (Called order)) k.modules all
    → ((who : ℕ) → who < g.members → slice_get row2 who ≡ Some (is_suspected who suspects))
    → Holds G g me (informed k all row2) (told g me part suspects order).part
holds_told G g me order k all row2 part suspects h calm first zip row =
    let ms = part.modules in
    let n = length ms in
    let told : Told g me order n ms (told_modules order n ms) =
    all_told_once g me order n ms first h.in_order.ended (λ kind served inputs. calm.takes kind served order inputs) (omega arith) in
    subst (λ p. Holds G g me (informed k all row2) p) (sym (told_part g me (still (with_suspects part suspects)) order n))
    (holds_alike G g me k (informed k all row2) part (told_modules order n ms) part.accepted suspects
    h told.alike (modules_told G g me n order k.modules all ms (told_modules order n ms) h.modules_are told (omega arith) zip)
    refl h.made_is h.undelivered_is refl refl refl row)

pub frames_told : {O : Type 0} (G : Ghosts O) (g : Group) (me : ℕ) (order : Order) (modules : List O) (part : Part) (suspects : List ℕ) →
    AreModules G g me modules part.modules → InOrder g me part.modules → Calm g me → g.rules.serves g.first ≡ true → g.rules.sends ≡ G.sends
    → ((u : ℕ) (m : O) → slice_get modules u ≡ Some m → ((G.seat m).members ≡ g.members) × ((G.seat m).me ≡ me))
    → sent_from G 0 modules (λ v. inputs_at v part.modules) (Called order) ≡ (told g me part suspects order).frames
frames_told G g me order modules part suspects are in_order calm first sends seats =
    let ms = part.modules in
    let f : ℕ → List (ℕ × Frame) = λ u. sent_at g me part (order_step (u, order)) in
    sent_is_run G f 0 modules (λ v. inputs_at v ms) (Called order) (λ u m at.
    let z : 0 + u ≡ u = omega arith in
    let s = seats u m at in
    subst (λ j. framed j (at_seat G.sends (G.seat m) (Called order ∷ inputs_at j ms)) ≡ f j) (sym z)
    (sent_by G g me u (Called order) modules part m are at s.0 s.1 sends))
    ∙ ap (run_of f 0) are.many
    ∙ sym (told_frames g me (still (with_suspects part suspects)) order (length ms) first in_order.ended (λ kind served inputs. calm.takes kind served order inputs) (omega arith))

-- Suspicions --------------------------------------------------------------------------------------------------

suspected_without : (u who : ℕ) (s : List ℕ) → u ≢ who → is_suspected u (without who s) ≡ is_suspected u s
suspected_without u who [] ne = refl
suspected_without u who (x ∷ s) ne = elim (tested (x == who)) [
  | inl e ↦
      let is : x ≡ who = eqb-true x who e in
      let other : x ≢ u = λ p. ne (sym p ∙ is) in
      rw (e, eqb_other x u other) (suspected_without u who s ne)
  | inr e ↦ rw e (ap (λ b. (x == u) || b) (suspected_without u who s ne))
]

not_suspected : (who : ℕ) (s : List ℕ) → is_suspected who (without who s) ≡ false
not_suspected who [] = refl
not_suspected who (x ∷ s) = elim (tested (x == who)) [
  | inl e ↦ rw e (not_suspected who s)
  | inr e ↦ rw (e, e) (not_suspected who s)
]

pub row_on : (n who : ℕ) (row : List Bool) (s : List ℕ) → who < length row → ((u : ℕ) → u < n → slice_get row u ≡ Some (is_suspected u s))
    → (u : ℕ) → u < n → slice_get (set row who true) u ≡ Some (is_suspected u (who ∷ without who s))
row_on n who row s lt h u l = elim (tested (who == u)) [
  | inl e ↦
      let is : who ≡ u = eqb-true who u e in
      rw e (subst (λ w. slice_get (set row who true) w ≡ Some true) is (slice_get-set_same row who true lt))
  | inr e ↦
      let ne : u ≢ who = λ p. let q = eq-eqb who u (sym p) in cc in
      rw e (slice_get-set_other row who u true ne ∙ h u l ∙ ap Some (sym (suspected_without u who s ne)))
]

pub row_off : (n who : ℕ) (row : List Bool) (s : List ℕ) → who < length row → ((u : ℕ) → u < n → slice_get row u ≡ Some (is_suspected u s))
    → (u : ℕ) → u < n → slice_get (set row who false) u ≡ Some (is_suspected u (without who s))
row_off n who row s lt h u l = elim (tested (who == u)) [
  | inl e ↦
      let is : who ≡ u = eqb-true who u e in
      subst (λ w. slice_get (set row who false) w ≡ Some (is_suspected w (without who s))) is
      (slice_get-set_same row who false lt ∙ ap Some (sym (not_suspected who s)))
  | inr e ↦
      let ne : u ≢ who = λ p. let q = eq-eqb who u (sym p) in cc in
      slice_get-set_other row who u false ne ∙ h u l ∙ ap Some (sym (suspected_without u who s ne))
]

pub holds_suspicion : {O : Type 0} (G : Ghosts O) (g : Group) (me : ℕ) (on : Bool) (who : ℕ) (k : Kept O) (all : List O) (part : Part) →
    Holds G g me k part
    → Calm g me → g.rules.serves g.first ≡ true
    → AllZip (IsNext G (Called (if on then Suspect who else Trust who))) k.modules all → who < length k.suspected
    → Holds G g me (informed k all (set k.suspected who on)) (called g me part (suspicion on who) Done).part
holds_suspicion G g me true who k all part h calm first zip lt =
    holds_told G g me (Suspect who) k all (set k.suspected who true) part (who ∷ without who part.suspects) h calm first zip
    (row_on g.members who k.suspected part.suspects lt h.suspected_is)
holds_suspicion G g me false who k all part h calm first zip lt =
    holds_told G g me (Trust who) k all (set k.suspected who false) part (without who part.suspects) h calm first zip
    (row_off g.members who k.suspected part.suspects lt h.suspected_is)

pub frames_suspicion : {O : Type 0} (G : Ghosts O) (g : Group) (me : ℕ) (on : Bool) (who : ℕ) (modules : List O) (part : Part) →
    AreModules G g me modules part.modules → InOrder g me part.modules → Calm g me → g.rules.serves g.first ≡ true → g.rules.sends ≡ G.sends
    → ((u : ℕ) (m : O) → slice_get modules u ≡ Some m → ((G.seat m).members ≡ g.members) × ((G.seat m).me ≡ me))
    → sent_from G 0 modules (λ v. inputs_at v part.modules) (Called (if on then Suspect who else Trust who)) ≡ (called g me part (suspicion on who) Done).frames
frames_suspicion G g me true who modules part are in_order calm first sends seats =
    frames_told G g me (Suspect who) modules part (who ∷ without who part.suspects) are in_order calm first sends seats
frames_suspicion G g me false who modules part are in_order calm first sends seats =
    frames_told G g me (Trust who) modules part (without who part.suspects) are in_order calm first sends seats

-- Accepted items ------------------------------------------------------------------------------------------------

pub absent_more : (entries : List Entry) (item : Item) (accepted : List Item) →
    absent_from entries (item ∷ accepted) ≡ absent_from entries accepted ++ filter (λ (x : Item). is_message x && not (is_logged x entries)) (item ∷ [])
absent_more entries item accepted =
    ap (filter (λ (x : Item). is_message x && not (is_logged x entries))) (reverse-append (item ∷ []) accepted)
    ∙ filter-append (λ (x : Item). is_message x && not (is_logged x entries)) (reverse accepted) (item ∷ [])

pub absent_message : (entries : List Entry) (origin number : ℕ) (payload : List ℕ) (accepted : List Item) →
    list_any (λ (e : Entry). has_id (origin, number) e.item) entries ≡ false
    → absent_from entries (Msg origin number payload ∷ accepted) ≡ absent_from entries accepted ++ Msg origin number payload ∷ []
absent_message entries origin number payload accepted new = absent_more entries (Msg origin number payload) accepted ∙ rw new refl

pub absent_switch : (entries : List Entry) (origin number : ℕ) (kind : Kind) (accepted : List Item) →
    absent_from entries (Switch origin number kind ∷ accepted) ≡ absent_from entries accepted
absent_switch entries origin number kind accepted = absent_more entries (Switch origin number kind) accepted ∙ append-nil (absent_from entries accepted)

-- an item is broadcast in the newest module
pub holds_issued : {O : Type 0} (G : Ghosts O) (g : Group) (me v : ℕ) (item : Item) (k : Kept O) (m next : O) (state2 : State) (es : List Entry) (part : Part) →
    Holds G g me k part
    → Calm g me → g.rules.serves g.first ≡ true → version part ≡ v → es ≡ []
    → slice_get k.modules v ≡ Some m → IsNext G (Called (Broadcast item)) m next
    → state2.kind ≡ k.repl.kind → state2.made ≡ suc k.repl.made → state2.undelivered ≡ absent_from (log g me part) (item ∷ part.accepted)
    → Holds G g me (moved k (set k.modules v next ++ []) state2 k.held (k.entries ++ es)) (issued g me part item).part
holds_issued {O} G g me v item k m next state2 es part h calm first here nothing at step kind made waiting =
    let ms = part.modules in
    let lt : v < length ms = let l = newest_lt ms h.in_order.some in omega arith in
    let same = calm.takes (kind_at g me v ms) (kind_at-served g me ms first v lt) (Broadcast item) (inputs_at v ms) in
    let alike = alike_given g me v (Called (Broadcast item)) ms h.in_order.ended lt same in
    let all : List O = set k.modules v next ++ [] in
    let are : AreModules G g me all (given v (Called (Broadcast item)) ms) =
    subst (λ xs. AreModules G g me xs (given v (Called (Broadcast item)) ms)) (sym (append-nil (set k.modules v next)))
    (modules_given G g me v (Called (Broadcast item)) k.modules ms m next h.modules_are lt alike.kinds at step) in
    let k2 : Kept O = moved k all state2 k.held (k.entries ++ es) in
    let P : ℕ → Type 0 = λ w. Holds G g me k2 (record { modules = given w (Called (Broadcast item)) ms; accepted = item ∷ part.accepted; suspects = part.suspects; held = part.held; crashed = part.crashed }) in
    subst P (sym here)
    (holds_alike G g me k k2 part (given v (Called (Broadcast item)) ms) (item ∷ part.accepted) part.suspects
    h alike are kind (made ∙ ap suc h.made_is) waiting refl (ap (λ xs. k.entries ++ xs) nothing ∙ append-nil k.entries) refl h.suspected_is)

pub frames_issued : {O : Type 0} (G : Ghosts O) (g : Group) (me v : ℕ) (item : Item) (modules : List O) (m : O) (part : Part) →
    AreModules G g me modules part.modules → version part ≡ v → slice_get modules v ≡ Some m → (G.seat m).members ≡ g.members → (G.seat m).me ≡ me → g.rules.sends ≡ G.sends
    → framed v (at_seat G.sends (G.seat m) (Called (Broadcast item) ∷ inputs_at v part.modules)) ≡ (issued g me part item).frames
frames_issued G g me v item modules m part are here at members mine sends =
    sent_by G g me v (Called (Broadcast item)) modules part m are at members mine sends
    ∙ ap (λ w. sent_at g me part (record { version = w; input = Called (Broadcast item) })) (sym here)
