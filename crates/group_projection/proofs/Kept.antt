-- What every group run keeps, move by move.
use Rattle.std.proofs.Common.{ℕ, zero, suc, ◌≡◌, ◌≢◌, ◌<◌, ◌≤◌, ◌==◌, ◌^◌, ◌-◌, ◌⊎◌, inl, inr, Bool, true, false, List, [], ◌∷◌, ◌++◌, length, refl, sym, ◌∙◌, ap, subst, arith, map}
use Rattle.std.specs.Prelude.{if◌then◌else◌, Contains, is_some}
use Rattle.std.proofs.lemmas.List.Elements.{Contains-append_left, Contains-append_right}
use Rattle.fifo_net.specs.Net.{Input, Called, Took, Step, IsRun, IsPrefix, MayCome, inputs_of, sent}
use Rattle.fifo_net.proofs.Links.{inputs_here, inputs_away}
use Rattle.order_trait.specs.Runs.{Order, Broadcast, Suspect as SuspectOrder, Trust as TrustOrder, Inputs, Steps, InputFits, broadcast_at, broadcast_in}
use Rattle.order_trait.proofs.Broadcasts.{broadcasts}
use Rattle.upd_base.specs.Item.{ItemFits, id_of, origin_of, number_of, is_message}
use Rattle.upd_base.specs.Kind.{KindFits}
use Rattle.upd_base.proofs.Fits.{msg_fits, switch_fits}
use Rattle.upd_base.specs.declared.kind.Kind.{Kind}
use Rattle.upd_base.specs.declared.item.Item.{Item}
use Rattle.upd_base.specs.declared.item.Item.TheVariants.{Msg, Switch}
use Rattle.upd_base.specs.declared.body.Body.{Body}
use Rattle.upd_base.specs.declared.frame.Frame.{Frame}
use Rattle.group_run.specs.Group.{Group, Outer}
use Rattle.group_run.specs.Part.{Part, undelivered, suspicions, version, log, is_logged, without, with_accepted, with_suspects, with_held, stopped, below}
use Rattle.group_run.specs.Turn.{Turn, ModuleStep, still, stepped, order_step, all_told, in_module, in_each, opened, processed, first_orders, turn_after, member_sends}
use Rattle.group_run.specs.Version.{has_ended, newest, kind_at, kind_above, inputs_at, given, log_of, entries, segment, segment_above, next_kind}
use Rattle.group_run.specs.Held.{without_ready}
use Rattle.group_run.specs.Run.{Moves, turn_at}
use Rattle.group_run.specs.Projection.{steps_in, steps_made}
use Rattle.group_run.specs.Growing.{IsGrowing, NextIsNew}
use Rattle.group_run.proofs.Lists.{tested, by_one}
use Rattle.group_run.proofs.Modules.{length-given, inputs_at-given, inputs_at-given_same, inputs_at-bound}
use Rattle.group_versions.proofs.Versions.{Grows, Same, same_self, same_trans, same_kind, same_log, same_ended, log_grows, kind_at-served, kind_at-newest, kind_at-zero}
use Rattle.group_run.proofs.Turns.{turn_cases, told_keeps, entered_cases, newest-below, early_false, ready-le}
use Rattle.group_run.proofs.Inputs.{contains_below, one_of, turn_here, turn_away}
use Rattle.group_projection.proofs.World.{World, Sound, Lawful, May, same_order, took_grows, segment_sent}
use Rattle.group_members.proofs.Own.{Own, beside_told, own_all, sent_number, changed_number, suspected_other, trusted_other, own_step}
use Rattle.group_members.proofs.Fresh.{fresh_id}
use Rattle.group_versions.proofs.Logs.{logged_more, undelivered_has}
use Rattle.group_projection.proofs.Numbers.{numbered, next_new}
use Rattle.group_projection.proofs.Moved.{AllMembers, world_of, received_may, released_may}
use Rattle.group_projection.proofs.Going.{Going, OrderFits, AllFit, during, mods_me, mods_other, out_me, out_other, worlds, begins, going_still, going_step, going_told, going_entered, fit_each}
use Rattle.group_members.proofs.Sized.{steps_few}

-- Each accepted message is logged, or the newest module was given it to broadcast.
abbrev pub Covered : Group → ℕ → Part → Type 0
Covered g me p = (y : Item) → Contains p.accepted y → is_message y ≡ true → (is_logged y (log g me p) ≡ true) ⊎ Contains (broadcasts (inputs_at (version p) p.modules)) y

-- What a turn has come to.
pub record Done (g : Group) (base : World) (me : ℕ) (t : Turn) : Type 0 where
  pub going : Going g base me t
  pub unended : has_ended g me t.part.modules ≡ false
  pub covered : Covered g me t.part

pub newest-length : (ms : List Inputs) → 1 ≤ length ms → suc (newest ms) ≡ length ms
newest-length [] h = absurd (omega arith)
newest-length (m ∷ older) h = omega arith

same_version : (ms ns : List Inputs) → 1 ≤ length ms → length ns ≡ length ms → newest ns ≡ newest ms
same_version ms ns h e = let a = newest-length ms h in let b = newest-length ns (omega arith) in omega arith

-- more inputs broadcast more
given_more : (u v : ℕ) (x : Input Order Body) (ms : List Inputs) (y : Item) → Contains (broadcasts (inputs_at u ms)) y → Contains (broadcasts (inputs_at u (given v x ms))) y
given_more u v x ms y c = inputs_at-given (λ xs. Contains (broadcasts xs) y) v u x ms (λ e lt. Contains-append_left (broadcasts (inputs_at u ms)) (broadcast_at x) y c) c

told_more : (g : Group) (me u : ℕ) (t : Turn) (os : List (ℕ × Order)) (y : Item) → Contains (broadcasts (inputs_at u t.part.modules)) y → Contains (broadcasts (inputs_at u (all_told g me t os).part.modules)) y
told_more g me u t os y = told_keeps g me (λ z. Contains (broadcasts (inputs_at u z.part.modules)) y) (λ z o c. given_more u o.0 (Called o.1) z.part.modules y c) t os

told_same : (g : Group) → Lawful g → (me : ℕ) (t : Turn) (os : List (ℕ × Order)) → Same g me t.part.modules (all_told g me t os).part.modules
told_same g l me t os = told_keeps g me (λ u. Same g me t.part.modules u.part.modules)
    (λ u o s. same_trans g me t.part.modules u.part.modules (given o.0 (Called o.1) u.part.modules) s (same_order g l me o.0 o.1 u.part.modules)) t os (same_self g me t.part.modules)

-- an item that a module is told to broadcast is among what it broadcasts
told_has : (g : Group) (me w : ℕ) (t : Turn) (xs : List Item) (y : Item) → w < length t.part.modules → Contains xs y → Contains (broadcasts (inputs_at w (all_told g me t (in_module w (map (λ item. Broadcast item) xs))).part.modules)) y
told_has g me w t [] y lt c = absurd (let l = c.1 in omega arith)
told_has g me w t (x ∷ xs) y lt (zero, lc, q) =
    let u : Turn = stepped g me t (order_step (w, Broadcast x)) in
    let now : Contains (broadcasts (inputs_at w u.part.modules)) y =
    subst (λ ins. Contains (broadcasts ins) y) (sym (inputs_at-given_same w (Called (Broadcast x)) t.part.modules lt))
    (Contains-append_right (broadcasts (inputs_at w t.part.modules)) (x ∷ []) y (0, omega arith, q)) in
    told_more g me w u (in_module w (map (λ item. Broadcast item) xs)) y now
told_has g me w t (x ∷ xs) y lt (suc k, lc, q) =
    told_has g me w (stepped g me t (order_step (w, Broadcast x))) xs y (let e = length-given w (Called (Broadcast x)) t.part.modules in omega arith) (k, omega arith, q)

told_has_first : (g : Group) (me w : ℕ) (t : Turn) (whos : List ℕ) (xs : List Item) (y : Item) → w < length t.part.modules → Contains xs y →
    Contains (broadcasts (inputs_at w (all_told g me t (in_module w (map (λ who. SuspectOrder who) whos ++ map (λ item. Broadcast item) xs))).part.modules)) y
told_has_first g me w t [] xs y lt c = told_has g me w t xs y lt c
told_has_first g me w t (who ∷ whos) xs y lt c =
    told_has_first g me w (stepped g me t (order_step (w, SuspectOrder who))) whos xs y (let e = length-given w (Called (SuspectOrder who)) t.part.modules in omega arith) c

-- Orders keep what was reached.
done_told : (g : Group) (base : World) (me : ℕ) (t : Turn) (os : List (ℕ × Order)) → Lawful g → me < g.members → 1 ≤ length t.part.modules → AllFit g base me t os → Going g base me t →
    has_ended g me t.part.modules ≡ false → Covered g me t.part → Done g base me (all_told g me t os)
done_told g base me t os l member one fit s unended cov =
    let u : Turn = all_told g me t os in
    let same = told_same g l me t os in
    record {
      going = going_told g base me t os l member fit s;
      unended = same_ended g me (length t.part.modules - 1) t.part.modules u.part.modules l.serves (omega arith) same ∙ unended;
      covered = λ y c m. elim (cov y (subst (λ items. Contains items y) (beside_told g me t os).accepted_same c) m) [
        | inl h ↦ inl (ap (is_logged y) (same_log g me t.part.modules u.part.modules l.serves same) ∙ h)
        | inr h ↦ inr (subst (λ v. Contains (broadcasts (inputs_at v u.part.modules)) y) (sym (same_version t.part.modules u.part.modules one same.same_length))
            (told_more g me (version t.part) t os y h))
      ];
    }

-- a module that had no input has delivered nothing
no_elements : (xs : List Item) → ((x : Item) → Contains xs x → ⊥) → xs ≡ []
no_elements [] h = refl
no_elements (x ∷ xs) h = absurd (h x (0, omega arith, refl))

fresh_open : (g : Group) → Lawful g → (me : ℕ) (ms : List Inputs) → me < g.members → KindFits g.members (kind_at g me (length ms) ([] ∷ ms)) → has_ended g me ([] ∷ ms) ≡ false
fresh_open g l me ms member fits =
    let kind : Kind = kind_above g me ms in
    let is : kind_at g me (length ms) ([] ∷ ms) ≡ kind = kind_at-newest g me [] ms in
    let served : g.rules.serves kind ≡ true = ap g.rules.serves (sym is) ∙ kind_at-served g me ([] ∷ ms) l.serves (length ms) (omega arith) in
    let law = l.keeps.integrity kind served in
    let none : g.rules.delivers kind g.members me [] ≡ [] =
    no_elements (g.rules.delivers kind g.members me []) (λ x c.
    let b = law.broadcast g.members [] (record { some = l.some; few = l.few; kind_fits = subst (KindFits g.members) is fits; short = omega arith; fit = tt; fifo = tt }) me member x c in
    let q = b.1 in omega arith) in
    ap (λ xs. is_some (next_kind (segment g (length ms) xs))) none

-- A frame is processed.
done_processed : (g : Group) (base : World) (me : ℕ) (p : Part) (from : ℕ) (frame : Frame) → Lawful g → ((v : ℕ) → suc (length (base.proj v)) < 2 ^ 40) → me < g.members → 1 ≤ length p.modules → frame.version < length p.modules →
    base.mods me ≡ p.modules → Own g me (stepped g me (still p) (record { version = frame.version; input = Took from frame.body })).part → Sound g base → from < g.members →
    MayCome (g.rules.sends (kind_at g me frame.version p.modules) g.members) (base.proj frame.version) me (Took from frame.body) → Covered g me p → Done g base me (processed g me p from frame)
done_processed g base me p from frame l c member one reached e own s source may cov =
    let w : ℕ = frame.version in
    let m : ModuleStep = record { version = w; input = Took from frame.body } in
    let t : Turn = stepped g me (still p) m in
    let len : length t.part.modules ≡ length p.modules = length-given w (Took from frame.body) p.modules in
    let last : length p.modules ≡ suc (length p.modules - 1) = omega arith in
    let may0 : MayCome (g.rules.sends (kind_at g me w (base.mods me)) g.members) (base.proj w) me (Took from frame.body) =
    subst (λ ms. MayCome (g.rules.sends (kind_at g me w ms) g.members) (base.proj w) me (Took from frame.body)) (sym e) may in
    let lt0 : w < length (base.mods me) = let q = ap length e in omega arith in
    let grows0 : Grows g me (base.mods me) (given w (Took from frame.body) (base.mods me)) = took_grows g base l s me w from frame.body member lt0 (c w) source may0 in
    let grows : Grows g me p.modules t.part.modules = subst (λ ms. Grows g me ms (given w (Took from frame.body) ms)) e grows0 in
    let step : May g me m base = record { member = member; reached = lt0; grows = grows0; fit = source; may = may0; new = λ v lt x d y q. absurd (let r = q.1 in omega arith) } in
    let going : Going g base me t = going_step g base me (still p) m (subst (May g me m) (sym (begins base me p e)) step) (going_still g base me p e s) in
    let more : IsPrefix (log_of g me p.modules) (log_of g me t.part.modules) = log_grows g me p.modules t.part.modules (length p.modules - 1) grows last in
    let covered : Covered g me t.part = λ y d k. elim (cov y d k) [
      | inl h ↦ inl (subst (λ es. is_logged y es ≡ true) (sym more.1) (logged_more y (log_of g me p.modules) more.0 h))
      | inr h ↦ inr (subst (λ v. Contains (broadcasts (inputs_at v t.part.modules)) y) (sym (same_version p.modules t.part.modules one len))
          (given_more (version p) w (Took from frame.body) p.modules y h))
    ] in
    entered_cases g me t (Done g base me) (λ h. record { going = going; unended = h; covered = covered }) (λ h.
    let top : ℕ = length t.part.modules in
    let os : List (ℕ × Order) = in_module top (first_orders g me t.part) in
    let u : Turn = all_told g me (opened t) os in
    let same : Same g me ([] ∷ t.part.modules) u.part.modules = told_same g l me (opened t) os in
    let short : (v : ℕ) → length ((during base me t).proj v) < 2 ^ 40 = λ v. at_most (w == v) v in
    let after : Going g base me u = going_entered g base me (length p.modules - 1) t l short member (len ∙ last) h own going in
    let high : top < length u.part.modules = let q = same.same_length in omega arith in
    let fits : KindFits g.members (kind_at g me top ([] ∷ t.part.modules)) =
    subst (KindFits g.members) (same_kind g me ([] ∷ t.part.modules) u.part.modules l.serves same top (omega arith))
    (subst (λ ms. top < length ms → KindFits g.members (kind_at g me top ms)) (mods_me base me u) (after.sound.fits me top member) high) in
    record {
      going = after;
      unended = same_ended g me top ([] ∷ t.part.modules) u.part.modules l.serves refl same ∙ fresh_open g l me t.part.modules member fits;
      covered = λ y d k.
          let was : Contains p.accepted y = subst (λ items. Contains items y) (beside_told g me (opened t) os).accepted_same d in
          elim (tested (is_logged y (log g me t.part))) [
            | inl j ↦ inl (ap (is_logged y) (same_log g me ([] ∷ t.part.modules) u.part.modules l.serves same)
                ∙ logged_more y (log_of g me t.part.modules) (entries top (segment_above g me t.part.modules [])) j)
            | inr j ↦ inr (subst (λ v. Contains (broadcasts (inputs_at v u.part.modules)) y) (sym (same_version ([] ∷ t.part.modules) u.part.modules (omega arith) same.same_length))
                (told_has_first g me top (opened t) (suspicions g t.part) (undelivered g me t.part) y (omega arith) (undelivered_has g me t.part y was k j)))
          ];
    })
  where
    at_most : (b : Bool) (v : ℕ) → length ((if b then record { at = me; input = Took from frame.body } ∷ [] else []) ++ base.proj v) < 2 ^ 40
    at_most true v = c v
    at_most false v = let q = c v in omega arith

-- What is kept of a whole group.
pub record Kept (g : Group) (ms : Moves) : Type 0 where
  pub sound : Sound g (world_of g ms)
  pub growing : (i : ℕ) → i < g.members → IsGrowing g i (inputs_of i ms)
  pub unended : (i : ℕ) → i < g.members → has_ended g i (turn_at g ms i).part.modules ≡ false
  pub covered : (i : ℕ) → i < g.members → Covered g i (turn_at g ms i).part

-- an item that was accepted now is broadcast
done_issued : (g : Group) (ms : Moves) (me : ℕ) (item : Item) → Lawful g → ((v : ℕ) → suc (length (steps_made g v ms)) < 2 ^ 40) → me < g.members → Kept g ms →
    origin_of item ≡ me → ItemFits g.members item → number_of item ≡ length (turn_at g ms me).part.accepted →
    Done g (world_of g ms) me (all_told g me (still (with_accepted (turn_at g ms me).part item)) (in_module (version (turn_at g ms me).part) (Broadcast item ∷ [])))
done_issued g ms me item l c member k o f e =
    let p : Part = (turn_at g ms me).part in
    let q : Part = with_accepted p item in
    let one = one_of g me (inputs_of me ms) in
    let lt = newest-below p.modules one in
    let low = numbered g ms me member k.sound in
    let fit : OrderFits g (world_of g ms) me (still q) (version p, Broadcast item) = record {
      reached = lt;
      fit = (o, f, fresh_id (broadcast_in (steps_made g (version p) ms)) item (λ x d r. let m = low (version p) x d (r ∙ o) in omega arith));
      new = λ v h x d y b is. first (λ z. id_of x ≡ id_of z → ⊥) y b (λ same.
          let sent = segment_sent g (world_of g ms) l k.sound me v member (omega arith) (let r = c v in omega arith) x d in
          let m = low v x sent (ap (λ z. z.0) same ∙ o) in
          let num : number_of x ≡ number_of item = ap (λ z. z.1) same in
          omega arith) is;
    } in
    let going = going_told g (world_of g ms) me (still q) (in_module (version p) (Broadcast item ∷ [])) l member (fit, tt) (going_still g (world_of g ms) me q refl k.sound) in
    let t : Turn = all_told g me (still q) (in_module (version p) (Broadcast item ∷ [])) in
    let same = told_same g l me (still q) (in_module (version p) (Broadcast item ∷ [])) in
    let sv = same_version p.modules t.part.modules one same.same_length in
    record {
      going = going;
      unended = same_ended g me (length p.modules - 1) p.modules t.part.modules l.serves (omega arith) same ∙ k.unended me member;
      covered = λ y d m. split y d (λ b.
          elim (k.covered me member y b m) [
            | inl h ↦ inl (ap (is_logged y) (same_log g me p.modules t.part.modules l.serves same) ∙ h)
            | inr h ↦ inr (subst (λ v. Contains (broadcasts (inputs_at v t.part.modules)) y) (sym sv) (told_more g me (version p) (still q) (in_module (version p) (Broadcast item ∷ [])) y h))
          ])
          (λ is. inr (subst (λ v. Contains (broadcasts (inputs_at v t.part.modules)) y) (sym sv) (told_has g me (version p) (still q) (item ∷ []) y lt (0, omega arith, is))));
    }
  where
    first : (P : Item → Type 0) (y : Item) → Contains (item ∷ []) y → P item → P y
    first P y (zero, lt, q) p = subst P q p
    first P y (suc k, lt, q) p = absurd (omega arith)

    split : {P : Type 0} (y : Item) → Contains (item ∷ (turn_at g ms me).part.accepted) y → (Contains (turn_at g ms me).part.accepted y → P) → (item ≡ y → P) → P
    split y (zero, lt, q) old new = new q
    split y (suc k, lt, q) old new = old (k, omega arith, q)

done_suspecting : (g : Group) (ms : Moves) (me : ℕ) (suspects : List ℕ) (order : Order) → Lawful g → me < g.members → Kept g ms → ((past : Steps) → InputFits g.members past me (Called order)) →
    ((y : Item) → Contains (broadcast_at (Called order)) y → ⊥) →
    Done g (world_of g ms) me (all_told g me (still (with_suspects (turn_at g ms me).part suspects)) (in_each (turn_at g ms me).part order))
done_suspecting g ms me suspects order l member k fit none =
    let p : Part = (turn_at g ms me).part in
    let q : Part = with_suspects p suspects in
    done_told g (world_of g ms) me (still q) (in_each p order) l member (one_of g me (inputs_of me ms))
    (fit_each g (world_of g ms) me (still q) order (below (length p.modules)) (contains_below (length p.modules)) fit none)
    (going_still g (world_of g ms) me q refl k.sound) (k.unended me member) (k.covered me member)

-- Each turn keeps it.
done_turn : (g : Group) (ms : Moves) (me : ℕ) (x : Input Outer Frame) → Lawful g → ((v : ℕ) → suc (length (steps_made g v ms)) < 2 ^ 40) → me < g.members → AllMembers g.members ms → IsRun (member_sends g) ms →
    MayCome (member_sends g) ms me x → Kept g ms → Done g (world_of g ms) me (turn_after g me (turn_at g ms me).part x)
done_turn g ms me x l c member members run may k =
    let p : Part = (turn_at g ms me).part in
    let base : World = world_of g ms in
    let one = one_of g me (inputs_of me ms) in
    let lt = newest-below p.modules one in
    let own = own_all g me (inputs_of me ms) member in
    let quiet : (q : Part) → p.modules ≡ q.modules → Covered g me q → has_ended g me q.modules ≡ false → Done g base me (still q) =
    λ q e a h. record { going = going_still g base me q e k.sound; unended = h; covered = a } in
    let nothing : (y : Item) → Contains [] y → ⊥ = λ y d. let r = d.1 in omega arith in
    turn_cases g me p x (Done g base me) (record {
      idle = quiet p refl (k.covered me member) (k.unended me member);
      sends = λ text number e. done_issued g ms me (Msg me number text) l c member k refl (msg_fits g.members me number text member) (sent_number g me p text number e);
      changes = λ kind number e.
          let r = changed_number g me p kind number e in
          done_issued g ms me (Switch me number kind) l c member k refl (switch_fits g.members me number kind member r.1) r.0;
      suspects = λ who q e. done_suspecting g ms me (who ∷ without who p.suspects) (SuspectOrder who) l member k (λ past. suspected_other g me p who e) nothing;
      trusts = λ who e. done_suspecting g ms me (without who p.suspects) (TrustOrder who) l member k (λ past. trusted_other g me p who e) nothing;
      crashes = λ q e. quiet (stopped p) refl (k.covered me member) (k.unended me member);
      holds = λ from frame e h. quiet (with_held p (p.held ++ (from, frame) ∷ [])) refl (k.covered me member) (k.unended me member);
      takes = λ from frame e h.
          let f = early_false p from frame h in
          let le = f.0 in
          let r : frame.version < length p.modules = omega arith in
          let y = received_may g ms members k.sound me from frame member r (subst (MayCome (member_sends g) ms me) e may) f.1 in
          done_processed g base me p from frame l c member one r refl (own_took p own from frame) k.sound y.0 y.1 (k.covered me member);
      frees = λ h e f.
          let le = ready-le (version p) p.held h f in
          let r : h.1.version < length p.modules = omega arith in
          let y = released_may g ms run members k.sound me h member r f in
          let q : Part = with_held p (without_ready (version p) p.held) in
          done_processed g base me q h.0 h.1 l c member one r refl (own_took q (record { suspects_other = own.suspects_other; ascends = own.ascends; sent = own.sent }) h.0 h.1) k.sound y.0 y.1 (k.covered me member);
    })
  where
    own_took : (q : Part) → Own g me q → (from : ℕ) (frame : Frame) → Own g me (stepped g me (still q) (record { version = frame.version; input = Took from frame.body })).part
    own_took q o from frame = own_step g me q from frame o

-- the world after a move is the one at the end of its turn
ends_turn : (g : Group) (s : Step Outer Frame) (ms : Moves) → during (world_of g ms) s.at (turn_after g s.at (turn_at g ms s.at).part s.input) ≡ world_of g (s ∷ ms)
ends_turn g s ms =
    let t : Turn = turn_after g s.at (turn_at g ms s.at).part s.input in
    let base : World = world_of g ms in
    worlds (during base s.at t) (world_of g (s ∷ ms))
    (by_at (λ i. (during base s.at t).mods i ≡ (turn_at g (s ∷ ms) i).part.modules) (mods_me base s.at t ∙ sym (ap (λ u. u.part.modules) (turn_here g s ms)))
    (λ i ne. mods_other base s.at t i ne ∙ sym (ap (λ u. u.part.modules) (turn_away g s ms i ne))))
    (λ i j. by_at (λ i. (during base s.at t).out i j ≡ sent (member_sends g) i j (inputs_of i (s ∷ ms)))
    (out_me base s.at t j ∙ sym (ap (sent (member_sends g) s.at j) (inputs_here s.at s ms refl)))
    (λ i ne. out_other base s.at t i j ne ∙ sym (ap (sent (member_sends g) i j) (inputs_away i s ms (λ q. ne (sym q))))) i)
    (λ v. ap (λ u. steps_in v s.at u.steps ++ steps_made g v ms) (sym (turn_here g s ms)))
  where
    by_at : (P : ℕ → Type 0) → P s.at → ((i : ℕ) → i ≢ s.at → P i) → (i : ℕ) → P i
    by_at P here away = by_one P s.at here away

kept_start : (g : Group) → Lawful g → Kept g []
kept_start g l =
    let none : (u : ℕ) → inputs_at u ([] ∷ []) ≡ [] = λ u. inputs_at-bound u [] in
    let zero_of : (v : ℕ) → v < length {A = Inputs} ([] ∷ []) → v ≡ 0 = λ v h. omega arith in
    let kind : (i v : ℕ) → v < length {A = Inputs} ([] ∷ []) → kind_at g i v ([] ∷ []) ≡ g.first = λ i v h.
    subst (λ u. kind_at g i u ([] ∷ []) ≡ g.first) (sym (zero_of v h)) (kind_at-zero g i ([] ∷ []) (omega arith)) in
    record {
      sound = record {
        one = λ i. omega arith;
        one_kind = λ i j v hi hj vi vj. kind i v vi ∙ sym (kind j v vj);
        fits = λ i v hi vi. subst (KindFits g.members) (sym (kind i v vi)) l.fits;
        inputs = λ i v. sym (none v);
        sent_is = λ i v j k hi h. ap (sent (g.rules.sends k g.members) i j) (none v);
        fit = λ v. tt;
        run = λ i v hi vi. tt;
        ended = λ i v hi hv. absurd (omega arith);
        apart = λ i v w hi vw hw x c y d e. omega arith;
      };
      growing = λ i h. tt;
      unended = λ i h. fresh_open g l i [] h (subst (KindFits g.members) (sym (kind i 0 (omega arith))) l.fits);
      covered = λ i h y c m. absurd (let q = c.1 in omega arith);
    }

kept_next : (g : Group) (s : Step Outer Frame) (ms : Moves) → NextIsNew g s.at (turn_at g ms s.at).part → Kept g ms → Done g (world_of g ms) s.at (turn_after g s.at (turn_at g ms s.at).part s.input) → Kept g (s ∷ ms)
kept_next g s ms new k d =
    let here = turn_here g s ms in
    record {
      sound = subst (Sound g) (ends_turn g s ms) d.going.sound;
      growing = by_one (λ i. i < g.members → IsGrowing g i (inputs_of i (s ∷ ms))) s.at
          (λ h. subst (IsGrowing g s.at) (sym (inputs_here s.at s ms refl)) (d.going.later.prefix, new, k.growing s.at h))
          (λ i ne h. subst (IsGrowing g i) (sym (inputs_away i s ms (λ q. ne (sym q)))) (k.growing i h));
      unended = by_one (λ i. i < g.members → has_ended g i (turn_at g (s ∷ ms) i).part.modules ≡ false) s.at
          (λ h. ap (λ u. has_ended g s.at u.part.modules) here ∙ d.unended)
          (λ i ne h. ap (λ u. has_ended g i u.part.modules) (turn_away g s ms i ne) ∙ k.unended i h);
      covered = by_one (λ i. i < g.members → Covered g i (turn_at g (s ∷ ms) i).part) s.at
          (λ h. subst (λ u. Covered g s.at u.part) (sym here) d.covered)
          (λ i ne h. subst (λ u. Covered g i u.part) (sym (turn_away g s ms i ne)) (k.covered i h));
    }

-- For every run of moves of members.
pub kept_all : (g : Group) (ms : Moves) → Lawful g → AllMembers g.members ms → IsRun (member_sends g) ms → length ms < 2 ^ 31 → Kept g ms
kept_all g [] l m r c = kept_start g l
kept_all g (s ∷ ms) l m r c =
    let k = kept_all g ms l m.1 r.1 (omega arith) in
    let short : (v : ℕ) → suc (length (steps_made g v ms)) < 2 ^ 40 = λ v. let q = steps_few g ms v l.few (k.sound.fit v) in omega arith in
    let new = next_new g ms l k.sound (λ v. let q = short v in omega arith) s.at m.0 in
    kept_next g s ms new k (done_turn g ms s.at s.input l short m.0 m.1 r.1 r.0 k)

pub short_all : (g : Group) (ms : Moves) → Lawful g → Kept g ms → length ms < 2 ^ 31 → (v : ℕ) → length (steps_made g v ms) < 2 ^ 40
short_all g ms l k c v = let q = steps_few g ms v l.few (k.sound.fit v) in omega arith
