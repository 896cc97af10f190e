-- What an enabled move asks of a member, and what the member may have.
use Rattle.std.proofs.Common.{ℕ, zero, suc, ◌≡◌, ◌<◌, ◌+◌, ◌&&◌, Bool, true, false, not, List, [], ◌∷◌, length, refl, sym, ◌∙◌, ap, subst, arith, Some, None, Option}
use Rattle.std.specs.Prelude.{slice_get, All, IfSome, nat_lt, is_some}
use Rattle.std.proofs.lemmas.Bool.{and_parts}
use Rattle.std.proofs.lemmas.List.Elements.{All-head}
use Rattle.std.proofs.lemmas.Option.{slice_get_within}
use Rattle.order_trait.specs.declared.ordering.Ordering.{Ghosts}
use Rattle.upd_base.specs.Plan.{Planned, planned}
use Rattle.upd_base.specs.declared.call.Step.{Step}
use Rattle.upd_base.specs.declared.frame.Frame.{Frame}
use Rattle.upd_base.proofs.Fits.{nat_lt-true, true-nat_lt}
use Rattle.upd_base.proofs.PlanFacts.{plan_facts, planned_member}
use Rattle.group_run.specs.Part.{version}
use Rattle.group_run.specs.Held.{first_ready}
use Rattle.fifo_net.specs.Net.{inputs_of}
use Rattle.group_run.specs.Turn.{turn_of}
use Rattle.group_run.specs.Run.{Events, moves_in, IsReceipt, IsRelease, part, group}
use Rattle.member_rules.specs.Kept.{Kept, rules_of}
use Rattle.member_rules.specs.Stands.{Holds}
use Rattle.member_rules.proofs.Reading.{version_is}
use Rattle.member_core.specs.Input.{MayCall, MayTake}
use Rattle.group_world.specs.Seen.{Seen, frames_on, FrameFits, IsWorldOf}
use Rattle.group_world.specs.Moves.{can_receive, is_up, is_ready}
use Rattle.group_world.specs.Stands.{Stands}
use Rattle.group_world.proofs.Lists.{sum_within}
use Rattle.group_world.proofs.Inputs.{next_is}
use Rattle.group_world.proofs.Standing.{at_seat, is_there}

-- A call: no member has made more items than the plan has calls, and its changes name served kinds.
pub may_call : {O : Type 0} (G : Ghosts O) (plan : Planned) (s : Seen O) (thread index i : ℕ) (step : Step) (k : Kept O) → IsWorldOf G plan s → planned plan thread index ≡ Some step → slice_get s.members i ≡ Some k → MayCall G k step.call
may_call G plan s thread index i step k w p e =
    let few = (plan_facts plan w.of_plan).few_calls in
    let within = sum_within s.made plan.threads w.threads (λ j l. w.planned j) in
    let mine = w.items i k e in
    record { made = omega (arith, few, within, mine); served = λ kind c. w.served thread index step p kind c }

pub step_below_members : {O : Type 0} (G : Ghosts O) (plan : Planned) (s : Seen O) (thread index : ℕ) (step : Step) → IsWorldOf G plan s → planned plan thread index ≡ Some step → step.at < length s.members
step_below_members G plan s thread index step w p = let l = planned_member plan (plan_facts plan w.of_plan).open_plan thread index step p in let m = w.many in omega arith

not_true : (b : Bool) → not b ≡ true → b ≡ false
not_true true e = absurd (cc)
not_true false e = refl

-- A receipt: the member is up, and the link has a frame.
pub up_found : {O : Type 0} (o : Option (Kept O)) → is_up o ≡ true → (k : Kept O) × (o ≡ Some k) × (k.crashed ≡ false)
up_found None e = absurd (cc)
up_found (Some k) e = (k, refl, not_true k.crashed e)

pub some_found : {A : Type 0} (o : Option A) → is_some o ≡ true → (a : A) × (o ≡ Some a)
some_found None e = absurd (cc)
some_found (Some a) e = (a, refl)

pub record CanReceive {O : Type 0} (s : Seen O) (from to : ℕ) : Type 0 where
  pub sender : from < s.width
  pub member : Kept O
  pub found : slice_get s.members to ≡ Some member
  pub up : member.crashed ≡ false
  pub frame : Frame
  pub next : slice_get (frames_on s from to) 0 ≡ Some frame

pub received : {O : Type 0} (s : Seen O) (from to : ℕ) → can_receive s from to ≡ true → CanReceive s from to
received s from to e =
    let a = and_parts (nat_lt from s.width && is_up (slice_get s.members to)) (is_some (slice_get (frames_on s from to) 0)) e in
    let b = and_parts (nat_lt from s.width) (is_up (slice_get s.members to)) a.0 in
    let u = up_found (slice_get s.members to) b.1 in
    let f = some_found (slice_get (frames_on s from to) 0) a.1 in
    record { sender = nat_lt-true from s.width b.0; member = u.0; found = u.1; up = u.2; frame = f.0; next = f.1 }

pub can_be_received : {O : Type 0} (s : Seen O) (from to : ℕ) → CanReceive s from to → can_receive s from to ≡ true
can_be_received s from to c = rw (true-nat_lt from s.width c.sender, c.found, c.up, c.next) refl

-- The first of what waits on a link fits, as all of it does.
first_fits : {A : Type 0} (P : A → Type 0) (xs : List A) → All P xs → IfSome (slice_get xs 0) P
first_fits P [] h = tt
first_fits P (x ∷ xs) h = All-head P x xs h

pub next_fits : {O : Type 0} (G : Ghosts O) (plan : Planned) (s : Seen O) (from to : ℕ) (next : Option Frame) → IsWorldOf G plan s → from < s.width → to < s.width → next ≡ slice_get (frames_on s from to) 0 → IfSome next (FrameFits plan.members)
next_fits G plan s from to next w f t e =
    let P : Option Frame → Type 0 = λ o. IfSome o (FrameFits plan.members) in
    let sender : from < plan.members = let m = w.width in omega (arith, f, m) in
    let below : to < plan.members = let m = w.width in omega (arith, t, m) in
    subst P (sym e) (first_fits (FrameFits plan.members) (frames_on s from to) (w.fits from to sender below))

pub may_take : {O : Type 0} (G : Ghosts O) (plan : Planned) (s : Seen O) (from to : ℕ) (frame : Frame) (k : Kept O) → IsWorldOf G plan s → can_receive s from to ≡ true → slice_get (frames_on s from to) 0 ≡ Some frame → slice_get s.members to ≡ Some k → MayTake k from frame
may_take G plan s from to frame k w e next found =
    let c = received s from to e in
    let same : c.member ≡ k = let q = sym c.found ∙ found in cc in
    let n : k.members ≡ plan.members = (w.seats to k found).0 in
    let below : to < s.width = let l = slice_get_within s.members to k found in let m = w.many in let d = w.width in omega arith in
    let sender : from < plan.members = let l = c.sender in let m = w.width in omega arith in
    let fit : FrameFits plan.members frame = next_fits G plan s from to (Some frame) w c.sender below (sym next) in
    record { up = sym (ap (λ j. j.crashed) same) ∙ c.up; from_fits = omega arith; frame_fits = rw n fit.0; frame_counts = fit.1 }

-- A release: the member is up, and holds a frame that is ready.
pub ready_found : {O : Type 0} (o : Option (Kept O)) → is_ready o ≡ true → (k : Kept O) × (o ≡ Some k) × (k.crashed ≡ false) × (is_some (first_ready k.repl.version k.held) ≡ true)
ready_found None e = absurd (cc)
ready_found (Some k) e = let a = and_parts (not k.crashed) (is_some (first_ready k.repl.version k.held)) e in (k, refl, not_true k.crashed a.0, a.1)

-- The same of the run ------------------------------------------------------------------------------------------------

-- what a member of the world holds
held_at : {O : Type 0} (G : Ghosts O) (plan : Planned) (s : Seen O) (past : Events) (i : ℕ) (k : Kept O) → IsWorldOf G plan s → Stands G plan s past → slice_get s.members i ≡ Some k → Holds G (group (rules_of G) plan) i k (part (rules_of G) plan past i)
held_at G plan s past i k w st e = at_seat G plan i k (w.seats i k e) (λ h j. Holds G h j k (turn_of h j (inputs_of i (moves_in (rules_of G) plan past))).part) (st.members i k e)

pub member_found : {A : Type 0} (xs : List A) (i : ℕ) → i < length xs → (x : A) × (slice_get xs i ≡ Some x)
member_found [] i l = absurd (omega arith)
member_found (x ∷ xs) zero l = (x, refl)
member_found (x ∷ xs) (suc i) l = member_found xs i (omega arith)

-- a member is up and holds a frame that is ready, as a member of the run
pub enabled_receive : {O : Type 0} (G : Ghosts O) (plan : Planned) (s : Seen O) (past : Events) (from to : ℕ) → IsWorldOf G plan s → Stands G plan s past → (can_receive s from to ≡ true → IsReceipt (rules_of G) plan past from to) × (IsReceipt (rules_of G) plan past from to → can_receive s from to ≡ true)
enabled_receive {O} G plan s past from to w st = (there, back)
  where
    there : can_receive s from to ≡ true → IsReceipt (rules_of G) plan past from to
    there e =
        let c = received s from to e in
        let below : to < plan.members = let l = slice_get_within s.members to c.member c.found in let m = w.many in omega arith in
        let sender : from < plan.members = let l = c.sender in let m = w.width in omega arith in
        record {
          from_member = sender;
          to_member = below;
          up = sym (held_at G plan s past to c.member w st c.found).crashed_is ∙ c.up;
          frame = is_there _ c.frame (next_is _ _ _ (st.links from to sender below) ∙ c.next);
        }

    back : IsReceipt (rules_of G) plan past from to → can_receive s from to ≡ true
    back r =
        let m = member_found s.members to (let q = w.many in let l = r.to_member in omega arith) in
        let f = some_found _ r.frame in
        can_be_received s from to (record {
          sender = let l = r.from_member in let q = w.width in omega arith;
          member = m.0;
          found = m.1;
          up = (held_at G plan s past to m.0 w st m.1).crashed_is ∙ r.up;
          frame = f.0;
          next = sym (next_is _ _ _ (st.links from to r.from_member r.to_member)) ∙ f.1;
        })

pub enabled_release : {O : Type 0} (G : Ghosts O) (plan : Planned) (s : Seen O) (past : Events) (i : ℕ) → IsWorldOf G plan s → Stands G plan s past → ((k : Kept O) → slice_get s.members i ≡ Some k → length k.modules ≡ k.repl.version + 1)
    → (is_ready (slice_get s.members i) ≡ true → IsRelease (rules_of G) plan past i) × (IsRelease (rules_of G) plan past i → is_ready (slice_get s.members i) ≡ true)
enabled_release {O} G plan s past i w st versions = (there, back)
  where
    there : is_ready (slice_get s.members i) ≡ true → IsRelease (rules_of G) plan past i
    there e =
        let c = ready_found (slice_get s.members i) e in
        let h = held_at G plan s past i c.0 w st c.1 in
        let v : version (part (rules_of G) plan past i) ≡ c.0.repl.version = version_is G (group (rules_of G) plan) i c.0 (part (rules_of G) plan past i) h (versions c.0 c.1) in
        record {
          member = let l = slice_get_within s.members i c.0 c.1 in let m = w.many in omega arith;
          up = sym h.crashed_is ∙ c.2;
          ready = rw (v, ← h.held_is) c.3;
        }

    back : IsRelease (rules_of G) plan past i → is_ready (slice_get s.members i) ≡ true
    back r =
        let m = member_found s.members i (let q = w.many in let l = r.member in omega arith) in
        let h = held_at G plan s past i m.0 w st m.1 in
        let v : version (part (rules_of G) plan past i) ≡ m.0.repl.version = version_is G (group (rules_of G) plan) i m.0 (part (rules_of G) plan past i) h (versions m.0 m.1) in
        let u : m.0.crashed ≡ false = h.crashed_is ∙ r.up in
        let f : is_some (first_ready m.0.repl.version m.0.held) ≡ true = rw (← v, h.held_is) r.ready in
        rw (m.1, u, f) refl

-- where two tests are one and two moves are one, what the one test decides of the one move the other does of the other
pub carried : {A : Type 0} (F : A → Type 0) (r b : Bool) (x y : A) → r ≡ b → x ≡ y → (b ≡ true → F y) × (F y → b ≡ true) → (r ≡ true → F x) × (F x → r ≡ true)
carried F r b x y p q h = ((λ e. subst F (sym q) (h.0 (sym p ∙ e))), (λ f. p ∙ h.1 (subst F q f)))
