-- What can be read of a world that stands for events.
use Rattle.std.proofs.Common.{ℕ, zero, suc, ◌≡◌, ◌<◌, ◌≤◌, ◌&&◌, not, Bool, true, false, List, [], ◌∷◌, ◌++◌, length, refl, sym, ◌∙◌, ap, subst, arith, Option, Some, None, slice_get, nat_lt, is_some, if◌then◌else◌, IsSome, IsTrue, inl, inr, cond, ◌↔◌}
use Rattle.std.specs.Prelude.{unwrap_or, nat_le}
use Rattle.std.proofs.Props.{props}
use Rattle.std.proofs.Math.Logic.{∥∥₁_elim}
use Rattle.std.proofs.lemmas.Bool.Decides.{nat_tests}
use Rattle.fifo_net.specs.Net.{Input, inputs_of, taken_on}
use Rattle.order_trait.specs.declared.ordering.Ordering.{Ghosts}
use Rattle.upd_base.specs.Plan.{Planned, is_plan, planned, step_in, steps_of}
use Rattle.upd_base.specs.declared.call.Call.{Call}
use Rattle.upd_base.specs.declared.call.Call.TheVariants.{Send}
use Rattle.upd_base.specs.declared.answer.Answer.TheVariants.{Accepted, Full, Crashed}
use Rattle.upd_base.specs.declared.limits.TheConstants.{MAX_UNDELIVERED}
use Rattle.upd_base.proofs.PlanFacts.{plan_facts, planned_member}
use Rattle.upd_base.specs.declared.call.Step.{Step as PlannedStep}
use Rattle.upd_base.specs.declared.frame.Frame.{Frame}
use Rattle.group_run.specs.Group.{Rules, Group, Outer}
use Rattle.group_run.specs.Part.{Part, undelivered}
use Rattle.group_run.specs.Answer.{answer, answer_up}
use Rattle.group_run.proofs.Lists.{tested}
use Rattle.group_run.specs.Turn.{turn_of}
use Rattle.group_run.specs.Run.{Events, IsGroupRun, IsRelease, group, part, moves_in, next_frame, crashed_in, calls_made}
use Rattle.member_rules.specs.Kept.{Kept, rules_of, group_of}
use Rattle.member_rules.specs.Stands.{part_of, Stands as MemberStands}
use Rattle.member_core.specs.Input.{would_fill}
use Rattle.group_world.specs.Seen.{Seen, IsWorldOf, frames_on, made_by}
use Rattle.group_world.specs.Moves.{is_enabled, is_up}
use Rattle.group_world.specs.declared.moves.Move.TheVariants as move
use Rattle.group_world.specs.Stands.{Stands}
use Rattle.group_run.specs.Settled.{IsSettled}
use Rattle.run_journal.specs.Causes.{open_frame, next_call, would_be_full}
use Rattle.run_journal.proofs.Props.{IsGroupRun-prop, IsRelease-prop}

-- the events are a run
pub run_of : {O : Type 0} (G : Ghosts O) (plan : Planned) (s : Seen O) (past : Events) → ∥ Stands G plan s past ∥₁ → IsGroupRun (rules_of G) plan past
run_of G plan s past t = ∥∥₁_elim t (IsGroupRun-prop (rules_of G) plan past) (λ st. st.run)

-- Members ----------------------------------------------------------------------------------------------------

group_is : {O : Type 0} (G : Ghosts O) (plan : Planned) (s : Seen O) (i : ℕ) (k : Kept O) → IsWorldOf G plan s → slice_get s.members i ≡ Some k → group_of G k ≡ group (rules_of G) plan
group_is G plan s i k w e = let q = w.seats i k e in λ j. record { rules = rules_of G; members = q.0 j; first = q.1 j }

-- what is read of the member at a place is what the events say of that member's part
pub reads : {O X : Type 0} (G : Ghosts O) (plan : Planned) (s : Seen O) (past : Events) (i : ℕ) (k : Kept O) (x : X) (f : Group → ℕ → Part → X) →
    IsWorldOf G plan s → Stands G plan s past → slice_get s.members i ≡ Some k →
    ((ins : List (Input Outer Frame)) → MemberStands G k ins → x ≡ f (group_of G k) k.me (part_of G k ins)) →
    x ≡ f (group (rules_of G) plan) i (part (rules_of G) plan past i)
reads G plan s past i k x f w st e h =
    let ins : List (Input Outer Frame) = inputs_of i (moves_in (rules_of G) plan past) in
    subst (λ (me : ℕ). x ≡ f (group (rules_of G) plan) me (turn_of (group (rules_of G) plan) me ins).part) (w.seats i k e).2
    (subst (λ (g : Group). x ≡ f g k.me (turn_of g k.me ins).part) (group_is G plan s i k w e) (h ins (st.members i k e)))

-- the same, where nothing is known but that the world stands for the events
pub read : {O X : Type 0} (G : Ghosts O) (plan : Planned) (s : Seen O) (past : Events) (i : ℕ) (k : Kept O) (x : X) (f : Group → ℕ → Part → X) → IsSet X →
    IsWorldOf G plan s → ∥ Stands G plan s past ∥₁ → slice_get s.members i ≡ Some k →
    ((ins : List (Input Outer Frame)) → MemberStands G k ins → x ≡ f (group_of G k) k.me (part_of G k ins)) →
    x ≡ f (group (rules_of G) plan) i (part (rules_of G) plan past i)
read G plan s past i k x f set w t e h = ∥∥₁_elim t (set _ _) (λ st. reads G plan s past i k x f w st e h)

-- there is an element at each place of a list
pub element : {A : Type 0} (xs : List A) (i : ℕ) → i < length xs → (x : A) × (slice_get xs i ≡ Some x)
element [] i l = absurd (omega arith)
element (x ∷ xs) zero l = (x, refl)
element (x ∷ xs) (suc i) l = element xs i (omega arith)

crashed_is : {O : Type 0} (G : Ghosts O) (plan : Planned) (s : Seen O) (past : Events) (i : ℕ) (k : Kept O) → IsWorldOf G plan s → Stands G plan s past → slice_get s.members i ≡ Some k →
    k.crashed ≡ crashed_in (rules_of G) plan past i
crashed_is G plan s past i k w st e = reads G plan s past i k k.crashed (λ g me p. p.crashed) w st e (λ ins m. m.crashed_is)

-- Links ------------------------------------------------------------------------------------------------------

get_behind : {A : Type 0} (xs ys : List A) → slice_get (xs ++ ys) (length xs) ≡ slice_get ys 0
get_behind [] ys = refl
get_behind (x ∷ xs) ys = get_behind xs ys

-- the next frame of a link is the first that waits on it
pub next_is : {O : Type 0} (G : Ghosts O) (plan : Planned) (s : Seen O) (past : Events) (from to : ℕ) → from < plan.members → to < plan.members → Stands G plan s past →
    next_frame (rules_of G) plan past from to ≡ slice_get (frames_on s from to) 0
next_is G plan s past from to lf lt st =
    let ms = moves_in (rules_of G) plan past in
    ap (λ xs. slice_get xs (length (taken_on from to ms))) (st.links from to lf lt) ∙ get_behind (taken_on from to ms) (frames_on s from to)

pub frame_is : {O : Type 0} (G : Ghosts O) (plan : Planned) (s : Seen O) (past : Events) (from to : ℕ) → IsSet Frame → from < plan.members → to < plan.members → ∥ Stands G plan s past ∥₁ →
    next_frame (rules_of G) plan past from to ≡ slice_get (frames_on s from to) 0
frame_is G plan s past from to set lf lt t =
    let here : IsProp (next_frame (rules_of G) plan past from to ≡ slice_get (frames_on s from to) 0) = hlevel (props, set) in
    ∥∥₁_elim t here (next_is G plan s past from to lf lt)

pub not_open : (b : Bool) (o : Option Frame) → b ≡ true → None ≡ (if b then None else o)
not_open b o e = rw e refl

pub is_open : (b : Bool) (x o : Option Frame) → b ≡ false → x ≡ o → x ≡ (if b then None else o)
is_open b x o e q = rw e q

-- an open frame is that of a member that is up
pub open_up : (b : Bool) (o : Option Frame) (frame : Frame) → (if b then None else o) ≡ Some frame → (b ≡ false) × (o ≡ Some frame)
open_up true o frame e = absurd (let q : None ≡ Some frame = e in cc)
open_up false o frame e = (refl, e)

pub shut : (b : Bool) (o : Option Frame) → (if b then None else o) ≡ None → b ≡ false → o ≡ None
shut b o e q = rw q at e

lt-true : (a b : ℕ) → a < b → nat_lt a b ≡ true
lt-true a b l = grind (arith, nat_tests)

receipt_tests : (a b c : Bool) → a ≡ true → b ≡ true → c ≡ true → (a && b && c) ≡ true
receipt_tests a b c p q r = rw (p, q, r) refl

-- where a frame is open, its receipt is enabled
receipt_enabled : {O : Type 0} (G : Ghosts O) (plan : Planned) (s : Seen O) (past : Events) (from to : ℕ) (frame : Frame) → IsWorldOf G plan s → Stands G plan s past → from < plan.members → to < plan.members →
    open_frame (rules_of G) plan past from to ≡ Some frame → is_enabled plan s (move.Receive from to) ≡ true
receipt_enabled {O} G plan s past from to frame w st lf lt e =
    let o = open_up (crashed_in (rules_of G) plan past to) (next_frame (rules_of G) plan past from to) frame e in
    let many = w.many in
    let width = w.width in
    let m = element s.members to (omega arith) in
    let up : is_up (slice_get s.members to) ≡ true = ap (λ x. is_up x) m.1 ∙ ap not (crashed_is G plan s past to m.0 w st m.1 ∙ o.0) in
    let some : is_some (slice_get (frames_on s from to) 0) ≡ true = ap (λ x. is_some x) (sym (next_is G plan s past from to lf lt st) ∙ o.1) in
    receipt_tests (nat_lt from s.width) (is_up (slice_get s.members to)) (is_some (slice_get (frames_on s from to) 0)) (lt-true from s.width (omega arith)) up some

pub may_receive : {O : Type 0} (G : Ghosts O) (plan : Planned) (s : Seen O) (past : Events) (from to : ℕ) (frame : Frame) → IsWorldOf G plan s → ∥ Stands G plan s past ∥₁ → from < plan.members → to < plan.members →
    open_frame (rules_of G) plan past from to ≡ Some frame → is_enabled plan s (move.Receive from to) ≡ true
may_receive G plan s past from to frame w t lf lt e =
    let here : IsProp (is_enabled plan s (move.Receive from to) ≡ true) = hlevel props in
    ∥∥₁_elim t here (λ st. receipt_enabled G plan s past from to frame w st lf lt e)

-- Calls ------------------------------------------------------------------------------------------------------

pub made_is : {O : Type 0} (G : Ghosts O) (plan : Planned) (s : Seen O) (past : Events) (thread : ℕ) → ∥ Stands G plan s past ∥₁ → made_by s thread ≡ calls_made thread past
made_is G plan s past thread t =
    let here : IsProp (made_by s thread ≡ calls_made thread past) = hlevel props in
    ∥∥₁_elim t here (λ st. st.calls thread)

pub may_call : {O : Type 0} (G : Ghosts O) (plan : Planned) (s : Seen O) (past : Events) (thread : ℕ) (step : PlannedStep) → ∥ Stands G plan s past ∥₁ →
    next_call plan past thread ≡ Some step → is_enabled plan s (move.Call thread) ≡ true
may_call G plan s past thread step t e =
    ap (λ made. is_some (planned plan thread made)) (made_is G plan s past thread t) ∙ ap (λ o. is_some o) e

behind : {A : Type 0} (xs : List A) (i : ℕ) → length xs ≤ i → slice_get xs i ≡ None
behind [] i l = refl
behind (x ∷ xs) zero l = absurd (omega arith)
behind (x ∷ xs) (suc i) l = behind xs i (omega arith)

-- no call is planned at a place behind a thread's calls, or in a thread behind the last
pub none_behind : (plan : Planned) (thread index : ℕ) → length (steps_of plan thread) ≤ index → planned plan thread index ≡ None
none_behind plan thread index l = go (slice_get plan.threads thread) l
  where
    go : (o : Option (List PlannedStep)) → length (unwrap_or o []) ≤ index → step_in o index ≡ None
    go None h = refl
    go (Some steps) h = behind steps index h

pub no_thread : (plan : Planned) (thread index : ℕ) → length plan.threads ≤ thread → planned plan thread index ≡ None
no_thread plan thread index l = ap (λ x. step_in x index) (behind plan.threads thread l)

-- an end at which all threads were seen
pub all_made : (plan : Planned) (past : Events) (n : ℕ) → length plan.threads ≤ n → ((t : ℕ) → t < n → next_call plan past t ≡ None) → (t : ℕ) → next_call plan past t ≡ None
all_made plan past n l h t = elim (tested (nat_lt t n)) [
  | inl e ↦ h t (lt-of t n e)
  | inr e ↦ no_thread plan t (calls_made t past) (let k = lt-not t n e in omega arith)
]
  where
    lt-of : (a b : ℕ) → nat_lt a b ≡ true → a < b
    lt-of a b e = grind (arith, nat_tests)

    lt-not : (a b : ℕ) → nat_lt a b ≡ false → b ≤ a
    lt-not a b e = grind (arith, nat_tests)

-- the member of a thread's next call is one of the plan
pub caller_fits : (plan : Planned) (past : Events) (thread : ℕ) (step : PlannedStep) → is_plan plan ≡ true → next_call plan past thread ≡ Some step → step.at < plan.members
caller_fits plan past thread step e q = planned_member plan (plan_facts plan e).open_plan thread (calls_made thread past) step q

-- a message is answered as full where the member is up and has no room
pub full_of : (g : Group) (me : ℕ) (p : Part) (call : Call) (text : List ℕ) (full : Bool) → call ≡ Send text → full ≡ would_fill g me p → full ≡ would_be_full (Some (answer g me p call))
full_of g me p call text full e q = q ∙ go p.crashed (nat_le MAX_UNDELIVERED (length (undelivered g me p))) ∙ ap (λ x. would_be_full (Some (answer g me p x))) (sym e)
  where
    go : (a b : Bool) → (not a && b) ≡ would_be_full (Some (cond a Crashed (cond b Full (Accepted (length p.accepted)))))
    go true b = refl
    go false true = refl
    go false false = refl

-- At rest ----------------------------------------------------------------------------------------------------

pub settled_of : (rules : Rules) (plan : Planned) (past : Events) → ((t : ℕ) → next_call plan past t ≡ None) →
    ((from to : ℕ) → from < plan.members → to < plan.members → open_frame rules plan past from to ≡ None) → ((at : ℕ) → IsRelease rules plan past at → ⊥) → IsSettled rules plan past
settled_of rules plan past calls links releases = record {
  calls = calls;
  receipts = λ from to r. nothing (next_frame rules plan past from to) (shut (crashed_in rules plan past to) (next_frame rules plan past from to) (links from to r.from_member r.to_member) r.up) r.frame;
  releases = releases;
}
  where
    nothing : (o : Option Frame) → o ≡ None → IsSome o → ⊥
    nothing None e h = let q : false ≡ true = h in cc
    nothing (Some frame) e h = let q : Some frame ≡ None = e in cc

pub links_of : (rules : Rules) (plan : Planned) (past : Events) → IsSettled rules plan past → (from to : ℕ) → from < plan.members → to < plan.members → open_frame rules plan past from to ≡ None
links_of rules plan past s from to lf lt = go (crashed_in rules plan past to) (next_frame rules plan past from to) refl refl
  where
    go : (b : Bool) (o : Option Frame) → crashed_in rules plan past to ≡ b → next_frame rules plan past from to ≡ o → (if b then None else o) ≡ None
    go true o p q = refl
    go false None p q = refl
    go false (Some frame) p q = absurd (s.receipts from to (record { from_member = lf; to_member = lt; up = p; frame = ap (λ x. is_some x) q }))

-- what a test says of every run that the world stands for is true of this one
pub may_release : {O : Type 0} (G : Ghosts O) (plan : Planned) (s : Seen O) (past : Events) (at : ℕ) (b : Bool) → ∥ Stands G plan s past ∥₁ → b ≡ true →
    ((past : Events) → Stands G plan s past → IsTrue b ↔ IsRelease (rules_of G) plan past at) → IsRelease (rules_of G) plan past at
may_release G plan s past at b t e h = ∥∥₁_elim t (IsRelease-prop (rules_of G) plan past at) (λ st. (h past st).0 e)
