-- What the input of a prepared event is to the members and to the run.
use Rattle.std.proofs.Common.{ℕ, ◌≡◌, ◌≢◌, ◌<◌, ◌≤◌, inl, inr, List, [], ◌∷◌, ◌++◌, length, refl, sym, ◌∙◌, ap, subst, arith, Some, None, Option}
use Rattle.std.specs.Prelude.{slice_get}
use Rattle.std.proofs.lemmas.Option.{slice_get_within}
use Rattle.std.proofs.lemmas.List.{get_or_past}
use Rattle.fifo_net.specs.Net.{Called, Took, taken_on, sent_on}
use Rattle.upd_base.specs.declared.answer.Answer.{Answer}
use Rattle.upd_base.specs.declared.call.Step.{Step}
use Rattle.upd_base.specs.declared.frame.Frame.{Frame}
use Rattle.upd_base.specs.declared.event.Event.{Event}
use Rattle.upd_base.specs.declared.event.Event.TheVariants.{Call as CallEvent, Receive as ReceiveEvent, Release as ReleaseEvent}
use Rattle.upd_base.specs.Plan.{Planned, planned, steps_of, step_in}
use Rattle.group_run.specs.Group.{Group, Makes as MakesCall, Releases}
use Rattle.group_run.specs.Turn.{member_sends}
use Rattle.group_run.specs.Run.{Events, Moves, moves, next_on, call_made, frame_taken, calls_made}
use Rattle.group_run.proofs.Lists.{same_or, eqb_self, eqb_other}
use Rattle.member_core.specs.declared.input.Input.{Input}
use Rattle.member_core.specs.declared.input.Input.TheVariants.{Call, Receive, Release}
use Rattle.member_core.specs.Input.{input_of}
use Rattle.group_world.specs.Seen.{Seen, frames_on, made_by}
use Rattle.group_world.specs.Prepared.{place_of, left_on, made_after}
use Rattle.group_world.specs.Makes.{Gives}
use Rattle.group_world.proofs.Nets.{taken_call, taken_receipt}

-- The step that an event makes in a network is that of its input -----------------------------------------------------

-- the frame that a link has next is the first that waits on it
pub next_is : (sent took waiting : List Frame) → sent ≡ took ++ waiting → slice_get sent (length took) ≡ slice_get waiting 0
next_is sent took waiting e = ap (λ l. slice_get l (length took)) e ∙ behind took waiting
  where
    behind : (xs ys : List Frame) → slice_get (xs ++ ys) (length xs) ≡ slice_get ys 0
    behind [] ys = refl
    behind (x ∷ xs) ys = behind xs ys

pub moved : {O : Type 0} (g : Group) (plan : Planned) (s : Seen O) (past : Events) (answered : Option Answer) (e : Event) (x : Input) → Gives plan s answered e x
    → ((from to : ℕ) → e ≡ ReceiveEvent from to → sent_on (member_sends g) from to (moves g plan past) ≡ taken_on from to (moves g plan past) ++ frames_on s from to)
    → moves g plan (e ∷ past) ≡ record { at = place_of e; input = input_of x } ∷ moves g plan past
moved g plan s past answered (CallEvent thread index member given) (Call call) n links =
    ap (λ o. call_made member o (moves g plan past)) n.0.planned_step ∙ ap (λ (c : _). record { at = member; input = Called (MakesCall c) } ∷ moves g plan past) n.1
moved g plan s past answered (ReceiveEvent from to) (Receive f frame) n links =
    let next : next_on g (moves g plan past) from to ≡ Some frame = next_is _ _ _ (links from to refl) ∙ n.2 in
    ap (λ o. frame_taken from to o (moves g plan past)) next ∙ ap (λ k. record { at = to; input = Took k frame } ∷ moves g plan past) (sym n.0)
moved g plan s past answered (ReleaseEvent at) Release n links = refl
moved g plan s past answered (CallEvent thread index member given) (Receive f frame) n links = absurd n
moved g plan s past answered (CallEvent thread index member given) Release n links = absurd n
moved g plan s past answered (ReceiveEvent from to) (Call call) n links = absurd n
moved g plan s past answered (ReceiveEvent from to) Release n links = absurd n
moved g plan s past answered (ReleaseEvent at) (Call call) n links = absurd n
moved g plan s past answered (ReleaseEvent at) (Receive f frame) n links = absurd n

-- What it takes off a link is what it leaves no longer there
pub left_is : {O : Type 0} (plan : Planned) (s : Seen O) (ms : Moves) (answered : Option Answer) (e : Event) (x : Input) → Gives plan s answered e x → (from to : ℕ)
    → taken_on from to (record { at = place_of e; input = input_of x } ∷ ms) ++ left_on e from to (frames_on s from to) ≡ taken_on from to ms ++ frames_on s from to
left_is plan s ms answered (CallEvent thread index member given) (Call call) n from to = ap (λ l. l ++ frames_on s from to) (taken_call from to member (MakesCall call) ms)
left_is plan s ms answered (ReceiveEvent a t) (Receive f frame) n from to =
    let P : ℕ → Type 0 = λ k. taken_on from to (record { at = t; input = Took f frame } ∷ ms) ++ left_on (ReceiveEvent k t) from to (frames_on s from to) ≡ taken_on from to ms ++ frames_on s from to in
    subst P n.0 (taken_receipt from to f t frame ms (frames_on s from to) (λ p q. ap (λ k. slice_get (frames_on s k to) 0) (sym p ∙ n.0) ∙ ap (λ k. slice_get (frames_on s a k) 0) (sym q) ∙ n.2))
left_is plan s ms answered (ReleaseEvent at) Release n from to = ap (λ l. l ++ frames_on s from to) (taken_call from to at Releases ms)
left_is plan s ms answered (CallEvent thread index member given) (Receive f frame) n from to = absurd n
left_is plan s ms answered (CallEvent thread index member given) Release n from to = absurd n
left_is plan s ms answered (ReceiveEvent a t) (Call call) n from to = absurd n
left_is plan s ms answered (ReceiveEvent a t) Release n from to = absurd n
left_is plan s ms answered (ReleaseEvent at) (Call call) n from to = absurd n
left_is plan s ms answered (ReleaseEvent at) (Receive f frame) n from to = absurd n

-- How many calls were made -------------------------------------------------------------------------------------------

pub calls_after : (e : Event) (past : Events) (thread : ℕ) → calls_made thread (e ∷ past) ≡ made_after e thread (calls_made thread past)
calls_after (CallEvent t index member given) past thread = refl
calls_after (ReceiveEvent from to) past thread = refl
calls_after (ReleaseEvent at) past thread = refl

-- a planned step is one of its thread's, which is one of the plan's
pub step_below : (plan : Planned) (thread index : ℕ) (step : Step) → planned plan thread index ≡ Some step → (thread < length plan.threads) × (index < length (steps_of plan thread))
step_below plan thread index step e = found (slice_get plan.threads thread) refl e
  where
    found : (o : Option (List Step)) → slice_get plan.threads thread ≡ o → step_in o index ≡ Some step → (thread < length plan.threads) × (index < length (steps_of plan thread))
    found None is e = absurd (let q : None ≡ Some step = e in cc)
    found (Some steps) is e = (slice_get_within plan.threads thread steps is, rw is (slice_get_within steps index step e))

-- of a thread that the plan does not have none were made, before and after
pub none_after : {O : Type 0} (plan : Planned) (s : Seen O) (answered : Option Answer) (e : Event) (x : Input) → Gives plan s answered e x → length s.made ≡ length plan.threads
    → (thread : ℕ) → length s.made ≤ thread → made_after e thread (made_by s thread) ≡ 0
none_after plan s answered (CallEvent t index member given) (Call call) n many thread past =
    let lt = (step_below plan t index n.0.step n.0.planned_step).0 in
    let ne : t ≢ thread = omega arith in
    rw (eqb_other t thread ne) (get_or_past s.made thread 0 past)
none_after plan s answered (ReceiveEvent from to) x n many thread past = get_or_past s.made thread 0 past
none_after plan s answered (ReleaseEvent at) x n many thread past = get_or_past s.made thread 0 past
none_after plan s answered (CallEvent thread index member given) (Receive f frame) n many t past = absurd n
none_after plan s answered (CallEvent thread index member given) Release n many t past = absurd n

pub made_grows : (e : Event) (thread made : ℕ) → made ≤ made_after e thread made
made_grows (CallEvent t index member given) thread made = elim (same_or t thread) [
  | inl q ↦ rw (q, eqb_self thread) (omega arith)
  | inr ne ↦ rw (eqb_other t thread ne) (omega arith)
]
made_grows (ReceiveEvent from to) thread made = omega arith
made_grows (ReleaseEvent at) thread made = omega arith
