-- A prepared move, put together: what it makes, and the room that it has.
use Rattle.std.proofs.Common.{ℕ, ◌≡◌, ◌<◌, ◌≤◌, true, List, [], ◌∷◌, length, refl, sym, ◌∙◌, ap, subst, arith, Some, None, Option}
use Rattle.std.specs.Prelude.{slice_get, All, unwrap_or, Result, Ok, Err, IfOk}
use Rattle.std.proofs.lemmas.List.{length-map}
use Rattle.std.proofs.lemmas.List.Elements.{All-cons, All-nil, All-tail, All-head}
use Rattle.std.proofs.lemmas.Option.{slice_get_within, slice_get-get_or}
use Rattle.order_trait.specs.declared.ordering.Ordering.{Ghosts}
use Rattle.upd_base.specs.Plan.{Planned, planned, steps_of}
use Rattle.upd_base.specs.declared.answer.Answer.{Answer}
use Rattle.upd_base.specs.declared.call.Step.{Step}
use Rattle.upd_base.specs.declared.frame.Frame.{Frame}
use Rattle.upd_base.specs.declared.event.Event.{Event}
use Rattle.upd_base.specs.declared.event.Event.TheVariants.{Call as CallEvent, Receive as ReceiveEvent, Release as ReleaseEvent}
use Rattle.upd_base.proofs.PlanFacts.{plan_facts, thread_within}
use Rattle.member_rules.specs.Kept.{Kept}
use Rattle.member_core.specs.Member.{kept_by}
use Rattle.member_core.specs.declared.input.Input.{Input}
use Rattle.member_core.specs.declared.input.Input.TheVariants.{Call, Receive, Release}
use Rattle.member_core.specs.Input.{MayHave, is_call}
use Rattle.member_core.specs.Prepared.{answer_of, sent_of}
use Rattle.member_rules.specs.Steps.{SentFits}
use Rattle.group_world.specs.declared.moves.Move.{Move}
use Rattle.group_world.specs.declared.moves.Move.TheVariants.{Call as CallMove, Receive as ReceiveMove, Release as ReleaseMove}
use Rattle.group_world.specs.declared.prepared.PreparedMove.{PreparedMove}
use Rattle.group_world.specs.declared.world.World.{World}
use Rattle.group_world.specs.Seen.{Seen, seen_by, made_by, IsWorldOf}
use Rattle.group_world.specs.Moves.{is_enabled, IsMove, HasThreadOf, is_call_move}
use Rattle.group_world.specs.Prepared.{place_of, HasRoomAt, HasSender, HasThread, IsReady}
use Rattle.group_world.specs.Makes.{IsPrepared, Gives, Makes, IsInput, IsEventOf}
use Rattle.group_world.proofs.Inputs.{step_below}
use Rattle.group_world.proofs.Asked.{some_found, member_found}

-- What a move gives is what its event gives, at the same member
pub place_is : {O : Type 0} (plan : Planned) (s : Seen O) (choice : Move) (at : ℕ) (x : Input) (answered : Option Answer) (e : Event) → IsInput plan s choice at x → IsEventOf s choice at answered e → place_of e ≡ at
place_is plan s (CallMove thread) at (Call call) answered e h is = ap place_of is.2
place_is plan s (ReceiveMove from to) at (Receive f frame) answered e h is = ap place_of is ∙ h.0
place_is plan s (ReleaseMove m) at Release answered e h is = ap place_of is ∙ h
place_is plan s (CallMove thread) at (Receive f frame) answered e h is = absurd h
place_is plan s (CallMove thread) at Release answered e h is = absurd h
place_is plan s (ReceiveMove from to) at (Call call) answered e h is = absurd h
place_is plan s (ReceiveMove from to) at Release answered e h is = absurd h
place_is plan s (ReleaseMove m) at (Call call) answered e h is = absurd h
place_is plan s (ReleaseMove m) at (Receive f frame) answered e h is = absurd h

gives_is : {O : Type 0} (plan : Planned) (s : Seen O) (choice : Move) (at : ℕ) (x : Input) (answered : Option Answer) (e : Event) → IsInput plan s choice at x → IsEventOf s choice at answered e → Gives plan s answered e x
gives_is plan s (CallMove thread) at (Call call) answered e h is =
    subst (λ y. Gives plan s answered y (Call call)) (sym is.2) (record { step = h.0; planned_step = h.1; next = refl; at = h.2; answer = is.1 }, h.3)
gives_is plan s (ReceiveMove from to) at (Receive f frame) answered e h is = subst (λ y. Gives plan s answered y (Receive f frame)) (sym is) (h.1, h.2, h.3)
gives_is plan s (ReleaseMove m) at Release answered e h is = subst (λ y. Gives plan s answered y Release) (sym is) tt
gives_is plan s (CallMove thread) at (Receive f frame) answered e h is = absurd h
gives_is plan s (CallMove thread) at Release answered e h is = absurd h
gives_is plan s (ReceiveMove from to) at (Call call) answered e h is = absurd h
gives_is plan s (ReceiveMove from to) at Release answered e h is = absurd h
gives_is plan s (ReleaseMove m) at (Call call) answered e h is = absurd h
gives_is plan s (ReleaseMove m) at (Receive f frame) answered e h is = absurd h

pub move_is : {O : Type 0} (s : Seen O) (choice : Move) (at : ℕ) (answered : Option Answer) (e : Event) → IsEventOf s choice at answered e → IsMove choice e
move_is s (CallMove thread) at answered e is = subst (IsMove (CallMove thread)) (sym is.2) refl
move_is s (ReceiveMove from to) at answered e is = subst (IsMove (ReceiveMove from to)) (sym is) (refl, refl)
move_is s (ReleaseMove m) at answered e is = subst (IsMove (ReleaseMove m)) (sym is) refl

-- a move that gives a call is one
pub call_given : {O : Type 0} (plan : Planned) (s : Seen O) (choice : Move) (at : ℕ) (x : Input) → IsInput plan s choice at x → is_call x ≡ is_call_move choice
call_given plan s (CallMove thread) at (Call call) h = refl
call_given plan s (ReceiveMove from to) at (Receive f frame) h = refl
call_given plan s (ReleaseMove m) at Release h = refl
call_given plan s (CallMove thread) at (Receive f frame) h = absurd h
call_given plan s (CallMove thread) at Release h = absurd h
call_given plan s (ReceiveMove from to) at (Call call) h = absurd h
call_given plan s (ReceiveMove from to) at Release h = absurd h
call_given plan s (ReleaseMove m) at (Call call) h = absurd h
call_given plan s (ReleaseMove m) at (Receive f frame) h = absurd h

pub thread_of : {O : Type 0} (G : Ghosts O) (plan : Planned) (s : Seen O) (choice : Move) → IsWorldOf G plan s → is_enabled plan s choice ≡ true → HasThreadOf choice s.made
thread_of G plan s (CallMove thread) w e =
    let f = some_found (planned plan thread (made_by s thread)) e in
    let l = (step_below plan thread (made_by s thread) f.0 f.1).0 in
    let m = w.threads in
    omega arith
thread_of G plan s (ReceiveMove from to) w e = tt
thread_of G plan s (ReleaseMove m) w e = tt

pub makes_of : {O : Type 0} (G : Ghosts O) (plan : Planned) (s : Seen O) (choice : Move) (at : ℕ) (x : Input) (k : Kept O) (p : PreparedMove O) → IsInput plan s choice at x → slice_get s.members at ≡ Some k
    → MayHave G k x → IsEventOf s choice at (answer_of p.member) p.event → IsPrepared G k x p.member → Makes G plan s p
makes_of G plan s choice at x k p i found may is prepared =
    let place : place_of p.event ≡ at = place_is plan s choice at x (answer_of p.member) p.event i is in
    record {
      input = x;
      gives = gives_is plan s choice at x (answer_of p.member) p.event i is;
      member = k;
      found = ap (slice_get s.members) place ∙ found;
      may = may;
      prepared = prepared;
    }

-- The room -----------------------------------------------------------------------------------------------------------

receivers_fit : (n m : ℕ) (sent : List (ℕ × Frame)) → n ≡ m → All (λ s. SentFits n s) sent → All (λ s. s.0 < m) sent
receivers_fit n m [] e h = All-nil (λ (s : ℕ × Frame). s.0 < m)
receivers_fit n m (s ∷ sent) e h =
    All-cons (λ (x : ℕ × Frame). x.0 < m) s sent (let a = (All-head (λ x. SentFits n x) s sent h).0 in omega (arith, a, e)) (receivers_fit n m sent e (All-tail (λ x. SentFits n x) s sent h))

sender_is : {O : Type 0} (plan : Planned) (s : Seen O) (answered : Option Answer) (e : Event) (x : Input) → Gives plan s answered e x → place_of e < s.width → HasSender e s.width
sender_is plan s answered (CallEvent thread index member given) x n l = tt
sender_is plan s answered (ReceiveEvent from to) (Receive f frame) n l = (n.1, l)
sender_is plan s answered (ReleaseEvent at) x n l = tt
sender_is plan s answered (ReceiveEvent from to) (Call call) n l = absurd n
sender_is plan s answered (ReceiveEvent from to) Release n l = absurd n

thread_is : {O : Type 0} (G : Ghosts O) (plan : Planned) (s : Seen O) (answered : Option Answer) (e : Event) (x : Input) → IsWorldOf G plan s → Gives plan s answered e x → HasThread e s.made
thread_is G plan s answered (CallEvent thread index member given) (Call call) w n =
    let b = step_below plan thread index n.0.step n.0.planned_step in
    let lt : thread < length s.made = let l = b.0 in let m = w.threads in omega arith in
    let at : slice_get s.made thread ≡ Some index = slice_get-get_or s.made thread 0 lt ∙ ap (λ (i : ℕ). Some i) (sym n.0.next) in
    let few : length (steps_of plan thread) ≤ 1000 = steps_few (slice_get plan.threads thread) refl in
    (lt, at, (let l = b.1 in omega (arith, l, few)))
  where
    steps_few : (o : Option (List Step)) → slice_get plan.threads thread ≡ o → length (unwrap_or o []) ≤ 1000
    steps_few None is = omega arith
    steps_few (Some steps) is = thread_within plan (plan_facts plan w.of_plan) thread steps is
thread_is G plan s answered (ReceiveEvent from to) x w n = tt
thread_is G plan s answered (ReleaseEvent at) x w n = tt
thread_is G plan s answered (CallEvent thread index member given) (Receive f frame) w n = absurd n
thread_is G plan s answered (CallEvent thread index member given) Release w n = absurd n

pub ready_is : {O : Type 0} (G : Ghosts O) (plan : Planned) (w : World O G) (at : ℕ) (p : PreparedMove O) → IsWorldOf G plan (seen_by w) → Makes G plan (seen_by w) p → place_of p.event ≡ at → HasRoomAt G w at p.member → IsReady G w p
ready_is {O} G plan w at p h m place room =
    let s = seen_by w in
    let width : s.width ≡ plan.members = h.width in
    let below : place_of p.event < s.width = let l = slice_get_within s.members (place_of p.event) m.member m.found in let q = h.many in omega (arith, l, q, width) in
    let here : HasRoomAt G w (place_of p.event) p.member = subst (λ i. HasRoomAt G w i p.member) (sym place) room in
    record {
      width = sym (length-map w.members.items (λ j. kept_by j)) ∙ h.many ∙ sym width;
      member = here.member;
      receivers = receivers_fit m.member.members s.width (sent_of p.member) ((h.seats (place_of p.event) m.member m.found).0 ∙ sym width) m.prepared.fits;
      room = here.room;
      sender = sender_is plan s (answer_of p.member) p.event m.input m.gives below;
      thread = thread_is G plan s (answer_of p.member) p.event m.input h m.gives;
    }

-- Where it is made at all --------------------------------------------------------------------------------------------

pub made_all : {O E : Type 0} (G : Ghosts O) (plan : Planned) (s : Seen O) (choice : Move) (at : ℕ) (x : Input) (r : Result (PreparedMove O) E) → IsInput plan s choice at x → at < length s.members
    → ((k : Kept O) → slice_get s.members at ≡ Some k → MayHave G k x) → IfOk r (λ p. IsEventOf s choice at (answer_of p.member) p.event)
    → IfOk r (λ p. (k : Kept O) → slice_get s.members at ≡ Some k → IsPrepared G k x p.member) → IfOk r (λ p. Makes G plan s p)
made_all G plan s choice at x (Ok p) i below may is prepared =
    let m = member_found s.members at below in
    makes_of G plan s choice at x m.0 p i m.1 (may m.0 m.1) is (prepared m.0 m.1)
made_all G plan s choice at x (Err e) i below may is prepared = tt

pub ready_all : {O E : Type 0} (G : Ghosts O) (plan : Planned) (w : World O G) (s : Seen O) (choice : Move) (at : ℕ) (x : Input) (r : Result (PreparedMove O) E) → seen_by w ≡ s → IsWorldOf G plan s → IsInput plan s choice at x
    → IfOk r (λ p. IsEventOf s choice at (answer_of p.member) p.event) → IfOk r (λ p. HasRoomAt G w at p.member) → IfOk r (λ p. Makes G plan s p) → IfOk r (λ p. IsReady G w p)
ready_all G plan w s choice at x (Ok p) same h i is room makes =
    ready_is G plan w at p (subst (IsWorldOf G plan) (sym same) h) (subst (λ z. Makes G plan z p) (sym same) makes) (place_is plan s choice at x (answer_of p.member) p.event i is) room
ready_all G plan w s choice at x (Err e) same h i is room makes = tt
