-- The items that a member accepted are those of the events that accepted them.
use Rattle.std.proofs.Common.{ℕ, zero, suc, ◌≡◌, ◌<◌, inl, inr, true, false, List, [], ◌∷◌, ◌++◌, length, refl, sym, ◌∙◌, ap, subst, arith, Option, Some, None}
use Rattle.std.specs.Prelude.{Contains, if◌then◌else◌}
use Rattle.std.proofs.lemmas.List.Elements.{Contains-append_cases, Contains-append_left, Contains-append_right}
use Rattle.fifo_net.specs.Net.{Called, Took, Step}
use Rattle.order_trait.specs.Runs.{Suspect as SuspectOrder, Trust as TrustOrder, Broadcast}
use Rattle.upd_base.specs.Item.{origin_of}
use Rattle.upd_base.specs.Plan.{Planned, planned}
use Rattle.upd_base.proofs.PlanFacts.{OpenFacts, planned_member}
use Rattle.upd_base.specs.declared.item.Item.{Item}
use Rattle.upd_base.specs.declared.item.Item.TheVariants.{Msg, Switch}
use Rattle.upd_base.specs.declared.frame.Frame.{Frame}
use Rattle.upd_base.specs.declared.event.Event.TheVariants.{Call as CallEvent, Receive, Release}
use Rattle.upd_base.specs.declared.call.Call.{Call}
use Rattle.upd_base.specs.declared.call.Call.TheVariants.{Send, Change, Suspect, Trust, Crash}
use Rattle.upd_base.specs.declared.call.Step.{Step as PlannedStep}
use Rattle.upd_base.specs.declared.answer.Answer.{Answer}
use Rattle.upd_base.specs.declared.answer.Answer.TheVariants.{Accepted, Done}
use Rattle.group_run.specs.Group.{Rules, Group, Outer, Makes, Releases}
use Rattle.group_run.specs.Part.{Part, version, with_held, with_accepted, with_suspects, without}
use Rattle.group_run.specs.Turn.{Turn, still, stepped, in_module, in_each, opened, processed, first_orders, called, took, released}
use Rattle.group_run.specs.Held.{first_ready, without_ready, is_early}
use Rattle.group_run.specs.Run.{Events, Moves, group, moves_in, call_made, frame_taken, next_on, AreEnabled, IsCall, turn_at}
use Rattle.group_run.specs.Ordered.{accepted_at, accepted_by, accepted_in}
use Rattle.group_members.specs.Accepted.{AcceptedAlike}
use Rattle.group_run.proofs.Lists.{same_or}
use Rattle.group_run.proofs.Turns.{entered_cases}
use Rattle.group_run.proofs.Inputs.{turn_here, turn_away}
use Rattle.group_members.proofs.Own.{beside_told}

processed_accepted : (g : Group) (me : ℕ) (p : Part) (from : ℕ) (frame : Frame) → (processed g me p from frame).part.accepted ≡ p.accepted
processed_accepted g me p from frame =
    let t : Turn = stepped g me (still p) (record { version = frame.version; input = Took from frame.body }) in
    entered_cases g me t (λ u. u.part.accepted ≡ p.accepted) (λ e. refl)
    (λ e. (beside_told g me (opened t) (in_module (length t.part.modules) (first_orders g me t.part))).accepted_same)

took_accepted : (g : Group) (me : ℕ) (p : Part) (from : ℕ) (frame : Frame) → (took g me p from frame).part.accepted ≡ p.accepted
took_accepted g me p from frame =
    elim (is_early p from frame) as (λ b. (if b then still (with_held p (p.held ++ (from, frame) ∷ [])) else processed g me p from frame).part.accepted ≡ p.accepted) [
      | true ↦ refl
      | false ↦ processed_accepted g me p from frame
    ]

released_accepted : (g : Group) (me : ℕ) (p : Part) (h : Option (ℕ × Frame)) → (released g me p h).part.accepted ≡ p.accepted
released_accepted g me p None = refl
released_accepted g me p (Some h) = processed_accepted g me (with_held p (without_ready (version p) p.held)) h.0 h.1

-- a call with its answer
called_accepted : (g : Group) (me : ℕ) (p : Part) (call : Call) (given : Answer) → (called g me p call given).part.accepted ≡ accepted_by me call given ++ p.accepted
called_accepted g me p (Send text) (Accepted number) = (beside_told g me (still (with_accepted p (Msg me number text))) (in_module (version p) (Broadcast (Msg me number text) ∷ []))).accepted_same
called_accepted g me p (Change kind) (Accepted number) = (beside_told g me (still (with_accepted p (Switch me number kind))) (in_module (version p) (Broadcast (Switch me number kind) ∷ []))).accepted_same
called_accepted g me p (Suspect who) Done = (beside_told g me (still (with_suspects p (who ∷ without who p.suspects))) (in_each p (SuspectOrder who))).accepted_same
called_accepted g me p (Trust who) Done = (beside_told g me (still (with_suspects p (without who p.suspects))) (in_each p (TrustOrder who))).accepted_same
called_accepted g me p Crash Done = refl
called_accepted g me p c a = refl

-- the items that a call accepts are its member's
accepted_origin : (member : ℕ) (call : Call) (given : Answer) (y : Item) → Contains (accepted_by member call given) y → origin_of y ≡ member
accepted_origin member (Send text) (Accepted number) y (zero, lt, q) = sym (ap origin_of q)
accepted_origin member (Send text) (Accepted number) y (suc k, lt, q) = absurd (omega arith)
accepted_origin member (Change kind) (Accepted number) y (zero, lt, q) = sym (ap origin_of q)
accepted_origin member (Change kind) (Accepted number) y (suc k, lt, q) = absurd (omega arith)
accepted_origin member call given y d = absurd (let l = d.1 in omega arith)

same_moves : (rules : Rules) (plan : Planned) (ms ns : Moves) → ((i : ℕ) → (turn_at (group rules plan) ns i).part.accepted ≡ (turn_at (group rules plan) ms i).part.accepted) → (items : List Item) →
    ((i : ℕ) (y : Item) → Contains (turn_at (group rules plan) ms i).part.accepted y → Contains items y) →
    ((y : Item) → Contains items y → (origin_of y < plan.members) × Contains (turn_at (group rules plan) ms (origin_of y)).part.accepted y) →
    ((i : ℕ) (y : Item) → Contains (turn_at (group rules plan) ns i).part.accepted y → Contains items y)
    × ((y : Item) → Contains items y → (origin_of y < plan.members) × Contains (turn_at (group rules plan) ns (origin_of y)).part.accepted y)
same_moves rules plan ms ns same items a b = (
  (λ i y c. a i y (subst (λ xs. Contains xs y) (same i) c)),
  (λ y c. let r = b y c in (r.0, subst (λ xs. Contains xs y) (sym (same (origin_of y))) r.1)),
)

alike_same : (rules : Rules) (plan : Planned) (past : Events) (s : Step Outer Frame) →
    (let g = group rules plan in (turn_at g (s ∷ moves_in rules plan past) s.at).part.accepted ≡ (turn_at g (moves_in rules plan past) s.at).part.accepted) →
    (i : ℕ) → (turn_at (group rules plan) (s ∷ moves_in rules plan past) i).part.accepted ≡ (turn_at (group rules plan) (moves_in rules plan past) i).part.accepted
alike_same rules plan past s e i = elim (same_or i s.at) [
  | inl is ↦ subst (λ k. (turn_at (group rules plan) (s ∷ moves_in rules plan past) k).part.accepted ≡ (turn_at (group rules plan) (moves_in rules plan past) k).part.accepted) (sym is) e
  | inr ne ↦ ap (λ u. u.part.accepted) (turn_away (group rules plan) s (moves_in rules plan past) i ne)
]

-- an enabled call
alike_call : (rules : Rules) (plan : Planned) (past : Events) (thread index member : ℕ) (given : Answer) (o : Option PlannedStep) → OpenFacts plan → planned plan thread index ≡ o →
    IsCall rules plan past thread index member given o → AcceptedAlike rules plan past →
    ((i : ℕ) (y : Item) → Contains (turn_at (group rules plan) (call_made member o (moves_in rules plan past)) i).part.accepted y → Contains (accepted_at member o given ++ accepted_in plan past) y)
    × ((y : Item) → Contains (accepted_at member o given ++ accepted_in plan past) y →
    (origin_of y < plan.members) × Contains (turn_at (group rules plan) (call_made member o (moves_in rules plan past)) (origin_of y)).part.accepted y)
alike_call rules plan past thread index member given None f e c k = absurd c
alike_call rules plan past thread index member given (Some s) f e c k =
    let g : Group = group rules plan in
    let ms : Moves = moves_in rules plan past in
    let next : Step Outer Frame = record { at = member; input = Called (Makes s.call) } in
    let p : Part = (turn_at g ms member).part in
    let lt : member < plan.members = let a = c.at in let b = planned_member plan f thread index s e in omega arith in
    let here : (turn_at g (next ∷ ms) member).part.accepted ≡ accepted_at member (Some s) given ++ p.accepted =
    ap (λ u. u.part.accepted) (turn_here g next ms) ∙ ap (λ a. (called g member p s.call a).part.accepted) (sym c.answered) ∙ called_accepted g member p s.call given in
    let new : List Item = accepted_at member (Some s) given in (
      (λ i y d. elim (same_or i member) [
        | inl is ↦
            elim (Contains-append_cases new p.accepted y (subst (λ xs. Contains xs y) here (subst (λ j. Contains (turn_at g (next ∷ ms) j).part.accepted y) is d))) [
              | inl a ↦ Contains-append_left new (accepted_in plan past) y a
              | inr b ↦ Contains-append_right new (accepted_in plan past) y (k.within member y b)
            ]
        | inr ne ↦ Contains-append_right new (accepted_in plan past) y (k.within i y (subst (λ u. Contains u.part.accepted y) (turn_away g next ms i ne) d))
      ]),
      (λ y d. elim (Contains-append_cases new (accepted_in plan past) y d) [
        | inl a ↦
            let is : origin_of y ≡ member = accepted_origin member s.call given y a in
            subst (λ j. (j < plan.members) × Contains (turn_at g (next ∷ ms) j).part.accepted y) (sym is)
            (lt, subst (λ xs. Contains xs y) (sym here) (Contains-append_left new p.accepted y a))
        | inr b ↦
            let r = k.kept y b in (
              r.0,
              elim (same_or (origin_of y) member) [
                | inl is ↦
                    let old : Contains p.accepted y = subst (λ j. Contains (turn_at g ms j).part.accepted y) is r.1 in
                    subst (λ j. Contains (turn_at g (next ∷ ms) j).part.accepted y) (sym is) (subst (λ xs. Contains xs y) (sym here) (Contains-append_right new p.accepted y old))
                | inr ne ↦ subst (λ u. Contains u.part.accepted y) (sym (turn_away g next ms (origin_of y) ne)) r.1
              ],
            )
      ]),
    )

alike_taken : (rules : Rules) (plan : Planned) (past : Events) (from to : ℕ) (o : Option Frame) (i : ℕ) →
    (turn_at (group rules plan) (frame_taken from to o (moves_in rules plan past)) i).part.accepted ≡ (turn_at (group rules plan) (moves_in rules plan past) i).part.accepted
alike_taken rules plan past from to None i = refl
alike_taken rules plan past from to (Some frame) i =
    let g : Group = group rules plan in
    let s : Step Outer Frame = record { at = to; input = Took from frame } in
    alike_same rules plan past s (ap (λ u. u.part.accepted) (turn_here g s (moves_in rules plan past)) ∙ took_accepted g to (turn_at g (moves_in rules plan past) to).part from frame) i

pub accepted_alike : (rules : Rules) (plan : Planned) (past : Events) → OpenFacts plan → AreEnabled rules plan past → AcceptedAlike rules plan past
accepted_alike rules plan [] f e = record { within = λ i y c. c; kept = λ y c. absurd (let l = c.1 in omega arith) }
accepted_alike rules plan (CallEvent thread index member given ∷ past) f e =
    let r = alike_call rules plan past thread index member given (planned plan thread index) f refl e.0 (accepted_alike rules plan past f e.1) in
    record { within = r.0; kept = r.1 }
accepted_alike rules plan (Receive from to ∷ past) f e =
    let k = accepted_alike rules plan past f e.1 in
    let ms : Moves = moves_in rules plan past in
    let o : Option Frame = next_on (group rules plan) ms from to in
    let r = same_moves rules plan ms (frame_taken from to o ms) (alike_taken rules plan past from to o) (accepted_in plan past) k.within k.kept in
    record { within = r.0; kept = r.1 }
accepted_alike rules plan (Release at ∷ past) f e =
    let k = accepted_alike rules plan past f e.1 in
    let g : Group = group rules plan in
    let ms : Moves = moves_in rules plan past in
    let s : Step Outer Frame = record { at = at; input = Called Releases } in
    let p : Part = (turn_at g ms at).part in
    let r = same_moves rules plan ms (s ∷ ms) (alike_same rules plan past s (ap (λ u. u.part.accepted) (turn_here g s ms) ∙ released_accepted g at p (first_ready (version p) p.held)))
    (accepted_in plan past) k.within k.kept in
    record { within = r.0; kept = r.1 }
