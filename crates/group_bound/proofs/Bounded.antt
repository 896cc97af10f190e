-- A run without suspicion has at most so many events.
use Rattle.std.proofs.Common.{ℕ, zero, suc, ◌≡◌, ◌<◌, ◌≤◌, ◌+◌, ◌*◌, ◌-◌, inl, inr, true, false, cond, List, [], ◌∷◌, ◌++◌, length, refl, sym, ◌∙◌, ap, subst, arith, Option, Some, None, IsSome, length-append}
use Rattle.std.specs.Prelude.{Contains, nat_le}
use Rattle.std.specs.List.{sum_by, count_by}
use Rattle.std.proofs.lemmas.Bool.{cases_lt}
use Rattle.std.proofs.lemmas.List.Elements.{Contains-append_cases}
use Rattle.std.proofs.lemmas.List.Sums.{sum_by-cons, sum_by-append}
use Rattle.std.proofs.Math.Nat.{mul-le-mul_left}
use Rattle.fifo_net.specs.Net.{Input, Called, Took, Step, inputs_of, sent, sent_on, taken_on}
use Rattle.fifo_net.proofs.Links.{taken_on-begins}
use Rattle.order_trait.specs.Runs.{Order, Broadcast, Suspect as SuspectOrder, Trust as TrustOrder, Inputs, broadcast_in}
use Rattle.order_trait.proofs.Broadcasts.{broadcasts, broadcast_once}
use Rattle.order_trait.proofs.Sums.{sum_below, sum_below-more, sum_below-none}
use Rattle.upd_base.specs.Item.{has_id, origin_of}
use Rattle.upd_base.specs.Plan.{Planned, planned, bodies_bound, sends_in, changes_in, steps_in, send_count, change_count}
use Rattle.upd_base.specs.declared.kind.Kind.{Kind}
use Rattle.upd_base.specs.declared.item.Item.{Item}
use Rattle.upd_base.specs.declared.item.Item.TheVariants.{Msg, Switch}
use Rattle.upd_base.specs.declared.frame.Frame.{Frame}
use Rattle.upd_base.specs.declared.entry.Entry.{Entry}
use Rattle.upd_base.specs.declared.event.Event.TheVariants.{Call as CallEvent, Receive, Release}
use Rattle.upd_base.specs.declared.call.Call.{Call}
use Rattle.upd_base.specs.declared.call.Call.TheVariants.{Send, Change}
use Rattle.upd_base.specs.declared.call.Step.{Step as PlannedStep}
use Rattle.upd_base.specs.declared.answer.Answer.{Answer}
use Rattle.upd_base.specs.declared.answer.Answer.TheVariants.{Accepted, Done}
use Rattle.group_run.specs.Group.{Rules, Group, Outer, Makes, Releases}
use Rattle.group_run.specs.Part.{Part, version, with_accepted, with_suspects, with_held, without}
use Rattle.group_run.specs.Turn.{Turn, still, stepped, all_told, in_module, in_each, opened, processed, first_orders, turn_after, member_sends, released}
use Rattle.group_run.specs.Version.{next_kind, kind_at, entries}
use Rattle.group_run.specs.Held.{first_ready, without_ready}
use Rattle.group_run.specs.Link.{bodies_of}
use Rattle.group_run.specs.Run.{Events, Moves, group, moves_in, call_made, frame_taken, next_on, turn_at, AreEnabled, IsCall, calls_made}
use Rattle.group_run.specs.Settled.{IsTrusting}
use Rattle.group_run.specs.Ordered.{accepted_in, accepted_at, accepted_by}
use Rattle.group_run.specs.Laws.{BoundsRuns, BoundsAll, SettlesAtBound}
use Rattle.group_run.proofs.Lists.{tested, same_or}
use Rattle.group_run.proofs.Modules.{inputs_at-above}
use Rattle.group_versions.proofs.Versions.{seg_at, log_below, kind_at-served}
use Rattle.group_run.proofs.Turns.{turn_cases, told_keeps, entered_cases}
use Rattle.group_run.proofs.Inputs.{turn_here, turn_away}
use Rattle.group_projection.proofs.World.{World, module_run}
use Rattle.group_members.proofs.Own.{own_all}
use Rattle.group_members.proofs.Fresh.{sent_by_origin}
use Rattle.group_projection.proofs.Moved.{world_of}
use Rattle.group_links.proofs.Moves.{moves_run}
use Rattle.group_projection.proofs.Runs.{RunFacts, run_facts, facts_of}
use Rattle.group_members.proofs.Accepted.{accepted_alike}
use Rattle.group_order.proofs.Ordered.{count_entries, log_once}
use Rattle.group_projection.proofs.Numbers.{segment_accepted}
use Rattle.group_order.proofs.Switches.{is_switch}
use Rattle.group_members.proofs.Quiet.{trusting_run}
use Rattle.group_bound.proofs.Counts.{fewer, weigh, made, made_le, InTurn}
use Rattle.group_bound.proofs.Sums.{links, links_le, links_same, links_by_versions, sent_links, taken_links, taken_total, tooks, sum_all, sum_bump}

-- Receipts and releases ---------------------------------------------------------------------------------------------

held_processed : (g : Group) (me : ℕ) (p : Part) (from : ℕ) (frame : Frame) → (processed g me p from frame).part.held ≡ p.held
held_processed g me p from frame =
    let t : Turn = stepped g me (still p) (record { version = frame.version; input = Took from frame.body }) in
    entered_cases g me t (λ u. u.part.held ≡ p.held) (λ e. refl) (λ e. held_told g me p.held (opened t) (in_module (length t.part.modules) (first_orders g me t.part)) refl)
  where
    held_told : (g : Group) (me : ℕ) (held : List (ℕ × Frame)) (t : Turn) (os : List (ℕ × Order)) → t.part.held ≡ held → (all_told g me t os).part.held ≡ held
    held_told g me held t os e = told_keeps g me (λ u. u.part.held ≡ held) (λ u o h. h) t os e

freed_one : (w : ℕ) (held : List (ℕ × Frame)) (h : ℕ × Frame) → first_ready w held ≡ Some h → suc (length (without_ready w held)) ≡ length held
freed_one w [] h e = absurd (let p : None ≡ Some h = e in cc)
freed_one w (x ∷ held) h e = elim (tested (nat_le x.1.version w)) [
  | inl f ↦ rw f refl
  | inr f ↦ let r = freed_one w held h (rw f at e) in rw f (ap suc r)
]

-- a turn holds at most one frame more, and only at a receipt
held_turn : (g : Group) (me : ℕ) (p : Part) (x : Input Outer Frame) → length (turn_after g me p x).part.held ≤ length p.held + tooks x
held_turn g me p x =
    let same : (q : Part) (os : List (ℕ × Order)) → q.held ≡ p.held → length (all_told g me (still q) os).part.held ≤ length p.held + tooks x = λ q os e.
    let h : (all_told g me (still q) os).part.held ≡ p.held = told_keeps g me (λ u. u.part.held ≡ p.held) (λ u o k. k) (still q) os e in
    let l = ap length h in omega arith in
    turn_cases g me p x (λ t. length t.part.held ≤ length p.held + tooks x) (record {
      idle = omega arith;
      sends = λ text number e. same (with_accepted p (Msg me number text)) (in_module (version p) (Broadcast (Msg me number text) ∷ [])) refl;
      changes = λ kind number e. same (with_accepted p (Switch me number kind)) (in_module (version p) (Broadcast (Switch me number kind) ∷ [])) refl;
      suspects = λ who q e. same (with_suspects p (who ∷ without who p.suspects)) (in_each p (SuspectOrder who)) refl;
      trusts = λ who e. same (with_suspects p (without who p.suspects)) (in_each p (TrustOrder who)) refl;
      crashes = λ q e. omega arith;
      holds = λ from frame e h. let one : tooks x ≡ 1 = ap tooks e in let l = length-append p.held ((from, frame) ∷ []) in omega arith;
      takes = λ from frame e h. let l = ap length (held_processed g me p from frame) in omega arith;
      frees = λ h e f.
          let l = ap length (held_processed g me (with_held p (without_ready (version p) p.held)) h.0 h.1) in
          let k = freed_one (version p) p.held h f in
          omega arith;
    })

held_freed : (g : Group) (me : ℕ) (p : Part) → IsSome (first_ready (version p) p.held) → suc (length (turn_after g me p (Called Releases)).part.held) ≡ length p.held
held_freed g me p s = go (first_ready (version p) p.held) refl s
  where
    go : (o : Option (ℕ × Frame)) → first_ready (version p) p.held ≡ o → IsSome o → suc (length (released g me p o).part.held) ≡ length p.held
    go None e s = absurd (let z : false ≡ true = s in cc)
    go (Some h) e s = ap suc (ap length (held_processed g me (with_held p (without_ready (version p) p.held)) h.0 h.1)) ∙ freed_one (version p) p.held h e

abbrev held_total : Group → Moves → ℕ
held_total g ms = sum_below g.members (λ i. length (turn_at g ms i).part.held)

held_move : (g : Group) (s : Step Outer Frame) (ms : Moves) → held_total g (s ∷ ms) ≤ held_total g ms + tooks s.input
held_move g s ms = sum_bump g.members s.at (tooks s.input) (λ i. length (turn_at g ms i).part.held) (λ i. length (turn_at g (s ∷ ms) i).part.held)
    (λ i ne. ap (λ u. length u.part.held) (turn_away g s ms i (λ q. ne (sym q))))
    (let e = ap (λ u. length u.part.held) (turn_here g s ms) in let h = held_turn g s.at (turn_at g ms s.at).part s.input in omega arith)

held_release : (g : Group) (at : ℕ) (ms : Moves) → at < g.members → IsSome (first_ready (version (turn_at g ms at).part) (turn_at g ms at).part.held) →
    (let s : Step Outer Frame = record { at = at; input = Called Releases } in held_total g ms ≡ held_total g (s ∷ ms) + 1)
held_release g at ms lt some =
    let s : Step Outer Frame = record { at = at; input = Called Releases } in
    sum_below-more g.members at 1 (λ i. length (turn_at g (s ∷ ms) i).part.held) (λ i. length (turn_at g ms i).part.held) lt
    (let e = ap (λ u. length u.part.held) (turn_here g s ms) in let h = held_freed g at (turn_at g ms at).part some in omega arith)
    (λ i ne. sym (ap (λ u. length u.part.held) (turn_away g s ms i (λ q. ne (sym q)))))

-- how many events there are of each sort
abbrev calls_in : Events → ℕ
calls_in [] = 0
calls_in (CallEvent thread index member given ∷ past) = suc (calls_in past)
calls_in (Receive from to ∷ past) = calls_in past
calls_in (Release at ∷ past) = calls_in past

abbrev releases_in : Events → ℕ
releases_in [] = 0
releases_in (CallEvent thread index member given ∷ past) = releases_in past
releases_in (Receive from to ∷ past) = releases_in past
releases_in (Release at ∷ past) = suc (releases_in past)

-- the events of each sort make all of them, and each release frees a frame that was received
record Sorted (rules : Rules) (plan : Planned) (past : Events) : Type 0 where
  all : length past ≡ calls_in past + taken_total (moves_in rules plan past) + releases_in past
  freed : releases_in past + held_total (group rules plan) (moves_in rules plan past) ≤ taken_total (moves_in rules plan past)

sorted_call : (rules : Rules) (plan : Planned) (past : Events) (member : ℕ) (o : Option PlannedStep) →
    (taken_total (call_made member o (moves_in rules plan past)) ≡ taken_total (moves_in rules plan past))
    × (held_total (group rules plan) (call_made member o (moves_in rules plan past)) ≤ held_total (group rules plan) (moves_in rules plan past))
sorted_call rules plan past member None = (refl, omega arith)
sorted_call rules plan past member (Some s) =
    let h = held_move (group rules plan) (record { at = member; input = Called (Makes s.call) }) (moves_in rules plan past) in (omega arith, omega arith)

sorted_take : (rules : Rules) (plan : Planned) (past : Events) (from to : ℕ) (o : Option Frame) → IsSome o →
    (taken_total (frame_taken from to o (moves_in rules plan past)) ≡ suc (taken_total (moves_in rules plan past)))
    × (held_total (group rules plan) (frame_taken from to o (moves_in rules plan past)) ≤ suc (held_total (group rules plan) (moves_in rules plan past)))
sorted_take rules plan past from to None s = absurd (let z : false ≡ true = s in cc)
sorted_take rules plan past from to (Some frame) s =
    let h = held_move (group rules plan) (record { at = to; input = Took from frame }) (moves_in rules plan past) in (omega arith, omega arith)

sorted : (rules : Rules) (plan : Planned) (past : Events) → AreEnabled rules plan past → Sorted rules plan past
sorted rules plan [] e = record { all = omega arith; freed = let z = sum_below-none plan.members in omega (arith, z) }
sorted rules plan (CallEvent thread index member given ∷ past) e =
    let k = sorted rules plan past e.1 in
    let c = sorted_call rules plan past member (planned plan thread index) in
    let a = k.all in
    let f = k.freed in
    let c0 = c.0 in
    let c1 = c.1 in
    record { all = omega arith; freed = omega arith }
sorted rules plan (Receive from to ∷ past) e =
    let k = sorted rules plan past e.1 in
    let c = sorted_take rules plan past from to (next_on (group rules plan) (moves_in rules plan past) from to) (e.0).frame in
    let a = k.all in
    let f = k.freed in
    let c0 = c.0 in
    let c1 = c.1 in
    record { all = omega arith; freed = omega arith }
sorted rules plan (Release at ∷ past) e =
    let k = sorted rules plan past e.1 in
    let h = held_release (group rules plan) at (moves_in rules plan past) (e.0).member (e.0).ready in
    let a = k.all in
    let f = k.freed in
    record { all = omega arith; freed = omega arith }

-- Calls -------------------------------------------------------------------------------------------------------------

in_turn : (rules : Rules) (plan : Planned) (past : Events) → AreEnabled rules plan past → InTurn plan past
in_turn rules plan [] e = tt
in_turn rules plan (CallEvent thread index member given ∷ past) e = go (planned plan thread index) refl e.0 (in_turn rules plan past e.1)
  where
    go : (o : Option PlannedStep) → planned plan thread index ≡ o → IsCall rules plan past thread index member given o → InTurn plan past → InTurn plan (CallEvent thread index member given ∷ past)
    go None p c rest = absurd c
    go (Some s) p c rest = (c.next, (s, p), rest)
in_turn rules plan (Receive from to ∷ past) e = in_turn rules plan past e.1
in_turn rules plan (Release at ∷ past) e = in_turn rules plan past e.1

calls_are : (plan : Planned) (past : Events) → InTurn plan past → calls_in past ≡ made (λ s. 1) plan past
calls_are plan [] h = refl
calls_are plan (CallEvent thread index member given ∷ past) h =
    let r = calls_are plan past h.2 in
    let one : weigh (λ s. 1) (planned plan thread index) ≡ 1 = ap (weigh (λ s. 1)) h.1.1 in
    omega arith
calls_are plan (Receive from to ∷ past) h = calls_are plan past h
calls_are plan (Release at ∷ past) h = calls_are plan past h

abbrev accepts : PlannedStep → ℕ
accepts s = send_count s.call + change_count s.call

abbrev changes : PlannedStep → ℕ
changes s = change_count s.call

-- what a call accepts
one_accepted : (member : ℕ) (call : Call) (given : Answer) → (length (accepted_by member call given) ≤ send_count call + change_count call) × (count_by is_switch (accepted_by member call given) ≤ change_count call)
one_accepted member (Send text) (Accepted number) = (omega arith, omega arith)
one_accepted member (Change kind) (Accepted number) = (omega arith, omega arith)
one_accepted member call given = (omega arith, omega arith)

accepted_call : (member : ℕ) (o : Option PlannedStep) (given : Answer) → (length (accepted_at member o given) ≤ weigh accepts o) × (count_by is_switch (accepted_at member o given) ≤ weigh changes o)
accepted_call member None given = (omega arith, omega arith)
accepted_call member (Some s) given = one_accepted member s.call given

accepted_few : (plan : Planned) (past : Events) → (length (accepted_in plan past) ≤ made accepts plan past) × (count_by is_switch (accepted_in plan past) ≤ made changes plan past)
accepted_few plan [] = (omega arith, omega arith)
accepted_few plan (CallEvent thread index member given ∷ past) =
    let new : List Item = accepted_at member (planned plan thread index) given in
    let r = accepted_few plan past in
    let c = accepted_call member (planned plan thread index) given in
    let r0 = r.0 in
    let r1 = r.1 in
    let c0 = c.0 in
    let c1 = c.1 in
    let l = length-append new (accepted_in plan past) in
    let f : Item → ℕ = λ x. cond (is_switch x) 1 0 in
    let m : sum_by f (new ++ accepted_in plan past) ≡ sum_by f new + sum_by f (accepted_in plan past) = sum_by-append f new (accepted_in plan past) in
    let n0 : sum_by f new ≤ weigh changes (planned plan thread index) = c1 in
    let n1 : sum_by f (accepted_in plan past) ≤ made changes plan past = r1 in
    (omega arith, omega (arith, m, n0, n1))
accepted_few plan (Receive from to ∷ past) = accepted_few plan past
accepted_few plan (Release at ∷ past) = accepted_few plan past

sum_one : (steps : List PlannedStep) → sum_by (λ s. 1) steps ≡ length steps
sum_one [] = refl
sum_one (x ∷ xs) = omega (arith, sum_by-cons (λ (s : PlannedStep). 1) x xs, sum_one xs)

sum_threads_one : (ts : List (List PlannedStep)) → sum_by (λ steps. sum_by (λ s. 1) steps) ts ≡ sum_by steps_in ts
sum_threads_one [] = refl
sum_threads_one (x ∷ xs) =
    omega (arith, sum_by-cons (λ (steps : List PlannedStep). sum_by (λ s. 1) steps) x xs, sum_by-cons steps_in x xs, sum_one x, sum_threads_one xs)

sum_accepts : (steps : List PlannedStep) → sum_by accepts steps ≡ sends_in steps + changes_in steps
sum_accepts [] = refl
sum_accepts (x ∷ xs) =
    omega (arith, sum_by-cons accepts x xs, sum_by-cons (λ (s : PlannedStep). send_count s.call) x xs, sum_by-cons changes x xs, sum_accepts xs)

sum_threads_accepts : (ts : List (List PlannedStep)) → sum_by (λ steps. sum_by accepts steps) ts ≡ sum_by sends_in ts + sum_by changes_in ts
sum_threads_accepts [] = refl
sum_threads_accepts (x ∷ xs) =
    omega (arith, sum_by-cons (λ (steps : List PlannedStep). sum_by accepts steps) x xs, sum_by-cons sends_in x xs, sum_by-cons changes_in x xs, sum_accepts x, sum_threads_accepts xs)

-- Versions ----------------------------------------------------------------------------------------------------------

-- the items of the segments below a version
abbrev segs : Group → ℕ → List Inputs → ℕ → List Item
segs g i ms zero = []
segs g i ms (suc v) = segs g i ms v ++ seg_at g i v ms

in_segs : (g : Group) (i : ℕ) (ms : List Inputs) (v : ℕ) (x : Item) → Contains (segs g i ms v) x → (u : ℕ) × (u < v) × Contains (seg_at g i u ms) x
in_segs g i ms zero x c = absurd (let l = c.1 in omega arith)
in_segs g i ms (suc v) x c = elim (Contains-append_cases (segs g i ms v) (seg_at g i v ms) x c) [
  | inl d ↦ let r = in_segs g i ms v x d in (r.0, (let l = r.1 in omega arith), r.2)
  | inr d ↦ (v, omega arith, d)
]

segs_count : (g : Group) (i : ℕ) (ms : List Inputs) (id : ℕ × ℕ) (v : ℕ) → count_by (λ e. has_id id e.item) (log_below g i ms v) ≡ count_by (has_id id) (segs g i ms v)
segs_count g i ms id zero = refl
segs_count g i ms id (suc v) =
    let f : Entry → ℕ = λ e. cond (has_id id e.item) 1 0 in
    let h : Item → ℕ = λ x. cond (has_id id x) 1 0 in
    let a : sum_by f (log_below g i ms v ++ entries v (seg_at g i v ms)) ≡ sum_by f (log_below g i ms v) + sum_by f (entries v (seg_at g i v ms)) = sum_by-append f (log_below g i ms v) (entries v (seg_at g i v ms)) in
    let b : sum_by h (segs g i ms v ++ seg_at g i v ms) ≡ sum_by h (segs g i ms v) + sum_by h (seg_at g i v ms) = sum_by-append h (segs g i ms v) (seg_at g i v ms) in
    let c : sum_by f (entries v (seg_at g i v ms)) ≡ sum_by h (seg_at g i v ms) = count_entries (has_id id) v (seg_at g i v ms) in
    let d : sum_by f (log_below g i ms v) ≡ sum_by h (segs g i ms v) = segs_count g i ms id v in
    omega (arith, a, b, c, d)

has_switch : (xs : List Item) (k : Kind) → next_kind xs ≡ Some k → 1 ≤ count_by is_switch xs
has_switch [] k h = absurd (let p : None ≡ Some k = h in cc)
has_switch (Msg o n t ∷ xs) k h =
    let f : Item → ℕ = λ x. cond (is_switch x) 1 0 in
    let a : sum_by f (Msg o n t ∷ xs) ≡ f (Msg o n t) + sum_by f xs = sum_by-cons f (Msg o n t) xs in
    let r : 1 ≤ sum_by f xs = has_switch xs k h in
    omega (arith, a, r)
has_switch (Switch o n q ∷ xs) k h =
    let f : Item → ℕ = λ x. cond (is_switch x) 1 0 in
    let a : sum_by f (Switch o n q ∷ xs) ≡ 1 + sum_by f xs = sum_by-cons f (Switch o n q) xs in
    omega (arith, a)

segs_switches : (g : Group) (i : ℕ) (ms : List Inputs) (v : ℕ) → ((u : ℕ) → u < v → (k : Kind) × (next_kind (seg_at g i u ms) ≡ Some k)) → v ≤ count_by is_switch (segs g i ms v)
segs_switches g i ms zero h = omega arith
segs_switches g i ms (suc v) h =
    let f : Item → ℕ = λ x. cond (is_switch x) 1 0 in
    let a : sum_by f (segs g i ms v ++ seg_at g i v ms) ≡ sum_by f (segs g i ms v) + sum_by f (seg_at g i v ms) = sum_by-append f (segs g i ms v) (seg_at g i v ms) in
    let e = h v (omega arith) in
    let b : 1 ≤ sum_by f (seg_at g i v ms) = has_switch (seg_at g i v ms) e.0 e.1 in
    let r : v ≤ sum_by f (segs g i ms v) = segs_switches g i ms v (λ u l. h u (omega arith)) in
    omega (arith, a, b, r)

-- a member that has come furthest
lead_of : (n : ℕ) (f : ℕ → ℕ) → (i : ℕ) × (i < suc n) × ((j : ℕ) → j < suc n → f j ≤ f i)
lead_of zero f = (0, omega arith, λ j h. let e : j ≡ 0 = omega arith in subst (λ k. f k ≤ f 0) (sym e) (omega arith))
lead_of (suc n) f =
    let r = lead_of n f in
    let lt = r.1 in
    elim (cases_lt (f r.0) (f (suc n))) [
      | inl h ↦ (
        suc n,
        omega arith,
        λ j l. elim (same_or j (suc n)) [
          | inl e ↦ subst (λ k. f k ≤ f (suc n)) (sym e) (omega arith)
          | inr ne ↦ let q = r.2 j (omega arith) in omega arith
        ],
      )
      | inr h ↦ (
        r.0,
        omega arith,
        λ j l. elim (same_or j (suc n)) [
          | inl e ↦ subst (λ k. f k ≤ f r.0) (sym e) h
          | inr ne ↦ r.2 j (omega arith)
        ],
      )
    ]

count_all : (xs : List Item) → count_by (λ x. true) xs ≡ length xs
count_all [] = refl
count_all (x ∷ xs) =
    let f : Item → ℕ = λ x. 1 in
    let a : sum_by f (x ∷ xs) ≡ 1 + sum_by f xs = sum_by-cons f x xs in
    let r : sum_by f xs ≡ length xs = count_all xs in
    omega (arith, a, r)

-- The sum -----------------------------------------------------------------------------------------------------------

whole_sum : (events calls took freed steps each items few versions ends : ℕ) → events ≡ calls + took + freed → freed ≤ took → calls ≤ steps → took ≤ versions * (each * items) → items ≤ few → versions ≤ ends + 1 →
    events ≤ steps + 2 * each * few * (ends + 1)
whole_sum events calls took freed steps each items few versions ends a b c d e f =
    let p : each * items ≤ each * few = mul-le-mul_left each e in
    let q : versions * (each * items) ≤ versions * (each * few) = mul-le-mul_left versions p in
    let r : (each * few) * versions ≤ (each * few) * (ends + 1) = mul-le-mul_left (each * few) f in
    omega (arith, a, b, c, d, q, r)

-- with no more than two events for each frame beside the calls
bounds_calls : (rules : Rules) → BoundsAll rules → (plan : Planned) (past : Events) → RunFacts rules plan past → AreEnabled rules plan past → IsTrusting plan past →
    length past ≤ calls_in past + 2 * bodies_bound plan.members * (sum_by sends_in plan.threads + sum_by changes_in plan.threads) * (sum_by changes_in plan.threads + 1)
bounds_calls rules kb plan past f enabled t =
    let g : Group = group rules plan in
    let ms : Moves = moves_in rules plan past in
    let a : World = world_of g ms in
    let w = f.kept.sound in
    let n : ℕ = plan.members in
    let some = f.law.some in
    let one : suc (n - 1) ≡ n = omega arith in
    let lead0 = lead_of (n - 1) (λ i. length (a.mods i)) in
    let lead : (i : ℕ) × (i < n) × ((j : ℕ) → j < n → length (a.mods j) ≤ length (a.mods i)) = subst (λ m. (i : ℕ) × (i < m) × ((j : ℕ) → j < m → length (a.mods j) ≤ length (a.mods i))) one lead0 in
    let top : ℕ = length (a.mods lead.0) in
    let high : 1 ≤ top = w.one lead.0 in
    let quiet = trusting_run rules plan past enabled t in
    let alike = accepted_alike rules plan past f.plan_is enabled in
    let items : List Item = accepted_in plan past in
    let run = moves_run g plan past in
    let each : ℕ = bodies_bound n in
    let broadcast_few : (v : ℕ) → length (broadcast_in (a.proj v)) ≤ length items = λ v.
    let q = fewer (λ x. true) (broadcast_in (a.proj v)) items (broadcast_once n (a.proj v) (w.fit v)) (λ x c.
    let o = sent_by_origin n (a.proj v) (w.fit v) x c in
    alike.within (origin_of x) x ((own_all g (origin_of x) (inputs_of (origin_of x) ms) o.0).sent v x (subst (λ xs. Contains (broadcasts xs) x) (w.inputs (origin_of x) v) o.1))) in
    omega (arith, q, count_all (broadcast_in (a.proj v)), count_all items) in
    let version_few : (v : ℕ) → v < top → links n (λ i j. length (bodies_of v (a.out i j))) ≤ each * length items = λ v h.
    let kind : Kind = kind_at g lead.0 v (a.mods lead.0) in
    let same = links_same n (λ i j. length (bodies_of v (a.out i j))) (λ i j. length (sent_on (rules.sends kind n) i j (a.proj v))) (λ i j hi hj.
    ap length (sym (ap (sent (rules.sends kind n) i j) (w.inputs i v) ∙ w.sent_is i v j kind hi (λ y. w.one_kind i lead.0 v hi lead.1 y h)))) in
    let sends = sent_links (rules.sends kind n) n (a.proj v) (w.fit v) in
    let law = kb kind (kind_at-served g lead.0 (a.mods lead.0) f.law.serves v h) n (a.proj v) (module_run g a f.law w lead.0 v lead.1 h (f.short v)) (quiet.steps v) in
    let wide : each * length (broadcast_in (a.proj v)) ≤ each * length items = mul-le-mul_left each (broadcast_few v) in
    omega (arith, same, sends, law, wide) in
    let none : (i j v : ℕ) → i < n → j < n → top ≤ v → bodies_of v (a.out i j) ≡ [] = λ i j v hi hj le.
    let l = lead.2 i hi in
    sym (w.sent_is i v j g.first hi (λ y. absurd (omega arith))) ∙ ap (sent (rules.sends g.first n) i j) (inputs_at-above v (a.mods i) (omega arith)) in
    let took : taken_total ms ≤ top * (each * length items) =
    let q1 = taken_links g ms f.members run in
    let q2 = links_le n (λ i j. length (taken_on i j ms)) (λ i j. length (a.out i j)) (λ i j hi hj.
    let b = taken_on-begins (member_sends g) ms run i j in
    let l = ap length b.1 in
    let m = length-append (taken_on i j ms) b.0 in
    omega arith) in
    let q3 = links_by_versions n top a.out none in
    let q4 = sum_all top (each * length items) (λ v. links n (λ i j. length (bodies_of v (a.out i j)))) version_few in
    omega (arith, q1, q2, q3, q4) in
    let inturn = in_turn rules plan past enabled in
    let sort = sorted rules plan past enabled in
    let few = accepted_few plan past in
    let accepted_le : length items ≤ sum_by sends_in plan.threads + sum_by changes_in plan.threads =
    omega (arith, few.0, made_le accepts plan past inturn, sum_threads_accepts plan.threads) in
    let switches_le : count_by is_switch items ≤ sum_by changes_in plan.threads = omega (arith, few.1, made_le changes plan past inturn) in
    let lead_switches = segs_switches g lead.0 (a.mods lead.0) (top - 1) (λ u l. w.ended lead.0 u lead.1 (omega arith)) in
    let lead_once : (id : ℕ × ℕ) → count_by (has_id id) (segs g lead.0 (a.mods lead.0) (top - 1)) ≤ 1 = λ id.
    let q = log_once g ms f.law w f.short lead.0 lead.1 id (top - 1) (omega arith) in
    omega (arith, q, segs_count g lead.0 (a.mods lead.0) id (top - 1)) in
    let lead_fewer = fewer is_switch (segs g lead.0 (a.mods lead.0) (top - 1)) items lead_once (λ x c.
    let z = in_segs g lead.0 (a.mods lead.0) (top - 1) x c in
    let l = z.1 in
    let q = segment_accepted g ms f.law w f.short lead.0 z.0 lead.1 (omega arith) x z.2 in
    alike.within (origin_of x) x q.1) in
    let ends : top ≤ sum_by changes_in plan.threads + 1 = omega (arith, high, lead_switches, lead_fewer, switches_le) in
    let freed : releases_in past ≤ taken_total ms = let q = sort.freed in omega arith in
    whole_sum (length past) (calls_in past) (taken_total ms) (releases_in past) (calls_in past) each (length items) (sum_by sends_in plan.threads + sum_by changes_in plan.threads) top (sum_by changes_in plan.threads)
    sort.all freed (omega arith) took accepted_le ends

-- no more calls are made than planned
calls_le : (plan : Planned) (past : Events) → InTurn plan past → calls_in past ≤ sum_by steps_in plan.threads
calls_le plan past h = omega (arith, calls_are plan past h, made_le (λ s. 1) plan past h, sum_threads_one plan.threads)

pub bounds_runs : BoundsRuns
bounds_runs = λ rules k kb plan s past r t.
    let a = bounds_calls rules kb plan past (run_facts rules k plan s past r) r.enabled t in
    omega (arith, a, calls_le plan past (in_turn rules plan past r.enabled))

-- A run of that length is settled: one more event would pass the bound.
pub settles_at_bound : SettlesAtBound
settles_at_bound = λ rules k kb plan s past r t e.
    let least : ℕ = 2 * bodies_bound plan.members * (sum_by sends_in plan.threads + sum_by changes_in plan.threads) * (sum_by changes_in plan.threads + 1) in
    let short = r.short in
    let inturn = in_turn rules plan past r.enabled in
    let calls = calls_le plan past inturn in
    let now : length past ≤ calls_in past + least = bounds_calls rules kb plan past (run_facts rules k plan s past r) r.enabled t in
    let full : length past ≡ sum_by steps_in plan.threads + least = e in
    record {
      calls = λ thread. all_made plan past inturn thread (planned plan thread (calls_made thread past)) refl least now full;
      receipts = λ from to c.
          let more = bounds_calls rules kb plan (Receive from to ∷ past) (facts_of rules k plan s (Receive from to ∷ past) r.of_plan (c, r.enabled) (omega arith)) (c, r.enabled) t in
          let l : suc (length past) ≤ calls_in past + least = more in
          omega (arith, l, full, calls);
      releases = λ at c.
          let more = bounds_calls rules kb plan (Release at ∷ past) (facts_of rules k plan s (Release at ∷ past) r.of_plan (c, r.enabled) (omega arith)) (c, r.enabled) t in
          let l : suc (length past) ≤ calls_in past + least = more in
          omega (arith, l, full, calls);
    }
  where
    all_made : (plan : Planned) (past : Events) → InTurn plan past → (thread : ℕ) (o : Option PlannedStep) → planned plan thread (calls_made thread past) ≡ o → (least : ℕ) →
        length past ≤ calls_in past + least → length past ≡ sum_by steps_in plan.threads + least → o ≡ None
    all_made plan past h thread None p least now full = refl
    all_made plan past h thread (Some s) p least now full =
        let more : suc (calls_in past) ≤ sum_by steps_in plan.threads = calls_le plan (CallEvent thread (calls_made thread past) s.at Done ∷ past) (refl, (s, p), h) in
        absurd (omega (arith, more, now, full))
