-- In a quiet run no member has crashed or is suspected, and no module is told of a suspicion.
use Rattle.std.proofs.Common.{Bool, ℕ, ◌≡◌, ◌==◌, true, false, List, [], ◌∷◌, ◌++◌, length, refl, sym, ◌∙◌, ap, subst, arith, Option, Some, None, map}
use Rattle.std.specs.Prelude.{if◌then◌else◌, filter}
use Rattle.fifo_net.specs.Net.{Input, Called, Took, Step}
use Rattle.order_trait.specs.Runs.{Order, Broadcast, Suspect as SuspectOrder, Trust as TrustOrder, Steps, suspects, suspects_in}
use Rattle.upd_base.specs.Plan.{Planned, planned}
use Rattle.upd_base.specs.declared.item.Item.{Item}
use Rattle.upd_base.specs.declared.item.Item.TheVariants.{Msg, Switch}
use Rattle.upd_base.specs.declared.frame.Frame.{Frame}
use Rattle.upd_base.specs.declared.event.Event.TheVariants.{Call as CallEvent, Receive, Release}
use Rattle.upd_base.specs.declared.call.Call.{Call}
use Rattle.upd_base.specs.declared.call.Call.TheVariants.{Suspect, Crash}
use Rattle.upd_base.specs.declared.call.Step.{Step as PlannedStep}
use Rattle.upd_base.specs.declared.answer.Answer.{Answer}
use Rattle.upd_base.specs.declared.answer.Answer.TheVariants.{Done}
use Rattle.group_run.specs.Group.{Rules, Group, Outer, Makes, Releases}
use Rattle.group_run.specs.Part.{Part, undelivered, suspicions, version, is_suspected, below, without, with_accepted, with_suspects, with_held}
use Rattle.group_run.specs.Turn.{Turn, ModuleStep, still, stepped, order_step, all_told, in_module, in_each, opened, processed, first_orders, turn_after}
use Rattle.group_run.specs.Answer.{answer}
use Rattle.group_run.specs.Held.{without_ready}
use Rattle.group_run.specs.Run.{Events, Moves, group, moves_in, call_made, frame_taken, next_on, turn_at, AreEnabled, IsCall, part}
use Rattle.group_run.specs.Projection.{steps_in, steps_made}
use Rattle.group_run.specs.Settled.{IsQuiet, is_loud, is_made, IsTrusting, is_suspicion}
use Rattle.group_run.proofs.Lists.{by_one}
use Rattle.group_run.proofs.Turns.{turn_cases, entered_cases}
use Rattle.group_run.proofs.Inputs.{turn_here, turn_away}

-- steps that tell of no suspicion
abbrev pub NoneSuspected : List ModuleStep → Type 0
NoneSuspected [] = Unit {0}
NoneSuspected (s ∷ ss) = (suspects s.input ≡ 0) × NoneSuspected ss

abbrev pub Trusting : List (ℕ × Order) → Type 0
Trusting [] = Unit {0}
Trusting (o ∷ os) = (suspects (Called o.1) ≡ 0) × Trusting os

-- a member that is up and suspects nobody
pub record QuietPart (strict : Bool) (p : Part) : Type 0 where
  pub up : strict ≡ true → p.crashed ≡ false
  pub trusts : p.suspects ≡ []

pub record QuietTurn (strict : Bool) (t : Turn) : Type 0 where
  pub part : QuietPart strict t.part
  pub steps : NoneSuspected t.steps

quiet_told : (strict : Bool) (g : Group) (me : ℕ) (t : Turn) (os : List (ℕ × Order)) → Trusting os → QuietTurn strict t → QuietTurn strict (all_told g me t os)
quiet_told strict g me t [] h q = q
quiet_told strict g me t (o ∷ os) h q =
    let p = q.part in
    quiet_told strict g me (stepped g me t (order_step o)) os h.1 (record { part = record { up = p.up; trusts = p.trusts }; steps = (h.0, q.steps) })

trusting_items : (v : ℕ) (xs : List Item) → Trusting (in_module v (map (λ item. Broadcast item) xs))
trusting_items v [] = tt
trusting_items v (x ∷ xs) = (refl, trusting_items v xs)

trusting_each : (who : ℕ) (vs : List ℕ) → Trusting (map (λ v. (v, TrustOrder who)) vs)
trusting_each who [] = tt
trusting_each who (v ∷ vs) = (refl, trusting_each who vs)

filter_none : (xs : List ℕ) → filter (λ who. is_suspected who []) xs ≡ []
filter_none [] = refl
filter_none (x ∷ xs) = filter_none xs

first_trusting : (g : Group) (me : ℕ) (p : Part) (v : ℕ) → p.suspects ≡ [] → Trusting (in_module v (first_orders g me p))
first_trusting g me p v e =
    let none : suspicions g p ≡ [] = ap (λ ss. filter (λ who. is_suspected who ss) (below g.members)) e ∙ filter_none (below g.members) in
    subst (λ ws. Trusting (in_module v (map (λ who. SuspectOrder who) ws ++ map (λ item. Broadcast item) (undelivered g me p)))) (sym none) (trusting_items v (undelivered g me p))

quiet_processed : (strict : Bool) (g : Group) (me : ℕ) (p : Part) (from : ℕ) (frame : Frame) → QuietPart strict p → QuietTurn strict (processed g me p from frame)
quiet_processed strict g me p from frame q =
    let t : Turn = stepped g me (still p) (record { version = frame.version; input = Took from frame.body }) in
    entered_cases g me t (QuietTurn strict)
    (λ e. record { part = record { up = q.up; trusts = q.trusts }; steps = (refl, tt) })
    (λ e. quiet_told strict g me (opened t) (in_module (length t.part.modules) (first_orders g me t.part)) (first_trusting g me t.part (length t.part.modules) q.trusts)
    (record { part = record { up = q.up; trusts = q.trusts }; steps = (refl, tt) }))

quiet_still : (strict : Bool) (p : Part) → QuietPart strict p → QuietTurn strict (still p)
quiet_still strict p q = record { part = q; steps = tt }

-- an input that neither suspects nor crashes
pub record Calm (strict : Bool) (g : Group) (me : ℕ) (p : Part) (x : Input Outer Frame) : Type 0 where
  pub suspects : (who : ℕ) → x ≡ Called (Makes (Suspect who)) → answer g me p (Suspect who) ≡ Done → ⊥
  pub crashes : strict ≡ true → x ≡ Called (Makes Crash) → answer g me p Crash ≡ Done → ⊥

quiet_turn : (strict : Bool) (g : Group) (me : ℕ) (p : Part) (x : Input Outer Frame) → Calm strict g me p x → QuietPart strict p → QuietTurn strict (turn_after g me p x)
quiet_turn strict g me p x c q = turn_cases g me p x (QuietTurn strict) (record {
  idle = quiet_still strict p q;
  sends = λ text number e. quiet_told strict g me (still (with_accepted p (Msg me number text))) (in_module (version p) (Broadcast (Msg me number text) ∷ [])) (refl, tt)
      (quiet_still strict (with_accepted p (Msg me number text)) (record { up = q.up; trusts = q.trusts }));
  changes = λ kind number e. quiet_told strict g me (still (with_accepted p (Switch me number kind))) (in_module (version p) (Broadcast (Switch me number kind) ∷ [])) (refl, tt)
      (quiet_still strict (with_accepted p (Switch me number kind)) (record { up = q.up; trusts = q.trusts }));
  suspects = λ who is e. absurd (c.suspects who is e);
  trusts = λ who e. quiet_told strict g me (still (with_suspects p (without who p.suspects))) (in_each p (TrustOrder who)) (trusting_each who (below (length p.modules)))
      (quiet_still strict (with_suspects p (without who p.suspects)) (record { up = q.up; trusts = ap (without who) q.trusts }));
  crashes = λ is e. record { part = record { up = λ b. absurd (c.crashes b is e); trusts = q.trusts }; steps = tt };
  holds = λ from frame e h. quiet_still strict (with_held p (p.held ++ (from, frame) ∷ [])) (record { up = q.up; trusts = q.trusts });
  takes = λ from frame e h. quiet_processed strict g me p from frame q;
  frees = λ h e f. quiet_processed strict g me (with_held p (without_ready (version p) p.held)) h.0 h.1 (record { up = q.up; trusts = q.trusts });
})

-- A whole quiet run.
pub record QuietRun (strict : Bool) (g : Group) (ms : Moves) : Type 0 where
  pub parts : (i : ℕ) → QuietPart strict (turn_at g ms i).part
  pub steps : (v : ℕ) → suspects_in (steps_made g v ms) ≡ 0

none_in : (v at : ℕ) (ss : List ModuleStep) (past : Steps) → NoneSuspected ss → suspects_in past ≡ 0 → suspects_in (steps_in v at ss ++ past) ≡ 0
none_in v at [] past n h = h
none_in v at (s ∷ ss) past n h =
    let r = none_in v at ss past n.1 h in
    let z = n.0 in
    elim (s.version == v) as (λ b. suspects_in ((if b then record { at = at; input = s.input } ∷ steps_in v at ss else steps_in v at ss) ++ past) ≡ 0) [
      | true ↦ omega arith
      | false ↦ r
    ]

quiet_move : (strict : Bool) (g : Group) (s : Step Outer Frame) (ms : Moves) → Calm strict g s.at (turn_at g ms s.at).part s.input → QuietRun strict g ms → QuietRun strict g (s ∷ ms)
quiet_move strict g s ms c q =
    let t = quiet_turn strict g s.at (turn_at g ms s.at).part s.input c (q.parts s.at) in
    let here : QuietTurn strict (turn_at g (s ∷ ms) s.at) = subst (QuietTurn strict) (sym (turn_here g s ms)) t in
    record {
      parts = by_one (λ i. QuietPart strict (turn_at g (s ∷ ms) i).part) s.at here.part (λ i ne. subst (λ u. QuietPart strict u.part) (sym (turn_away g s ms i ne)) (q.parts i));
      steps = λ v. none_in v s.at (turn_at g (s ∷ ms) s.at).steps (steps_made g v ms) here.steps (q.steps v);
    }

quiet_taken : (strict : Bool) (g : Group) (from to : ℕ) (o : Option Frame) (ms : Moves) → QuietRun strict g ms → QuietRun strict g (frame_taken from to o ms)
quiet_taken strict g from to None ms q = q
quiet_taken strict g from to (Some frame) ms q =
    let x : Input Outer Frame = Took from frame in
    quiet_move strict g (record { at = to; input = x }) ms
    (record {
      suspects = λ who e. absurd (let r : x ≡ Called (Makes (Suspect who)) = e in cc);
      crashes = λ b e. absurd (let r : x ≡ Called (Makes Crash) = e in cc);
    }) q

quiet_call : (strict : Bool) (rules : Rules) (plan : Planned) (past : Events) (thread index member : ℕ) (given : Answer) (o : Option PlannedStep) → IsCall rules plan past thread index member given o → is_made is_suspicion o given ≡ false → (strict ≡ true → is_made is_loud o given ≡ false) →
    QuietRun strict (group rules plan) (moves_in rules plan past) → QuietRun strict (group rules plan) (call_made member o (moves_in rules plan past))
quiet_call strict rules plan past thread index member given None c l m q = q
quiet_call strict rules plan past thread index member given (Some s) c l m q =
    let g : Group = group rules plan in
    let p : Part = part rules plan past member in
    let x : Input Outer Frame = Called (Makes s.call) in
    quiet_move strict g (record { at = member; input = x }) (moves_in rules plan past)
    (record {
      suspects = λ who e d. let r : s.call ≡ Suspect who = same_call s.call (Suspect who) x e refl in loud is_suspicion s.call (Suspect who) r given (c.answered ∙ ap (answer g member p) r ∙ d) refl l;
      crashes = λ b e d. let r : s.call ≡ Crash = same_call s.call Crash x e refl in loud is_loud s.call Crash r given (c.answered ∙ ap (answer g member p) r ∙ d) refl (m b);
    }) q
  where
    made : Input Outer Frame → Call
    made (Called (Makes k)) = k
    made (Called Releases) = Crash
    made (Took from frame) = Crash

    same_call : (a b : Call) (z : Input Outer Frame) → z ≡ Called (Makes b) → z ≡ Called (Makes a) → a ≡ b
    same_call a b z e f = sym (ap made f) ∙ ap made e

    loud : (test : Call → Answer → Bool) (a b : Call) → a ≡ b → (given : Answer) → given ≡ Done → test b Done ≡ true → test a given ≡ false → ⊥
    loud test a b e given d t z =
        let y : false ≡ true = sym z ∙ ap (test a) d ∙ ap (λ k. test k Done) e ∙ t in
        cc

run_of : (strict : Bool) (rules : Rules) (plan : Planned) (past : Events) → AreEnabled rules plan past → IsTrusting plan past → (strict ≡ true → IsQuiet plan past) → QuietRun strict (group rules plan) (moves_in rules plan past)
run_of strict rules plan [] e t q = record { parts = λ i. record { up = λ b. refl; trusts = refl }; steps = λ v. refl }
run_of strict rules plan (CallEvent thread index member given ∷ past) e t q =
    quiet_call strict rules plan past thread index member given (planned plan thread index) e.0 t.0 (λ b. (q b).0) (run_of strict rules plan past e.1 t.1 (λ b. (q b).1))
run_of strict rules plan (Receive from to ∷ past) e t q =
    quiet_taken strict (group rules plan) from to (next_on (group rules plan) (moves_in rules plan past) from to) (moves_in rules plan past) (run_of strict rules plan past e.1 t q)
run_of strict rules plan (Release at ∷ past) e t q =
    let x : Input Outer Frame = Called Releases in
    quiet_move strict (group rules plan) (record { at = at; input = x }) (moves_in rules plan past)
    (record {
      suspects = λ who e. absurd (let r : x ≡ Called (Makes (Suspect who)) = e in cc);
      crashes = λ b e. absurd (let r : x ≡ Called (Makes Crash) = e in cc);
    }) (run_of strict rules plan past e.1 t q)

-- a quiet run has no suspicion
soft_call : (call : Call) (given : Answer) → is_loud call given ≡ false → is_suspicion call given ≡ false
soft_call (Suspect who) Done h = h
soft_call call given h = refl

soft : (o : Option PlannedStep) (given : Answer) → is_made is_loud o given ≡ false → is_made is_suspicion o given ≡ false
soft None given h = refl
soft (Some s) given h = soft_call s.call given h

trusting_of : (plan : Planned) (past : Events) → IsQuiet plan past → IsTrusting plan past
trusting_of plan [] q = tt
trusting_of plan (CallEvent thread index member given ∷ past) q = (soft (planned plan thread index) given q.0, trusting_of plan past q.1)
trusting_of plan (Receive from to ∷ past) q = trusting_of plan past q
trusting_of plan (Release at ∷ past) q = trusting_of plan past q

pub quiet_run : (rules : Rules) (plan : Planned) (past : Events) → AreEnabled rules plan past → IsQuiet plan past → QuietRun true (group rules plan) (moves_in rules plan past)
quiet_run rules plan past e q = run_of true rules plan past e (trusting_of plan past q) (λ b. q)

pub trusting_run : (rules : Rules) (plan : Planned) (past : Events) → AreEnabled rules plan past → IsTrusting plan past → QuietRun false (group rules plan) (moves_in rules plan past)
trusting_run rules plan past e t = run_of false rules plan past e t (λ b. absurd (let z : false ≡ true = b in cc))
