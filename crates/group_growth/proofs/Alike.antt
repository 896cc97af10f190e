-- A run of a plan, read by a plan that goes on from it.
use Rattle.std.proofs.Common.{ℕ, ◌≡◌, ◌↔◌, [], ◌∷◌, ◌++◌, refl, sym, ◌∙◌, ap, subst, arith, Option, Some, None, IsSome}
use Rattle.fifo_net.specs.Net.{Called}
use Rattle.upd_base.specs.Plan.{Planned, planned}
use Rattle.upd_base.specs.declared.answer.Answer.{Answer}
use Rattle.upd_base.specs.declared.call.Step.{Step as PlannedStep}
use Rattle.upd_base.specs.declared.event.Event.TheVariants.{Call as CallEvent, Receive, Release}
use Rattle.group_run.specs.Group.{Rules, Group, Releases}
use Rattle.group_run.specs.Answer.{answer}
use Rattle.group_run.specs.Part.{log, version, present_kind}
use Rattle.group_run.specs.Held.{first_ready}
use Rattle.group_run.specs.Projection.{steps_made}
use Rattle.group_run.specs.Run.{Events, Moves, group, moves, moves_in, call_made, frame_taken, next_on, turn_at, IsCall, AreEnabled}
use Rattle.group_run.specs.Ordered.{accepted_at, accepted_in}
use Rattle.group_run.specs.Settled.{IsQuiet, IsTrusting, is_loud, is_made, is_suspicion}
use Rattle.group_growth.specs.Growth.{GoesOn}
use Rattle.group_growth.specs.Laws.{GoOn, ReadAlike}

-- A call of a run is planned ----------------------------------------------------------------------------------------

call_planned : (rules : Rules) (old : Planned) (past : Events) (thread index member : ℕ) (given : Answer) (o : Option PlannedStep)
    → planned old thread index ≡ o → IsCall rules old past thread index member given o → (s : PlannedStep) × (planned old thread index ≡ Some s)
call_planned rules old past thread index member given None e c = absurd c
call_planned rules old past thread index member given (Some s) e c = (s, e)

-- and the longer plan has the same at its place
pub call_same : (rules : Rules) (old new : Planned) (past : Events) (thread index member : ℕ) (given : Answer) → GoesOn old new
    → IsCall rules old past thread index member given (planned old thread index) → planned new thread index ≡ planned old thread index
call_same rules old new past thread index member given on c =
    let p = call_planned rules old past thread index member given (planned old thread index) refl c in
    on.calls thread index p.0 p.1 ∙ sym p.1

-- The moves ---------------------------------------------------------------------------------------------------------

moves_same : (rules : Rules) (g : Group) (old new : Planned) (past : Events) → GoesOn old new → AreEnabled rules old past → moves g new past ≡ moves g old past
moves_same rules g old new [] on e = refl
moves_same rules g old new (CallEvent thread index member given ∷ past) on e =
    ap (λ o. call_made member o (moves g new past)) (call_same rules old new past thread index member given on e.0)
    ∙ ap (λ ms. call_made member (planned old thread index) ms) (moves_same rules g old new past on e.1)
moves_same rules g old new (Receive from to ∷ past) on e =
    ap (λ ms. frame_taken from to (next_on g ms from to) ms) (moves_same rules g old new past on e.1)
moves_same rules g old new (Release at ∷ past) on e =
    ap (λ ms. record { at = at; input = Called Releases } ∷ ms) (moves_same rules g old new past on e.1)

group_same : (rules : Rules) (old new : Planned) → GoesOn old new → group rules new ≡ group rules old
group_same rules old new on =
    ap (λ n. record { rules = rules; members = n; first = new.first }) on.members
    ∙ ap (λ f. record { rules = rules; members = old.members; first = f }) on.first

-- whatever is read of a group and its moves is the same
pub read_same : {X : Type 0} (rules : Rules) (old new : Planned) (past : Events) (read : Group → Moves → X) → GoesOn old new → AreEnabled rules old past
    → read (group rules new) (moves_in rules new past) ≡ read (group rules old) (moves_in rules old past)
read_same rules old new past read on e =
    ap (λ g. read g (moves g new past)) (group_same rules old new on)
    ∙ ap (read (group rules old)) (moves_same rules (group rules old) old new past on e)

-- What is read of the plan ------------------------------------------------------------------------------------------

accepted_same : (rules : Rules) (old new : Planned) (past : Events) → GoesOn old new → AreEnabled rules old past → accepted_in new past ≡ accepted_in old past
accepted_same rules old new [] on e = refl
accepted_same rules old new (CallEvent thread index member given ∷ past) on e =
    ap (λ o. accepted_at member o given ++ accepted_in new past) (call_same rules old new past thread index member given on e.0)
    ∙ ap (λ items. accepted_at member (planned old thread index) given ++ items) (accepted_same rules old new past on e.1)
accepted_same rules old new (Receive from to ∷ past) on e = accepted_same rules old new past on e.1
accepted_same rules old new (Release at ∷ past) on e = accepted_same rules old new past on e.1

quiet_same : (rules : Rules) (old new : Planned) (past : Events) → GoesOn old new → AreEnabled rules old past → IsQuiet new past ↔ IsQuiet old past
quiet_same rules old new [] on e = (λ q. q, λ q. q)
quiet_same rules old new (CallEvent thread index member given ∷ past) on e =
    let same = ap (λ o. is_made is_loud o given) (call_same rules old new past thread index member given on e.0) in
    let rest = quiet_same rules old new past on e.1 in
    (λ q. (sym same ∙ q.0, rest.0 q.1), λ q. (same ∙ q.0, rest.1 q.1))
quiet_same rules old new (Receive from to ∷ past) on e = quiet_same rules old new past on e.1
quiet_same rules old new (Release at ∷ past) on e = quiet_same rules old new past on e.1

trusting_same : (rules : Rules) (old new : Planned) (past : Events) → GoesOn old new → AreEnabled rules old past → IsTrusting new past ↔ IsTrusting old past
trusting_same rules old new [] on e = (λ q. q, λ q. q)
trusting_same rules old new (CallEvent thread index member given ∷ past) on e =
    let same = ap (λ o. is_made is_suspicion o given) (call_same rules old new past thread index member given on e.0) in
    let rest = trusting_same rules old new past on e.1 in
    (λ q. (sym same ∙ q.0, rest.0 q.1), λ q. (same ∙ q.0, rest.1 q.1))
trusting_same rules old new (Receive from to ∷ past) on e = trusting_same rules old new past on e.1
trusting_same rules old new (Release at ∷ past) on e = trusting_same rules old new past on e.1

pub reads_alike : ReadAlike
reads_alike = λ rules old new past on e. record {
  moves_alike = read_same rules old new past (λ g ms. ms) on e;
  parts = λ i. read_same rules old new past (λ g ms. (turn_at g ms i).part) on e;
  frames = λ from to. read_same rules old new past (λ g ms. next_on g ms from to) on e;
  logs = λ i. read_same rules old new past (λ g ms. log g i (turn_at g ms i).part) on e;
  versions = λ i. read_same rules old new past (λ g ms. version (turn_at g ms i).part) on e;
  kinds = λ i. read_same rules old new past (λ g ms. present_kind g i (turn_at g ms i).part) on e;
  held = λ i. read_same rules old new past (λ g ms. (turn_at g ms i).part.held) on e;
  crashes = λ i. read_same rules old new past (λ g ms. (turn_at g ms i).part.crashed) on e;
  projections = λ v. read_same rules old new past (λ g ms. steps_made g v ms) on e;
  accepted = accepted_same rules old new past on e;
  quiet = quiet_same rules old new past on e;
  trusting = trusting_same rules old new past on e;
}

-- The events are enabled --------------------------------------------------------------------------------------------

call_on : (rules : Rules) (old new : Planned) (past : Events) (thread index member : ℕ) (given : Answer) (o : Option PlannedStep) → GoesOn old new → AreEnabled rules old past
    → IsCall rules old past thread index member given o → IsCall rules new past thread index member given o
call_on rules old new past thread index member given None on e c = absurd c
call_on rules old new past thread index member given (Some s) on e c = record {
  next = c.next;
  at = c.at;
  answered = c.answered ∙ sym (read_same rules old new past (λ g ms. answer g member (turn_at g ms member).part s.call) on e);
}

pub enabled_on : (rules : Rules) (old new : Planned) (past : Events) → GoesOn old new → AreEnabled rules old past → AreEnabled rules new past
enabled_on rules old new [] on e = tt
enabled_on rules old new (CallEvent thread index member given ∷ past) on e =
    let same = call_same rules old new past thread index member given on e.0 in (
      subst (λ o. IsCall rules new past thread index member given o) (sym same) (call_on rules old new past thread index member given (planned old thread index) on e.1 e.0),
      enabled_on rules old new past on e.1,
    )
enabled_on rules old new (Receive from to ∷ past) on e =
    let r = e.0 in
    let n = on.members in (
      record {
        from_member = let l = r.from_member in omega arith;
        to_member = let l = r.to_member in omega arith;
        up = read_same rules old new past (λ g ms. (turn_at g ms to).part.crashed) on e.1 ∙ r.up;
        frame = subst IsSome (sym (read_same rules old new past (λ g ms. next_on g ms from to) on e.1)) r.frame;
      },
      enabled_on rules old new past on e.1,
    )
enabled_on rules old new (Release at ∷ past) on e =
    let r = e.0 in
    let n = on.members in (
      record {
        member = let l = r.member in omega arith;
        up = read_same rules old new past (λ g ms. (turn_at g ms at).part.crashed) on e.1 ∙ r.up;
        ready = subst IsSome (sym (read_same rules old new past (λ g ms. first_ready (version (turn_at g ms at).part) (turn_at g ms at).part.held) on e.1)) r.ready;
      },
      enabled_on rules old new past on e.1,
    )

pub go_on : GoOn
go_on = λ rules old new past on p r. record { of_plan = p; short = r.short; enabled = enabled_on rules old new past on r.enabled }
