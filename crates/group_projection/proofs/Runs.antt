-- A group run keeps what its moves keep.
use Rattle.std.proofs.Common.{ℕ, suc, ◌≡◌, ◌<◌, ◌≤◌, ◌^◌, true, [], ◌∷◌, length, refl, arith, Option, Some, None}
use Rattle.fifo_net.specs.Net.{inputs_of}
use Rattle.upd_base.specs.Plan.{Planned, planned, is_open}
use Rattle.upd_base.proofs.PlanFacts.{OpenFacts, open_facts, planned_member}
use Rattle.upd_base.specs.declared.frame.Frame.{Frame}
use Rattle.upd_base.specs.declared.event.Event.TheVariants.{Call as CallEvent, Receive, Release}
use Rattle.upd_base.specs.declared.call.Step.{Step as PlannedStep}
use Rattle.upd_base.specs.declared.answer.Answer.{Answer}
use Rattle.group_run.specs.Group.{Rules, Group}
use Rattle.group_run.specs.Run.{Events, Moves, group, moves, moves_in, call_made, frame_taken, next_on, IsGroupRun, AreEnabled, IsCall, part, version_in}
use Rattle.group_run.specs.Projection.{projection}
use Rattle.group_run.specs.Laws.{KeepsOrder, ProjectsRuns}
use Rattle.group_run.proofs.Inputs.{one_of}
use Rattle.group_run.proofs.Turns.{newest-below}
use Rattle.group_projection.proofs.World.{Lawful, module_run}
use Rattle.group_projection.proofs.Moved.{AllMembers, world_of}
use Rattle.group_links.proofs.Moves.{moves_run}
use Rattle.group_projection.proofs.Kept.{Kept, kept_all, short_all}

lawful : (rules : Rules) (plan : Planned) → KeepsOrder rules → OpenFacts plan → rules.serves plan.first ≡ true → Lawful (group rules plan)
lawful rules plan k p s = record { some = p.some; few = p.few; keeps = k; serves = s; fits = p.first_fits }

-- Each move is a member's; and there is at most one for each event.
call_members : (rules : Rules) (plan : Planned) (past : Events) (thread index member : ℕ) (given : Answer) (o : Option PlannedStep) → OpenFacts plan → planned plan thread index ≡ o →
    IsCall rules plan past thread index member given o → AllMembers plan.members (moves_in rules plan past) → AllMembers plan.members (call_made member o (moves_in rules plan past))
call_members rules plan past thread index member given None p e c m = absurd c
call_members rules plan past thread index member given (Some s) p e c m =
    let at = c.at in let lt = planned_member plan p thread index s e in (omega arith, m)

frame_members : (n from to : ℕ) (o : Option Frame) (ms : Moves) → to < n → AllMembers n ms → AllMembers n (frame_taken from to o ms)
frame_members n from to None ms h m = m
frame_members n from to (Some frame) ms h m = (h, m)

all_members : (rules : Rules) (plan : Planned) (past : Events) → OpenFacts plan → AreEnabled rules plan past → AllMembers plan.members (moves_in rules plan past)
all_members rules plan [] p e = tt
all_members rules plan (CallEvent thread index member given ∷ past) p e =
    call_members rules plan past thread index member given (planned plan thread index) p refl e.0 (all_members rules plan past p e.1)
all_members rules plan (Receive from to ∷ past) p e =
    let r = e.0 in
    frame_members plan.members from to (next_on (group rules plan) (moves_in rules plan past) from to) (moves_in rules plan past) r.to_member (all_members rules plan past p e.1)
all_members rules plan (Release at ∷ past) p e = let r = e.0 in (r.member, all_members rules plan past p e.1)

call_le : (at : ℕ) (o : Option PlannedStep) (ms : Moves) → length (call_made at o ms) ≤ suc (length ms)
call_le at None ms = omega arith
call_le at (Some s) ms = omega arith

frame_le : (from to : ℕ) (o : Option Frame) (ms : Moves) → length (frame_taken from to o ms) ≤ suc (length ms)
frame_le from to None ms = omega arith
frame_le from to (Some frame) ms = omega arith

moves_le : (g : Group) (plan : Planned) (past : Events) → length (moves g plan past) ≤ length past
moves_le g plan [] = omega arith
moves_le g plan (CallEvent thread index member given ∷ past) =
    let a = call_le member (planned plan thread index) (moves g plan past) in let b = moves_le g plan past in omega arith
moves_le g plan (Receive from to ∷ past) =
    let a = frame_le from to (next_on g (moves g plan past) from to) (moves g plan past) in let b = moves_le g plan past in omega arith
moves_le g plan (Release at ∷ past) = let b = moves_le g plan past in omega arith

-- What is known of a group run.
pub record RunFacts (rules : Rules) (plan : Planned) (past : Events) : Type 0 where
  pub plan_is : OpenFacts plan
  pub law : Lawful (group rules plan)
  pub members : AllMembers plan.members (moves_in rules plan past)
  pub kept : Kept (group rules plan) (moves_in rules plan past)
  pub short : (v : ℕ) → length (projection rules plan past v) < 2 ^ 40

pub facts_of : (rules : Rules) → KeepsOrder rules → (plan : Planned) → rules.serves plan.first ≡ true → (past : Events) → is_open plan ≡ true → AreEnabled rules plan past → length past ≤ 2 ^ 30 → RunFacts rules plan past
facts_of rules k plan s past of_plan enabled few =
    let g : Group = group rules plan in
    let ms : Moves = moves_in rules plan past in
    let p = open_facts plan of_plan in
    let l = lawful rules plan k p s in
    let members = all_members rules plan past p enabled in
    let less : length ms < 2 ^ 31 = let a = moves_le g plan past in omega arith in
    let kept = kept_all g ms l members (moves_run g plan past) less in
    record { plan_is = p; law = l; members = members; kept = kept; short = short_all g ms l kept less }

pub run_facts : (rules : Rules) → KeepsOrder rules → (plan : Planned) → rules.serves plan.first ≡ true → (past : Events) → IsGroupRun rules plan past → RunFacts rules plan past
run_facts rules k plan s past r = facts_of rules k plan s past r.of_plan r.enabled (let h = r.short in omega arith)

below_version : (rules : Rules) (plan : Planned) (past : Events) (i v : ℕ) → v ≤ version_in rules plan past i → v < length (part rules plan past i).modules
below_version rules plan past i v h =
    let l = newest-below (part rules plan past i).modules (one_of (group rules plan) i (inputs_of i (moves_in rules plan past))) in omega arith

-- The projection theorem.
pub projects_runs : ProjectsRuns
projects_runs = λ rules k plan s past r.
    let f = run_facts rules k plan s past r in
    let w = f.kept.sound in
    record {
      one_kind = λ v i j hi hj vi vj. w.one_kind i j v hi hj (below_version rules plan past i v vi) (below_version rules plan past j v vj);
      module_run = λ v i hi vi. module_run (group rules plan) (world_of (group rules plan) (moves_in rules plan past)) f.law w i v hi (below_version rules plan past i v vi) (f.short v);
    }
