-- How many events a plan may ask for: at most 7,855,000, which is short enough for a run.
use Rattle.std.proofs.Common.{ℕ, ◌≡◌, ◌<◌, ◌≤◌, ◌+◌, ◌*◌, true, length, arith}
use Rattle.std.specs.Prelude.{sum_by}
use Rattle.std.proofs.Math.Nat.{mul-le-mul}
use Rattle.upd_base.specs.Plan.{Planned, is_plan, bound, bodies_bound, sends_in, changes_in}
use Rattle.upd_base.proofs.PlanFacts.{plan_facts, broadcasts_within}
use Rattle.group_run.specs.Run.{Events}
use Rattle.group_world.specs.Stands.{IsShort}

bodies_few : (n : ℕ) → n ≤ 7 → bodies_bound n ≤ 119
bodies_few n l =
    let q : n * n ≤ 7 * 7 = mul-le-mul l l in
    omega arith

frames_few : (bodies items versions : ℕ) → bodies ≤ 119 → items ≤ 1000 → versions ≤ 33 → 2 * bodies * items * versions ≤ 7854000
frames_few bodies items versions a b c =
    let two : 2 * bodies ≤ 238 = omega arith in
    let some : 2 * bodies * items ≤ 238 * 1000 = mul-le-mul two b in
    let all : 2 * bodies * items * versions ≤ 238 * 1000 * 33 = mul-le-mul some c in
    omega arith

pub bound-le : (plan : Planned) → is_plan plan ≡ true → bound plan ≤ 7855000
bound-le plan e =
    let f = plan_facts plan e in
    let calls = f.few_calls in
    let changes = f.few_changes in
    let within = broadcasts_within plan.threads in
    let frames = frames_few (bodies_bound plan.members) (sum_by sends_in plan.threads + sum_by changes_in plan.threads) (sum_by changes_in plan.threads + 1) (bodies_few plan.members f.few) (omega arith) (omega arith) in
    omega (arith, calls, frames)

pub short : (plan : Planned) (past : Events) → is_plan plan ≡ true → length past < bound plan → IsShort past
short plan past e l = let b = bound-le plan e in omega arith
