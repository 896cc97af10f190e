-- A plan, without where it lies in memory, and its limits.
use Rattle.std.specs.Prelude.{ℕ, Bool, true, ◌+◌, ◌*◌, ◌==◌, ◌&&◌, not, nat_le, nat_lt, if◌then◌else◌, List, length, sum_by, slice_get, Option, Some, None, unwrap_or, []}
use Rattle.std.specs.List.{list_all}
use Rattle.upd_base.specs.Kind.{kind_fits}
use Rattle.upd_base.specs.declared.kind.Kind.{Kind}
use Rattle.upd_base.specs.declared.call.Call.{Call}
use Rattle.upd_base.specs.declared.call.Call.TheVariants.{Send, Change, Suspect, Trust, Crash}
use Rattle.upd_base.specs.declared.call.Step.{Step}
use Rattle.upd_base.specs.declared.limits.TheConstants.{MAX_MEMBERS, MAX_THREADS, MAX_CALLS, MAX_CHANGES}

-- how many members, the kind of version 0, and the calls of each thread
pub record Planned : Type 0 where
  pub members : ℕ
  pub first : Kind
  pub threads : List (List Step)

abbrev pub call_fits : ℕ → ℕ → Call → Bool
call_fits n at (Send text) = true
call_fits n at (Change kind) = kind_fits n kind
call_fits n at (Suspect who) = nat_lt who n && not (who == at)
call_fits n at (Trust who) = nat_lt who n && not (who == at)
call_fits n at Crash = true

-- the step's member is below n, and its call is refused neither as bad kind nor as bad member
abbrev pub step_fits : ℕ → Step → Bool
step_fits n s = nat_lt s.at n && call_fits n s.at s.call

abbrev pub send_count : Call → ℕ
send_count (Send text) = 1
send_count (Change kind) = 0
send_count (Suspect who) = 0
send_count (Trust who) = 0
send_count Crash = 0

abbrev pub change_count : Call → ℕ
change_count (Send text) = 0
change_count (Change kind) = 1
change_count (Suspect who) = 0
change_count (Trust who) = 0
change_count Crash = 0

-- how many steps, sends and changes a thread has
abbrev pub steps_in : List Step → ℕ
steps_in steps = length steps

abbrev pub sends_in : List Step → ℕ
sends_in steps = sum_by (λ s. send_count s.call) steps

abbrev pub changes_in : List Step → ℕ
changes_in steps = sum_by (λ s. change_count s.call) steps

abbrev pub all_fit : ℕ → List (List Step) → Bool
all_fit n threads = list_all (list_all (step_fits n)) threads

-- The rules that a plan of any length keeps: 1 to 7 members, a first kind that fits them, 1 to 16 threads, calls that fit.
unfoldable pub is_open : Planned → Bool
is_open p = nat_le 1 p.members && nat_le p.members MAX_MEMBERS && kind_fits p.members p.first && nat_le 1 (length p.threads) && nat_le (length p.threads) MAX_THREADS
    && all_fit p.members p.threads

-- and those of a scenario, which has few calls and fewer changes
unfoldable pub is_plan : Planned → Bool
is_plan p = is_open p && nat_le (sum_by steps_in p.threads) MAX_CALLS && nat_le (sum_by changes_in p.threads) MAX_CHANGES

-- the plan of these, where it is one
abbrev pub plan_of : ℕ → Kind → List (List Step) → Planned
plan_of members first threads = record { members = members; first = first; threads = threads }

abbrev pub plan_where_it_fits : Planned → Option Planned
plan_where_it_fits p = if is_plan p then Some p else None

-- the calls of a thread
abbrev pub steps_of : Planned → ℕ → List Step
steps_of plan thread = unwrap_or (slice_get plan.threads thread) []

-- the planned call at a place of a thread
abbrev pub step_in : Option (List Step) → ℕ → Option Step
step_in None index = None
step_in (Some steps) index = slice_get steps index

abbrev pub planned : Planned → ℕ → ℕ → Option Step
planned plan thread index = step_in (slice_get plan.threads thread) index

-- how many bodies a module of n members may send for each broadcast
abbrev pub bodies_bound : ℕ → ℕ
bodies_bound n = 2 * n * n + 3 * n

-- how many events a run of the plan may have
abbrev pub bound : Planned → ℕ
bound p = sum_by steps_in p.threads
    + 2 * bodies_bound p.members * (sum_by sends_in p.threads + sum_by changes_in p.threads) * (sum_by changes_in p.threads + 1)
