-- The limits that hold where a line is wanted.
use Rattle.std.specs.Prelude.{ℕ, suc, true, ◌≡◌, ◌≤◌, ◌+◌, List, All, length, sum_by}
use Rattle.std.specs.List.{list_all}
use Rattle.upd_base.specs.Kind.{KindFits}
use Rattle.upd_base.specs.Plan.{Planned, all_fit, bound, changes_in, is_plan, step_fits, steps_in}
use Rattle.upd_base.specs.declared.call.Step.{Step}
use Rattle.upd_base.specs.declared.event.Event.{Event}
use Rattle.upd_base.specs.declared.limits.TheConstants.{MAX_MEMBERS, MAX_THREADS, MAX_CALLS, MAX_CHANGES}
use Rattle.journal_file.specs.Grammar.{Wanted, EventFits, calls_with, changes_with}
use Rattle.journal_file.specs.Grammar.Wanted.{WantsHeading, WantsMembers, WantsFirst, WantsThreads, WantsThread, WantsStep, WantsEvents, WantsEvent, WantsEnd, WantsNothing}

-- The first threads of a plan, of which so many are left.
pub record IsFront (plan : Planned) (left : ℕ) : Type 0 where
  pub some : 1 ≤ plan.members
  pub few : plan.members ≤ MAX_MEMBERS
  pub first_fits : KindFits plan.members plan.first
  pub fit : all_fit plan.members plan.threads ≡ true
  pub few_threads : length plan.threads + left ≤ MAX_THREADS
  pub few_calls : sum_by steps_in plan.threads ≤ MAX_CALLS
  pub few_changes : sum_by changes_in plan.threads ≤ MAX_CHANGES

-- The first steps of its next thread, of which so many are left.
pub record AreNext (plan : Planned) (steps : List Step) (left : ℕ) : Type 0 where
  pub fit : list_all (step_fits plan.members) steps ≡ true
  pub few_calls : calls_with plan (length steps + left) ≤ MAX_CALLS
  pub few_changes : changes_with plan steps ≤ MAX_CHANGES

-- The events of a plan, of which so many are left.
pub record AreEvents (plan : Planned) (events : List Event) (left : ℕ) : Type 0 where
  pub of_plan : is_plan plan ≡ true
  pub few : length events + left ≤ bound plan
  pub fit : All EventFits events

-- what was read keeps its limits, and what is left too
abbrev pub IsWithin : Wanted → Type 0
IsWithin WantsHeading = Unit {0}
IsWithin WantsMembers = Unit {0}
IsWithin (WantsFirst n) = (1 ≤ n) × (n ≤ MAX_MEMBERS)
IsWithin (WantsThreads n kind) = (1 ≤ n) × (n ≤ MAX_MEMBERS) × KindFits n kind
IsWithin (WantsThread plan left) = IsFront plan (suc left)
IsWithin (WantsStep plan steps left threads) = IsFront plan (suc threads) × AreNext plan steps (suc left)
IsWithin (WantsEvents plan) = is_plan plan ≡ true
IsWithin (WantsEvent plan es left) = AreEvents plan es (suc left)
IsWithin (WantsEnd plan es) = AreEvents plan es 0
IsWithin (WantsNothing plan es) = AreEvents plan es 0
