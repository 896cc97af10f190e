-- Threads of steps within the limits of a plan.
use Rattle.std.specs.Prelude.{ℕ, ◌≡◌, ◌≤◌, true, List, length, sum_by, Vec}
use Rattle.std.specs.List.{list_all}
use Rattle.std.specs.declared.alloc.Global.{Global}
use Rattle.upd_base.specs.Plan.{step_fits, changes_in}
use Rattle.upd_base.specs.declared.call.Step.{Step}

pub record IsWithin (n : ℕ) (threads : List (Vec Step Global)) : Type 0 where
  pub fit : list_all (λ t. list_all (step_fits n) t.items) threads ≡ true
  pub steps : sum_by (λ t. length t.items) threads ≤ 1000
  pub changes : sum_by (λ t. changes_in t.items) threads ≤ 32
