-- The law of quiet runs that have come to rest while calls are left.
use Rattle.std.specs.Prelude.{ℕ, true, ◌≡◌}
use Rattle.upd_base.specs.Plan.{Planned}
use Rattle.group_run.specs.Group.{Rules}
use Rattle.group_run.specs.Run.{Events, IsGroupRun, IsReceipt, IsRelease}
use Rattle.group_run.specs.Settled.{IsQuiet, IsFulfilled}
use Rattle.group_run.specs.Laws.{FulfilsAll, KeepsOrder}

-- For kinds that keep agreement, integrity and fulfilment: a quiet run in which nothing can be received or released has
-- every accepted message in every log, and all members have one version, also where calls are left.
abbrev pub FulfilsAtRest : Type 0
FulfilsAtRest = (rules : Rules) → KeepsOrder rules → FulfilsAll rules → (plan : Planned) → rules.serves plan.first ≡ true
    → (past : Events) → IsGroupRun rules plan past → ((from to : ℕ) → IsReceipt rules plan past from to → ⊥) → ((at : ℕ) → IsRelease rules plan past at → ⊥)
    → IsQuiet plan past → IsFulfilled rules plan past
