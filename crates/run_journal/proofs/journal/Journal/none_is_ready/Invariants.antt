use Rattle.std.proofs.Common.{ℕ, ◌<◌}
use Rattle.member_rules.specs.Kept.{rules_of}
use Rattle.group_run.specs.Run.{IsRelease}
use Rattle.run_journal.specs.Journal.{plan_of, past_of}
use Rattle.run_journal.proofs.journal.Journal.none_is_ready.Given as goal

abbrev pub invariant-loop-i : goal.invariant-loop-i
invariant-loop-i g l = (t : ℕ) → t < l.i → IsRelease (rules_of g.O.Ordering) (plan_of l.self) (past_of l.self) t → ⊥
