use Rattle.std.proofs.Common.{ℕ, None, ◌≡◌, ◌<◌}
use Rattle.member_rules.specs.Kept.{rules_of}
use Rattle.run_journal.specs.Journal.{plan_of, past_of}
use Rattle.run_journal.specs.Causes.{open_frame}
use Rattle.run_journal.proofs.journal.Journal.links_are_empty.Given as goal

abbrev pub invariant-loop-i : goal.invariant-loop-i
invariant-loop-i g l = (f t : ℕ) → f < l.i → t < (plan_of l.self).members → open_frame (rules_of g.O.Ordering) (plan_of l.self) (past_of l.self) f t ≡ None
