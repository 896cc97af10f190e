use Rattle.std.proofs.Common.{ℕ, ◌≡◌, ◌<◌, None, slice_index_or}
use Rattle.member_rules.specs.Kept.{rules_of}
use Rattle.run_journal.specs.Journal.{plan_of, past_of}
use Rattle.run_journal.specs.Causes.{open_frame}
use Rattle.line_rules.specs.declared.line_state.LineState.TheVariants.{Missing}
use Rattle.group_lines.specs.Visits.{LinkStands}
use Rattle.group_lines.specs.Told.{IsDownState}
use Rattle.group_lines.proofs.ending.lowest_down.Given as goal

abbrev pub invariant-loop-place : goal.invariant-loop-place
invariant-loop-place g l = (k from to : ℕ) → k < l.place → LinkStands (plan_of l.journal).members from to k → IsDownState (slice_index_or l.states k Missing)
    → open_frame (rules_of g.O.Ordering) (plan_of l.journal) (past_of l.journal) from to ≡ None
