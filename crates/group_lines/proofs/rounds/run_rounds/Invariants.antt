use Rattle.std.proofs.Common.{◌≡◌, ◌-◌, length}
use Rattle.upd_base.specs.Plan.{bound}
use Rattle.member_rules.specs.Kept.{rules_of}
use Rattle.run_journal.specs.Journal.{plan_of, past_of}
use Rattle.line_rules.specs.Lines.{AreReady}
use Rattle.group_lines.specs.Visits.{Went}
use Rattle.group_lines.proofs.rounds.run_rounds.Given as goal

abbrev pub invariant-loop-journal : goal.invariant-loop-journal
invariant-loop-journal g l = record {
  plan : plan_of l.journal ≡ plan_of l.fn.journal;
  ready : AreReady g.L.Line (rules_of g.O.Ordering) (plan_of l.fn.journal) (past_of l.journal) l.lines l.states;
  went : Went g.L.Line (rules_of g.O.Ordering) (plan_of l.fn.journal) (past_of l.fn.journal) (past_of l.journal) l.fn.lines l.lines l.fn.states l.states;
}

abbrev pub decreases-loop-journal : goal.decreases-loop-journal
decreases-loop-journal g l = bound (plan_of l.fn.journal) - length (past_of l.journal)
