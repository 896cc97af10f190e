use Rattle.std.proofs.Common.{◌≡◌}
use Rattle.member_rules.specs.Kept.{rules_of}
use Rattle.run_journal.specs.Journal.{plan_of, past_of}
use Rattle.line_rules.specs.Lines.{AreReady}
use Rattle.group_lines.specs.Visits.{IsIdle, Went}
use Rattle.group_lines.proofs.Turns.{LeftBelow}
use Rattle.group_lines.proofs.rounds.visit_links.Given as goal

abbrev pub invariant-loop-place : goal.invariant-loop-place
invariant-loop-place g l = record {
  plan : plan_of l.journal ≡ plan_of l.fn.journal;
  ready : AreReady g.L.Line (rules_of g.O.Ordering) (plan_of l.fn.journal) (past_of l.journal) l.lines l.states;
  went : Went g.L.Line (rules_of g.O.Ordering) (plan_of l.fn.journal) (past_of l.fn.journal) (past_of l.journal) l.fn.lines l.lines l.fn.states l.states;
  left : IsIdle (plan_of l.fn.journal) (past_of l.fn.journal) (past_of l.journal) → LeftBelow (rules_of g.O.Ordering) (plan_of l.fn.journal) (past_of l.fn.journal) l.states l.place;
}
