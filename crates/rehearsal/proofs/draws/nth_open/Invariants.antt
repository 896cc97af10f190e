use Rattle.std.proofs.Common.{◌≡◌, drop, filter}
use Rattle.std.specs.Prelude.{slice_get}
use Rattle.member_rules.specs.Kept.{rules_of}
use Rattle.run_journal.specs.Journal.{plan_of, past_of}
use Rattle.rehearsal.specs.Choices.{is_open}
use Rattle.rehearsal.proofs.draws.nth_open.Given as goal

abbrev pub invariant-loop-choice : goal.invariant-loop-choice
invariant-loop-choice g l =
    slice_get (filter (is_open (rules_of g.O.Ordering) (plan_of l.journal) (past_of l.journal)) (drop l.choice-index l.all)) l.left
    ≡ slice_get (filter (is_open (rules_of g.O.Ordering) (plan_of l.journal) (past_of l.journal)) l.all) l.place
