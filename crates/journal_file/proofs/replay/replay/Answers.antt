use Rattle.std.proofs.Common.{map}
use Rattle.member_rules.specs.Kept.{rules_of}
use Rattle.run_journal.specs.Journal.{plan_of, past_of}
use Rattle.journal_file.specs.Written.{event_written}
use Rattle.journal_file.proofs.Replaying.{all_made, not_made}
use Rattle.journal_file.proofs.replay.replay.Goals as goal

pub returns-then-not-branch-clause-fault : goal.returns-then-not-branch-clause-fault
returns-then-not-branch-clause-fault g c =
    λ bytes text.
    let journal = c.loop-index.journal in (
      c.args.plan,
      map event_written c.args.events.now,
      text,
      not_made (rules_of g.O.Ordering) c.args.plan (plan_of journal) c.args.events.now c.loop-index.index _ (past_of journal) (past_of c.make.new.journal) c.in_ok-make.field-0
          c.loop-index-test.true c.loop-index.invariant.plan c.loop-index.invariant.past c.in_ok-make.ensures.run c.in_ok-make.ensures.tried c.if-not-branch.true,
    )

pub returns-clause-events : goal.returns-clause-events
returns-clause-events g c =
    all_made event_written c.args.events.now c.loop-index.index c.loop-index.journal.events.items c.loop-index.invariant.past c.loop-index-test.false
