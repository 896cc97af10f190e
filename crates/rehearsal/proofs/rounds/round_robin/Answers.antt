use Rattle.std.proofs.Common.{◌≤◌, subst, length}
use Rattle.std.specs.Prelude.{OnOk}
use Rattle.member_rules.specs.Kept.{rules_of}
use Rattle.upd_base.specs.Plan.{bound}
use Rattle.run_journal.specs.Journal.{plan_of, past_of}
use Rattle.rehearsal.specs.Rounds.{round_robin}
use Rattle.rehearsal.specs.Ends.{TellsRun}
use Rattle.rehearsal.proofs.EndLaws.{ends_at}
use Rattle.rehearsal.proofs.FullLaws.{full_of_end, goes_round_robin}
use Rattle.rehearsal.proofs.rounds.round_robin.Goals as goal

pub returns-clause-events : goal.returns-clause-events
returns-clause-events g c =
    let r = rules_of g.O.Ordering in
    let p = plan_of c.args.journal in
    let new = past_of c.run_rounds-made.new.journal in
    let same = c.run_rounds-made.ensures.plan in
    ends_at r p new (round_robin r p (past_of c.args.journal)) c.end_of-end.result c.run_rounds-made.result
    (subst (λ q. length new ≤ bound q) same c.end_of-end.ensures.few)
    c.run_rounds-made.ensures.made
    c.run_rounds-made.ensures.rests
    c.run_rounds-made.ensures.err
    (subst (λ q. OnOk c.run_rounds-made.result (TellsRun r q new c.end_of-end.result)) same c.end_of-end.ensures.end)
    c.end_of-end.ensures.memory

pub returns-clause-full : goal.returns-clause-full
returns-clause-full g c =
    let r = rules_of g.O.Ordering in
    let p = plan_of c.args.journal in
    full_of_end r p (past_of c.args.journal) (past_of c.run_rounds-made.new.journal) (round_robin r p (past_of c.args.journal)) c.end_of-end.result
    (returns-clause-events g c) c.run_rounds-made.ensures.grows (goes_round_robin r p (past_of c.args.journal))
