use Rattle.std.proofs.Common.{◌≡◌, ◌≤◌, subst, length}
use Rattle.std.specs.Prelude.{OnOk, OnErr}
use Rattle.member_rules.specs.Kept.{rules_of}
use Rattle.upd_base.specs.Plan.{bound}
use Rattle.run_journal.specs.Journal.{plan_of, past_of}
use Rattle.rehearsal.specs.Seeded.{seeded, words_of}
use Rattle.rehearsal.specs.Ends.{IsOnTheWay, TellsRun}
use Rattle.rehearsal.proofs.EndLaws.{ends_at}
use Rattle.rehearsal.proofs.FullLaws.{full_of_end, goes_seeded}
use Rattle.rehearsal.proofs.draws.seeded.Goals as goal

pub returns-clause-events : goal.returns-clause-events
returns-clause-events g c =
    let r = rules_of g.O.Ordering in
    let p = plan_of c.args.journal in
    let new = past_of c.run_draws-made.new.journal in
    let same = c.run_draws-made.ensures.plan in
    ends_at r p new (seeded r p (past_of c.args.journal) (words_of c.args.seed)) c.end_of-end.result c.run_draws-made.result
    (subst (λ q. length new ≤ bound q) same c.end_of-end.ensures.few)
    (subst (λ w. OnOk c.run_draws-made.result (new ≡ seeded r p (past_of c.args.journal) w)) c.seed_from_u64-words.ensures c.run_draws-made.ensures.made)
    c.run_draws-made.ensures.rests
    (subst (λ w. OnErr c.run_draws-made.result (IsOnTheWay new (seeded r p (past_of c.args.journal) w))) c.seed_from_u64-words.ensures c.run_draws-made.ensures.err)
    (subst (λ q. OnOk c.run_draws-made.result (TellsRun r q new c.end_of-end.result)) same c.end_of-end.ensures.end)
    c.end_of-end.ensures.memory

pub returns-clause-full : goal.returns-clause-full
returns-clause-full g c =
    let r = rules_of g.O.Ordering in
    let p = plan_of c.args.journal in
    full_of_end r p (past_of c.args.journal) (past_of c.run_draws-made.new.journal) (seeded r p (past_of c.args.journal) (words_of c.args.seed)) c.end_of-end.result
    (returns-clause-events g c) c.run_draws-made.ensures.grows (goes_seeded r p (past_of c.args.journal) (words_of c.args.seed))
