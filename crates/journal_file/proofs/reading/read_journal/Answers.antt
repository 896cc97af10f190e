use Rattle.std.proofs.lemmas.Result.{err_from_is_err_and}
use Rattle.member_rules.specs.Kept.{rules_of}
use Rattle.journal_file.proofs.reading.read_journal.Goals as goal

pub returns-in_err-plan-clause-fault : goal.returns-in_err-plan-clause-fault
returns-in_err-plan-clause-fault g c =
    let p = err_from_is_err_and c.from_residual.result c.from_residual.ensures.1 in
    rw (p.1, p.2) (c.in_err-plan.ensures.fault (rules_of g.O.Ordering))
