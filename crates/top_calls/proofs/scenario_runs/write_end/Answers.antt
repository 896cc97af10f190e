use Rattle.std.proofs.Common.{subst}
use Rattle.run_journal.specs.Journal.{plan_of, past_of}
use Rattle.top_calls.specs.Causes.{CameBy}
use Rattle.top_calls.specs.Recorded.{CameTo}
use Rattle.program_texts.specs.declared.run_end.End.TheVariants.{Settled, Spent}
use Rattle.top_calls.proofs.Rehearsals.{wrote_of}
use Rattle.top_calls.proofs.scenario_runs.write_end.Goals as goal

pub returns-in-Settled-clause-wrote : goal.returns-in-Settled-clause-wrote
returns-in-Settled-clause-wrote g c =
    let plan = plan_of c.args.journal.now in
    let past = past_of c.args.journal.now in
    wrote_of (λ end. CameTo end plan past) Settled c.write_run.result c.args.form plan past _ _ (subst (λ e. CameBy e plan past) c.in-Settled.is c.requires) c.write_run.ensures.wrote

pub returns-in-Spent-clause-wrote : goal.returns-in-Spent-clause-wrote
returns-in-Spent-clause-wrote g c =
    let plan = plan_of c.args.journal.now in
    let past = past_of c.args.journal.now in
    wrote_of (λ end. CameTo end plan past) Spent c.write_run-in-Spent.result c.args.form plan past _ _ (subst (λ e. CameBy e plan past) c.in-Spent.is c.requires) c.write_run-in-Spent.ensures.wrote
