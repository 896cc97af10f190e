use Rattle.std.proofs.Common.{ap, ◌∙◌}
use Rattle.group_run.specs.Laws.{OrdersRuns}
use Rattle.group_fulfilment.specs.AtRest.{FulfilsAtRest}
use Rattle.group_growth.specs.Laws.{OpenRunsKeepTheorem}
use Rattle.group_growth.specs.Acts.{plan_of, past_of}
use Rattle.group_growth.proofs.Acting.{acts_are_runs, first_of}
use Rattle.group_growth.proofs.open_runs_keep_the_theorem.Goals as goal

keeps : OrdersRuns → FulfilsAtRest → OpenRunsKeepTheorem
keeps orders fulfils = λ rules k f n first g s acts short follow.
    let r = acts_are_runs rules n first acts g short follow in
    let served = ap rules.serves (first_of n first acts) ∙ s in
    record {
      run = r.run;
      ordered = orders rules k (plan_of n first acts) served (past_of acts) r.run;
      fulfilled = λ rest quiet. fulfils rules k f (plan_of n first acts) served (past_of acts) r.run rest.receipts rest.releases quiet;
    }

pub returns : goal.returns
returns c = keeps c.runs_are_ordered.ensures c.quiet_runs_at_rest_are_fulfilled.ensures
