use Rattle.group_run.specs.Laws.{GrowsRuns}
use Rattle.group_projection.proofs.Runs.{run_facts}
use Rattle.group_projection.proofs.inputs_are_growing.Goals as goal

grows_runs : GrowsRuns
grows_runs = λ rules k plan s past r i h. (run_facts rules k plan s past r).kept.growing i h

pub returns : goal.returns
returns c = grows_runs
