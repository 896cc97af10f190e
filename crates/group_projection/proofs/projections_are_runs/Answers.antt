use Rattle.group_run.specs.Laws.{GivesInputs}
use Rattle.group_run.specs.Run.{group, moves_in}
use Rattle.group_run.proofs.Inputs.{inputs_are}
use Rattle.group_projection.proofs.Runs.{projects_runs}
use Rattle.group_projection.proofs.projections_are_runs.Goals as goal

gives_inputs : GivesInputs
gives_inputs = λ rules plan past i v. inputs_are (group rules plan) (moves_in rules plan past) i v

pub returns : goal.returns
returns c = record { runs = projects_runs; inputs = gives_inputs }
