use Rattle.group_run.proofs.Prefixes.{keeps_prefixes}
use Rattle.group_run.proofs.prefixes_are_runs.Goals as goal

pub returns : goal.returns
returns c = keeps_prefixes
