use Rattle.group_growth.proofs.Alike.{go_on, reads_alike}
use Rattle.group_growth.proofs.runs_go_on.Goals as goal

pub returns-clause-runs : goal.returns-clause-runs
returns-clause-runs c = go_on

pub returns-clause-alike : goal.returns-clause-alike
returns-clause-alike c = reads_alike
