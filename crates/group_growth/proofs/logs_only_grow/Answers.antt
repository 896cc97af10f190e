use Rattle.group_growth.proofs.Logs.{logs_grow, logs_grow_on}
use Rattle.group_growth.proofs.logs_only_grow.Goals as goal

pub returns-clause-within : goal.returns-clause-within
returns-clause-within c = logs_grow

pub returns-clause-on : goal.returns-clause-on
returns-clause-on c = logs_grow_on
