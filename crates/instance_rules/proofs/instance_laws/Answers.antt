use Rattle.instance_rules.proofs.Agree.{agrees, is_valid}
use Rattle.instance_rules.proofs.instance_laws.Goals as goal

pub returns : goal.returns
returns c = record { agreement = agrees; validity = is_valid }
