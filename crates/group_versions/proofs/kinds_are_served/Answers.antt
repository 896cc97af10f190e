use Rattle.group_versions.specs.Served.{ServesKinds}
use Rattle.group_versions.proofs.Versions.{kind_at-served}
use Rattle.group_versions.proofs.kinds_are_served.Goals as goal

serves_kinds : ServesKinds
serves_kinds = λ g s me v modules lt. kind_at-served g me modules s v lt

pub returns : goal.returns
returns c = serves_kinds
