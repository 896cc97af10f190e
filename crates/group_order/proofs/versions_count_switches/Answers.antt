use Rattle.group_order.proofs.Switches.{counts_versions, switches_kinds}
use Rattle.group_order.proofs.versions_count_switches.Goals as goal

pub returns : goal.returns
returns c = record { count = counts_versions; kinds = switches_kinds }
