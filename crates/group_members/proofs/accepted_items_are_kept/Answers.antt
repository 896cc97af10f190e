use Rattle.upd_base.proofs.PlanFacts.{open_facts}
use Rattle.group_members.specs.Accepted.{AcceptsAlike}
use Rattle.group_members.proofs.Accepted.{accepted_alike}
use Rattle.group_members.proofs.accepted_items_are_kept.Goals as goal

accepts_alike : AcceptsAlike
accepts_alike = λ rules plan past r. accepted_alike rules plan past (open_facts plan r.of_plan) r.enabled

pub returns : goal.returns
returns c = accepts_alike
