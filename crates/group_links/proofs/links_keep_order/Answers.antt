use Rattle.group_run.specs.Laws.{KeepsLinkOrder}
use Rattle.group_run.specs.Run.{group, moves_in}
use Rattle.group_links.proofs.Moves.{link_parts, moves_run}
use Rattle.group_links.proofs.links_keep_order.Goals as goal

links_keep : KeepsLinkOrder
links_keep = λ rules plan past from to v. link_parts (group rules plan) (moves_in rules plan past) (moves_run (group rules plan) plan past) from to v

pub returns : goal.returns
returns c = links_keep
