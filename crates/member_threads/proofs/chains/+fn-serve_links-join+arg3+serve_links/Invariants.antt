use Rattle.std.proofs.Common.{◌+◌, ◌*◌, ◌-◌, length}
use Rattle.member_threads.proofs.chains.+fn-serve_links-join+arg3+serve_links.Given as goal

abbrev pub decreases-join+arg3 : goal.decreases-join+arg3
decreases-join+arg3 g l = 2 * (length l.left.lines.items - l.next) + 1

abbrev pub decreases-serve_links : goal.decreases-serve_links
decreases-serve_links g l = 2 * (length l.left.lines.items - l.place)
