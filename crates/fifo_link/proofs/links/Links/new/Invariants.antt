use Rattle.std.proofs.Common.{◌≡◌, map, replicate, List, []}
use Rattle.upd_base.specs.declared.frame.Frame.{Frame}
use Rattle.fifo_link.proofs.links.Links.new.Given as goal

abbrev pub invariant-loop : goal.invariant-loop
invariant-loop l = map (λ r. r.items) l.rings.items ≡ replicate {A = List Frame} l.counter []
