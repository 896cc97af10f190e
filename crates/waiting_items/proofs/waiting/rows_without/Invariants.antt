use Rattle.std.proofs.Common.{◌≡◌, map, take}
use Rattle.waiting_items.specs.Ids.{apart_from}
use Rattle.waiting_items.proofs.waiting.rows_without.Given as goal

abbrev pub invariant-loop-origin : goal.invariant-loop-origin
invariant-loop-origin l = l.left.items ≡ map (apart_from l.gone) (take l.origin l.rows)
