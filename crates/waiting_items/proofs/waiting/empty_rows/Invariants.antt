use Rattle.std.proofs.Common.{◌≡◌, [], replicate}
use Rattle.waiting_items.proofs.waiting.empty_rows.Given as goal

abbrev pub invariant-loop-member : goal.invariant-loop-member
invariant-loop-member l = l.rows.items ≡ replicate l.member []
