use Rattle.std.proofs.Common.{◌≡◌, sym}
use Rattle.std.specs.Ordering.{nat_cmp}
use Rattle.std.specs.Cmp.{nat_cmp_total}
use Rattle.std.specs.Map.Iter.{deref_pair}
use Rattle.std.proofs.lemmas.Map.Iter.{rest_more, rest_all}
use Rattle.map_copies.proofs.Copies.{one_more, all_copied, same_entries}
use Rattle.batch_delivery.proofs.delivery.copy_batches.Goals as goal

pub loop-number-preserved : goal.loop-number-preserved
loop-number-preserved c =
    one_more nat_cmp nat_cmp_total (λ x y. x ≡ y) c.args.batches.now.entries c.loop-number.number-iterator c.next.new.self c.loop-number.copies.entries c.put.new.batches.entries
    c.in-Some.number.now c.in-Some.batch.now c.in_ok-copy.field-0 c.iter-number-items.ensures.ordered
    (rest_more deref_pair c.loop-number.number-iterator c.next.new.self c.next.result (c.in-Some.number, c.in-Some.batch) c.in-Some.is c.next.ensures.steps)
    (sym c.in_ok-copy.ensures) c.in_ok-put.ensures.ok c.loop-number.invariant

pub returns : goal.returns
returns c =
    sym (same_entries c.args.batches.now.entries c.loop-number.copies.entries
    (all_copied (λ x y. x ≡ y) c.args.batches.now.entries c.loop-number.number-iterator c.loop-number.copies.entries
    (rest_all deref_pair c.loop-number.number-iterator c.next.new.self c.next.result c.in-None.is c.next.ensures.steps) c.loop-number.invariant))
