use Rattle.std.proofs.Common.{◌∙◌, ap, subst, sym, true, ◌≡◌, arith, rules}
use Rattle.std.proofs.lemmas.List.Sorted.{IsPartitionPoint-from_clause}
use Rattle.request_queue.specs.Request.{stands_before, insert, is_sorted}
use Rattle.request_queue.proofs.Order.{inserted, sorted_insert}
use Rattle.request_queue.proofs.queue.RequestQueue.insert.Goals as goal

pub returns-clause-ok : goal.returns-clause-ok
returns-clause-ok c =
    c.in_ok-insert.ensures.items
    ∙ inserted c.args.request c.self.inside.requests.items c.partition_point-place.result (omega (arith, c.partition_point-place.ensures.bound))
    (λ parted. IsPartitionPoint-from_clause (λ v. stands_before v c.args.request) _ _ c.partition_point-place.ensures.partitioned parted (λ a r q k. search rules))
    c.self.invariant
    ∙ ap (insert c.args.request) c.self.view_is

pub invariant_of-self-2 : goal.invariant_of-self-2
invariant_of-self-2 c =
    subst (λ l. is_sorted l ≡ true)
    (sym (c.in_ok-insert.ensures.items
    ∙ inserted c.args.request c.self.inside.requests.items c.partition_point-place.result (omega (arith, c.partition_point-place.ensures.bound))
    (λ parted. IsPartitionPoint-from_clause (λ v. stands_before v c.args.request) _ _ c.partition_point-place.ensures.partitioned parted (λ a r q k. search rules))
    c.self.invariant))
    (sorted_insert c.args.request c.self.inside.requests.items c.self.invariant)
