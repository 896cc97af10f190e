use Rattle.std.proofs.Common.{refl}
use Rattle.std.specs.Ordering.{nat_cmp}
use Rattle.std.specs.Cmp.{nat_cmp_total}
use Rattle.std.specs.Map.Iter.{deref_pair}
use Rattle.std.proofs.lemmas.Map.Iter.{rest_more, rest_all}
use Rattle.map_copies.proofs.Copies.{one_more, all_copied}
use Rattle.instance_table.proofs.Told.{WasCopied, copies_seated, copy_stands}
use Rattle.instance_table.proofs.table.Instances.copy.Goals as goal

pub loop-number-preserved : goal.loop-number-preserved
loop-number-preserved c =
    one_more nat_cmp nat_cmp_total (WasCopied c.args.self.now.members c.args.self.now.me) c.args.self.now.running.entries c.loop-number.number-iterator c.next.new.self c.loop-number.running.entries c.put.new.running.entries
    c.in-Some.number.now c.in-Some.instance.now c.in_ok-copy.field-0 c.iter-number-items.ensures.ordered
    (rest_more deref_pair c.loop-number.number-iterator c.next.new.self c.next.result (c.in-Some.number, c.in-Some.instance) c.in-Some.is c.next.ensures.steps)
    (record { number = c.in_ok-copy.ensures.number; members = c.in_ok-copy.ensures.members; me_is = c.in_ok-copy.ensures.me; stands = c.in_ok-copy.ensures.stands })
    c.in_ok-put.ensures.ok c.loop-number.invariant

pub invariant_of-result-clause-seats : goal.invariant_of-result-clause-seats
invariant_of-result-clause-seats c =
    copies_seated c.args.self.now.members c.args.self.now.me c.args.self.now.running.entries c.loop-number.running.entries
    (all_copied (WasCopied c.args.self.now.members c.args.self.now.me) c.args.self.now.running.entries c.loop-number.number-iterator c.loop-number.running.entries
    (rest_all deref_pair c.loop-number.number-iterator c.next.new.self c.next.result c.in-None.is c.next.ensures.steps) c.loop-number.invariant) c.args.self.now.seats

pub returns-clause-stands : goal.returns-clause-stands
returns-clause-stands c = λ turns suspects s.
    copy_stands c.args.self.now _ turns suspects refl
    (all_copied (WasCopied c.args.self.now.members c.args.self.now.me) c.args.self.now.running.entries c.loop-number.number-iterator c.loop-number.running.entries
    (rest_all deref_pair c.loop-number.number-iterator c.next.new.self c.next.result c.in-None.is c.next.ensures.steps) c.loop-number.invariant) s
