use Rattle.std.proofs.Common.{rules, ◌≡◌, ◌≤◌, ◌+◌, ◌++◌, List, length, take, sym, ap, ◌∙◌, arith, length-append}
use Rattle.std.proofs.lemmas.List.{length-take-le, take_all}
use Rattle.upd_base.specs.declared.item.Item.{Item}
use Rattle.upd_base.specs.declared.limits.TheConstants.{MAX_BATCH}
use Rattle.waiting_items.proofs.Rows.{take_both}
use Rattle.waiting_items.proofs.row.add_first.Goals as goal

pub returns-after-loop-item : goal.returns-after-loop-item
returns-after-loop-item c =
    let old : List Item = c.args.items.now.items in
    let more : List Item = c.args.more.now in
    let are : c.loop-item.items.items ≡ old ++ more = c.loop-item.invariant.0 ∙ ap (λ l. old ++ l) (take_all c.loop-item.item-index more c.loop-item-test.false) in
    let same : length c.loop-item.items.items ≡ length (old ++ more) = ap length are in
    let few : length c.loop-item.items.items ≤ MAX_BATCH = c.loop-item.invariant.1 in
    are ∙ sym (take_all MAX_BATCH (old ++ more) (omega (arith, same, few)))

pub returns-then-len-eq-MAX_BATCH : goal.returns-then-len-eq-MAX_BATCH
returns-then-len-eq-MAX_BATCH c =
    let old : List Item = c.args.items.now.items in
    let more : List Item = c.args.more.now in
    let full : length c.loop-item.items.items ≡ MAX_BATCH = search rules in
    let taken : length (take c.loop-item.item-index more) ≡ c.loop-item.item-index = length-take-le c.loop-item.item-index more c.loop-item.auto.item-index-end in
    let both : length c.loop-item.items.items ≡ length old + length (take c.loop-item.item-index more) = ap length c.loop-item.invariant.0 ∙ length-append old (take c.loop-item.item-index more) in
    c.loop-item.invariant.0 ∙ sym (take_both MAX_BATCH c.loop-item.item-index old more (omega (arith, full, taken, both)))
