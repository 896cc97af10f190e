use Rattle.std.proofs.Common.{◌≡◌, ◌++◌, List, length, take, sym, ap, ◌∙◌, arith}
use Rattle.std.proofs.lemmas.List.{take_all}
use Rattle.upd_base.specs.Batch.{ascends, batch}
use Rattle.upd_base.specs.declared.item.Item.{Item}
use Rattle.upd_base.specs.declared.limits.TheConstants.{MAX_BATCH}
use Rattle.waiting_items.specs.Ids.{first_of}
use Rattle.waiting_items.specs.Rows.{joined}
use Rattle.waiting_items.proofs.Ascending.{first_are, take_short}
use Rattle.waiting_items.proofs.Rows.{joined_more, take_twice}
use Rattle.waiting_items.proofs.waiting.Waiting.first_batch.Goals as goal

pub add_first-requires : goal.add_first-requires
add_first-requires c =
    let before : List Item = joined (take c.loop-row.row-index c.deref-row-items.result.now) in
    let same : length c.loop-row.items.items ≡ length (take MAX_BATCH before) = ap length c.loop-row.invariant in
    omega (arith, same, take_short MAX_BATCH before)

pub loop-row-preserved : goal.loop-row-preserved
loop-row-preserved c =
    let rows : List (List Item) = c.deref-row-items.result.now in
    let before : List Item = joined (take c.loop-row.row-index rows) in
    c.in_ok-add_first.ensures
    ∙ ap (λ l. take MAX_BATCH (c.loop-row.items.items ++ l)) c.items.ensures
    ∙ ap (λ l. take MAX_BATCH (l ++ c.row-item.result)) c.loop-row.invariant
    ∙ take_twice MAX_BATCH before c.row-item.result
    ∙ ap (take MAX_BATCH) (sym (joined_more rows c.loop-row.row-index c.row-item.result c.loop-row-test.true c.row-item.is))

pub returns : goal.returns
returns c =
    let rows : List (List Item) = c.deref-row-items.result.now in
    let is : rows ≡ c.self.inside.rows.value.items = c.deref-row-items.ensures.value ∙ ap (λ v. v.items) c.deref.ensures in
    c.new.ensures ∙ ap batch c.loop-row.invariant
    ∙ ap (λ l. batch (take MAX_BATCH (joined l))) (take_all c.loop-row.row-index rows c.loop-row-test.false)
    ∙ first_are (joined rows) (ap (λ l. ascends (joined l)) is ∙ c.self.invariant.2)
    ∙ ap first_of (ap joined is ∙ c.self.view_is)
