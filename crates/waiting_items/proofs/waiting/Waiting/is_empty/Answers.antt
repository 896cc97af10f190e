use Rattle.std.proofs.Common.{◌≡◌, eqb, List, length, sym, ap, ◌∙◌}
use Rattle.std.specs.List.{list_all}
use Rattle.upd_base.specs.declared.item.Item.{Item}
use Rattle.waiting_items.proofs.Rows.{empty_from, empty_to}
use Rattle.waiting_items.proofs.waiting.Waiting.is_empty.Goals as goal

pub returns : goal.returns
returns c =
    let rows : List (List Item) = c.self.inside.rows.value.items in
    let is : c.as_slice.result.now ≡ rows = c.as_slice.ensures.value ∙ ap (λ v. v.items) c.deref.ensures in
    let says : c.are_empty.result ≡ list_all (λ row. eqb (length row) 0) rows = c.are_empty.ensures ∙ ap (list_all (λ row. eqb (length row) 0)) is in
    (λ t. sym c.self.view_is ∙ empty_from rows (sym says ∙ t), λ e. says ∙ empty_to rows (c.self.view_is ∙ e))
