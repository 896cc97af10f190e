use Rattle.std.proofs.Common.{◌≡◌, not, length, map, ap, ◌∙◌}
use Rattle.std.proofs.lemmas.List.{length-map}
use Rattle.upd_base.specs.Batch.{ascends}
use Rattle.consensus_rules.specs.Items.{knows}
use Rattle.waiting_items.specs.Ids.{apart_from}
use Rattle.waiting_items.specs.Rows.{joined, by_origin}
use Rattle.waiting_items.proofs.Ascending.{filter_ascends}
use Rattle.waiting_items.proofs.Rows.{joined_apart, by_apart}
use Rattle.waiting_items.proofs.waiting.Waiting.remove_all.Goals as goal

-- what is kept then
kept : (c : goal.After-drop-self-inside) → c.in_ok-self-inside.field-0.value.items ≡ map (apart_from c.args.gone.now) c.self.inside.rows.value.items
kept c =
    ap (λ v. v.items) c.in_ok-self-inside.ensures.ok ∙ c.in_ok-rows.ensures
    ∙ ap (map (apart_from c.args.gone.now)) (c.as_slice.ensures.value ∙ ap (λ v. v.items) c.deref.ensures)

left : (c : goal.After-drop-self-inside) → joined c.in_ok-self-inside.field-0.value.items ≡ apart_from c.args.gone.now (joined c.self.inside.rows.value.items)
left c = ap joined (kept c) ∙ joined_apart c.args.gone.now c.self.inside.rows.value.items

pub invariant_of-self : goal.invariant_of-self
invariant_of-self c = (
  ap length (kept c) ∙ length-map c.self.inside.rows.value.items (apart_from c.args.gone.now) ∙ c.self.invariant.0,
  ap (by_origin 0) (kept c) ∙ by_apart c.args.gone.now 0 c.self.inside.rows.value.items c.self.invariant.1,
  ap ascends (left c) ∙ filter_ascends (λ x. not (knows c.args.gone.now x)) (joined c.self.inside.rows.value.items) c.self.invariant.2,
)

pub returns-clause-ok : goal.returns-clause-ok
returns-clause-ok c = left c ∙ ap (apart_from c.args.gone.now) c.self.view_is
