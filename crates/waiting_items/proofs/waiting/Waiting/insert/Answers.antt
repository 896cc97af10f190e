use Rattle.std.proofs.Common.{ℕ, ◌≡◌, ◌<◌, ◌+◌, true, false, List, length, set, get_or, sym, ap, ◌∙◌, subst, arith}
use Rattle.std.specs.List.{All}
use Rattle.std.proofs.lemmas.Bool.{both_ways}
use Rattle.std.proofs.lemmas.List.{length-set}
use Rattle.upd_base.specs.Batch.{ascends}
use Rattle.upd_base.specs.Item.{ItemFits, origin_of}
use Rattle.upd_base.specs.declared.item.Item.{Item}
use Rattle.upd_base.specs.declared.limits.TheConstants.{MAX_MEMBERS}
use Rattle.consensus_rules.specs.Items.{knows}
use Rattle.consensus_rules.specs.Waiting.{insert}
use Rattle.waiting_items.specs.Rows.{joined, by_origin}
use Rattle.waiting_items.proofs.Ascending.{insert_ascends, all_insert}
use Rattle.waiting_items.proofs.Rows.{insert_row, by_insert, knows_row}
use Rattle.waiting_items.proofs.waiting.Waiting.insert.Goals as goal

pub returns-then-knows-clause-ok : goal.returns-then-knows-clause-ok
returns-then-knows-clause-ok c =
    let item : Item = c.args.item in
    let rows : List (List Item) = c.self.inside.rows.value.items in
    let row : List Item = c.index-row.result.now in
    let place : ℕ = c.from-place.result in
    let origin : place ≡ origin_of item = c.from-place.ensures ∙ c.get.ensures.value ∙ c.origin.ensures in
    let got : place ≡ c.get.result = c.from-place.ensures in
    let below : c.get.result < 7 = c.get.ensures.range in
    let many : length rows ≡ MAX_MEMBERS = c.self.invariant.0 in
    let is : row ≡ get_or rows place row = c.index-row.ensures ∙ ap (λ v. get_or v.items place row) c.deref.ensures in
    let known : knows c.args.self.now item ≡ true = ap (λ l. knows l item) (sym c.self.view_is)
    ∙ knows_row item 0 place rows row c.self.invariant.1 (omega (arith, got, below, many)) is (omega (arith, origin))
    ∙ ap (λ l. knows l item) (sym c.items.ensures) ∙ sym c.knows.ensures ∙ c.if-knows.true in
    λ unknown. absurd (both_ways (knows c.args.self.now item) unknown known)

-- of the row of the item
record Found (item : Item) (rows : List (List Item)) (place : ℕ) (row : List Item) : Type 0 where
  inside : place < length rows
  is : row ≡ get_or rows place row
  origin : origin_of item ≡ 0 + place

found : (c : goal.After-drop-self-inside) → Found c.args.item c.self.inside.rows.value.items c.from-place.result c.index-row.result.now
found c =
    let origin : c.from-place.result ≡ origin_of c.args.item = c.from-place.ensures ∙ c.get.ensures.value ∙ c.origin.ensures in
    let got : c.from-place.result ≡ c.get.result = c.from-place.ensures in
    let below : c.get.result < 7 = c.get.ensures.range in
    let many : length c.self.inside.rows.value.items ≡ MAX_MEMBERS = c.self.invariant.0 in
    record {
      inside = omega (arith, got, below, many);
      is = c.index-row.ensures ∙ ap (λ v. get_or v.items c.from-place.result c.index-row.result.now) c.deref.ensures;
      origin = omega (arith, origin);
    }

-- what is kept then
kept : (c : goal.After-drop-self-inside) → c.in_ok-self-inside.field-0.value.items ≡ set c.self.inside.rows.value.items c.from-place.result (insert c.args.item c.index-row.result.now)
kept c =
    ap (λ v. v.items) c.in_ok-self-inside.ensures.ok ∙ c.in_ok-rows.ensures
    ∙ ap (λ l. set l c.from-place.result c.in_ok-row.row) (c.as_slice.ensures.value ∙ ap (λ v. v.items) c.deref-2.ensures)
    ∙ ap (set c.self.inside.rows.value.items c.from-place.result) c.in_ok-row.ensures

put : (c : goal.After-drop-self-inside) → joined c.in_ok-self-inside.field-0.value.items ≡ insert c.args.item (joined c.self.inside.rows.value.items)
put c =
    let f = found c in
    ap joined (kept c)
    ∙ insert_row c.args.item 0 c.from-place.result c.self.inside.rows.value.items c.index-row.result.now c.self.invariant.1 f.inside f.is f.origin

pub invariant_of-self : goal.invariant_of-self
invariant_of-self c =
    let f = found c in
    let item : Item = c.args.item in
    let rows : List (List Item) = c.self.inside.rows.value.items in
    let row : List Item = c.index-row.result.now in
    let place : ℕ = c.from-place.result in
    let new : knows (joined rows) item ≡ false = knows_row item 0 place rows row c.self.invariant.1 f.inside f.is f.origin
    ∙ ap (λ l. knows l item) (sym c.items.ensures) ∙ sym c.knows.ensures ∙ c.if-knows.false in (
      ap length (kept c) ∙ length-set rows place (insert item row) ∙ c.self.invariant.0,
      ap (by_origin 0) (kept c) ∙ by_insert item 0 place rows row c.self.invariant.1 f.inside f.is f.origin,
      ap ascends (put c) ∙ insert_ascends item (joined rows) new c.self.invariant.2,
    )

pub returns-clause-ok : goal.returns-clause-ok
returns-clause-ok c = λ _. put c ∙ ap (insert c.args.item) c.self.view_is

pub returns-clause-fits : goal.returns-clause-fits
returns-clause-fits c = λ n fits all.
    subst (All (ItemFits n)) (sym (put c)) (all_insert (ItemFits n) c.args.item (joined c.self.inside.rows.value.items) fits (subst (All (ItemFits n)) (sym c.self.view_is) all))
