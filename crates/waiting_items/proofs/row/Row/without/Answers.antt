use Rattle.std.proofs.Common.{rules, ◌≡◌, false, IfOk, sym, ◌∙◌, subst}
use Rattle.waiting_items.specs.Ids.{apart_from}
use Rattle.waiting_items.proofs.Rows.{none_gone, none_of_origin}
use Rattle.waiting_items.proofs.row.Row.without.Goals as goal

pub returns-then-not-has_origin : goal.returns-then-not-has_origin
returns-then-not-has_origin c =
    let none : c.has_origin.result ≡ false = search rules in
    let same : apart_from c.args.gone.now c.args.self.now ≡ c.args.self.now = none_of_origin c.args.origin c.args.gone.now c.args.self.now (sym c.has_origin.ensures ∙ none) c.requires in
    subst (λ l. IfOk c.copy.result (λ left. left ≡ l)) (sym same) c.copy.ensures

pub returns-then-not-knows_any : goal.returns-then-not-knows_any
returns-then-not-knows_any c =
    let none : c.knows_any.result ≡ false = search rules in
    let same : apart_from c.args.gone.now c.items.result.now ≡ c.items.result.now = none_gone c.args.gone.now c.items.result.now (sym c.knows_any.ensures ∙ none) in
    let whole : apart_from c.args.gone.now c.args.self.now ≡ c.args.self.now = subst (λ l. apart_from c.args.gone.now l ≡ l) c.items.ensures same in
    subst (λ l. IfOk c.copy-then-not-knows_any.result (λ left. left ≡ l)) (sym whole) c.copy-then-not-knows_any.ensures
