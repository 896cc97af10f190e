use Rattle.std.proofs.Common.{ℕ, ◌-◌, ◌≡◌, ◌++◌, ◌∷◌, [], ap, sym, ◌∙◌, subst, append_assoc, take, drop, length}
use Rattle.std.specs.List.{All}
use Rattle.std.proofs.lemmas.List.Elements.{All-head}
use Rattle.std.proofs.lemmas.Result.{on_ok_weaker}
use Rattle.order_trait.specs.Outbox.{Grows}
use Rattle.upd_base.specs.Item.{ItemFits}
use Rattle.upd_base.specs.declared.item.Item.{Item}
use Rattle.instance_rules.specs.Say.{Items}
use Rattle.consensus_rules.specs.Items.{add_new}
use Rattle.batch_delivery.specs.Delivery.{AreIdsOf, news}
use Rattle.batch_delivery.proofs.Fits.{grows_more, list_to_all}
use Rattle.batch_delivery.proofs.Lists.{first_and_rest, news_append}
use Rattle.batch_delivery.proofs.delivery.Delivery.+deliver_items.Goals as goal

pub returns-in_ok-deliver_item-in-len1-up-clause-delivered :
    goal.returns-in_ok-deliver_item-in-len1-up-clause-delivered
returns-in_ok-deliver_item-in-len1-up-clause-delivered t c =
    let xs : Items = c.args.items.now in
    let x : Item = c.item-item.result in
    let rest : Items = take (length xs - 1) (drop 1 xs) in
    let split : xs ≡ x ∷ rest = first_and_rest xs x c.in-len1-up.len_at_least c.item-item.is in
    let old : Items = c.args.delivered.now.items in
    on_ok_weaker c.deliver_items.result
    (λ (h : (known : Items) → AreIdsOf c.deliver_item.new.self.ids known → c.deliver_items.new.delivered.items ≡ c.deliver_item.new.delivered.items ++ news known rest). λ known a.
    h (add_new known (x ∷ [])) (c.in_ok-deliver_item-in-len1-up.ensures.ids known a)
    ∙ ap (λ l. l ++ news (add_new known (x ∷ [])) rest) (c.in_ok-deliver_item-in-len1-up.ensures.delivered known a)
    ∙ append_assoc old (news known (x ∷ [])) (news (add_new known (x ∷ [])) rest)
    ∙ ap (λ l. old ++ l) (sym (news_append known (x ∷ []) rest))
    ∙ ap (λ l. old ++ news known l) (sym split))
    c.deliver_items.ensures.delivered

pub returns-in_ok-deliver_item-in-len1-up-clause-fits : goal.returns-in_ok-deliver_item-in-len1-up-clause-fits
returns-in_ok-deliver_item-in-len1-up-clause-fits t c =
    let xs : Items = c.args.items.now in
    let x : Item = c.item-item.result in
    let n : ℕ = c.args.self.now.members in
    let rest : Items = take (length xs - 1) (drop 1 xs) in
    let split : xs ≡ x ∷ rest = first_and_rest xs x c.in-len1-up.len_at_least c.item-item.is in
    let all : All (ItemFits n) (x ∷ rest) = subst (All (ItemFits n)) split (list_to_all n xs c.requires) in
    on_ok_weaker c.deliver_items.result
    (λ (h : Grows (ItemFits c.deliver_item.new.self.members) c.deliver_item.new.delivered.items c.deliver_items.new.delivered.items).
    grows_more (ItemFits n) c.args.delivered.now.items c.deliver_item.new.delivered.items c.deliver_items.new.delivered.items
    (c.in_ok-deliver_item-in-len1-up.ensures.fits (All-head (ItemFits n) x rest all))
    (subst (λ m. Grows (ItemFits m) c.deliver_item.new.delivered.items c.deliver_items.new.delivered.items) c.deliver_item.ensures.members h))
    c.deliver_items.ensures.fits
