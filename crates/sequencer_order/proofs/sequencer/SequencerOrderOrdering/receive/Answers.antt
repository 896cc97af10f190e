use Rattle.std.proofs.Common.{◌≡◌, ◌++◌, [], eqb, cond, ap, sym, refl, ◌∙◌, append-nil, arith}
use Rattle.std.proofs.lemmas.Grind.{common_steps}
use Rattle.std.proofs.lemmas.List.Elements.{All-nil}
use Rattle.upd_base.specs.Item.{ItemFits}
use Rattle.order_trait.specs.Outbox.{SendFits}
use Rattle.sequencer_rules.specs.Sequencer.{ord_item}
use Rattle.sequencer_rules.proofs.Asked.{took_more, took_none, other, IsOther}
use Rattle.sequencer_order.proofs.sequencer.SequencerOrderOrdering.receive.Goals as goal

pub returns-in_ok-order-in-Ask-clause-delivered : goal.returns-in_ok-order-in-Ask-clause-delivered
returns-in_ok-order-in-Ask-clause-delivered c = λ past h more e.
    took_none c.args.self.now.sequencer c.args.from c.args.body.now past more c.args.delivered.now.items (ap ord_item c.in-Ask.is) e

pub returns-in_ok-deliver-in-Ord-clause-delivered : goal.returns-in_ok-deliver-in-Ord-clause-delivered
returns-in_ok-deliver-in-Ord-clause-delivered c = λ past h more e.
    let t : more ≡ cond (eqb c.args.from c.args.self.now.sequencer) (ord_item c.args.body.now) [] = took_more c.args.self.now.sequencer c.args.from c.args.body.now past more e in
    c.in_ok-deliver-in-Ord.ensures.delivered
    ∙ ap (λ l. c.args.delivered.now.items ++ l) (ap (λ l. cond (eqb c.args.from c.args.self.now.sequencer) l []) (sym (ap ord_item c.in-Ord.is)) ∙ sym t)

-- a body of another kind changes nothing
pub returns-in_default : goal.returns-in_default
returns-in_default c =
    let o : IsOther c.args.body.now = other c.args.body.now c.in_default.not-Ask c.in_default.not-Ord in
    record {
      seat = refl;
      fits = ([], sym (append-nil c.args.out.now), All-nil (SendFits c.args.self.now.members));
      items_fit = ([], sym (append-nil c.args.delivered.now.items), All-nil (ItemFits c.args.self.now.members));
      stands = λ past h me. grind (arith, common_steps, h me, o.asks);
      sent = λ past h. grind (arith, common_steps, o.passes c.args.self.now.members);
      delivered = λ past h more e. took_none c.args.self.now.sequencer c.args.from c.args.body.now past more c.args.delivered.now.items o.orders e;
    }
