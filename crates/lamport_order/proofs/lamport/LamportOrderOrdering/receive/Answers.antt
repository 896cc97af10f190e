use Rattle.std.proofs.Common.{ℕ, ◌∙◌, [], refl, sym, append-nil}
use Rattle.std.proofs.lemmas.List.Elements.{All-nil}
use Rattle.upd_base.specs.Item.{ItemFits}
use Rattle.order_trait.specs.Outbox.{SendFits}
use Rattle.lamport_order.proofs.Took.{after_req, gave_req, after_ack, gave_ack, Plain, plain, after_plain, gave_plain, sent_plain}
use Rattle.lamport_order.proofs.lamport.LamportOrderOrdering.receive.Goals as goal

pub returns-in_ok-hear-in-Req-clause-stands : goal.returns-in_ok-hear-in-Req-clause-stands
returns-in_ok-hear-in-Req-clause-stands c = λ past a.
    after_req c.args.self.now.members c.args.self.now.clock c.args.from c.in-Req.stamp c.args.body.now c.args.self.now.heard.items c.args.self.now.waiting
    c.hear.new.self.members c.hear.new.self.clock c.put.new.self.heard.items c.hear.new.self.heard.items c.put.new.self.waiting c.hear.new.self.waiting past
    c.requires.from_fits c.args.self.now.row (c.hear.ensures.members ∙ c.put.ensures.members) c.put.ensures.heard c.hear.ensures.heard a
    c.in-Req.item c.in_ok-copy-in-Req.field-0 c.in-Req.is c.in_ok-copy-in-Req.ensures (c.hear.ensures.clock ∙ c.put.ensures.clock)
    c.in_ok-put-in-Req.ensures.waiting c.in_ok-hear-in-Req.ensures.waiting

pub returns-in_ok-hear-in-Req-clause-delivered : goal.returns-in_ok-hear-in-Req-clause-delivered
returns-in_ok-hear-in-Req-clause-delivered c = λ past a more grown.
    gave_req c.args.self.now.members c.args.self.now.clock c.args.from c.in-Req.stamp c.args.body.now c.args.self.now.heard.items c.args.self.now.waiting
    c.hear.new.self.members c.hear.new.self.clock c.put.new.self.heard.items c.hear.new.self.heard.items c.put.new.self.waiting c.hear.new.self.waiting past
    c.requires.from_fits c.args.self.now.row (c.hear.ensures.members ∙ c.put.ensures.members) c.put.ensures.heard c.hear.ensures.heard a
    c.in-Req.item c.in_ok-copy-in-Req.field-0 c.args.self.now.me more c.args.delivered.now.items c.hear.new.delivered.items c.in-Req.is c.in_ok-copy-in-Req.ensures
    c.in_ok-put-in-Req.ensures.waiting c.in_ok-hear-in-Req.ensures.out grown

pub returns-in_ok-hear-in-Ack-clause-stands : goal.returns-in_ok-hear-in-Ack-clause-stands
returns-in_ok-hear-in-Ack-clause-stands c = λ past a.
    after_ack c.args.self.now.members c.args.self.now.clock c.args.from c.in-Ack.stamp c.args.body.now c.args.self.now.heard.items c.args.self.now.waiting
    c.hear-in-Ack.new.self.members c.hear-in-Ack.new.self.clock c.args.self.now.heard.items c.hear-in-Ack.new.self.heard.items c.args.self.now.waiting c.hear-in-Ack.new.self.waiting past
    c.requires.from_fits c.args.self.now.row c.hear-in-Ack.ensures.members refl c.hear-in-Ack.ensures.heard a
    c.in-Ack.is c.hear-in-Ack.ensures.clock refl c.in_ok-hear-in-Ack.ensures.waiting

pub returns-in_ok-hear-in-Ack-clause-delivered : goal.returns-in_ok-hear-in-Ack-clause-delivered
returns-in_ok-hear-in-Ack-clause-delivered c = λ past a more grown.
    gave_ack c.args.self.now.members c.args.self.now.clock c.args.from c.in-Ack.stamp c.args.body.now c.args.self.now.heard.items c.args.self.now.waiting
    c.hear-in-Ack.new.self.members c.hear-in-Ack.new.self.clock c.args.self.now.heard.items c.hear-in-Ack.new.self.heard.items c.args.self.now.waiting c.hear-in-Ack.new.self.waiting past
    c.requires.from_fits c.args.self.now.row c.hear-in-Ack.ensures.members refl c.hear-in-Ack.ensures.heard a
    c.args.self.now.me more c.args.delivered.now.items c.hear-in-Ack.new.delivered.items c.in-Ack.is refl c.in_ok-hear-in-Ack.ensures.out grown

-- a body of another kind changes nothing
pub returns-in_default : goal.returns-in_default
returns-in_default c =
    let p : Plain c.args.body.now = plain c.args.body.now c.in_default.not-Req c.in_default.not-Ack in
    let n : ℕ = c.args.self.now.members in
    record {
      seat = refl;
      fits = ([], sym (append-nil c.args.out.now), All-nil (SendFits n));
      items_fit = ([], sym (append-nil c.args.delivered.now.items), All-nil (ItemFits n));
      stands = λ past a. after_plain n c.args.self.now.clock c.args.from c.args.body.now c.args.self.now.heard.items c.args.self.now.waiting past p a;
      sent = λ past a. sent_plain n c.args.self.now.me c.args.from c.args.body.now past c.args.out.now p;
      delivered = λ past a more grown. gave_plain n c.args.self.now.me c.args.from c.args.body.now past more c.args.delivered.now.items p grown;
    }
