use Rattle.std.proofs.Common.{◌∙◌, sym}
use Rattle.std.proofs.lemmas.Bool.{le-leb}
use Rattle.batch_delivery.proofs.Reach.{decided_low}
use Rattle.batch_delivery.proofs.delivery.Delivery.is_decided.Goals as goal

pub returns-then-instance-self : goal.returns-then-instance-self
returns-then-instance-self c = λ items ds some s.
    le-leb c.args.instance c.args.self.now.count c.if-instance-self.true ∙ sym (decided_low c.args.self.now.count c.args.instance ds s.all some c.if-instance-self.true)
