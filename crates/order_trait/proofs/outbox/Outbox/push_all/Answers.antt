use Rattle.std.proofs.Common.{◌∙◌, arith}
use Rattle.order_trait.specs.Outbox.{to_all}
use Rattle.order_trait.proofs.Sends.{to_all-fits}
use Rattle.order_trait.proofs.outbox.Outbox.push_all.Goals as goal

pub returns-clause-fits : goal.returns-clause-fits
returns-clause-fits c = λ fits counts.
    (to_all c.loop-to.to c.args.body.now, c.loop-to.invariant, to_all-fits c.args.n c.loop-to.to c.args.body.now (omega arith) fits counts)

pub returns-in_err-copy-clause-fits : goal.returns-in_err-copy-clause-fits
returns-in_err-copy-clause-fits c = λ fits counts.
    (to_all c.loop-to.to c.args.body.now, c.loop-to.invariant, to_all-fits c.args.n c.loop-to.to c.args.body.now (omega arith) fits counts)

pub returns-in_err-push-clause-fits : goal.returns-in_err-push-clause-fits
returns-in_err-push-clause-fits c = λ fits counts.
    (to_all c.loop-to.to c.args.body.now, c.in_err-push.ensures.err ∙ c.loop-to.invariant, to_all-fits c.args.n c.loop-to.to c.args.body.now (omega arith) fits counts)
