use Rattle.fifo_net.proofs.Links.{taken_on-begins}
use Rattle.order_trait.proofs.Broadcasts.{broadcast_once}
use Rattle.order_trait.proofs.Runs.{shorter}
use Rattle.order_trait.proofs.module_runs.every_module_run.Goals as goal

pub returns-clause-shorter : goal.returns-clause-shorter
returns-clause-shorter c = shorter

pub returns-clause-once : goal.returns-clause-once
returns-clause-once c = λ sends kind n past run id. broadcast_once n past run.fit id

pub returns-clause-begins : goal.returns-clause-begins
returns-clause-begins c = λ sends kind n past run from to. taken_on-begins (sends n) past run.fifo from to
