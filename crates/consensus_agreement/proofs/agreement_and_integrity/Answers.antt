use Rattle.consensus_agreement.proofs.Laws.{agreement, integrity}
use Rattle.consensus_agreement.proofs.Fresh.{next_bound}
use Rattle.consensus_agreement.proofs.agreement_and_integrity.Goals as goal

pub returns : goal.returns
returns c = record { agreement = agreement; integrity = integrity; numbers = λ n past run i h. next_bound n past run.fifo run.fit i h }
