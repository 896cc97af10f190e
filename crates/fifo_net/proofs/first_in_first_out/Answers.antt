use Rattle.fifo_net.proofs.Links.{taken_on-begins, sent_on-grows, taken_on-grows, IsPrefix-take}
use Rattle.fifo_net.specs.Net.{taken_on, sent_on}
use Rattle.fifo_net.proofs.first_in_first_out.Goals as goal

pub returns-clause-begins : goal.returns-clause-begins
returns-clause-begins g c = taken_on-begins

pub returns-clause-take : goal.returns-clause-take
returns-clause-take g c = λ sends past run from to.
    IsPrefix-take (taken_on from to past) (sent_on sends from to past) (taken_on-begins sends past run from to)

pub returns-clause-sent_grows : goal.returns-clause-sent_grows
returns-clause-sent_grows g c = λ sends step past from to. sent_on-grows sends from to step past

pub returns-clause-taken_grows : goal.returns-clause-taken_grows
returns-clause-taken_grows g c = λ step past from to. taken_on-grows from to step past
