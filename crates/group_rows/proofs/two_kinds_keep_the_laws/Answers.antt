use Rattle.group_rows.proofs.Laws.{order, fulfil, bounded}
use Rattle.group_rows.proofs.two_kinds_keep_the_laws.Goals as goal

pub returns : goal.returns
returns c = record { order = order; fulfilment = fulfil; bound = bounded }
