use Rattle.std.proofs.Common.{refl}
use Rattle.std.proofs.lemmas.Result.{on_ok_weaker}
use Rattle.consensus_order.specs.ConsensusOrder.{events_of}
use Rattle.consensus_order.proofs.Calls.{begun_stands}
use Rattle.consensus_order.proofs.ordering.ConsensusOrderOrdering.broadcast.Goals as goal

pub returns-clause-stands : goal.returns-clause-stands
returns-clause-stands c =
    on_ok_weaker c.push_all.result
    (λ pushed past s. begun_stands c.args.self.now _ c.args.item.now c.id-origin.result past c.id-origin.ensures (c.in_ok-start.ensures.stands (events_of past) s.broadcasts) refl refl s)
    c.push_all.ensures.ok
