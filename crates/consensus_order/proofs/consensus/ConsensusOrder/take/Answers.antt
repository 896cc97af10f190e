use Rattle.std.proofs.lemmas.Result.{on_ok_weaker}
use Rattle.consensus_order.proofs.consensus.ConsensusOrder.take.Goals as goal

pub returns-in-Rb-clause-stands : goal.returns-in-Rb-clause-stands
returns-in-Rb-clause-stands c = on_ok_weaker c.take_item.result (λ heard past s. heard c.args.from past s) c.take_item.ensures.stands
