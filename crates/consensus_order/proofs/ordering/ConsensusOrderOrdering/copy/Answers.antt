use Rattle.std.proofs.Common.{sym, subst}
use Rattle.reliable_bcast.specs.Rb as rb
use Rattle.consensus_rules.specs.Items.{received}
use Rattle.consensus_rules.specs.Delivered.{decisions}
use Rattle.consensus_rules.specs.Instances.{turns_of}
use Rattle.instance_table.specs.Table as tables
use Rattle.consensus_order.specs.ConsensusOrder.{events_of, suspects}
use Rattle.consensus_order.proofs.ordering.ConsensusOrderOrdering.copy.Goals as goal

pub returns-clause-stands : goal.returns-clause-stands
returns-clause-stands c = λ past s. record {
  broadcasts = subst (λ r. rb.StandsFor r (events_of past)) (sym c.in_ok-copy.ensures) s.broadcasts;
  delivery = c.in_ok-copy-2.ensures.stands (received past) (decisions past) s.delivery;
  instances = subst (λ n. tables.StandsFor c.in_ok-copy-3.field-0 (λ k. turns_of n k past) (suspects past)) (sym c.in_ok-copy-3.ensures.members)
      (c.in_ok-copy-3.ensures.stands (λ k. turns_of (tables.members_of c.args.self.now.instances) k past) (suspects past) s.instances);
}
