use Rattle.fifo_net.specs.Net.{inputs_of, IsPrefix}
use Rattle.fifo_net.proofs.Links.{IsPrefix-self, inputs_step}
use Rattle.upd_base.specs.declared.kind.Kind.TheVariants.{Consensus}
use Rattle.order_trait.specs.Runs.{KeepsAgreement, KeepsIntegrity}
use Rattle.consensus_rules.specs.Delivered.{delivers_by}
use Rattle.consensus_rules.specs.Consensus.{sends_by}
use Rattle.consensus_rules.proofs.Delivered.{delivers_grow, delivers_takes, delivers_agree, delivers_once}
use Rattle.consensus_rules.proofs.Projection.{members_consistent}
use Rattle.consensus_agreement.proofs.Integrity.{delivers_broadcast}

pub agreement : KeepsAgreement sends_by delivers_by Consensus
agreement = record {
  agree = λ n past run i j i_fits j_fits. delivers_agree n i j (inputs_of i past) (inputs_of j past) (members_consistent n past run.fifo run.fit i j);
  grows = λ n s past run i i_fits.
      inputs_step (λ l. IsPrefix (delivers_by n i (inputs_of i past)) (delivers_by n i l)) i s past
      (λ e. delivers_grow n i s.input (inputs_of i past))
      (IsPrefix-self (delivers_by n i (inputs_of i past)));
  takes = λ n m order inputs. delivers_takes n m order inputs;
}

pub integrity : KeepsIntegrity sends_by delivers_by Consensus
integrity = record {
  broadcast = λ n past run i i_fits x h. delivers_broadcast n past run.fifo run.fit i x h;
  once = λ n past run i i_fits id. delivers_once n i (inputs_of i past) id;
}
