-- Modules of every kind that is served, by the definitions of each kind.
use Rattle.std.specs.Prelude.{Bool, true, ◌≡◌}
use Rattle.upd_base.specs.declared.kind.Kind.{Kind}
use Rattle.upd_base.specs.declared.kind.Kind.TheVariants.{Sequencer, Lamport, Consensus}
use Rattle.order_trait.specs.Runs.{KindSends, KindDelivers, KeepsAgreement, KeepsIntegrity, KeepsFulfilment, KeepsBound, NeverSaysPast}
use Rattle.sequencer_rules.specs.Sequencer as sequencer
use Rattle.lamport_rules.specs.Lamport as lamport
use Rattle.consensus_rules.specs.Consensus as consensus
use Rattle.consensus_rules.specs.Delivered.{delivers_by}
use Rattle.sequencer_rules.proofs.Laws as sequencer_laws
use Rattle.lamport_rules.proofs.Laws as lamport_laws
use Rattle.consensus_laws.proofs.Laws as consensus_laws

abbrev pub is_served : Kind → Bool
is_served (Sequencer s) = true
is_served Lamport = true
is_served Consensus = true

abbrev pub sends_of : Kind → KindSends
sends_of (Sequencer s) = sequencer.sends_by s
sends_of Lamport = lamport.sends_by
sends_of Consensus = consensus.sends_by

abbrev pub delivers_of : Kind → KindDelivers
delivers_of (Sequencer s) = λ n me inputs. sequencer.delivers_by s inputs
delivers_of Lamport = lamport.delivers_by
delivers_of Consensus = delivers_by

-- each law by the kind
pub agreement_of : (kind : Kind) → is_served kind ≡ true → KeepsAgreement (sends_of kind) (delivers_of kind) kind
agreement_of (Sequencer s) e = sequencer_laws.agreement s
agreement_of Lamport e = lamport_laws.agreement_of Lamport e
agreement_of Consensus e = consensus_laws.agreement_of Consensus e

pub integrity_of : (kind : Kind) → is_served kind ≡ true → KeepsIntegrity (sends_of kind) (delivers_of kind) kind
integrity_of (Sequencer s) e = sequencer_laws.integrity s
integrity_of Lamport e = lamport_laws.integrity
integrity_of Consensus e = consensus_laws.integrity_of Consensus e

pub fulfilment_of : (kind : Kind) → is_served kind ≡ true → KeepsFulfilment (sends_of kind) (delivers_of kind) kind
fulfilment_of (Sequencer s) e = sequencer_laws.fulfilment s
fulfilment_of Lamport e = lamport_laws.fulfilment
fulfilment_of Consensus e = consensus_laws.fulfilment_of Consensus e

pub bound_of : (kind : Kind) → is_served kind ≡ true → KeepsBound (sends_of kind) kind
bound_of (Sequencer s) e = sequencer_laws.bound s
bound_of Lamport e = lamport_laws.bound
bound_of Consensus e = consensus_laws.bound_of Consensus e

pub never_past_of : (kind : Kind) → is_served kind ≡ true → NeverSaysPast (sends_of kind)
never_past_of (Sequencer s) e = sequencer_laws.never_past s
never_past_of Lamport e = lamport_laws.never_past
never_past_of Consensus e = consensus_laws.never_past_of Consensus e
