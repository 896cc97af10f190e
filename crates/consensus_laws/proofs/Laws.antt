use Rattle.std.proofs.Common.{◌≡◌, true}
use Rattle.upd_base.specs.declared.kind.Kind.{Kind}
use Rattle.upd_base.specs.declared.kind.Kind.TheVariants.{Sequencer, Lamport, Consensus}
use Rattle.order_trait.specs.Runs.{KeepsAgreement, KeepsIntegrity, KeepsFulfilment, KeepsBound, NeverSaysPast}
use Rattle.consensus_rules.specs.Consensus.{is_consensus, sends_of, delivers_of}
use Rattle.consensus_agreement.proofs.Laws.{agreement, integrity}
use Rattle.consensus_fulfilment.proofs.Fulfil.{fulfilment}
use Rattle.consensus_bound.proofs.Bound.{bound}
use Rattle.consensus_laws.proofs.Silent.{never_past}

pub agreement_of : (kind : Kind) → is_consensus kind ≡ true → KeepsAgreement (sends_of kind) (delivers_of kind) kind
agreement_of (Sequencer s) e = absurd cc
agreement_of Lamport e = absurd cc
agreement_of Consensus e = agreement

pub integrity_of : (kind : Kind) → is_consensus kind ≡ true → KeepsIntegrity (sends_of kind) (delivers_of kind) kind
integrity_of (Sequencer s) e = absurd cc
integrity_of Lamport e = absurd cc
integrity_of Consensus e = integrity

pub fulfilment_of : (kind : Kind) → is_consensus kind ≡ true → KeepsFulfilment (sends_of kind) (delivers_of kind) kind
fulfilment_of (Sequencer s) e = absurd cc
fulfilment_of Lamport e = absurd cc
fulfilment_of Consensus e = fulfilment

pub bound_of : (kind : Kind) → is_consensus kind ≡ true → KeepsBound (sends_of kind) kind
bound_of (Sequencer s) e = absurd cc
bound_of Lamport e = absurd cc
bound_of Consensus e = bound

pub never_past_of : (kind : Kind) → is_consensus kind ≡ true → NeverSaysPast (sends_of kind)
never_past_of (Sequencer s) e = absurd cc
never_past_of Lamport e = absurd cc
never_past_of Consensus e = never_past
