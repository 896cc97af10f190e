-- The two kinds keep the four laws.
use Rattle.std.specs.Prelude.{true, ◌≡◌}
use Rattle.std.proofs.lemmas.Bool.{false≢true}
use Rattle.upd_base.specs.declared.kind.Kind.{Kind}
use Rattle.upd_base.specs.declared.kind.Kind.TheVariants.{Sequencer, Lamport, Consensus}
use Rattle.order_trait.specs.Runs.{KeepsAgreement, KeepsIntegrity}
use Rattle.sequencer_rules.proofs.Laws as sequencer
use Rattle.lamport_rules.proofs.Laws as lamport
use Rattle.group_run.specs.Laws.{KeepsOrder, FulfilsAll, BoundsAll}
use Rattle.group_rows.specs.Kinds.{two_kinds}

agree : (kind : Kind) → two_kinds.serves kind ≡ true → KeepsAgreement (two_kinds.sends kind) (two_kinds.delivers kind) kind
agree (Sequencer s) e = sequencer.agreement s
agree Lamport e = lamport.agreement_of Lamport e
agree Consensus e = absurd (false≢true e)

whole : (kind : Kind) → two_kinds.serves kind ≡ true → KeepsIntegrity (two_kinds.sends kind) (two_kinds.delivers kind) kind
whole (Sequencer s) e = sequencer.integrity s
whole Lamport e = lamport.integrity
whole Consensus e = absurd (false≢true e)

pub order : KeepsOrder two_kinds
order = record { agreement = agree; integrity = whole }

pub fulfil : FulfilsAll two_kinds
fulfil (Sequencer s) e = sequencer.fulfilment s
fulfil Lamport e = lamport.fulfilment
fulfil Consensus e = absurd (false≢true e)

pub bounded : BoundsAll two_kinds
bounded (Sequencer s) e = sequencer.bound s
bounded Lamport e = lamport.bound
bounded Consensus e = absurd (false≢true e)
