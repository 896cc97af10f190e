-- The rules of a group that can bind the sequencer kinds and the kind by timestamps.
use Rattle.std.specs.Prelude.{Bool, true, false, []}
use Rattle.upd_base.specs.declared.kind.Kind.{Kind}
use Rattle.upd_base.specs.declared.kind.Kind.TheVariants.{Sequencer, Lamport, Consensus}
use Rattle.order_trait.specs.Runs.{KindSends, KindDelivers}
use Rattle.sequencer_rules.specs.Sequencer as sequencer
use Rattle.lamport_rules.specs.Lamport as lamport
use Rattle.group_run.specs.Group.{Rules}

-- a consensus isn't among these kinds, and what isn't served sends and delivers nothing
abbrev serves : Kind → Bool
serves (Sequencer s) = true
serves Lamport = true
serves Consensus = false

abbrev sends : Kind → KindSends
sends (Sequencer s) = sequencer.sends_by s
sends Lamport = lamport.sends_by
sends Consensus = λ n me inputs. []

abbrev delivers : Kind → KindDelivers
delivers (Sequencer s) = λ n me inputs. sequencer.delivers_by s inputs
delivers Lamport = lamport.delivers_by
delivers Consensus = λ n me inputs. []

abbrev pub two_kinds : Rules
two_kinds = record { sends = sends; delivers = delivers; serves = serves }
