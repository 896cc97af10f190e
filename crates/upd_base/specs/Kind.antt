-- Kinds of ordering modules.
use Rattle.std.specs.Prelude.{ℕ, Bool, true, ◌≡◌, ◌++◌, List, codes, decimal, nat_lt}
use Rattle.upd_base.specs.declared.kind.Kind.{Kind}
use Rattle.upd_base.specs.declared.kind.Kind.TheVariants.{Sequencer, Lamport, Consensus}

-- each member that a kind names is below n
abbrev pub kind_fits : ℕ → Kind → Bool
kind_fits n (Sequencer sequencer) = nat_lt sequencer n
kind_fits n Lamport = true
kind_fits n Consensus = true

-- the same as a fact
abbrev pub KindFits : ℕ → Kind → Type 0
KindFits n kind = kind_fits n kind ≡ true

-- the words for a kind, in scenarios, reports and journals
unfoldable pub kind_text : Kind → List ℕ
kind_text (Sequencer m) = codes "sequencer " ++ decimal m
kind_text Lamport = codes "lamport"
kind_text Consensus = codes "consensus"
