use Rattle.std.proofs.Common.{ℕ, ◌≡◌, List, ◌++◌, Some}
use Rattle.instance_rules.specs.Say.{Turns}
use Rattle.ct_consensus.specs.Ballot.{IsKept, ProposalFits}
use Rattle.ct_consensus.specs.declared.ballot.Ballot.{Ballot}
use Rattle.map_copies.specs.Copies.{Mirrors}
use Rattle.ct_consensus.proofs.open_rounds.copy_of.Given as goal

-- a copy is of the same votes
abbrev pub IsCopy : Ballot → Ballot → Type 0
IsCopy a b = ((n r : ℕ) (past : Turns) → IsKept n r past (Some a) → IsKept n r past (Some b)) × ((n : ℕ) → ProposalFits n a.proposal → ProposalFits n b.proposal)

-- those that were copied, and those that are left
abbrev pub invariant-loop-round : goal.invariant-loop-round
invariant-loop-round l = (done : List (ℕ × Ballot)) × (done ++ l.round-iterator ≡ l.rounds.entries) × Mirrors IsCopy done l.copies.entries
