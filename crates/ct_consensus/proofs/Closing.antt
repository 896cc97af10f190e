-- the replies that a closed proposal goes with
use Rattle.std.proofs.Common.{ℕ, ◌≡◌, Bool, Option, None}
use Rattle.std.specs.Global.{Vec}
use Rattle.ct_consensus.specs.Ballot.{ClosesWith}
use Rattle.ct_consensus.specs.declared.ballot.Proposal.{Proposal}
use Rattle.ct_consensus.specs.declared.ballot.Proposal.TheVariants.{Awaited, Made, Over}

pub closes_with : (a b : Option (Vec (ℕ × Bool))) (p : Proposal) → (a ≡ None → b ≡ None) → ClosesWith a p → ClosesWith b p
closes_with a b (Awaited kept) h c = tt
closes_with a b (Made batch) h c = tt
closes_with a b Over h c = h c
