-- That what is kept names only members below n.
use Rattle.std.specs.Prelude.{ℕ, Option, Some, None}
use Rattle.instance_rules.specs.declared.place.Place.{Place}
use Rattle.ct_consensus.specs.Ballot.{ProposalFits}
use Rattle.ct_consensus.specs.Ballots.{kept_of}
use Rattle.ct_consensus.specs.Moves.{PlaceFits}
use Rattle.ct_consensus.specs.declared.ballot.Ballot.{Ballot}
use Rattle.ct_consensus.specs.declared.ballots.Ballots.{Ballots}

-- each batch that is kept names only members below n
abbrev pub MayFit : ℕ → Option Ballot → Type 0
MayFit n None = Unit {0}
MayFit n (Some ballot) = ProposalFits n ballot.proposal

abbrev pub BallotsFit : ℕ → Ballots → Type 0
BallotsFit n ballots = (r : ℕ) → MayFit n (kept_of ballots r)

abbrev pub MayStand : ℕ → Option Place → Type 0
MayStand n None = Unit {0}
MayStand n (Some p) = PlaceFits n p
