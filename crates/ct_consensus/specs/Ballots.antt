-- What a coordinator keeps of its rounds.
use Rattle.std.specs.Prelude.{ℕ, ◌/◌, ◌%◌, if◌then◌else◌, Option, Some}
use Rattle.std.specs.Ordering.{nat_cmp}
use Rattle.std.specs.BTreeMap.{get}
use Rattle.number_runs.specs.Runs.{holds}
use Rattle.ct_consensus.specs.Ballot.{over}
use Rattle.ct_consensus.specs.declared.ballot.Ballot.{Ballot}
use Rattle.ct_consensus.specs.declared.ballots.Ballots.{Ballots}

-- Where a round stands among those of its coordinator: the rounds of one of n members follow one another at n.
abbrev pub turn_of : ℕ → ℕ → ℕ × ℕ
turn_of n round = (round % n, round / n)

-- what is kept of a round
abbrev pub kept_of : Ballots → ℕ → Option Ballot
kept_of ballots round = if holds ballots.over (turn_of ballots.members round) then Some over else get nat_cmp ballots.rounds round
