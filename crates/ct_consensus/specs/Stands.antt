-- What an instance keeps, before and after its decision, by its inputs.
use Rattle.std.specs.Prelude.{ℕ, true, ◌≡◌, ◌≤◌, Option, Some, None}
use Rattle.instance_rules.specs.declared.place.Place.{Place}
use Rattle.instance_rules.specs.Say.{Turns, last_round}
use Rattle.instance_rules.specs.History.{suspected, decided}
use Rattle.instance_rules.specs.Place as rules
use Rattle.instance_rules.specs.Says.{coordinates, has_led}
use Rattle.std.specs.Coded.{Unit-prop, le_prop}
use mathlib.Core.Bool.{Bool-set}
use Rattle.ct_consensus.specs.Ballot.{IsKept, ProposalFits}
use Rattle.ct_consensus.specs.Ballots.{kept_of}
use Rattle.ct_consensus.specs.declared.ballot.Ballot.{Ballot}
use Rattle.ct_consensus.specs.declared.ballot.Proposal.{Proposal}
use Rattle.ct_consensus.specs.declared.ballot.Proposal.TheVariants.{Awaited, Made, Over}
use Rattle.ct_consensus.specs.Fit.{BallotsFit, MayFit, MayStand}
use Rattle.ct_consensus.specs.Stance.{standing, Settled}
use Rattle.ct_consensus.specs.declared.running.Running.{Running}
use Rattle.ct_consensus.specs.declared.state.State.{State}
use Rattle.ct_consensus.specs.declared.state.State.TheVariants.{Undecided, Decided}

-- what is kept before a decision is as these inputs leave it
pub record IsRunning (n me : ℕ) (running : Running) (past : Turns) : Type 0 where
  pub undecided : decided past ≡ None
  pub place : standing running.place ≡ rules.place n past
  pub settled : Settled n (suspected past) (rules.place n past)
  pub low : (rules.place n past).round ≤ last_round
  pub led : running.led ≡ has_led n me past
  pub ballots : (r : ℕ) → coordinates n me r ≡ true → IsKept n r past (kept_of running.ballots r)

-- and what is kept at all
abbrev pub IsState : ℕ → ℕ → State → Turns → Type 0
IsState n me (Undecided running) past = IsRunning n me running past
IsState n me (Decided decision) past = (decided past ≡ Some decision.batch) × ((rules.place n past).round ≡ decision.round)

-- each batch in it names only members below n
pub record RunningFits (n : ℕ) (running : Running) : Type 0 where
  pub place : MayStand n running.place
  pub ballots : BallotsFit n running.ballots

abbrev pub StateFits : ℕ → State → Type 0
StateFits n (Undecided running) = RunningFits n running
StateFits n (Decided decision) = Unit {0}

-- Each of these facts has one proof at most.
pub ProposalFits-prop : (n : ℕ) (p : Proposal) → IsProp (ProposalFits n p)
ProposalFits-prop n (Awaited kept) = λ a b i k d lt. Bool-set _ _ (a k d lt) (b k d lt) i
ProposalFits-prop n (Made batch) = Bool-set _ _
ProposalFits-prop n Over = Unit-prop

pub MayFit-prop : (n : ℕ) (b : Option Ballot) → IsProp (MayFit n b)
MayFit-prop n None = Unit-prop
MayFit-prop n (Some ballot) = ProposalFits-prop n ballot.proposal

pub MayStand-prop : (n : ℕ) (p : Option Place) → IsProp (MayStand n p)
MayStand-prop n None = Unit-prop
MayStand-prop n (Some p) = λ a b i. record { in_round = le_prop a.in_round b.in_round i; fits = Bool-set _ _ a.fits b.fits i }

pub StateFits-prop : (n : ℕ) (s : State) → IsProp (StateFits n s)
StateFits-prop n (Undecided running) = λ a b i. record {
  place = MayStand-prop n running.place a.place b.place i;
  ballots = λ r. MayFit-prop n (kept_of running.ballots r) (a.ballots r) (b.ballots r) i;
}
StateFits-prop n (Decided decision) = Unit-prop
