-- What is kept of the votes on one round.
use Rattle.std.specs.Prelude.{ℕ, Bool, true, false, ◌≡◌, ◌<◌, List, [], length, Option, Some, None, is_some}
use Rattle.std.specs.List.{list_all, All}
use Rattle.upd_base.specs.Item.{item_fits}
use Rattle.instance_rules.specs.declared.estimate.Estimate.{Estimate}
use Rattle.instance_rules.specs.Say.{Items, Turns, majority}
use Rattle.instance_rules.specs.Ballot.{firsts, estimate_for, reply_for, quorum, best_of, all_yes}
use Rattle.ct_consensus.specs.declared.ballot.Ballot.{Ballot}
use Rattle.ct_consensus.specs.declared.ballot.Proposal.{Proposal}
use Rattle.ct_consensus.specs.declared.ballot.Proposal.TheVariants.{Awaited, Made, Over}
use Rattle.std.specs.Global.{Vec}

-- each member that the items name is below n
abbrev pub all_fit : ℕ → Items → Bool
all_fit n items = list_all (item_fits n) items

-- Of these estimates, each the first of its member, this is kept.
abbrev pub IsCounted : ℕ → List (ℕ × Estimate) → Proposal → Type 0
IsCounted n votes (Awaited kept) = (kept.items ≡ votes) × (length votes < majority n)
IsCounted n votes (Made batch) = best_of (quorum n votes) ≡ Some batch
IsCounted n votes Over = is_some (best_of (quorum n votes)) ≡ true

-- of these replies, this
abbrev pub IsTallied : ℕ → List (ℕ × Bool) → Option (Vec (ℕ × Bool)) → Type 0
IsTallied n votes (Some kept) = (kept.items ≡ votes) × (length votes < majority n)
IsTallied n votes None = is_some (all_yes (quorum n votes)) ≡ true

-- nothing is kept of a proposal whose replies are counted, and of no other
abbrev pub ClosesWith : Option (Vec (ℕ × Bool)) → Proposal → Type 0
ClosesWith replies (Awaited kept) = Unit {0}
ClosesWith replies (Made batch) = Unit {0}
ClosesWith replies Over = replies ≡ None

-- the replies are not counted yet
abbrev pub IsPending : Proposal → Type 0
IsPending (Awaited kept) = Unit {0}
IsPending (Made batch) = Unit {0}
IsPending Over = ⊥

-- what is kept of a round after these inputs
abbrev pub IsKept : ℕ → ℕ → Turns → Option Ballot → Type 0
IsKept n r past None = (firsts (estimate_for r) past ≡ []) × (firsts (reply_for r) past ≡ [])
IsKept n r past (Some ballot) =
    IsCounted n (firsts (estimate_for r) past) ballot.proposal × IsTallied n (firsts (reply_for r) past) ballot.replies × ClosesWith ballot.replies ballot.proposal

-- each batch in it names only members below n
abbrev pub ProposalFits : ℕ → Proposal → Type 0
ProposalFits n (Awaited kept) = All (λ v. all_fit n v.1.batch ≡ true) kept.items
ProposalFits n (Made batch) = all_fit n batch ≡ true
ProposalFits n Over = Unit {0}

-- whether the conclusion is a decision
abbrev pub concludes : Option Bool → Option Items → Bool
concludes None proposed = false
concludes (Some agree) None = false
concludes (Some true) (Some batch) = true
concludes (Some false) (Some batch) = false

-- what is kept of a round in which nothing is sent any more
abbrev pub over : Ballot
over = record { proposal = Over; replies = None }
