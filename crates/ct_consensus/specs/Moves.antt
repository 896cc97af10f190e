-- What a member's moves send.
use Rattle.std.specs.Prelude.{ℕ, Bool, true, false, ◌≡◌, ◌<◌, ◌≤◌, List, ◌++◌, Some, All}
use Rattle.std.specs.List.{slice_get}
use Rattle.upd_base.specs.declared.body.Body.{Body}
use Rattle.order_trait.specs.Outbox.{SendFits}
use Rattle.instance_rules.specs.Say.{Say}
use Rattle.instance_rules.specs.declared.place.Place.{Place}
use Rattle.ct_consensus.specs.Ballot.{all_fit}
use Rattle.instance_rules.specs.Bodies.{in_instance}

-- the row says of each member whether it is suspected
abbrev pub IsRow : List Bool → (ℕ → Bool) → Type 0
IsRow row suspects = (w : ℕ) → w < 7 → slice_get row w ≡ Some (suspects w)

-- a member does not suspect itself
abbrev pub TrustsItself : List Bool → ℕ → Type 0
TrustsItself row me = slice_get row me ≡ Some false

-- From old to new so much was sent in instance k, and all of it fits n members.
pub record Sends (n k : ℕ) (old new : List (ℕ × Body)) (says : List (ℕ × Say)) : Type 0 where
  pub says_are : new ≡ old ++ in_instance k says
  pub fit : All (SendFits n) (in_instance k says)

-- a place in a round, whose estimate names only members below n
pub record PlaceFits (n : ℕ) (place : Place) : Type 0 where
  pub in_round : 1 ≤ place.round
  pub fits : all_fit n place.held.batch ≡ true
