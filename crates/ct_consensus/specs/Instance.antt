-- For which lists of inputs an instance stands, and where an input changes nothing.
use Rattle.std.specs.Prelude.{ℕ, ◌≡◌, [], ◌∷◌}
use Rattle.std.specs.Arc.{arc_value}
use Rattle.fifo_net.specs.Net.{Called}
use Rattle.instance_rules.specs.Say.{Turns, Suspects}
use Rattle.instance_rules.specs.Place.{place}
use Rattle.instance_rules.specs.Says.{says}
use Rattle.ct_consensus.specs.Stands.{IsState}
use Rattle.ct_consensus.specs.declared.instance.Instance.{Instance}

-- what it keeps is as these inputs leave it
abbrev pub StandsFor : Instance → Turns → Type 0
StandsFor i past = IsState i.seat.members i.seat.me (arc_value i.state) past

-- whose share of which instance it is
abbrev pub number_of : Instance → ℕ
number_of i = i.seat.number

abbrev pub members_of : Instance → ℕ
members_of i = i.seat.members

abbrev pub me_of : Instance → ℕ
me_of i = i.seat.me

-- a suspicion moves the member nowhere and makes it send nothing
pub record ChangesNothing (n me who : ℕ) (past : Turns) : Type 0 where
  pub place : place n (Called (Suspects who) ∷ past) ≡ place n past
  pub quiet : says n me (Called (Suspects who) ∷ past) ≡ []
