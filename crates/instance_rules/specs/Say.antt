-- What comes to one instance of consensus at a member, and what members say to each other in it.
use Rattle.std.specs.Prelude.{ℕ, Bool, ◌+◌, ◌-◌, ◌^◌, ◌/◌, ◌%◌, List}
use Rattle.fifo_net.specs.Net.{Input}
use Rattle.upd_base.specs.declared.item.Item.{Item}
pub use Rattle.instance_rules.specs.declared.estimate.Estimate.{Estimate}

abbrev pub Items : Type 0
Items = List Item

-- what comes from outside
pub data Act : Type 0 where
  Starts : (batch : Items) → Act
  Suspects : (who : ℕ) → Act
  Trusts : (who : ℕ) → Act

-- what members say
pub data Say : Type 0 where
  Estimates : (round : ℕ) → (held : Estimate) → Say
  Proposes : (round : ℕ) → (batch : Items) → Say
  Replies : (round : ℕ) → (agree : Bool) → Say
  Moves_on : (round : ℕ) → Say
  Decides : (batch : Items) → Say

-- the inputs of one instance at a member, the newest first
abbrev pub Turns : Type 0
Turns = List (Input Act Say)

-- Rounds count from 1, and the members coordinate them in turn.
abbrev pub coordinator : ℕ → ℕ → ℕ
coordinator n round = (round - 1) % n

abbrev pub majority : ℕ → ℕ
majority n = n / 2 + 1

-- the last round: a round is a u64
abbrev pub last_round : ℕ
last_round = 2 ^ 64 - 1
