-- Runs of one instance over all members, and what holds of them.
use Rattle.std.specs.Prelude.{ℕ, ◌≡◌, ◌≢◌, ◌<◌, ◌≤◌, ◌^◌, List, [], ◌∷◌, ◌++◌, length, Contains, Some}
use Rattle.fifo_net.specs.Net.{Input, Called, Took, Step, IsRun, inputs_of}
use Rattle.instance_rules.specs.Say.{Items, Act, Starts, Suspects, Trusts, Say}
use Rattle.instance_rules.specs.History.{decided}
use Rattle.instance_rules.specs.Says.{says}

-- the steps of a run, the newest first
abbrev pub Rounds : Type 0
Rounds = List (Step Act Say)

-- A member of n may have this input. A start where the member has a round already does nothing.
abbrev pub TurnFits : ℕ → ℕ → Input Act Say → Type 0
TurnFits n at (Called (Starts batch)) = Unit {0}
TurnFits n at (Called (Suspects who)) = (who < n) × (who ≢ at)
TurnFits n at (Called (Trusts who)) = (who < n) × (who ≢ at)
TurnFits n at (Took from say) = from < n

abbrev pub RoundsFit : ℕ → Rounds → Type 0
RoundsFit n [] = Unit {0}
RoundsFit n (s ∷ past) = (s.at < n) × TurnFits n s.at s.input × RoundsFit n past

-- A run of an instance: 1 to 7 members, any starts and suspicions, and links that are first in, first out. A
-- member may stop anywhere: it then has no more steps.
pub record IsInstanceRun (n : ℕ) (past : Rounds) : Type 0 where
  pub some : 1 ≤ n
  pub few : n ≤ 7
  pub short : length past < 2 ^ 40
  pub fit : RoundsFit n past
  pub fifo : IsRun (says n) past

-- the batches that members started with
abbrev pub batch_at : Input Act Say → List Items
batch_at (Called (Starts batch)) = batch ∷ []
batch_at (Called (Suspects who)) = []
batch_at (Called (Trusts who)) = []
batch_at (Took from say) = []

abbrev pub started_in : Rounds → List Items
started_in [] = []
started_in (s ∷ past) = batch_at s.input ++ started_in past

-- Two members that have decided have decided the same, and one of them started with it.
abbrev pub InstanceAgrees : Type 0
InstanceAgrees = (n : ℕ) (past : Rounds) → IsInstanceRun n past → (i j : ℕ) → i < n → j < n → (a b : Items)
    → decided (inputs_of i past) ≡ Some a → decided (inputs_of j past) ≡ Some b → a ≡ b

abbrev pub InstanceIsValid : Type 0
InstanceIsValid = (n : ℕ) (past : Rounds) → IsInstanceRun n past → (i : ℕ) → i < n → (a : Items)
    → decided (inputs_of i past) ≡ Some a → Contains (started_in past) a
