-- For which inputs of each instance a table of instances stands.
use Rattle.std.specs.Prelude.{ℕ, Bool, false, ◌==◌, ◌+◌, ◌≡◌, ◌≤◌, ◌⊎◌, List, [], ◌∷◌, Option, Some, None}
use Rattle.std.specs.List.{list_any}
use Rattle.std.specs.Ordering.{nat_cmp}
use Rattle.std.specs.BTreeMap.{get}
use Rattle.instance_rules.specs.Say.{Items, Turns}
use Rattle.instance_rules.specs.History.{suspected, decided}
use Rattle.consensus_rules.specs.Instances.{Quiet}
use Rattle.ct_consensus.specs.Instance as instance
use Rattle.ct_consensus.specs.Moves.{IsRow}
use Rattle.ct_consensus.specs.declared.instance.Instance.{Instance}
use Rattle.instance_table.specs.declared.table.Instances.{Instances}

-- What is kept of an instance: nothing where there were suspicions alone, or where it is decided.
abbrev pub IsKept : Turns → Option Instance → Type 0
IsKept turns None = Quiet turns ⊎ ((b : Items) × (decided turns ≡ Some b))
IsKept turns (Some i) = (decided turns ≡ None) × instance.StandsFor i turns

-- The inputs of each instance, by number, and whom the member suspects.
pub record StandsFor (t : Instances) (turns : ℕ → Turns) (suspects : ℕ → Bool) : Type 0 where
  pub row : IsRow t.suspected suspects
  pub told : (k w : ℕ) → suspected (turns k) w ≡ suspects w
  pub kept : (k : ℕ) → IsKept (turns k) (get nat_cmp t.running k)

-- ascending, from low on
abbrev pub Ascend : ℕ → List ℕ → Type 0
Ascend low [] = Unit {0}
Ascend low (j ∷ js) = (low ≤ j) × Ascend (j + 1) js

-- The numbers ascend, and of each instance of another number there were suspicions alone.
pub record Covers (turns : ℕ → Turns) (numbers : List ℕ) : Type 0 where
  pub ascend : Ascend 0 numbers
  pub others : (k : ℕ) → list_any (λ j. j == k) numbers ≡ false → Quiet (turns k)

abbrev pub members_of : Instances → ℕ
members_of t = t.members

abbrev pub me_of : Instances → ℕ
me_of t = t.me
