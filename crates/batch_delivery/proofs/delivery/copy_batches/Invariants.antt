use Rattle.std.proofs.Common.{ℕ, ◌≡◌, List, ◌++◌}
use Rattle.instance_rules.specs.Say.{Items}
use Rattle.map_copies.specs.Copies.{Mirrors}
use Rattle.batch_delivery.proofs.delivery.copy_batches.Given as goal

-- those that were copied, and those that are left
abbrev pub invariant-loop-number : goal.invariant-loop-number
invariant-loop-number l = (done : List (ℕ × Items)) × (done ++ l.number-iterator ≡ l.batches.entries) × Mirrors (λ x y. x ≡ y) done l.copies.entries
