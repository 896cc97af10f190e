use Rattle.std.proofs.Common.{ℕ, ◌≡◌, List, ◌++◌}
use Rattle.ct_consensus.specs.declared.instance.Instance.{Instance}
use Rattle.map_copies.specs.Copies.{Mirrors}
use Rattle.instance_table.proofs.Told.{WasCopied}
use Rattle.instance_table.proofs.table.Instances.copy.Given as goal

-- those that were copied, and those that are left
abbrev pub invariant-loop-number : goal.invariant-loop-number
invariant-loop-number l = (done : List (ℕ × Instance)) × (done ++ l.number-iterator ≡ l.self.running.entries) × Mirrors (WasCopied l.self.members l.self.me) done l.running.entries
