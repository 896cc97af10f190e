-- How faults are counted.
use Rattle.std.specs.Prelude.{ℕ, ◌+◌, ◌-◌, ◌^◌, min, Result, Ok, Err}
use Rattle.upd_base.specs.declared.edge.EdgeFault.{EdgeFault}
use Rattle.upd_base.specs.declared.edge.EdgeFault.TheVariants.{Failed, NoMemory}

-- The count after an answer: each `Failed` is counted, up to the greatest u64, and nothing else is.
abbrev pub faults_after : {T : Type 0} → ℕ → Result T EdgeFault → ℕ
faults_after count (Ok x) = count
faults_after count (Err Failed) = min (count + 1) (2 ^ 64 - 1)
faults_after count (Err NoMemory) = count
