-- What can be read of a member that stands for its inputs.
use Rattle.std.proofs.Common.{ℕ, ◌≡◌, ◌≤◌, ◌+◌, List, [], ◌∷◌, length, arith}
use Rattle.order_trait.specs.Runs.{Inputs}
use Rattle.order_trait.specs.declared.ordering.Ordering.{Ghosts}
use Rattle.group_run.specs.Group.{Group}
use Rattle.group_run.specs.Version.{newest}
use Rattle.group_run.specs.Part.{Part, version}
use Rattle.member_rules.specs.Kept.{Kept}
use Rattle.member_rules.specs.Stands.{Holds}

-- the newest version is one less than the number of modules
pub newest_is : (ms : List Inputs) → 1 ≤ length ms → newest ms + 1 ≡ length ms
newest_is [] some = absurd (omega arith)
newest_is (m ∷ ms) some = omega arith

-- so is a member's version
pub version_is : {O : Type 0} (G : Ghosts O) (g : Group) (me : ℕ) (k : Kept O) (part : Part) → Holds G g me k part → length k.modules ≡ k.repl.version + 1 → version part ≡ k.repl.version
version_is G g me k part h versions = let n = newest_is part.modules h.in_order.some in let a = h.modules_are.many in omega arith
