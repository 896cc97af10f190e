-- A module that is lent for a while.
use Rattle.std.specs.Prelude.{ℕ, Option, slice_set}
use Rattle.std.specs.Borrow.{Lends, LendsIf, MutBor, Fml}
use denote.RattleType.{RattleType}
use Rattle.module_versions.specs.Modules.{Modules, newest}
use Rattle.module_versions.specs.contracts.bound.Bound.{the_row}

-- the modules with another one at a version
abbrev pub with_module : {O : Type 0} → Modules O → ℕ → O → Modules O
with_module s v m = record { members = s.members; me = s.me; modules = slice_set s.modules v m }

-- the modules end with the last value behind r at the newest version
abbrev pub LendsNewest : (R : RattleType) → MutBor (Modules R.Denot) → MutBor R.Denot → Fml
LendsNewest R s r = Lends (the_row R) R s r (with_module s.now (newest s.now))

-- at Some the modules end with the last value behind r at this version
abbrev pub LendsVersion : (R : RattleType) → MutBor (Modules R.Denot) → ℕ → Option (MutBor R.Denot) → Fml
LendsVersion R s v r = LendsIf (the_row R) R s r (with_module s.now v) s.now
