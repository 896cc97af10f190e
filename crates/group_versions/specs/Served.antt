-- Which kinds a member comes to.
use Rattle.std.specs.Prelude.{ℕ, true, ◌≡◌, ◌<◌, List, length}
use Rattle.order_trait.specs.Runs.{Inputs}
use Rattle.group_run.specs.Group.{Group}
use Rattle.group_run.specs.Version.{kind_at}

-- Whatever the modules of a member were given, the kind of each version that it reached is one that is served, where the
-- first kind is.
abbrev pub ServesKinds : Type 0
ServesKinds = (g : Group) → g.rules.serves g.first ≡ true → (me v : ℕ) (modules : List Inputs) → v < length modules → g.rules.serves (kind_at g me v modules) ≡ true
