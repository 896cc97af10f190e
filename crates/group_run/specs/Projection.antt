-- The projection of a group run on a version: the steps that its events make in modules of that version.
use Rattle.std.specs.Prelude.{ℕ, ◌≡◌, ◌==◌, ◌<◌, ◌≤◌, if◌then◌else◌, List, [], ◌∷◌, ◌++◌, suc, Some}
use Rattle.order_trait.specs.Runs.{Steps, IsModuleRun}
use Rattle.upd_base.specs.Plan.{Planned}
use Rattle.upd_base.specs.declared.kind.Kind.{Kind}
use Rattle.upd_base.specs.declared.item.Item.{Item}
use Rattle.group_run.specs.Group.{Rules, Group}
use Rattle.group_run.specs.Version.{segment, next_kind, kind_at, inputs_at}
use Rattle.group_run.specs.Turn.{ModuleStep}
use Rattle.group_run.specs.Run.{Events, Moves, group, moves_in, part, turn_at, version_in}

-- those of a turn's steps that are in the module of a version
abbrev pub steps_in : ℕ → ℕ → List ModuleStep → Steps
steps_in v at [] = []
steps_in v at (s ∷ past) = if s.version == v then record { at = at; input = s.input } ∷ steps_in v at past else steps_in v at past

-- the steps that moves make in modules of a version, the newest first
abbrev pub steps_made : Group → ℕ → Moves → Steps
steps_made g v [] = []
steps_made g v (s ∷ past) = steps_in v s.at (turn_at g (s ∷ past) s.at).steps ++ steps_made g v past

abbrev pub projection : Rules → Planned → Events → ℕ → Steps
projection rules plan past v = steps_made (group rules plan) v (moves_in rules plan past)

-- the kind that a version has at member i
abbrev pub kind_of : Rules → Planned → Events → ℕ → ℕ → Kind
kind_of rules plan past i v = kind_at (group rules plan) i v (part rules plan past i).modules

-- what its module of a version has delivered
abbrev pub delivered_of : Rules → Planned → Events → ℕ → ℕ → List Item
delivered_of rules plan past i v = rules.delivers (kind_of rules plan past i v) plan.members i (inputs_at v (part rules plan past i).modules)

-- All members that reached a version have one kind of it, and the projection on it is a module run of that kind.
pub record IsProjected (rules : Rules) (plan : Planned) (past : Events) : Type 0 where
  pub one_kind : (v i j : ℕ) → i < plan.members → j < plan.members → v ≤ version_in rules plan past i → v ≤ version_in rules plan past j
      → kind_of rules plan past i v ≡ kind_of rules plan past j v
  pub module_run : (v i : ℕ) → i < plan.members → v ≤ version_in rules plan past i
      → IsModuleRun (rules.sends (kind_of rules plan past i v)) (kind_of rules plan past i v) plan.members (projection rules plan past v)

-- The kinds of the versions of member i: the plan's for version 0, and then the kind of the switch that ended the version
-- below, of which there is one.
pub record FollowsSwitches (rules : Rules) (plan : Planned) (past : Events) (i : ℕ) : Type 0 where
  pub first : kind_of rules plan past i 0 ≡ plan.first
  pub next : (v : ℕ) → v < version_in rules plan past i
      → (kind : Kind) × (next_kind (segment (group rules plan) v (delivered_of rules plan past i v)) ≡ Some kind) × (kind_of rules plan past i (suc v) ≡ kind)
