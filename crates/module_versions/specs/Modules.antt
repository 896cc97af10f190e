-- The modules of one member, by version.
use Rattle.std.specs.Prelude.{ℕ, ◌<◌, ◌≤◌, ◌-◌, List, length}
use Rattle.order_trait.specs.Runs.{Seat}
use Rattle.upd_base.specs.declared.kind.Kind.{Kind}
use Rattle.upd_base.specs.declared.limits.TheConstants.{MAX_MEMBERS}

-- of how many members, whose they are, and a module for each version that it reached, that of version 0 first
pub record Modules (O : Type 0) : Type 0 where
  pub members : ℕ
  pub me : ℕ
  pub modules : List O

-- the place of a module of this kind at this member
abbrev pub seat_of : {O : Type 0} → Modules O → Kind → Seat
seat_of s kind = record { kind = kind; members = s.members; me = s.me }

-- the newest version
abbrev pub newest : {O : Type 0} → Modules O → ℕ
newest s = length s.modules - 1

-- The member is one of the group, and has a module.
pub record IsMember (members me versions : ℕ) : Type 0 where
  pub some : 1 ≤ members
  pub few : members ≤ MAX_MEMBERS
  pub me_fits : me < members
  pub first : 1 ≤ versions
