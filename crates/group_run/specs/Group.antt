-- A group: its members, and the kinds of ordering modules that it can bind.
use Rattle.std.specs.Prelude.{ℕ, Bool}
use Rattle.order_trait.specs.Runs.{KindSends, KindDelivers}
use Rattle.upd_base.specs.declared.kind.Kind.{Kind}
use Rattle.upd_base.specs.declared.call.Call.{Call}

-- The kinds of a group: what a module of each kind sends and delivers, and which kinds are served. All that is said
-- of group runs is said for any such rules.
pub record Rules : Type 0 where
  pub sends : Kind → KindSends
  pub delivers : Kind → KindDelivers
  pub serves : Kind → Bool

-- A group: its kinds, how many members it has, and the kind of version 0. Members are the numbers below `members`.
pub record Group : Type 0 where
  pub rules : Rules
  pub members : ℕ
  pub first : Kind

-- What comes to a member from outside its links: a call, or the release of a frame that it holds.
pub data Outer : Type 0 where
  Makes : (call : Call) → Outer
  Releases : Outer
