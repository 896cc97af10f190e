-- What contracts say of a pass.
use Rattle.std.specs.Prelude.{◌≡◌, ℕ, List}
use Rattle.turn_lock.specs.declared.kept.Kept.{Ghosts}
use Rattle.turn_lock.specs.declared.pass.Pass.{Pass}
use Rattle.turn_lock.specs.declared.stage.Stage.TheVariants.{Idle}
use Rattle.turn_lock.specs.Stage.{IsInTurn, noted_at}

module _ {T E : Type 0} {K : Ghosts T E} (p : Pass T E K) where
  -- the beginning of the lock's list that it has seen
  abbrev pub seen : List E
  seen = p.seat.me.0.seen

  -- the places of the entries that it, or a pass joined into it, committed
  abbrev pub own : List ℕ
  own = p.seat.me.0.own

  -- how many of the lock's parts it has
  abbrev pub parts : ℕ
  parts = p.seat.me.0.parts

  -- the list of the value that its turn was given
  abbrev pub noted : List E
  noted = noted_at p.seat.me.0.stage

  -- it is in no turn
  abbrev pub IsIdle : Type 0
  IsIdle = p.seat.me.0.stage ≡ Idle

  -- it is in a turn
  abbrev pub IsTurning : Type 0
  IsTurning = IsInTurn p.seat.me.0.stage
