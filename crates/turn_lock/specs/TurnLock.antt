-- What contracts say of a lock.
use Rattle.std.specs.Prelude.{◌≡◌}
use Rattle.turn_lock.specs.declared.kept.Kept.{Ghosts}
use Rattle.turn_lock.specs.declared.lock.TurnLock.{TurnLock}
use Rattle.turn_lock.specs.declared.pass.Pass.{Pass}

module _ {T E : Type 0} (lock : TurnLock T E) where
  -- the value that the lock was made of
  abbrev pub opening : T
  opening = lock.table.shared.key.value

  -- the pass is one of this lock
  abbrev pub IsPassOf : {K : Ghosts T E} → Pass T E K → Type 0
  IsPassOf p = p.seat.table_id ≡ lock.table.shared.table_id
