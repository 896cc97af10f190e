-- The table's seat that a pass rests on.
use Rattle.std.specs.Prelude.{◌≡◌, Option}
use Rattle.atomic_table.specs.declared.shared.Seat.{Seat}
use Rattle.turn_lock.specs.declared.view.View.{View}

-- one seat, before a step and after it
abbrev pub IsOneSeat : {T E : Type 0} → Seat (Option T) (View E) → Seat (Option T) (View E) → Type 0
IsOneSeat old new = (new.table_id ≡ old.table_id) × (new.id ≡ old.id)
