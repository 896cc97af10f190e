-- What an attempt at an event comes to.
use Rattle.std.specs.Prelude.{Bool, true, false, ◌≡◌, ◌∷◌}
use Rattle.upd_base.specs.Plan.{Planned}
use Rattle.upd_base.specs.declared.event.Event.{Event}
use Rattle.group_run.specs.Group.{Rules}
use Rattle.group_run.specs.Run.{Events, IsEnabled}

-- it was made, or it can't be
abbrev pub IsTried : Rules → Planned → Events → Events → Event → Bool → Type 0
IsTried rules plan old new e true = new ≡ e ∷ old
IsTried rules plan old new e false = IsEnabled rules plan old e → ⊥
