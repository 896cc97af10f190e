-- Two members with timestamps, and no call.
use Rattle.std.specs.Prelude.{[], ◌∷◌}
use Rattle.upd_base.specs.Plan.{Planned}
use Rattle.upd_base.specs.declared.kind.Kind.TheVariants.{Lamport}
use Rattle.group_run.specs.Run.{Events}

abbrev pub plan : Planned
plan = record { members = 2; first = Lamport; threads = ([]) ∷ [] }

abbrev pub events : Events
events = []
