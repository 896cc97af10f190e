-- Events that disturb a run.
use Rattle.std.specs.Prelude.{Bool, false}
use Rattle.upd_base.specs.Plan.{Planned, planned}
use Rattle.upd_base.specs.declared.event.Event.{Event}
use Rattle.upd_base.specs.declared.event.Event.TheVariants.{Call, Receive, Release}
use Rattle.group_run.specs.Settled.{is_loud, is_made}

-- a crash or a suspicion that was done
abbrev pub is_loud_event : Planned → Event → Bool
is_loud_event plan (Call thread index member given) = is_made is_loud (planned plan thread index) given
is_loud_event plan (Receive from to) = false
is_loud_event plan (Release at) = false
