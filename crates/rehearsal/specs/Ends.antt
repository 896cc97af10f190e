-- How a schedule ends.
use Rattle.std.specs.Prelude.{◌≡◌, ◌++◌, length}
use Rattle.upd_base.specs.Plan.{Planned, bound}
use Rattle.group_run.specs.Group.{Rules}
use Rattle.group_run.specs.Run.{Events}
use Rattle.group_run.specs.Settled.{IsSettled}
use Rattle.rehearsal.specs.declared.rehearsed.RehearsalEnd.{RehearsalEnd}
use Rattle.rehearsal.specs.declared.rehearsed.RehearsalEnd.TheVariants.{Settled, Spent, NoMemory}

-- the events are on the way to these
abbrev pub IsOnTheWay : Events → Events → Type 0
IsOnTheWay past whole = (more : Events) × (whole ≡ more ++ past)

-- what an end says of a run
abbrev pub TellsRun : Rules → Planned → Events → RehearsalEnd → Type 0
TellsRun rules plan past Settled = IsSettled rules plan past
TellsRun rules plan past Spent = IsSettled rules plan past → ⊥
TellsRun rules plan past NoMemory = ⊥

-- At its end the schedule is made whole: the run is settled, or it has as many events as its plan's bound and isn't. At
-- want of memory the events are on the way there.
abbrev pub EndsAt : Rules → Planned → RehearsalEnd → Events → Events → Type 0
EndsAt rules plan Settled past whole = (past ≡ whole) × IsSettled rules plan past
EndsAt rules plan Spent past whole = (past ≡ whole) × (length past ≡ bound plan) × (IsSettled rules plan past → ⊥)
EndsAt rules plan NoMemory past whole = IsOnTheWay past whole
