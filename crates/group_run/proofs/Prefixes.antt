-- A run up to any of its events is a run.
use Rattle.std.proofs.Common.{[], ◌∷◌, ◌++◌, arith, length-append}
use Rattle.upd_base.specs.Plan.{Planned}
use Rattle.group_run.specs.Group.{Rules}
use Rattle.group_run.specs.Run.{Events, AreEnabled}
use Rattle.group_run.specs.Laws.{KeepsPrefixes}

enabled_before : (rules : Rules) (plan : Planned) (later past : Events) → AreEnabled rules plan (later ++ past) → AreEnabled rules plan past
enabled_before rules plan [] past e = e
enabled_before rules plan (x ∷ later) past e = enabled_before rules plan later past e.1

pub keeps_prefixes : KeepsPrefixes
keeps_prefixes = λ rules plan later past r. record {
  of_plan = r.of_plan;
  short = let s = r.short in omega (arith, length-append later past);
  enabled = enabled_before rules plan later past r.enabled;
}
