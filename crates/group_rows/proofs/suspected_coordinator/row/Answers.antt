use Rattle.std.specs.Prelude.{refl}
use Rattle.group_rows.proofs.SuspectedCoordinator.{is_run, is_settled}
use Rattle.group_rows.proofs.suspected_coordinator.row.Goals as goal

pub returns : goal.returns
returns c = record {
  run = is_run;
  length = refl;
  first_log = refl;
  second_log = refl;
  first_version = refl;
  second_version = refl;
  kind = refl;
  trusts = refl;
  settled = is_settled;
}
