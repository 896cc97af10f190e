use Rattle.std.specs.Prelude.{refl}
use Rattle.group_rows.proofs.OvertakenChange.{is_run, is_settled}
use Rattle.group_rows.proofs.overtaken_change.row.Goals as goal

pub returns : goal.returns
returns c = record {
  run = is_run;
  length = refl;
  logs = refl;
  versions = refl;
  kinds = refl;
  overtaken = refl;
  settled = is_settled;
}
