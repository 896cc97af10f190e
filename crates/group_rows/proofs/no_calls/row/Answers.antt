use Rattle.std.specs.Prelude.{refl}
use Rattle.group_rows.proofs.NoCalls.{is_run, is_settled}
use Rattle.group_rows.proofs.no_calls.row.Goals as goal

pub returns : goal.returns
returns c = record {
  run = is_run;
  length = refl;
  logs = refl;
  versions = refl;
  kinds = refl;
  settled = is_settled;
}
