use Rattle.std.specs.Prelude.{refl}
use Rattle.group_rows.proofs.EarlyFrame.{is_run, is_settled}
use Rattle.group_rows.proofs.early_frame.row.Goals as goal

pub returns : goal.returns
returns c = record {
  run = is_run;
  length = refl;
  logs = refl;
  versions = refl;
  kinds = refl;
  moments = refl;
  settled = is_settled;
}
