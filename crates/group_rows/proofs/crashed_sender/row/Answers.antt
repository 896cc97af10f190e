use Rattle.std.specs.Prelude.{refl}
use Rattle.group_rows.proofs.CrashedSender.{is_run, is_settled}
use Rattle.group_rows.proofs.crashed_sender.row.Goals as goal

pub returns : goal.returns
returns c = record {
  run = is_run;
  length = refl;
  logs = refl;
  versions = refl;
  kinds = refl;
  crashed = refl;
  undelivered = refl;
  settled = is_settled;
}
