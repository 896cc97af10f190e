use Rattle.std.specs.Prelude.{refl}
use Rattle.group_rows.proofs.TwoMessages.{is_run, is_settled}
use Rattle.group_rows.proofs.two_messages.row.Goals as goal

pub returns : goal.returns
returns c = record {
  run = is_run;
  length = refl;
  logs = refl;
  versions = refl;
  kinds = refl;
  settled = is_settled;
}
