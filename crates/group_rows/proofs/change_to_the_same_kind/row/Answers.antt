use Rattle.std.specs.Prelude.{refl}
use Rattle.group_rows.proofs.ChangeToTheSameKind.{is_run, is_settled}
use Rattle.group_rows.proofs.change_to_the_same_kind.row.Goals as goal

pub returns : goal.returns
returns c = record {
  run = is_run;
  length = refl;
  logs = refl;
  versions = refl;
  kinds = refl;
  settled = is_settled;
}
