use Rattle.std.specs.Prelude.{refl}
use Rattle.group_rows.proofs.one_turn.answers.Goals as goal

pub returns : goal.returns
returns c = record { no_member = refl; itself = refl; bad_kind = refl; limit = refl; bad_kind_first = refl; crash = refl; crashed = refl }
