use Rattle.std.specs.Prelude.{refl}
use Rattle.group_rows.proofs.one_turn.trusting.Goals as goal

pub returns : goal.returns
returns c = refl
