use Rattle.std.specs.Prelude.{◌+◌, ◌*◌}
use Rattle.loop_link.proofs.Tables.{zero_anywhere}
use Rattle.loop_link.proofs.loop_lines.LoopLines.new.Goals as goal

pub returns : goal.returns
returns g c = record { faultless = λ i j. zero_anywhere 49 (i * 7 + j) }
