use Rattle.std.proofs.Common.{append_assoc}
use Rattle.program_texts.specs.Texts.{down_line}
use Rattle.program_texts.proofs.texts.down_line.Goals as goal

pub returns : goal.returns
unfolding down_line
returns c = simp append_assoc c.format.ensures.ok
