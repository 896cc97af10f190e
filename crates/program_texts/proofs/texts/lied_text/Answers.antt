use Rattle.std.proofs.Common.{append_assoc}
use Rattle.program_texts.specs.Texts.{lied_text}
use Rattle.program_texts.proofs.texts.lied_text.Goals as goal

pub returns : goal.returns
unfolding lied_text
returns c = simp append_assoc c.format.ensures.ok
