use Rattle.journal_laws.proofs.Texts.{no_line, one_text}
use Rattle.journal_laws.proofs.texts_are_read_one_way.Goals as goal

pub returns : goal.returns
returns c = record { one_text = one_text; no_line = no_line }
