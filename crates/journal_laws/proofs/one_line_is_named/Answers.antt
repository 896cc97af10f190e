use Rattle.journal_laws.proofs.Ends.{one_line}
use Rattle.journal_laws.proofs.one_line_is_named.Goals as goal

pub returns : goal.returns
returns c = one_line
