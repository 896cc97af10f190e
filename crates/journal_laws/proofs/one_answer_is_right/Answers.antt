use Rattle.journal_laws.proofs.Faults.{one_answer}
use Rattle.journal_laws.proofs.one_answer_is_right.Goals as goal

pub returns : goal.returns
returns c = one_answer
