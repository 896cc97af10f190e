use Rattle.upd_frame.proofs.Ahead.{is_short, none_begins, is_read, faults_stay, front_stays}
use Rattle.upd_frame.proofs.laws.spellings.Goals as goal

pub returns-clause-short : goal.returns-clause-short
returns-clause-short c = is_short

pub returns-clause-apart : goal.returns-clause-apart
returns-clause-apart c = none_begins

pub returns-clause-read : goal.returns-clause-read
returns-clause-read c = is_read

pub returns-clause-stay : goal.returns-clause-stay
returns-clause-stay c = λ bytes more d field. (faults_stay bytes more d field, front_stays bytes more d field)
