use Rattle.journal_file.proofs.Digits.{after_digits, front_digits}
use Rattle.journal_file.proofs.values.split_digits.Goals as goal

pub returns-clause-digits : goal.returns-clause-digits
returns-clause-digits c = rw (c.split_at.ensures.front, c.unwrap_or-end.ensures, c.first_other.ensures) (front_digits c.args.line.now)

pub returns-clause-ends : goal.returns-clause-ends
returns-clause-ends c = rw (c.split_at.ensures.back, c.unwrap_or-end.ensures, c.first_other.ensures) (after_digits c.args.line.now)
