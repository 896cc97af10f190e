use Rattle.std.proofs.Common.{arith}
use Rattle.std.proofs.lemmas.Grind.{common_steps}
use Rattle.journal_file.proofs.Digits.{digits_more}
use Rattle.journal_file.proofs.values.value_of.Goals as goal

pub returns-in_err-checked_mul-clause-none : goal.returns-in_err-checked_mul-clause-none
returns-in_err-checked_mul-clause-none c = let more = digits_more c.args.digits.now c.loop-digit.digit-index c.requires c.loop-digit-test.true in grind (arith, common_steps)

pub overflow_sub-digit : goal.overflow_sub-digit
overflow_sub-digit c = (digits_more c.args.digits.now c.loop-digit.digit-index c.requires c.loop-digit-test.true).0

pub returns-in_err-value-clause-none : goal.returns-in_err-value-clause-none
returns-in_err-value-clause-none c = let more = digits_more c.args.digits.now c.loop-digit.digit-index c.requires c.loop-digit-test.true in grind (arith, common_steps)

pub loop-digit-preserved : goal.loop-digit-preserved
loop-digit-preserved c = let more = digits_more c.args.digits.now c.loop-digit.digit-index c.requires c.loop-digit-test.true in grind (arith, common_steps)
