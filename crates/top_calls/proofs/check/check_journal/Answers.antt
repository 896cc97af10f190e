use Rattle.run_journal.specs.Journal.{events_of, plan_of}
use Rattle.top_calls.proofs.Checks.{fault_told, is_of_check, none_told, text_told, told_cause}
use Rattle.top_calls.proofs.check.check_journal.Goals as goal

pub returns-in-Err-clause-kind : goal.returns-in-Err-clause-kind
returns-in-Err-clause-kind g c = is_of_check _ _ _ _ (told_cause c.in-Err.status c.refuse.result.status _ _ _ c.in-Err.ensures.cause c.refuse.ensures.status)

pub returns-in-Err-clause-text_only : goal.returns-in-Err-clause-text_only
returns-in-Err-clause-text_only g c = text_told _ _ _ _ c.one_answer_is_right.ensures (told_cause c.in-Err.status c.refuse.result.status _ _ _ c.in-Err.ensures.cause c.refuse.ensures.status)

pub returns-in-Err-clause-fault_only : goal.returns-in-Err-clause-fault_only
returns-in-Err-clause-fault_only g c = fault_told _ _ _ _ c.one_answer_is_right.ensures (told_cause c.in-Err.status c.refuse.result.status _ _ _ c.in-Err.ensures.cause c.refuse.ensures.status)

pub returns-in-Ok-clause-fault_only : goal.returns-in-Ok-clause-fault_only
returns-in-Ok-clause-fault_only g c = none_told _ _ (plan_of c.in-Ok.journal) (events_of c.in-Ok.journal) c.one_answer_is_right.ensures c.report_read.ensures.laws.run c.in-Ok.ensures.text
