use Rattle.run_journal.specs.Journal.{events_of}
use Rattle.live_group.specs.SharedGroup.{plan_shared}
use Rattle.live_group.specs.Pass.{events_seen, past_before}
use Rattle.live_group.proofs.Standing.{stand_in_order}
use Rattle.lock_tests.proofs.group.two_calls.Goals as goal

pub returns : goal.returns
returns g c =
    let one = rw c.in-Ok-Answered.field-0-is at c.in-Ok-Answered.ensures.made in
    let two = rw c.in-Ok-Answered-call.field-0-is at c.in-Ok-Answered-call.ensures.made in
    stand_in_order (plan_shared c.in-Ok.group) (events_seen c.call.new.pass) (events_seen c.call-2.new.pass) (events_seen c.join.new.pass) (events_of c.close.result) (past_before c.call.new.pass) (past_before c.call-2.new.pass) c.args.thread c.in-Ok-Answered.one
    c.in-Ok-Answered-call.two one.made two.made two.goes_on c.call-2.ensures.seen c.join.ensures.prefixes.1 c.close.ensures.seen
