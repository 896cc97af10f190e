use Rattle.std.proofs.Common.{refl, arith}
use Rattle.run_journal.specs.Journal.{plan_of, past_of}
use Rattle.run_journal.proofs.Reading.{all_made}
use Rattle.run_journal.proofs.journal.Journal.calls_are_made.Goals as goal

pub returns : goal.returns
returns g c =
    let j = c.args.self.now in
    (λ e. all_made (plan_of j) (past_of j) c.loop-thread.thread (let t = c.threads-thread-end.ensures in let l = c.loop-thread-test.false in omega arith) c.loop-thread.invariant, λ h. refl)
