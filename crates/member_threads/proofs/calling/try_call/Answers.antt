use Rattle.member_threads.proofs.Knowing.{knows_offered}
use Rattle.member_threads.proofs.calling.try_call.Goals as goal

pub returns-in-Ok-Answered-clause-pass : goal.returns-in-Ok-Answered-clause-pass
returns-in-Ok-Answered-clause-pass g c =
    let e = c.call.ensures in
    record { of = e.of; knows = knows_offered _ _ _ (λ _. ⊥) c.args.pass.now c.call.new.pass e.seen c.requires.pass.knows c.args.thread c.call.result e.made e.never_full e.unmade }

pub returns-in-Ok-NotNow-clause-pass : goal.returns-in-Ok-NotNow-clause-pass
returns-in-Ok-NotNow-clause-pass g c =
    let e = c.call.ensures in
    record { of = e.of; knows = knows_offered _ _ _ (λ _. ⊥) c.args.pass.now c.call.new.pass e.seen c.requires.pass.knows c.args.thread c.call.result e.made e.never_full e.unmade }

pub returns-in-Err-PlanDone-clause-pass : goal.returns-in-Err-PlanDone-clause-pass
returns-in-Err-PlanDone-clause-pass g c =
    let e = c.call.ensures in
    record { of = e.of; knows = knows_offered _ _ _ (λ _. ⊥) c.args.pass.now c.call.new.pass e.seen c.requires.pass.knows c.args.thread c.call.result e.made e.never_full e.unmade }

pub returns-in-Err-PlanDone-2-clause-pass : goal.returns-in-Err-PlanDone-2-clause-pass
returns-in-Err-PlanDone-2-clause-pass g c =
    let e = c.call.ensures in
    record { of = e.of; knows = knows_offered _ _ _ (λ _. ⊥) c.args.pass.now c.call.new.pass e.seen c.requires.pass.knows c.args.thread c.call.result e.made e.never_full e.unmade }

pub returns-in-Err-NoMemory-clause-pass : goal.returns-in-Err-NoMemory-clause-pass
returns-in-Err-NoMemory-clause-pass g c =
    let e = c.call.ensures in
    record { of = e.of; knows = knows_offered _ _ _ (λ _. ⊥) c.args.pass.now c.call.new.pass e.seen c.requires.pass.knows c.args.thread c.call.result e.made e.never_full e.unmade }
