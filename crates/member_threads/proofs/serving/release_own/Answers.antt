use Rattle.std.proofs.Common.{ℕ, ◌≡◌, ◌+◌, ◌*◌}
use Rattle.live_group.specs.SharedGroup.{plan_shared}
use Rattle.member_threads.proofs.Knowing.{knows_freed}
use Rattle.member_threads.proofs.Working.{none_freed}
use Rattle.member_threads.proofs.serving.release_own.Goals as goal

pub returns-in-Ok-true-clause-pass : goal.returns-in-Ok-true-clause-pass
returns-in-Ok-true-clause-pass g c =
    let e = c.release.ensures in
    let mine : ℕ → Type 0 = λ k. k ≡ c.args.from * (plan_shared c.args.group.now).members + c.args.to in
    record { of = e.of; knows = knows_freed _ _ _ mine c.args.pass.now c.release.new.pass e.seen c.requires.pass.knows c.args.to c.release.result e.made e.unmade e.err }

pub returns-in-Ok-true-clause-brings_none : goal.returns-in-Ok-true-clause-brings_none
returns-in-Ok-true-clause-brings_none g c =
    let e = c.release.ensures in
    none_freed _ _ c.args.from c.args.to c.args.pass.now c.release.new.pass c.args.to c.release.result e.seen e.made e.unmade e.err

pub returns-in-Ok-false-clause-pass : goal.returns-in-Ok-false-clause-pass
returns-in-Ok-false-clause-pass g c =
    let e = c.release.ensures in
    let mine : ℕ → Type 0 = λ k. k ≡ c.args.from * (plan_shared c.args.group.now).members + c.args.to in
    record { of = e.of; knows = knows_freed _ _ _ mine c.args.pass.now c.release.new.pass e.seen c.requires.pass.knows c.args.to c.release.result e.made e.unmade e.err }

pub returns-in-Ok-false-clause-brings_none : goal.returns-in-Ok-false-clause-brings_none
returns-in-Ok-false-clause-brings_none g c =
    let e = c.release.ensures in
    none_freed _ _ c.args.from c.args.to c.args.pass.now c.release.new.pass c.args.to c.release.result e.seen e.made e.unmade e.err

pub returns-in-Err-Spent-clause-pass : goal.returns-in-Err-Spent-clause-pass
returns-in-Err-Spent-clause-pass g c =
    let e = c.release.ensures in
    let mine : ℕ → Type 0 = λ k. k ≡ c.args.from * (plan_shared c.args.group.now).members + c.args.to in
    record { of = e.of; knows = knows_freed _ _ _ mine c.args.pass.now c.release.new.pass e.seen c.requires.pass.knows c.args.to c.release.result e.made e.unmade e.err }

pub returns-in-Err-Spent-clause-brings_none : goal.returns-in-Err-Spent-clause-brings_none
returns-in-Err-Spent-clause-brings_none g c =
    let e = c.release.ensures in
    none_freed _ _ c.args.from c.args.to c.args.pass.now c.release.new.pass c.args.to c.release.result e.seen e.made e.unmade e.err

pub returns-in-Err-NoMemory-clause-pass : goal.returns-in-Err-NoMemory-clause-pass
returns-in-Err-NoMemory-clause-pass g c =
    let e = c.release.ensures in
    let mine : ℕ → Type 0 = λ k. k ≡ c.args.from * (plan_shared c.args.group.now).members + c.args.to in
    record { of = e.of; knows = knows_freed _ _ _ mine c.args.pass.now c.release.new.pass e.seen c.requires.pass.knows c.args.to c.release.result e.made e.unmade e.err }

pub returns-in-Err-NoMemory-clause-brings_none : goal.returns-in-Err-NoMemory-clause-brings_none
returns-in-Err-NoMemory-clause-brings_none g c =
    let e = c.release.ensures in
    none_freed _ _ c.args.from c.args.to c.args.pass.now c.release.new.pass c.args.to c.release.result e.seen e.made e.unmade e.err
