use Rattle.member_threads.proofs.Knowing.{knows_taken}
use Rattle.member_threads.proofs.Steps.{if_unmade, unless_unmade}
use Rattle.live_group.specs.SharedGroup.{plan_shared}
use Rattle.std.proofs.Common.{ℕ, ◌≡◌, ◌+◌, ◌*◌, refl}
use Rattle.member_threads.proofs.serving.take_frame.Goals as goal

pub returns-in-Ok-clause-pass : goal.returns-in-Ok-clause-pass
returns-in-Ok-clause-pass g c =
    let e = c.receive.ensures in
    let mine : ℕ → Type 0 = λ k. k ≡ c.args.from * (plan_shared c.args.group.now).members + c.args.to in
    record { of = e.of; knows = knows_taken _ _ _ mine c.args.pass.now c.receive.new.pass e.seen c.requires.pass.knows c.args.from c.args.to refl c.receive.result e.made e.unmade }

pub returns-in-Err-clause-pass : goal.returns-in-Err-clause-pass
returns-in-Err-clause-pass g c =
    let e = c.receive.ensures in
    let mine : ℕ → Type 0 = λ k. k ≡ c.args.from * (plan_shared c.args.group.now).members + c.args.to in
    record { of = e.of; knows = knows_taken _ _ _ mine c.args.pass.now c.receive.new.pass e.seen c.requires.pass.knows c.args.from c.args.to refl c.receive.result e.made e.unmade }

pub returns-in-Err-clause-made : goal.returns-in-Err-clause-made
returns-in-Err-clause-made g c = if_unmade _ c.after_fault.result c.after_fault.ensures.unmade

pub returns-in-Err-clause-same : goal.returns-in-Err-clause-same
returns-in-Err-clause-same g c = if_unmade _ c.after_fault.result c.after_fault.ensures.unmade

pub returns-in-Err-clause-room : goal.returns-in-Err-clause-room
returns-in-Err-clause-room g c = if_unmade _ c.after_fault.result c.after_fault.ensures.unmade

pub returns-in-Err-clause-unmade : goal.returns-in-Err-clause-unmade
returns-in-Err-clause-unmade g c = unless_unmade _ c.after_fault.result c.in-Err.ensures.unmade

pub returns-in-Err-clause-refused : goal.returns-in-Err-clause-refused
returns-in-Err-clause-refused g c = unless_unmade _ c.after_fault.result (c.in-Err.fault, c.in-Err.ensures.cause, c.after_fault.ensures.memory)
