use Rattle.std.proofs.Common.{ℕ, ◌≡◌, ◌+◌, ◌*◌, refl, false, true}
use Rattle.live_group.specs.SharedGroup.{plan_shared}
use Rattle.member_threads.proofs.Knowing.{knows_still}
use Rattle.member_threads.proofs.Working.{none_still, worked_still}
use Rattle.member_threads.proofs.serving.serve.Goals as goal

pub bring_over-requires-clause-pass : goal.bring_over-requires-clause-pass
bring_over-requires-clause-pass g c = λ _ _.
    let e = c.fetch.ensures in
    let mine : ℕ → Type 0 = λ k. k ≡ c.args.from * (plan_shared c.args.group.now).members + c.args.to in
    record { of = e.of; knows = knows_still _ _ _ mine _ _ _ _ e.seen e.unmade c.requires.pass.knows }

pub bring_over-requires-clause-worked : goal.bring_over-requires-clause-worked
bring_over-requires-clause-worked g c = λ _ _.
    let e = c.fetch.ensures in
    (c.requires.worked.0, worked_still _ _ c.args.from c.args.to _ g.L.Line _ _ _ _ false false _ _ _ (none_still _ _ _ _ _ _ _ _ e.seen e.unmade) (λ w. w) c.requires.worked.1)

pub returns-in-Ok-Some-clause-worked : goal.returns-in-Ok-Some-clause-worked
returns-in-Ok-Some-clause-worked g c = λ start k.
    let e = c.fetch.ensures in
    c.bring_over.ensures.worked start (worked_still _ _ c.args.from c.args.to _ g.L.Line _ _ _ _ false false _ _ _ (none_still _ _ _ _ _ _ _ _ e.seen e.unmade) (λ w. w) k)

pub returns-in-Ok-None-clause-worked : goal.returns-in-Ok-None-clause-worked
returns-in-Ok-None-clause-worked g c = λ start k.
    let e = c.fetch.ensures in
    worked_still _ _ c.args.from c.args.to _ g.L.Line _ _ _ _ false false _ _ _ (none_still _ _ _ _ _ _ _ _ e.seen e.unmade) (λ w. w) k

pub returns-in-Err-clause-worked : goal.returns-in-Err-clause-worked
returns-in-Err-clause-worked g c = λ start k.
    let e = c.fetch.ensures in
    worked_still _ _ c.args.from c.args.to _ g.L.Line _ _ _ _ false true _ _ _ (none_still _ _ _ _ _ _ _ _ e.seen e.unmade) (λ w. refl) k

pub returns-in-Ok-None-clause-pass : goal.returns-in-Ok-None-clause-pass
returns-in-Ok-None-clause-pass g c =
    let e = c.fetch.ensures in
    let mine : ℕ → Type 0 = λ k. k ≡ c.args.from * (plan_shared c.args.group.now).members + c.args.to in
    record { of = e.of; knows = knows_still _ _ _ mine _ _ _ _ e.seen e.unmade c.requires.pass.knows }

pub returns-in-Err-clause-pass : goal.returns-in-Err-clause-pass
returns-in-Err-clause-pass g c =
    let e = c.fetch.ensures in
    let mine : ℕ → Type 0 = λ k. k ≡ c.args.from * (plan_shared c.args.group.now).members + c.args.to in
    record { of = e.of; knows = knows_still _ _ _ mine _ _ _ _ e.seen e.unmade c.requires.pass.knows }
