use Rattle.std.proofs.Common.{ℕ, ◌≡◌, ◌+◌, ◌*◌, false, ◌∙◌}
use Rattle.turn_lock.proofs.Lists.{IsPrefix-trans}
use Rattle.live_group.specs.SharedGroup.{plan_shared}
use Rattle.member_threads.specs.Worker.{wants}
use Rattle.member_threads.proofs.Knowing.{knows_still}
use Rattle.member_threads.proofs.Working.{none_after, none_still, worked_still}
use Rattle.member_threads.proofs.serving.take_turn.Goals as goal

pub returns-in-Nothing-release_own-clause-worked : goal.returns-in-Nothing-release_own-clause-worked
returns-in-Nothing-release_own-clause-worked g c = λ start k. worked_still _ _ c.args.from c.args.to _ g.L.Line _ _ _ _ false false _ _ _ c.release_own.ensures.brings_none (λ w. w) (c.in-Went.ensures.worked start k)

pub returns-in_default-release_own : goal.returns-in_default-release_own
returns-in_default-release_own g c =
    let r = c.release_own.ensures in
    record {
      pass = r.pass;
      parts = r.parts ∙ c.serve.ensures.parts;
      seen = IsPrefix-trans _ _ _ c.serve.ensures.seen r.brings_none.goes_on;
      worked = λ start k. worked_still _ _ c.args.from c.args.to _ g.L.Line _ _ _ _ false (wants c.release_own.result) _ _ _ r.brings_none (λ w. absurd (cc (w))) (c.in-Went.ensures.worked start k);
    }

pub returns-in-Nothing-release_own-2-clause-pass : goal.returns-in-Nothing-release_own-2-clause-pass
returns-in-Nothing-release_own-2-clause-pass g c =
    let e = c.end_if_settled.ensures in
    let mine : ℕ → Type 0 = λ k. k ≡ c.args.from * (plan_shared c.args.group.now).members + c.args.to in
    record { of = e.of; knows = knows_still _ _ _ mine _ _ _ _ e.seen e.unmade c.release_own-in-Nothing.ensures.pass.knows }

pub returns-in-Nothing-release_own-2-clause-worked : goal.returns-in-Nothing-release_own-2-clause-worked
returns-in-Nothing-release_own-2-clause-worked g c = λ start k.
    let e = c.end_if_settled.ensures in
    worked_still _ _ c.args.from c.args.to _ g.L.Line _ _ _ _ false (wants c.end_if_settled.result) _ _ _ (none_after _ _ c.args.from c.args.to _ _ _ _ _ _ c.release_own-in-Nothing.ensures.brings_none (none_still _ _ _ _ _ _ _ _ e.seen e.unmade)) (λ w. absurd (cc (w))) (c.in-Nothing.ensures.worked start k)

pub returns-in_default-release_own-2 : goal.returns-in_default-release_own-2
returns-in_default-release_own-2 g c =
    let r = c.release_own-in-Nothing.ensures in
    record {
      pass = r.pass;
      parts = r.parts ∙ c.serve.ensures.parts;
      seen = IsPrefix-trans _ _ _ c.serve.ensures.seen r.brings_none.goes_on;
      worked = λ start k. worked_still _ _ c.args.from c.args.to _ g.L.Line _ _ _ _ false (wants c.release_own-in-Nothing.result) _ _ _ r.brings_none (λ w. absurd (cc (w))) (c.in-Nothing.ensures.worked start k);
    }
