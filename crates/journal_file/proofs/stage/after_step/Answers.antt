use Rattle.std.proofs.Common.{◌<◌, ◌≤◌, ◌+◌, arith}
use Rattle.upd_base.specs.Plan.{change_count}
use Rattle.upd_base.specs.declared.limits.TheConstants.{MAX_CHANGES}
use Rattle.journal_file.specs.Stage.{drafted}
use Rattle.journal_file.proofs.Keeping.{step_within}
use Rattle.journal_file.proofs.Stages.{too_many}
use Rattle.journal_file.proofs.stage.after_step.Goals as goal

pub returns-then-changes-gt-MAX_CHANGES : goal.returns-then-changes-gt-MAX_CHANGES
returns-then-changes-gt-MAX_CHANGES c =
    λ next f.
    let spelt = rw c.in-Some.is at c.in_ok-step.ensures.some in
    let fits = rw c.in-Some.is at c.in_ok-step.ensures.fits in
    let above : MAX_CHANGES < c.args.draft.changes + change_count c.in-Some.step.call = omega (arith, c.change_count.ensures) in
    too_many (drafted c.args.draft) c.args.steps.items c.in-Some.step f.0 c.args.line.now c.args.draft.changes c.requires.within.0.few fits spelt c.requires.counted.changes above f.1 f.2

pub step_or_thread-requires-clause-within : goal.step_or_thread-requires-clause-within
step_or_thread-requires-clause-within c =
    let fits = rw c.in-Some.is at c.in_ok-step.ensures.fits in
    let within : c.args.draft.changes + change_count c.in-Some.step.call ≤ MAX_CHANGES = omega (arith, c.change_count.ensures) in
    step_within (drafted c.args.draft) c.args.steps.items c.push.new.self.items c.in-Some.step c.args.left c.args.threads c.args.draft.changes c.requires.within.0 c.requires.within.1 c.in_ok-push.ensures.items
    fits c.requires.counted.changes within
