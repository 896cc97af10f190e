use Rattle.journal_file.specs.Stage.{drafted}
use Rattle.journal_file.proofs.Keeping.{calls_within}
use Rattle.journal_file.proofs.stage.step_or_thread.Goals as goal

pub with_thread-requires-clause-few : goal.with_thread-requires-clause-few
with_thread-requires-clause-few c =
    calls_within (drafted c.args.draft) c.args.steps.items c.args.left c.args.threads c.if-left-gt0.false c.requires.within
