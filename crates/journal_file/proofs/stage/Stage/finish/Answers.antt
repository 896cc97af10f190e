use Rattle.journal_file.proofs.Stages.{not_over}
use Rattle.journal_file.proofs.stage.Stage.finish.Goals as goal

pub returns : goal.returns
returns c = record { some = tt; none = not_over c.args.self c.args.rest.now c.requires c.in_default.not-Nothing }
