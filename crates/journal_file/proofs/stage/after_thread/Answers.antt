use Rattle.std.proofs.Common.{refl}
use Rattle.journal_file.specs.Stage.{drafted}
use Rattle.journal_file.proofs.Keeping.{thread_within}
use Rattle.journal_file.proofs.stage.after_thread.Goals as goal

pub step_or_thread-requires-clause-within : goal.step_or_thread-requires-clause-within
step_or_thread-requires-clause-within c =
    thread_within (drafted c.args.draft) c.new.result.items c.in-Some.count c.args.left _ c.args.draft.calls c.requires.within c.requires.counted.calls refl c.in-Some.ensures.most c.new.ensures.items
