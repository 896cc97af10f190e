use Rattle.std.proofs.Common.{sym, ◌∙◌}
use Rattle.group_world.specs.Seen.{seen_by}
use Rattle.run_journal.specs.Journal.{plan_of, past_of}
use Rattle.run_journal.proofs.Props.{Frame-set}
use Rattle.run_journal.proofs.Reading.{is_open, frame_is}
use Rattle.run_journal.proofs.journal.Journal.next_frame.Goals as goal

pub returns-clause-value : goal.returns-clause-value
returns-clause-value g c =
    let j = c.args.self.now in
    is_open _ _ _ (sym c.crashed.ensures ∙ c.if-crashed.false)
    (c.frame.ensures.value ∙ sym (frame_is g.O.Ordering (plan_of j) (seen_by j.world) (past_of j) c.args.from c.args.to Frame-set c.requires.from_fits c.requires.to_fits j.stands))

pub returns-clause-fits : goal.returns-clause-fits
returns-clause-fits g c = let j = c.args.self.now in c.frame.ensures.fits (plan_of j) j.of_plan
