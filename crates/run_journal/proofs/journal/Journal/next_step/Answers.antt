use Rattle.std.proofs.Common.{sym, ◌∙◌, ap, arith}
use Rattle.upd_base.specs.Plan.{planned}
use Rattle.run_journal.specs.Journal.{plan_of, past_of}
use Rattle.group_run.specs.Run.{calls_made}
use Rattle.group_world.specs.Seen.{seen_by}
use Rattle.run_journal.proofs.Reading.{none_behind, made_is}
use Rattle.run_journal.proofs.journal.Journal.next_step.Goals as goal

pub returns-then-made-steps : goal.returns-then-made-steps
returns-then-made-steps g c =
    let j = c.args.self.now in
    let m = made_is g.O.Ordering (plan_of j) (seen_by j.world) (past_of j) c.args.thread j.stands in
    sym (none_behind (plan_of j) c.args.thread (calls_made c.args.thread (past_of j)) (omega (arith, m, c.made-made.ensures, c.steps.ensures)))

pub returns : goal.returns
returns g c =
    let j = c.args.self.now in
    let m = made_is g.O.Ordering (plan_of j) (seen_by j.world) (past_of j) c.args.thread j.stands in
    sym c.step.ensures ∙ ap (λ i. planned (plan_of j) c.args.thread i) (c.made-made.ensures ∙ m)
