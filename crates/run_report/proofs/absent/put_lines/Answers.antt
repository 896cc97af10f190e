use Rattle.std.proofs.Common.{subst, sym}
use Rattle.std.specs.Prelude.{Contains}
use Rattle.group_run.specs.Ordered.{accepted_in}
use Rattle.run_journal.specs.Journal.{plan_of, past_of}
use Rattle.run_report.proofs.absent.put_lines.Goals as goal

pub put_line-requires-after_bounds : goal.put_line-requires-after_bounds
put_line-requires-after_bounds g c = λ κs le.
    let j = c.args.journal.now in
    subst (λ x. Contains (accepted_in (plan_of j) (past_of j)) x) (sym c.item-item.is) (c.requires c.loop-item.item-index c.item-item.result c.loop-item-test.true)
