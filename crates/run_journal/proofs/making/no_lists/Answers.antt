use Rattle.std.proofs.Common.{ℕ, Vec, Global}
use Rattle.run_journal.proofs.Lists.{one_empty}
use Rattle.run_journal.proofs.making.no_lists.Goals as goal

pub loop-i-preserved : goal.loop-i-preserved
loop-i-preserved c =
    one_empty (λ (v : Vec ℕ Global). v.items) c.loop-i.lists.items c.push.new.self.items c.new.result c.loop-i._i c.loop-i.invariant c.in_ok-push.ensures.items c.new.ensures.items
