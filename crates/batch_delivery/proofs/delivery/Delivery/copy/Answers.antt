use Rattle.std.proofs.Common.{ap, ◌∙◌}
use Rattle.std.specs.Map.{lookup}
use Rattle.std.specs.Ordering.{nat_cmp}
use Rattle.std.specs.BTreeMap.{is_at}
use Rattle.number_runs.specs.Runs.{holds}
use Rattle.upd_base.specs.Item.{id_of}
use Rattle.batch_delivery.proofs.delivery.Delivery.copy.Goals as goal

pub returns-clause-stands : goal.returns-clause-stands
returns-clause-stands c = λ items ds s. record {
  up_to = record {
    reached = s.up_to.reached;
    known_are = s.up_to.known_are;
    ahead = λ k lt. ap (lookup (is_at (nat_cmp k))) c.in_ok-copy_batches.ensures ∙ s.up_to.ahead k lt;
    ids = λ x. ap (λ i. holds i (id_of x)) c.in_ok-copy.ensures ∙ s.up_to.ids x;
    waiting = c.in_ok-copy-2.ensures ∙ s.up_to.waiting;
    numbered = s.up_to.numbered;
  };
  all = s.all;
}
