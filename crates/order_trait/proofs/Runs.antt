use Rattle.std.proofs.Common.{ℕ, ◌∷◌, arith}
use Rattle.fifo_net.specs.Net.{Step}
use Rattle.upd_base.specs.declared.body.Body.{Body}
use Rattle.upd_base.specs.declared.kind.Kind.{Kind}
use Rattle.order_trait.specs.Runs.{Order, Steps, KindSends, IsModuleRun}

-- a run of modules without its newest step
pub shorter : (sends : KindSends) (kind : Kind) (n : ℕ) (step : Step Order Body) (past : Steps) → IsModuleRun sends kind n (step ∷ past) → IsModuleRun sends kind n past
shorter sends kind n step past run = record {
  some = run.some;
  few = run.few;
  kind_fits = run.kind_fits;
  short = omega (arith, run.short);
  fit = run.fit.2;
  fifo = run.fifo.1;
}
