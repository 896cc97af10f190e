use Rattle.std.proofs.Common.{[], ◌∷◌, refl, arith}
use Rattle.upd_base.specs.declared.body.Body.TheVariants.{Est}
use Rattle.module_binding.specs.Examples.{batch}
use Rattle.module_binding.proofs.laws.a_run_of_each_kind.Goals as goal

pub returns-clause-sequencer : goal.returns-clause-sequencer
returns-clause-sequencer c = record {
  some = omega arith;
  few = omega arith;
  kind_fits = refl;
  short = omega arith;
  fit = (omega arith, omega arith, (omega arith, omega arith, (omega arith, omega arith, (omega arith, (refl, refl, refl), tt))));
  fifo = (([], refl), (([], refl), (([], refl), (tt, tt))));
}

pub returns-clause-lamport : goal.returns-clause-lamport
returns-clause-lamport c = record {
  some = omega arith;
  few = omega arith;
  kind_fits = refl;
  short = omega arith;
  fit = (omega arith, omega arith, (omega arith, omega arith, (omega arith, omega arith, (omega arith, omega arith, (omega arith, (refl, refl, refl), tt)))));
  fifo = (([], refl), (([], refl), (([], refl), (([], refl), (tt, tt)))));
}

pub returns-clause-sequencer_first : goal.returns-clause-sequencer_first
returns-clause-sequencer_first c = refl

pub returns-clause-sequencer_second : goal.returns-clause-sequencer_second
returns-clause-sequencer_second c = refl

pub returns-clause-lamport_first : goal.returns-clause-lamport_first
returns-clause-lamport_first c = refl

pub returns-clause-lamport_second : goal.returns-clause-lamport_second
returns-clause-lamport_second c = refl

pub returns-clause-consensus : goal.returns-clause-consensus
returns-clause-consensus c = record {
  some = omega arith;
  few = omega arith;
  kind_fits = refl;
  short = omega arith;
  fit = (omega arith, omega arith, (omega arith, omega arith, (omega arith, omega arith, (omega arith, omega arith, (omega arith, omega arith, (omega arith, omega arith, (omega arith, omega arith, (omega arith, omega arith, (omega arith, omega arith, (omega arith, omega arith, (omega arith, omega arith, (omega arith, omega arith, (omega arith, (refl, refl, refl), tt)))))))))))));
  fifo = (([], refl), (([], refl), (([], refl), (([], refl), (([], refl), (([], refl), (([], refl), (([], refl), ((Est 1 1 0 batch ∷ [], refl), (([], refl), (([], refl), (([], refl), (tt, tt)))))))))))));
}

pub returns-clause-consensus_first : goal.returns-clause-consensus_first
returns-clause-consensus_first c = refl

pub returns-clause-consensus_second : goal.returns-clause-consensus_second
returns-clause-consensus_second c = refl
