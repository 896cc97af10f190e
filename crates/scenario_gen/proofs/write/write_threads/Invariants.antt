use Rattle.std.proofs.Common.{◌≡◌, ◌++◌}
use Rattle.scenario_gen.specs.Generate.{numbered}
use Rattle.scenario_gen.proofs.Loops.{threads_left}
use Rattle.scenario_gen.proofs.write.write_threads.Given as goal

abbrev pub invariant-loop-thread : goal.invariant-loop-thread
invariant-loop-thread l = record {
  before : l.out.before ≡ l.initial.out.before;
  tokens : l.out.tokens ++ threads_left (numbered l.words) l.thread ≡ l.initial.out.tokens ++ threads_left (numbered l.words) 0;
}
