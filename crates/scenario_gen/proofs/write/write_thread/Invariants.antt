use Rattle.std.proofs.Common.{◌≡◌, ◌++◌, drop}
use Rattle.scenario_gen.proofs.Loops.{left}
use Rattle.scenario_gen.proofs.write.write_thread.Given as goal

abbrev pub invariant-loop-call : goal.invariant-loop-call
invariant-loop-call l = record {
  before : l.out.before ≡ l.initial.out.before;
  tokens : l.out.tokens ++ left l.thread l.call (drop l.call l.words) ≡ l.initial.out.tokens ++ left l.thread 0 l.words;
}
