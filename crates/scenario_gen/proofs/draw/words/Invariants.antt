use Rattle.std.proofs.Common.{◌≡◌, ◌-◌, ◌++◌}
use Rattle.scenario_gen.specs.Generate.{words, words_from}
use Rattle.scenario_gen.proofs.draw.words.Given as goal

abbrev pub invariant-loop-call : goal.invariant-loop-call
invariant-loop-call l = l.words.items ++ words_from (l.calls - l._call) l.generator ≡ words l.seed l.calls
