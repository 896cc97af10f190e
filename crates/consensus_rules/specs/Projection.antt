-- What a run of modules is to one instance.
use Rattle.std.specs.Prelude.{ℕ, [], ◌∷◌}
use Rattle.fifo_net.specs.Net.{inputs_of}
use Rattle.order_trait.specs.Runs.{Steps}
use Rattle.instance_rules.specs.Say.{Turns}
use Rattle.instance_rules.specs.Run.{Rounds}
use Rattle.consensus_rules.specs.Instances.{adds, turns_of}

-- a member has these inputs of an instance, the newest first
abbrev pub at_step : ℕ → Turns → Rounds → Rounds
at_step m [] rest = rest
at_step m (t ∷ ts) rest = record { at = m; input = t } ∷ at_step m ts rest

-- the steps of instance k in a run of modules: each step of a member adds to it what its input adds
abbrev pub rounds_of : ℕ → ℕ → Steps → Rounds
rounds_of n k [] = []
rounds_of n k (s ∷ past) = at_step s.at (adds n k s.input (inputs_of s.at past) (turns_of n k (inputs_of s.at past))) (rounds_of n k past)
