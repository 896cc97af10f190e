use Rattle.std.proofs.Common.{◌≡◌, ◌≤◌, ◌-◌, ◌++◌, take, drop, length, vec_len}
use Rattle.replacement.specs.Repl.{other_than}
use Rattle.replacement.proofs.repl.keep_others.Given as goal

abbrev pub invariant-loop-at : goal.invariant-loop-at
invariant-loop-at l = record {
  within : l.at ≤ length l.messages.items;
  kept : take l.at l.messages.items ++ other_than l.item (drop l.at l.messages.items) ≡ other_than l.item l.fn.messages.items;
}

abbrev pub decreases-loop-at : goal.decreases-loop-at
decreases-loop-at l = vec_len l.messages - l.at
