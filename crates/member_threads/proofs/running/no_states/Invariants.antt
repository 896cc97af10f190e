use Rattle.std.proofs.Common.{◌≡◌, length}
use Rattle.member_threads.proofs.running.no_states.Given as goal

abbrev pub invariant-loop : goal.invariant-loop
invariant-loop l = length l.states.items ≡ l.counter
