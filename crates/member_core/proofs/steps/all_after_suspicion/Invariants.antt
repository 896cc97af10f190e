use Rattle.std.proofs.Common.{ℕ, ◌≡◌, ◌++◌, take, drop, if◌then◌else◌, All}
use Rattle.std.specs.List.{AllZip}
use Rattle.fifo_net.specs.Net.{Called}
use Rattle.order_trait.specs.Outbox.{Grows}
use Rattle.order_trait.specs.Runs.{Suspect, Trust, Inputs}
use Rattle.member_rules.specs.Steps.{IsNext, StandAt, SentFits, sent_from}
use Rattle.member_core.proofs.steps.all_after_suspicion.Given as goal

abbrev pub invariant-loop-module : goal.invariant-loop-module
invariant-loop-module g l = record {
  version : l.version ≡ l.module-index;
  next : AllZip (IsNext g.O.Ordering (Called (if l.on then Suspect l.who else Trust l.who))) (take l.module-index l.modules) l.all.items;
  fits : (n : ℕ) → All (λ m. (g.O.Ordering.seat m).members ≡ n) l.modules → Grows (SentFits n) l.fn.sent.items l.sent.items;
  sent : (inputs : ℕ → Inputs) → StandAt g.O.Ordering l.modules inputs →
      l.sent.items ++ sent_from g.O.Ordering l.module-index (drop l.module-index l.modules) inputs (Called (if l.on then Suspect l.who else Trust l.who))
      ≡ l.fn.sent.items ++ sent_from g.O.Ordering 0 l.modules inputs (Called (if l.on then Suspect l.who else Trust l.who));
}
