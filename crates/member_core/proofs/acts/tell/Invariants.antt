use Rattle.std.proofs.Common.{◌≡◌, ◌≤◌, ◌++◌, ◌-◌, length, drop}
use Rattle.order_trait.specs.Outbox.{Grows, SendFits}
use Rattle.order_trait.specs.Runs.{Inputs}
use Rattle.member_rules.specs.Acts.{suspicions_in, orders_after, orders_sent}
use Rattle.member_core.proofs.acts.tell.Given as goal

abbrev pub invariant-loop-who : goal.invariant-loop-who
invariant-loop-who g l = record {
  within : l.who ≤ length l.suspected;
  fits : Grows (SendFits (g.O.Ordering.seat l.fn.ordering).members) l.fn.bodies l.bodies;
  seat : g.O.Ordering.seat l.ordering ≡ g.O.Ordering.seat l.fn.ordering;
  now : (past : Inputs) → g.O.Ordering.stands l.fn.ordering past → (mid : Inputs) × g.O.Ordering.stands l.ordering mid
      × (orders_after (suspicions_in l.who (drop l.who l.suspected)) mid ≡ orders_after (suspicions_in 0 l.suspected) past)
      × (l.bodies ++ orders_sent (g.O.Ordering.sends (g.O.Ordering.seat l.fn.ordering).kind (g.O.Ordering.seat l.fn.ordering).members (g.O.Ordering.seat l.fn.ordering).me) (suspicions_in l.who (drop l.who l.suspected)) mid
      ≡ l.fn.bodies ++ orders_sent (g.O.Ordering.sends (g.O.Ordering.seat l.fn.ordering).kind (g.O.Ordering.seat l.fn.ordering).members (g.O.Ordering.seat l.fn.ordering).me) (suspicions_in 0 l.suspected) past);
}

abbrev pub decreases-loop-who : goal.decreases-loop-who
decreases-loop-who g l = length l.suspected - l.who
