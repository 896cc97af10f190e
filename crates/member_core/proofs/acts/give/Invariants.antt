use Rattle.std.proofs.Common.{◌≡◌, ◌≤◌, ◌++◌, ◌-◌, length, drop, map}
use Rattle.order_trait.specs.Outbox.{Grows, SendFits}
use Rattle.order_trait.specs.Runs.{Inputs, Broadcast}
use Rattle.member_rules.specs.Acts.{orders_after, orders_sent}
use Rattle.member_core.proofs.acts.give.Given as goal

abbrev pub invariant-loop-at : goal.invariant-loop-at
invariant-loop-at g l = record {
  within : l.at ≤ length l.again;
  fits : Grows (SendFits (g.O.Ordering.seat l.fn.ordering).members) l.fn.bodies l.bodies;
  seat : g.O.Ordering.seat l.ordering ≡ g.O.Ordering.seat l.fn.ordering;
  now : (past : Inputs) → g.O.Ordering.stands l.fn.ordering past → (mid : Inputs) × g.O.Ordering.stands l.ordering mid
      × (orders_after (map (λ item. Broadcast item) (drop l.at l.again)) mid ≡ orders_after (map (λ item. Broadcast item) l.again) past)
      × (l.bodies ++ orders_sent (g.O.Ordering.sends (g.O.Ordering.seat l.fn.ordering).kind (g.O.Ordering.seat l.fn.ordering).members (g.O.Ordering.seat l.fn.ordering).me) (map (λ item. Broadcast item) (drop l.at l.again)) mid
      ≡ l.fn.bodies ++ orders_sent (g.O.Ordering.sends (g.O.Ordering.seat l.fn.ordering).kind (g.O.Ordering.seat l.fn.ordering).members (g.O.Ordering.seat l.fn.ordering).me) (map (λ item. Broadcast item) l.again) past);
}

abbrev pub decreases-loop-at : goal.decreases-loop-at
decreases-loop-at g l = length l.again - l.at
