-- For which lists of inputs a module stands.
use Rattle.std.specs.Prelude.{ℕ, Bool, false, ◌==◌, ◌||◌, ◌&&◌, not, List, [], ◌∷◌, ◌++◌}
use Rattle.fifo_net.specs.Net.{Called, Took}
use Rattle.upd_base.specs.Item.{id_of}
use Rattle.upd_base.specs.declared.kind.Kind.TheVariants.{Consensus}
use Rattle.upd_base.specs.declared.body.Body.{Body}
use Rattle.upd_base.specs.declared.body.Body.TheVariants.{Rb}
use Rattle.order_trait.specs.Runs.{Order, Broadcast, Suspect, Trust, Inputs, Seat}
use Rattle.reliable_bcast.specs.Rb.{Event, Started, Received}
use Rattle.reliable_bcast.specs.Rb as rb
use Rattle.consensus_rules.specs.Items.{received}
use Rattle.instance_rules.specs.Say.{Turns}
use Rattle.instance_rules.specs.Bodies.{say_of}
use Rattle.consensus_rules.specs.Delivered.{batches, decisions, items_of}
use Rattle.consensus_rules.specs.Instances.{hears, turns_of}
use Rattle.batch_delivery.specs.Delivery as deliveries
use Rattle.instance_table.specs.Table as tables
use Rattle.consensus_order.specs.declared.consensus.ConsensusOrder.{ConsensusOrder}

-- what a module was made with
abbrev pub seat_of : ConsensusOrder → Seat
seat_of m = record { kind = Consensus; members = tables.members_of m.instances; me = tables.me_of m.instances }

-- what its inputs are to the reliable broadcast of its items
abbrev pub begins : Order → List Event
begins (Broadcast item) = Started (id_of item) ∷ []
begins (Suspect who) = []
begins (Trust who) = []

abbrev pub receives : Body → List Event
receives (Rb item) = Received (id_of item) ∷ []
receives body = []

abbrev pub events_of : Inputs → List Event
events_of [] = []
events_of (Called order ∷ past) = begins order ++ events_of past
events_of (Took from body ∷ past) = receives body ++ events_of past

-- whom it suspects
abbrev pub suspects : Inputs → ℕ → Bool
suspects [] w = false
suspects (Called (Broadcast item) ∷ past) w = suspects past w
suspects (Called (Suspect who) ∷ past) w = (who == w) || suspects past w
suspects (Called (Trust who) ∷ past) w = not (who == w) && suspects past w
suspects (Took from body ∷ past) w = suspects past w

-- a module is as these inputs leave it
pub record StandsFor (m : ConsensusOrder) (past : Inputs) : Type 0 where
  pub broadcasts : rb.StandsFor m.broadcasts (events_of past)
  pub delivery : deliveries.StandsFor m.delivery (received past) (decisions past)
  pub instances : tables.StandsFor m.instances (λ k. turns_of (tables.members_of m.instances) k past) (suspects past)

-- what instance k has taken where a body was taken last, before a start
abbrev pub heard_by : ℕ → ℕ → Body → Inputs → ℕ → Turns
heard_by n from body past k = hears from (say_of k body) ++ turns_of n k past

-- A body was taken after these inputs; what it decides is not delivered yet.
pub record Heard (m : ConsensusOrder) (from : ℕ) (body : Body) (past : Inputs) : Type 0 where
  pub broadcasts : rb.StandsFor m.broadcasts (events_of (Took from body ∷ past))
  pub delivery : deliveries.IsUpTo m.delivery (items_of (batches (decisions past))) (received (Took from body ∷ past)) (decisions (Took from body ∷ past))
  pub instances : tables.StandsFor m.instances (heard_by (tables.members_of m.instances) from body past) (suspects past)

-- It is delivered; the instance that is due is not started yet.
pub record Ready (m : ConsensusOrder) (from : ℕ) (body : Body) (past : Inputs) : Type 0 where
  pub broadcasts : rb.StandsFor m.broadcasts (events_of (Took from body ∷ past))
  pub delivery : deliveries.StandsFor m.delivery (received (Took from body ∷ past)) (decisions (Took from body ∷ past))
  pub instances : tables.StandsFor m.instances (heard_by (tables.members_of m.instances) from body past) (suspects past)
