-- Of each kind a run of two members in which member 1 broadcasts one message; the newest step comes first.
use Rattle.std.specs.Prelude.{true, List, [], ◌∷◌}
use Rattle.fifo_net.specs.Net.{Called, Took}
use Rattle.upd_base.specs.declared.item.Item.{Item}
use Rattle.upd_base.specs.declared.item.Item.TheVariants.{Msg}
use Rattle.upd_base.specs.declared.body.Body.TheVariants.{Ask, Ord, Req, Ack, Rb, Est, Prop, Reply, Decide}
use Rattle.order_trait.specs.Runs.{Broadcast, Steps}

-- member 1's message with the number 0: the byte a
abbrev pub message : Item
message = Msg 1 0 (97 ∷ [])

-- Member 1 asks the sequencer, member 0, which gives the place 1; then both take it.
abbrev pub sequencer_run : Steps
sequencer_run =
    record { at = 1; input = Took 0 (Ord 1 message) }
    ∷ record { at = 0; input = Took 0 (Ord 1 message) }
    ∷ record { at = 0; input = Took 1 (Ask message) }
    ∷ record { at = 1; input = Called (Broadcast message) }
    ∷ []

-- Member 1 sends a request with the stamp 1; member 0 takes it and acknowledges with the stamp 2, which both take.
abbrev pub lamport_run : Steps
lamport_run =
    record { at = 1; input = Took 0 (Ack 2) }
    ∷ record { at = 0; input = Took 0 (Ack 2) }
    ∷ record { at = 0; input = Took 1 (Req 1 message) }
    ∷ record { at = 1; input = Took 1 (Req 1 message) }
    ∷ record { at = 1; input = Called (Broadcast message) }
    ∷ []

-- Member 1 diffuses the message, and both start instance 1 with it. Member 0 coordinates round 1: it proposes at the second
-- estimate, and decides at the second reply.
abbrev pub batch : List Item
batch = message ∷ []

abbrev pub consensus_run : Steps
consensus_run =
    record { at = 1; input = Took 0 (Decide 1 batch) }
    ∷ record { at = 0; input = Took 0 (Decide 1 batch) }
    ∷ record { at = 0; input = Took 1 (Reply 1 1 true) }
    ∷ record { at = 0; input = Took 0 (Reply 1 1 true) }
    ∷ record { at = 1; input = Took 0 (Prop 1 1 batch) }
    ∷ record { at = 0; input = Took 0 (Prop 1 1 batch) }
    ∷ record { at = 0; input = Took 0 (Est 1 1 0 batch) }
    ∷ record { at = 0; input = Took 1 (Est 1 1 0 batch) }
    ∷ record { at = 0; input = Took 0 (Rb message) }
    ∷ record { at = 1; input = Took 0 (Rb message) }
    ∷ record { at = 1; input = Took 1 (Rb message) }
    ∷ record { at = 0; input = Took 1 (Rb message) }
    ∷ record { at = 1; input = Called (Broadcast message) }
    ∷ []
