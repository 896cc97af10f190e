-- What the calls of a module leave it standing for, and what they send.
use Rattle.std.proofs.Common.{ℕ, ◌≡◌, ◌+◌, Bool, true, false, cond, List, [], ◌∷◌, ◌++◌, refl, sym, ap, ◌∙◌, subst, append_assoc}
use Rattle.std.specs.List.{flat_map}
use Rattle.fifo_net.specs.Net.{Called}
use Rattle.upd_base.specs.Item.{id_of}
use Rattle.upd_base.specs.declared.item.Item.{Item}
use Rattle.upd_base.specs.declared.body.Body.{Body}
use Rattle.order_trait.specs.Runs.{Order, Broadcast, Suspect, Trust, Inputs}
use Rattle.reliable_bcast.specs.Rb as rb
use Rattle.reliable_bcast.specs.Rb.{Started}
use Rattle.instance_rules.specs.Say.{Suspects}
use Rattle.instance_rules.specs.Says.{says}
use Rattle.instance_rules.specs.Bodies.{in_instance}
use Rattle.consensus_rules.specs.Items.{received}
use Rattle.consensus_rules.specs.Delivered.{decisions}
use Rattle.consensus_rules.specs.Instances.{numbers, turns_of}
use Rattle.consensus_rules.specs.Consensus.{sends_by}
use Rattle.consensus_rules.proofs.Picks.{Rising, numbers_rise, quiet_turns}
use Rattle.instance_table.specs.Table as tables
use Rattle.instance_table.specs.Table.{Ascend, Covers}
use Rattle.batch_delivery.specs.Delivery as deliveries
use Rattle.consensus_order.specs.declared.consensus.ConsensusOrder.{ConsensusOrder}
use Rattle.consensus_order.specs.ConsensusOrder.{StandsFor, begins, events_of, suspects}

-- The numbers of the instances that a member has heard of or come to cover its inputs.
pub covers : (n : ℕ) (past : Inputs) → Covers (λ k. turns_of n k past) (numbers past)
covers n past = record { ascend = same 0 (numbers past) (numbers_rise past); others = λ k absent. quiet_turns n k past absent }
  where
    same : (low : ℕ) (js : List ℕ) → Rising low js → Ascend low js
    same low [] r = tt
    same low (j ∷ js) r = (r.0, same (j + 1) js r.1)

-- what is sent where a body is taken and where an instance is started
pub sends_all : (old mid new a b c : List (ℕ × Body)) → mid ≡ old ++ (a ++ b) → new ≡ mid ++ c → new ≡ old ++ (a ++ (b ++ c))
sends_all old mid new a b c first then_ =
    then_ ∙ ap (λ l. l ++ c) first ∙ append_assoc old (a ++ b) c ∙ ap (λ l. old ++ l) (append_assoc a b c)

-- A call that begins no broadcast.
pub told : (m u : ConsensusOrder) (order : Order) (past : Inputs) → begins order ≡ [] → u.broadcasts ≡ m.broadcasts → u.delivery ≡ m.delivery → tables.members_of u.instances ≡ tables.members_of m.instances
    → tables.StandsFor u.instances (λ k. turns_of (tables.members_of m.instances) k (Called order ∷ past)) (suspects (Called order ∷ past)) → StandsFor m past → StandsFor u (Called order ∷ past)
told m u order past quiet same_broadcasts same_delivery same_members i s = record {
  broadcasts = subst (λ r. rb.StandsFor r (events_of (Called order ∷ past))) (sym same_broadcasts) (subst (λ l. rb.StandsFor m.broadcasts (l ++ events_of past)) (sym quiet) s.broadcasts);
  delivery = subst (λ d. deliveries.StandsFor d (received past) (decisions past)) (sym same_delivery) s.delivery;
  instances = subst (λ n. tables.StandsFor u.instances (λ k. turns_of n k (Called order ∷ past)) (suspects (Called order ∷ past))) (sym same_members) i;
}

pub suspected : (m u : ConsensusOrder) (who : ℕ) (on : Bool) (past : Inputs) → on ≡ true → u.broadcasts ≡ m.broadcasts → u.delivery ≡ m.delivery → tables.members_of u.instances ≡ tables.members_of m.instances
    → tables.StandsFor u.instances (λ k. turns_of (tables.members_of m.instances) k (Called (Suspect who) ∷ past)) (suspects (Called (Suspect who) ∷ past)) → StandsFor m past
    → StandsFor u (Called (cond on (Suspect who) (Trust who)) ∷ past)
suspected m u who on past is b d n i s = subst (λ o. StandsFor u (Called (cond o (Suspect who) (Trust who)) ∷ past)) (sym is) (told m u (Suspect who) past refl b d n i s)

pub trusted : (m u : ConsensusOrder) (who : ℕ) (on : Bool) (past : Inputs) → on ≡ false → u.broadcasts ≡ m.broadcasts → u.delivery ≡ m.delivery → tables.members_of u.instances ≡ tables.members_of m.instances
    → tables.StandsFor u.instances (λ k. turns_of (tables.members_of m.instances) k (Called (Trust who) ∷ past)) (suspects (Called (Trust who) ∷ past)) → StandsFor m past
    → StandsFor u (Called (cond on (Suspect who) (Trust who)) ∷ past)
trusted m u who on past is b d n i s = subst (λ o. StandsFor u (Called (cond o (Suspect who) (Trust who)) ∷ past)) (sym is) (told m u (Trust who) past refl b d n i s)

-- each instance of a number is told
pub suspicion_sent : (n me who : ℕ) (on : Bool) (past : Inputs) → on ≡ true
    → flat_map (λ k. in_instance k (says n me (Called (Suspects who) ∷ turns_of n k past))) (numbers past) ≡ sends_by n me (Called (cond on (Suspect who) (Trust who)) ∷ past)
suspicion_sent n me who on past is =
    subst (λ o. flat_map (λ k. in_instance k (says n me (Called (Suspects who) ∷ turns_of n k past))) (numbers past) ≡ sends_by n me (Called (cond o (Suspect who) (Trust who)) ∷ past)) (sym is) refl

-- A broadcast was begun.
pub begun_stands : (m u : ConsensusOrder) (item : Item) (key : ℕ × ℕ) (past : Inputs) → key ≡ id_of item → rb.StandsFor u.broadcasts (Started key ∷ events_of past) → u.delivery ≡ m.delivery → u.instances ≡ m.instances
    → StandsFor m past → StandsFor u (Called (Broadcast item) ∷ past)
begun_stands m u item key past is b same_delivery same_instances s = record {
  broadcasts = subst (λ k. rb.StandsFor u.broadcasts (Started k ∷ events_of past)) is b;
  delivery = subst (λ d. deliveries.StandsFor d (received past) (decisions past)) (sym same_delivery) s.delivery;
  instances = subst (λ i. tables.StandsFor i (λ k. turns_of (tables.members_of i) k (Called (Broadcast item) ∷ past)) (suspects (Called (Broadcast item) ∷ past))) (sym same_instances) s.instances;
}
