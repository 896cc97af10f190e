-- What was received and begun, as the reliable broadcast keeps it.
use Rattle.std.proofs.Common.{◌≡◌, Bool, true, false, cond, [], ◌∷◌, refl, sym, ap, ◌∙◌, ◌||◌, append-nil}
use Rattle.std.proofs.lemmas.List.Folds.{list_any-append}
use Rattle.fifo_net.specs.Net.{Called, Took}
use Rattle.upd_base.specs.Item.{id_of, has_id}
use Rattle.upd_base.specs.declared.item.Item.{Item}
use Rattle.upd_base.specs.declared.body.Body.TheVariants.{Ask, Ord, Req, Ack, Rb, Est, Prop, Reply, Next, Decide, Past}
use Rattle.order_trait.specs.Runs.{Broadcast, Suspect, Trust, Inputs}
use Rattle.reliable_bcast.specs.Rb.{was_received, was_started}
use Rattle.consensus_rules.specs.Items.{knows, received, begun}
use Rattle.batch_delivery.proofs.Lists.{knows_one}
use Rattle.consensus_order.specs.ConsensusOrder.{events_of}

either : (a b : Bool) → cond a true b ≡ (b || a)
either true true = refl
either true false = refl
either false true = refl
either false false = refl

pub received_are : (past : Inputs) (x : Item) → was_received (events_of past) (id_of x) ≡ knows (received past) x
received_are [] x = refl
received_are (Called (Broadcast item) ∷ past) x = received_are past x
received_are (Called (Suspect who) ∷ past) x = received_are past x
received_are (Called (Trust who) ∷ past) x = received_are past x
received_are (Took from (Ask item) ∷ past) x = received_are past x
received_are (Took from (Ord place item) ∷ past) x = received_are past x
received_are (Took from (Req stamp item) ∷ past) x = received_are past x
received_are (Took from (Ack stamp) ∷ past) x = received_are past x
received_are (Took from Past ∷ past) x = received_are past x
received_are (Took from (Rb item) ∷ past) x =
    ap (λ b. cond (has_id (id_of x) item) true b) (received_are past x)
    ∙ either (has_id (id_of x) item) (knows (received past) x) ∙ sym (knows_one (received past) item x)
received_are (Took from (Est instance round stamp batch) ∷ past) x = received_are past x
received_are (Took from (Prop instance round batch) ∷ past) x = received_are past x
received_are (Took from (Reply instance round agree) ∷ past) x = received_are past x
received_are (Took from (Next instance round) ∷ past) x = received_are past x
received_are (Took from (Decide instance batch) ∷ past) x = received_are past x

pub begun_are : (past : Inputs) (x : Item) → was_started (events_of past) (id_of x) ≡ knows (begun past) x
begun_are [] x = refl
begun_are (Called (Broadcast item) ∷ past) x =
    ap (λ b. cond (has_id (id_of x) item) true b) (begun_are past x)
    ∙ either (has_id (id_of x) item) (knows (begun past) x)
    ∙ sym (list_any-append (has_id (id_of x)) (begun past) (item ∷ []) ∙ ap (λ b. knows (begun past) x || b) (or_false (has_id (id_of x) item)))
  where
    or_false : (b : Bool) → (b || false) ≡ b
    or_false true = refl
    or_false false = refl
begun_are (Called (Suspect who) ∷ past) x = begun_are past x ∙ ap (λ l. knows l x) (sym (append-nil (begun past)))
begun_are (Called (Trust who) ∷ past) x = begun_are past x ∙ ap (λ l. knows l x) (sym (append-nil (begun past)))
begun_are (Took from (Ask item) ∷ past) x = begun_are past x
begun_are (Took from (Ord place item) ∷ past) x = begun_are past x
begun_are (Took from (Req stamp item) ∷ past) x = begun_are past x
begun_are (Took from (Ack stamp) ∷ past) x = begun_are past x
begun_are (Took from Past ∷ past) x = begun_are past x
begun_are (Took from (Rb item) ∷ past) x = begun_are past x
begun_are (Took from (Est instance round stamp batch) ∷ past) x = begun_are past x
begun_are (Took from (Prop instance round batch) ∷ past) x = begun_are past x
begun_are (Took from (Reply instance round agree) ∷ past) x = begun_are past x
begun_are (Took from (Next instance round) ∷ past) x = begun_are past x
begun_are (Took from (Decide instance batch) ∷ past) x = begun_are past x
