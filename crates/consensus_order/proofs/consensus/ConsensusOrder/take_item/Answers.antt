use Rattle.std.proofs.Common.{ℕ, Bool, ◌≡◌, inl, inr, true, false, not, refl, ap, sym, subst, ◌∙◌, ◌∷◌, ◌++◌, [], append-nil}
use Rattle.upd_base.specs.declared.item.Item.{Item}
use Rattle.upd_base.specs.declared.body.Body.TheVariants.{Rb}
use Rattle.order_trait.specs.Outbox.{to_all}
use Rattle.reliable_bcast.specs.Rb as rb
use Rattle.reliable_bcast.specs.Rb.{was_received, Received, Event}
use Rattle.reliable_bcast.specs.declared.rb.Seen.TheVariants.{First}
use Rattle.consensus_rules.specs.Items.{begun, knows, received}
use Rattle.consensus_rules.specs.Delivered.{decisions}
use Rattle.consensus_rules.specs.Consensus.{passes_rb}
use Rattle.batch_delivery.specs.Delivery as deliveries
use Rattle.instance_table.specs.Table as tables
use Rattle.consensus_order.specs.ConsensusOrder.{events_of}
use Rattle.consensus_order.proofs.Heard.{again_received, first_begun, first_received, is_rb, passes_all, passes_none, rb_heard, received_before, received_now}
use Rattle.consensus_order.proofs.consensus.ConsensusOrder.take_item.Goals as goal
use Rattle.consensus_order.proofs.consensus.ConsensusOrder.take_item.Goals.{then-pass_on+in_ok-push_all, else-pass_on}

pub returns-in_default-clause-stands : goal.returns-in_default-clause-stands
returns-in_default-clause-stands c = λ from past s.
    let known : knows (received past) c.args.item.now ≡ true =
    again_received past c.args.item.now c.id-origin.result c.id-origin.ensures (sym (c.in_ok-pass_on.ensures.seen (events_of past) s.broadcasts) ∙ c.in_default.is) in
    rb_heard c.args.self.now _ from c.args.item.now c.args.body.now past (is_rb c.args.body.now c.args.item.now c.requires.holds)
    (subst (λ k. rb.StandsFor c.receive.new.self (Received k ∷ events_of past)) c.id-origin.ensures (c.in_ok-pass_on.ensures.stands (events_of past) s.broadcasts))
    (subst (λ l. deliveries.StandsFor c.args.self.now.delivery l (decisions past)) (sym (received_before past from c.args.item.now known)) s.delivery) refl s

pub returns-clause-stands : goal.returns-clause-stands
returns-clause-stands c = λ from past s.
    let fresh : knows (received past) c.args.item.now ≡ false =
    first_received past c.args.item.now c.id-origin.result c.in-First.pass_on c.id-origin.ensures (sym (c.in_ok-pass_on.ensures.seen (events_of past) s.broadcasts) ∙ c.in-First.is) in
    rb_heard c.args.self.now _ from c.args.item.now c.args.body.now past (is_rb c.args.body.now c.args.item.now c.requires.holds)
    (subst (λ k. rb.StandsFor c.receive.new.self (Received k ∷ events_of past)) c.id-origin.ensures (c.in_ok-pass_on.ensures.stands (events_of past) s.broadcasts))
    (subst (λ l. deliveries.StandsFor c.receive-2.new.self l (decisions past)) (sym (received_now past from c.args.item.now fresh))
    (subst (λ x. deliveries.StandsFor c.receive-2.new.self (received past ++ x ∷ []) (decisions past)) c.in_ok-copy.ensures
    (c.in_ok-receive.ensures.stands (received past) (decisions past) (subst (λ x. knows (received past) x ≡ false) (sym c.in_ok-copy.ensures) fresh) s.delivery))) refl s

pub returns-in_default-clause-sent : goal.returns-in_default-clause-sent
returns-in_default-clause-sent c = λ past s.
    let known : knows (received past) c.args.item.now ≡ true =
    again_received past c.args.item.now c.id-origin.result c.id-origin.ensures (sym (c.in_ok-pass_on.ensures.seen (events_of past) s.broadcasts) ∙ c.in_default.is) in
    sym (append-nil c.args.out.now) ∙ ap (λ l. c.args.out.now ++ l)
    (sym (ap (passes_rb (tables.members_of c.args.self.now.instances) past) (is_rb c.args.body.now c.args.item.now c.requires.holds) ∙ passes_none (tables.members_of c.args.self.now.instances) past c.args.item.now (inl known)))

pub returns-clause-sent : goal.returns-clause-sent
returns-clause-sent c = λ past s.
    let n : ℕ = tables.members_of c.args.self.now.instances in
    let item : Item = c.args.item.now in
    let pass : Bool = c.in-First.pass_on in
    let told : rb.seen (events_of past) c.id-origin.result ≡ First pass = sym (c.in_ok-pass_on.ensures.seen (events_of past) s.broadcasts) ∙ c.in-First.is in
    let fresh : knows (received past) item ≡ false = first_received past item c.id-origin.result pass c.id-origin.ensures told in
    let own : knows (begun past) item ≡ not pass = first_begun past item c.id-origin.result pass c.id-origin.ensures told in
    let is : c.args.body.now ≡ Rb item = is_rb c.args.body.now item c.requires.holds in
    elim c.if-pass_on.branch [
      | then-pass_on+in_ok-push_all w ↦
          w.out-is ∙ w.in_ok-push_all.ensures.ok ∙ ap (λ k. c.args.out.now ++ to_all k c.args.body.now) w.members.ensures.is
          ∙ ap (λ l. c.args.out.now ++ l) (ap (to_all n) is ∙ sym (passes_all n past item fresh (own ∙ ap not w.if-pass_on.true)) ∙ ap (passes_rb n past) (sym is))
      | else-pass_on w ↦
          w.out-is ∙ sym (append-nil c.args.out.now)
          ∙ ap (λ l. c.args.out.now ++ l) (sym (passes_none n past item (inr (own ∙ ap not w.if-pass_on.false))) ∙ ap (passes_rb n past) (sym is))
    ]
