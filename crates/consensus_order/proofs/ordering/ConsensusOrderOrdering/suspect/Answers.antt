use Rattle.std.proofs.Common.{ℕ, ◌∷◌, ◌++◌, refl, ap, ◌∙◌}
use Rattle.std.proofs.lemmas.Result.{on_ok_weaker}
use Rattle.fifo_net.specs.Net.{Called}
use Rattle.order_trait.specs.Runs.{Suspect, Trust}
use Rattle.consensus_rules.specs.Instances.{numbers, turns_of}
use Rattle.instance_table.specs.Table.{members_of, me_of}
use Rattle.consensus_order.specs.ConsensusOrder.{suspects}
use Rattle.consensus_order.proofs.Calls.{covers, suspected, suspicion_sent, trusted}
use Rattle.consensus_order.proofs.ordering.ConsensusOrderOrdering.suspect.Goals as goal

pub returns-then-on-clause-stands : goal.returns-then-on-clause-stands
returns-then-on-clause-stands c =
    let n : ℕ = members_of c.args.self.now.instances in
    let who : ℕ = c.args.who in
    on_ok_weaker c.suspect.result
    (λ stands past s.
    suspected c.args.self.now _ who c.args.on past c.if-on.true refl refl c.suspect.ensures.members
    (stands (λ k. turns_of n k past) (λ k. turns_of n k (Called (Suspect who) ∷ past)) (suspects past) (suspects (Called (Suspect who) ∷ past)) (λ k. refl) (λ w. refl) s.instances) s)
    c.suspect.ensures.stands

pub returns-then-on-clause-sent : goal.returns-then-on-clause-sent
returns-then-on-clause-sent c =
    let n : ℕ = members_of c.args.self.now.instances in
    on_ok_weaker c.suspect.result
    (λ sent past s.
    sent (λ k. turns_of n k past) (suspects past) (numbers past) (covers n past) s.instances
    ∙ ap (λ l. c.args.out.now ++ l) (suspicion_sent n (me_of c.args.self.now.instances) c.args.who c.args.on past c.if-on.true))
    c.suspect.ensures.sent

pub returns-clause-stands : goal.returns-clause-stands
returns-clause-stands c = λ past s.
    let n : ℕ = members_of c.args.self.now.instances in
    let who : ℕ = c.args.who in
    trusted c.args.self.now _ who c.args.on past c.if-on.false refl refl c.trust.ensures.members
    (c.trust.ensures.stands (λ k. turns_of n k past) (λ k. turns_of n k (Called (Trust who) ∷ past)) (suspects past) (suspects (Called (Trust who) ∷ past)) (λ k. refl) (λ w. refl) s.instances) s
