use Rattle.std.proofs.Common.{ℕ, ◌≡◌, ◌∷◌, ◌++◌, None, ap, sym, subst, ◌∙◌, arith}
use Rattle.fifo_net.specs.Net.{Took}
use Rattle.consensus_rules.specs.Items.{received}
use Rattle.consensus_rules.specs.Delivered.{decisions}
use Rattle.consensus_rules.specs.Instances.{turns_of}
use Rattle.consensus_rules.specs.Waiting.{in_order, waiting}
use Rattle.waiting_items.specs.Ids.{first_of}
use Rattle.instance_table.specs.Table as tables
use Rattle.consensus_order.specs.ConsensusOrder.{heard_by, suspects}
use Rattle.consensus_order.proofs.Starting.{Begins, begins, none_waits, not_apart, not_some, not_started, nothing_sent}
use Rattle.consensus_order.proofs.consensus.ConsensusOrder.start_next.Goals as goal

pub returns-then-round-ne0-clause-stands : goal.returns-then-round-ne0-clause-stands
returns-then-round-ne0-clause-stands c = λ from body past r.
    let n : ℕ = tables.members_of c.args.self.now.instances in
    not_started c.args.self.now from body past
    (not_apart n from c.in-Some.number c.round.result body past (c.in-Some.ensures.some (received (Took from body ∷ past)) (decisions (Took from body ∷ past)) r.delivery)
    (c.round.ensures (heard_by n from body past) (suspects past) r.instances) c.if-round-ne0.true) r

pub returns-then-round-ne0-clause-sent : goal.returns-then-round-ne0-clause-sent
returns-then-round-ne0-clause-sent c = λ from body past r.
    let n : ℕ = tables.members_of c.args.self.now.instances in
    nothing_sent n (tables.me_of c.args.self.now.instances) from body past c.args.out.now
    (not_apart n from c.in-Some.number c.round.result body past (c.in-Some.ensures.some (received (Took from body ∷ past)) (decisions (Took from body ∷ past)) r.delivery)
    (c.round.ensures (heard_by n from body past) (suspects past) r.instances) c.if-round-ne0.true)

pub returns-in_default-2-clause-stands : goal.returns-in_default-2-clause-stands
returns-in_default-2-clause-stands c = λ from body past r.
    let none : None ≡ first_of (in_order (waiting (Took from body ∷ past))) =
    sym c.in_default-2.is ∙ c.in_ok-batch.ensures.is (received (Took from body ∷ past)) (decisions (Took from body ∷ past)) r.delivery in
    not_started c.args.self.now from body past (not_some (tables.members_of c.args.self.now.instances) from body past (none_waits (waiting (Took from body ∷ past)) none)) r

pub returns-in_default-2-clause-sent : goal.returns-in_default-2-clause-sent
returns-in_default-2-clause-sent c = λ from body past r.
    let none : None ≡ first_of (in_order (waiting (Took from body ∷ past))) =
    sym c.in_default-2.is ∙ c.in_ok-batch.ensures.is (received (Took from body ∷ past)) (decisions (Took from body ∷ past)) r.delivery in
    nothing_sent (tables.members_of c.args.self.now.instances) (tables.me_of c.args.self.now.instances) from body past c.args.out.now
    (not_some (tables.members_of c.args.self.now.instances) from body past (none_waits (waiting (Took from body ∷ past)) none))

pub returns-clause-stands : goal.returns-clause-stands
returns-clause-stands c = λ from body past r.
    let n : ℕ = tables.members_of c.args.self.now.instances in
    let b : Begins n from c.in-Some.number c.in-Some-2.batch body past =
    begins n from c.in-Some.number c.round.result c.in-Some-2.batch body past (omega arith)
    (c.in-Some.ensures.some (received (Took from body ∷ past)) (decisions (Took from body ∷ past)) r.delivery)
    (c.round.ensures (heard_by n from body past) (suspects past) r.instances) c.if-round-ne0.false
    (sym c.in-Some-2.is ∙ c.in_ok-batch.ensures.is (received (Took from body ∷ past)) (decisions (Took from body ∷ past)) r.delivery) in
    record {
      broadcasts = r.broadcasts;
      delivery = r.delivery;
      instances = subst (λ m. tables.StandsFor c.start.new.self (λ k. turns_of m k (Took from body ∷ past)) (suspects past)) (sym c.start.ensures.members)
          (c.in_ok-start.ensures.stands (heard_by n from body past) (λ k. turns_of n k (Took from body ∷ past)) (suspects past) b.undecided b.added b.others r.instances);
    }

pub returns-clause-sent : goal.returns-clause-sent
returns-clause-sent c = λ from body past r.
    let n : ℕ = tables.members_of c.args.self.now.instances in
    let b : Begins n from c.in-Some.number c.in-Some-2.batch body past =
    begins n from c.in-Some.number c.round.result c.in-Some-2.batch body past (omega arith)
    (c.in-Some.ensures.some (received (Took from body ∷ past)) (decisions (Took from body ∷ past)) r.delivery)
    (c.round.ensures (heard_by n from body past) (suspects past) r.instances) c.if-round-ne0.false
    (sym c.in-Some-2.is ∙ c.in_ok-batch.ensures.is (received (Took from body ∷ past)) (decisions (Took from body ∷ past)) r.delivery) in
    c.in_ok-start.ensures.sent (heard_by n from body past) (suspects past) b.undecided r.instances ∙ ap (λ l. c.args.out.now ++ l) (sym (b.sent (tables.me_of c.args.self.now.instances)))
