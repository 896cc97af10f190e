use Rattle.std.proofs.Common.{ℕ, ◌≡◌, ◌∷◌, ◌++◌, [], None, Some, refl, ap, sym, subst, ◌∙◌, append-nil}
use Rattle.instance_rules.specs.Say.{Items}
use Rattle.consensus_rules.specs.Delivered.{decision, decisions}
use Rattle.consensus_rules.specs.Items.{received}
use Rattle.instance_rules.specs.History.{decides, or_else}
use Rattle.ct_consensus.proofs.Decided.{no_decision}
use Rattle.consensus_rules.specs.Delivered.{batches, items_of}
use Rattle.consensus_rules.specs.Instances.{hears, turns_of}
use Rattle.consensus_rules.proofs.Projection.{decision_turns}
use Rattle.batch_delivery.specs.Delivery as deliveries
use Rattle.instance_table.specs.Table as tables
use Rattle.consensus_order.specs.ConsensusOrder.{heard_by, suspects}
use Rattle.consensus_order.proofs.Heard.{Names, decide_of, listed, none_of, decided_heard, heard_once, names, say_heard, silent_sent, some_of}
use Rattle.consensus_order.proofs.consensus.ConsensusOrder.take_say.Goals as goal

pub returns-then-is_decided-clause-stands : goal.returns-then-is_decided-clause-stands
returns-then-is_decided-clause-stands c = λ past s.
    let b : (b : Items) × (decision c.args.number (decisions past) ≡ Some b) =
    some_of (decision c.args.number (decisions past)) (sym (c.is_decided.ensures (received past) (decisions past) c.requires.counts s.delivery) ∙ c.if-is_decided.true) in
    decided_heard c.args.self.now c.args.from c.args.number c.args.body.now past b.0 c.ranges.number.fits c.requires.names b.1 s

pub returns-then-is_decided-clause-sent : goal.returns-then-is_decided-clause-sent
returns-then-is_decided-clause-sent c = λ past s.
    let b : (b : Items) × (decision c.args.number (decisions past) ≡ Some b) =
    some_of (decision c.args.number (decisions past)) (sym (c.is_decided.ensures (received past) (decisions past) c.requires.counts s.delivery) ∙ c.if-is_decided.true) in
    silent_sent _ _ c.args.number c.args.from c.args.body.now past b.0 c.args.out.now c.requires.names b.1

pub returns-in_ok-decide-in-Decide-2-clause-sent : goal.returns-in_ok-decide-in-Decide-2-clause-sent
returns-in_ok-decide-in-Decide-2-clause-sent c = λ past s.
    let n : Names c.args.number c.args.from c.args.body.now past = names c.args.number c.args.from c.args.body.now past c.requires.names in
    let fresh : decision c.args.number (decisions past) ≡ None =
    none_of (decision c.args.number (decisions past)) (sym (c.is_decided.ensures (received past) (decisions past) c.requires.counts s.delivery) ∙ c.if-is_decided.false) in
    c.in_ok-decide-in-Decide.ensures.sent _ (suspects past) n.say n.says_it (sym (decision_turns _ c.args.number past) ∙ fresh) s.instances
    ∙ ap (λ l. c.args.out.now ++ l) (sym (heard_once _ _ c.args.number c.args.from c.args.body.now past n.say n.says_it))

pub returns-in_ok-decide-in-Decide-2-clause-stands : goal.returns-in_ok-decide-in-Decide-2-clause-stands
returns-in_ok-decide-in-Decide-2-clause-stands c = λ past s.
    let k : ℕ = c.args.number in
    let n : Names k c.args.from c.args.body.now past = names k c.args.from c.args.body.now past c.requires.names in
    let fresh : decision k (decisions past) ≡ None =
    none_of (decision k (decisions past)) (sym (c.is_decided.ensures (received past) (decisions past) c.requires.counts s.delivery) ∙ c.if-is_decided.false) in
    let d : decides n.say ≡ Some c.in-Decide.batch = decide_of k c.args.from c.args.body.now past n c.in-Decide.instance c.in-Decide.batch c.in-Decide.is in
    say_heard c.args.self.now _ c.args.from k c.args.body.now past n refl
    (subst (λ l. deliveries.IsUpTo c.decide-in-Decide.new.self (items_of (batches (decisions past))) (received past) (decisions past ++ l))
    (ap (λ b. (k, b) ∷ []) c.in_ok-copy-in-Decide.ensures ∙ sym (n.decides_it ∙ ap (listed k) d))
    (c.in_ok-decide-in-Decide-2.ensures.stands (received past) (decisions past) fresh s.delivery))
    (subst (λ m. tables.StandsFor c.decide.new.self (heard_by m c.args.from c.args.body.now past) (suspects past)) (sym c.decide.ensures.members)
    (c.in_ok-decide-in-Decide.ensures.stands (λ j. turns_of (tables.members_of c.args.self.now.instances) j past) (heard_by (tables.members_of c.args.self.now.instances) c.args.from c.args.body.now past) (suspects past)
    n.say c.in-Decide.batch d (sym (decision_turns _ k past) ∙ fresh)
    (ap (λ o. hears c.args.from o ++ turns_of (tables.members_of c.args.self.now.instances) k past) n.says_it)
    (λ j ne. ap (λ o. hears c.args.from o ++ turns_of (tables.members_of c.args.self.now.instances) j past) (n.others j ne)) s.instances)) s

pub returns-in_ok-hear-in_default-clause-sent : goal.returns-in_ok-hear-in_default-clause-sent
returns-in_ok-hear-in_default-clause-sent c = λ past s.
    let n : Names c.args.number c.args.from c.args.body.now past = names c.args.number c.args.from c.args.body.now past c.requires.names in
    let fresh : decision c.args.number (decisions past) ≡ None =
    none_of (decision c.args.number (decisions past)) (sym (c.is_decided.ensures (received past) (decisions past) c.requires.counts s.delivery) ∙ c.if-is_decided.false) in
    c.in_ok-hear-in_default.ensures.sent _ (suspects past) n.say n.says_it (sym (decision_turns _ c.args.number past) ∙ fresh) s.instances
    ∙ ap (λ l. c.args.out.now ++ l) (sym (heard_once _ _ c.args.number c.args.from c.args.body.now past n.say n.says_it))

pub returns-in_ok-hear-in_default-clause-stands : goal.returns-in_ok-hear-in_default-clause-stands
returns-in_ok-hear-in_default-clause-stands c = λ past s.
    let k : ℕ = c.args.number in
    let n : Names k c.args.from c.args.body.now past = names k c.args.from c.args.body.now past c.requires.names in
    let fresh : decision k (decisions past) ≡ None =
    none_of (decision k (decisions past)) (sym (c.is_decided.ensures (received past) (decisions past) c.requires.counts s.delivery) ∙ c.if-is_decided.false) in
    let none : decides n.say ≡ None = no_decision k c.args.body.now n.say n.says_it c.in_default.not-Decide in
    say_heard c.args.self.now _ c.args.from k c.args.body.now past n refl
    (subst (λ l. deliveries.IsUpTo c.args.self.now.delivery (items_of (batches (decisions past))) (received past) l)
    (sym (ap (λ l. decisions past ++ l) (n.decides_it ∙ ap (listed k) none) ∙ append-nil (decisions past))) s.delivery.up_to)
    (subst (λ m. tables.StandsFor c.hear.new.self (heard_by m c.args.from c.args.body.now past) (suspects past)) (sym c.hear.ensures.members)
    (c.in_ok-hear-in_default.ensures.stands (λ j. turns_of (tables.members_of c.args.self.now.instances) j past) (heard_by (tables.members_of c.args.self.now.instances) c.args.from c.args.body.now past) (suspects past)
    n.say n.says_it (ap (λ o. or_else o (decides n.say)) (sym (decision_turns _ k past) ∙ fresh) ∙ none)
    (ap (λ o. hears c.args.from o ++ turns_of (tables.members_of c.args.self.now.instances) k past) n.says_it)
    (λ j ne. ap (λ o. hears c.args.from o ++ turns_of (tables.members_of c.args.self.now.instances) j past) (n.others j ne)) s.instances)) s
