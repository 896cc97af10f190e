-- What a module stands for between the receipt of a body and the start of an instance.
use Rattle.std.proofs.Common.{ℕ, ◌^◌, ◌≡◌, ◌≢◌, ◌<◌, ◌≤◌, ◌⊎◌, inl, inr, eqb, Bool, true, false, cond, not, List, [], ◌∷◌, ◌++◌, Option, Some, None, refl, sym, ap, ◌∙◌, subst, arith, append-nil, ◌||◌}
use Rattle.std.specs.Option.{is_some}
use Rattle.std.specs.Ordering.{nat_cmp}
use Rattle.std.specs.BTreeMap.{get}
use Rattle.std.proofs.lemmas.Bool.{cases_Bool, cases_eq, cond-true, cond-false, eq-eqb, ne_eqb}
use Rattle.fifo_net.specs.Net.{Input, Took}
use Rattle.upd_base.specs.declared.item.Item.{Item}
use Rattle.upd_base.specs.declared.body.Body.{Body}
use Rattle.upd_base.specs.declared.body.Body.TheVariants.{Ask, Ord, Req, Ack, Rb, Est, Prop, Reply, Next, Decide, Past}
use Rattle.order_trait.specs.Runs.{Inputs}
use Rattle.order_trait.specs.Outbox.{to_all}
use Rattle.reliable_bcast.specs.Rb as rb
use Rattle.reliable_bcast.specs.declared.rb.Seen.TheVariants.{First, Again}
use Rattle.upd_base.specs.Item.{id_of}
use Rattle.consensus_order.proofs.Broadcasts.{begun_are, received_are}
use Rattle.instance_rules.specs.Say.{Act, Items, Say, Estimates, Proposes, Replies, Moves_on, Decides, Turns}
use Rattle.instance_rules.proofs.Votes.{none_is_some}
use Rattle.consensus_rules.proofs.Projection.{decision_or, decision_turns, or_none}
use Rattle.batch_delivery.proofs.Reach.{later}
use Rattle.instance_table.proofs.Kept.{one_changed}
use Rattle.ct_consensus.specs.declared.instance.Instance.{Instance}
use Rattle.instance_rules.specs.History.{decides, decided, or_else, suspected}
use Rattle.instance_rules.specs.Says.{says, answers}
use Rattle.instance_rules.specs.Place.{place, moves}
use Rattle.instance_rules.specs.Bodies.{say_of, in_instance}
use Rattle.consensus_rules.specs.Items.{knows, add_new, rb_item, received, begun}
use Rattle.consensus_rules.specs.Delivered.{decide_in, decisions, decision, batches, items_of}
use Rattle.consensus_rules.specs.Instances.{hears, number_in, turns_of}
use Rattle.consensus_rules.specs.Consensus.{hears_one, passes_rb, says_on}
use Rattle.batch_delivery.specs.Delivery as deliveries
use Rattle.instance_table.specs.Table as tables
use Rattle.consensus_order.specs.declared.consensus.ConsensusOrder.{ConsensusOrder}
use Rattle.consensus_order.specs.ConsensusOrder.{StandsFor, Heard, events_of, heard_by, suspects}

-- After an Rb: the item was received before, or is received now.
pub item_heard : (m u : ConsensusOrder) (from : ℕ) (item : Item) (past : Inputs) → rb.StandsFor u.broadcasts (events_of (Took from (Rb item) ∷ past))
    → deliveries.StandsFor u.delivery (received (Took from (Rb item) ∷ past)) (decisions past) → u.instances ≡ m.instances → StandsFor m past → Heard u from (Rb item) past
item_heard m u from item past b d same s = record {
  broadcasts = b;
  delivery = subst (λ ds. deliveries.IsUpTo u.delivery (items_of (batches (decisions past))) (received (Took from (Rb item) ∷ past)) ds) (sym (append-nil (decisions past))) d.up_to;
  instances = subst (λ i. tables.StandsFor i (heard_by (tables.members_of i) from (Rb item) past) (suspects past)) (sym same) s.instances;
}

pub received_before : (past : Inputs) (from : ℕ) (item : Item) → knows (received past) item ≡ true → received (Took from (Rb item) ∷ past) ≡ received past
received_before past from item t = cond-true (knows (received past) item) (received past) (received past ++ item ∷ []) t

pub received_now : (past : Inputs) (from : ℕ) (item : Item) → knows (received past) item ≡ false → received (Took from (Rb item) ∷ past) ≡ received past ++ item ∷ []
received_now past from item f = cond-false (knows (received past) item) (received past) (received past ++ item ∷ []) f

pub passes_none : (n : ℕ) (past : Inputs) (item : Item) → (knows (received past) item ≡ true) ⊎ (knows (begun past) item ≡ true) → passes_rb n past (Rb item) ≡ []
passes_none n past item (inl t) = ap (λ b. cond (b || knows (begun past) item) [] (to_all n (Rb item))) t
passes_none n past item (inr t) =
    ap (λ b. cond (knows (received past) item || b) [] (to_all n (Rb item))) t ∙ ap (λ b. cond b [] (to_all n (Rb item))) (or_true (knows (received past) item))
  where
    or_true : (b : Bool) → (b || true) ≡ true
    or_true true = refl
    or_true false = refl

pub passes_all : (n : ℕ) (past : Inputs) (item : Item) → knows (received past) item ≡ false → knows (begun past) item ≡ false → passes_rb n past (Rb item) ≡ to_all n (Rb item)
passes_all n past item f g = ap (λ b. cond (b || knows (begun past) item) [] (to_all n (Rb item))) f ∙ ap (λ b. cond b [] (to_all n (Rb item))) g

-- a body that names an instance
abbrev pub listed : ℕ → Option Items → List (ℕ × Items)
listed k None = []
listed k (Some b) = (k, b) ∷ []

pub record Names (k from : ℕ) (body : Body) (past : Inputs) : Type 0 where
  pub no_item : rb_item body ≡ []
  pub no_event : events_of (Took from body ∷ past) ≡ events_of past
  pub say : Say
  pub says_it : say_of k body ≡ Some say
  pub decides_it : decide_in body ≡ listed k (decides say)
  pub others : (j : ℕ) → j ≢ k → say_of j body ≡ None

same_number : (i k : ℕ) → i ∷ [] ≡ k ∷ [] → i ≡ k
same_number i k e = cc

no_number : {C : Type 0} (k : ℕ) → [] ≡ k ∷ [] → C
no_number k e = absurd cc

pub names : (k from : ℕ) (body : Body) (past : Inputs) → number_in body ≡ k ∷ [] → Names k from body past
names k from (Ask item) past e = no_number k e
names k from (Ord place item) past e = no_number k e
names k from (Req stamp item) past e = no_number k e
names k from (Ack stamp) past e = no_number k e
names k from Past past e = no_number k e
names k from (Rb item) past e = no_number k e
names k from (Est i round stamp batch) past e = record {
  no_item = refl;
  no_event = refl;
  say = Estimates round (record { stamp = stamp; batch = batch });
  says_it = cond-true (eqb i k) (Some (Estimates round (record { stamp = stamp; batch = batch }))) None (eq-eqb i k (same_number i k e));
  decides_it = refl;
  others = λ j ne. cond-false (eqb i j) (Some (Estimates round (record { stamp = stamp; batch = batch }))) None (ne_eqb i j (λ s. ne (sym s ∙ same_number i k e)));
}
names k from (Prop i round batch) past e = record {
  no_item = refl;
  no_event = refl;
  say = Proposes round batch;
  says_it = cond-true (eqb i k) (Some (Proposes round batch)) None (eq-eqb i k (same_number i k e));
  decides_it = refl;
  others = λ j ne. cond-false (eqb i j) (Some (Proposes round batch)) None (ne_eqb i j (λ s. ne (sym s ∙ same_number i k e)));
}
names k from (Reply i round agree) past e = record {
  no_item = refl;
  no_event = refl;
  say = Replies round agree;
  says_it = cond-true (eqb i k) (Some (Replies round agree)) None (eq-eqb i k (same_number i k e));
  decides_it = refl;
  others = λ j ne. cond-false (eqb i j) (Some (Replies round agree)) None (ne_eqb i j (λ s. ne (sym s ∙ same_number i k e)));
}
names k from (Next i round) past e = record {
  no_item = refl;
  no_event = refl;
  say = Moves_on round;
  says_it = cond-true (eqb i k) (Some (Moves_on round)) None (eq-eqb i k (same_number i k e));
  decides_it = refl;
  others = λ j ne. cond-false (eqb i j) (Some (Moves_on round)) None (ne_eqb i j (λ s. ne (sym s ∙ same_number i k e)));
}
names k from (Decide i batch) past e = record {
  no_item = refl;
  no_event = refl;
  say = Decides batch;
  says_it = cond-true (eqb i k) (Some (Decides batch)) None (eq-eqb i k (same_number i k e));
  decides_it = ap (λ j. (j, batch) ∷ []) (same_number i k e);
  others = λ j ne. cond-false (eqb i j) (Some (Decides batch)) None (ne_eqb i j (λ s. ne (sym s ∙ same_number i k e)));
}

-- of an instance that is decided nothing is kept
decided_none : (turns : Turns) (b : Items) (o : Option Instance) → decided turns ≡ Some b → tables.IsKept turns o → o ≡ None
decided_none turns b None e kept = refl
decided_none turns b (Some i) e kept = none_is_some b (sym kept.0 ∙ e)

-- A body of an instance that is decided changes nothing but the list of decisions.
pub decided_heard : (m : ConsensusOrder) (from k : ℕ) (body : Body) (past : Inputs) (b : Items) → k < 2 ^ 64 → number_in body ≡ k ∷ [] → decision k (decisions past) ≡ Some b → StandsFor m past → Heard m from body past
decided_heard m from k body past b low named is s =
    let n : Names k from body past = names k from body past named in
    let ds : List (ℕ × Items) = decisions past in
    let turns : Turns = turns_of (tables.members_of m.instances) k past in
    let was : decided turns ≡ Some b = sym (decision_turns (tables.members_of m.instances) k past) ∙ is in
    let none : get nat_cmp m.instances.running k ≡ None = decided_none turns b (get nat_cmp m.instances.running k) was (s.instances.kept k) in
    record {
      broadcasts = subst (rb.StandsFor m.broadcasts) (sym n.no_event) s.broadcasts;
      delivery = subst (λ rs. deliveries.IsUpTo m.delivery (items_of (batches ds)) rs (decisions (Took from body ∷ past))) (sym (ap (add_new (received past)) n.no_item))
          (later m.delivery m.delivery (received past) ds (decide_in body) refl refl refl
          (λ j lt. s.delivery.up_to.ahead j lt ∙ sym (unchanged n j))
          (λ j le. ap (decision j) n.decides_it ∙ out_of_range n j le (decides n.say))
          s.delivery);
      instances = one_changed m.instances m.instances (λ j. turns_of (tables.members_of m.instances) j past) (heard_by (tables.members_of m.instances) from body past) (suspects past) k refl
          (λ j ne. ap (λ o. hears from o ++ turns_of (tables.members_of m.instances) j past) (n.others j ne)) (λ j ne. refl)
          (λ w. ap (λ o. suspected (hears from o ++ turns) w) n.says_it)
          (subst (tables.IsKept (heard_by (tables.members_of m.instances) from body past k)) (sym none)
          (inr (b, ap (λ o. decided (hears from o ++ turns)) n.says_it ∙ ap (λ o. or_else o (decides n.say)) was))) s.instances;
    }
  where
    out_of_range : Names k from body past → (j : ℕ) → 2 ^ 64 ≤ j → (o : Option Items) → decision j (listed k o) ≡ None
    out_of_range n j le None = refl
    out_of_range n j le (Some c) = cond-false (eqb k j) (Some c) None (ne_eqb k j (λ e. omega (arith, e, le, low)))

    at_other : (j : ℕ) → j ≢ k → (o : Option Items) → decision j (listed k o) ≡ None
    at_other j ne None = refl
    at_other j ne (Some c) = cond-false (eqb k j) (Some c) None (ne_eqb k j (λ e. ne (sym e)))

    unchanged : Names k from body past → (j : ℕ) → decision j (decisions past ++ decide_in body) ≡ decision j (decisions past)
    unchanged n j =
        decision_or j (decisions past) (decide_in body)
        ∙ (elim (cases_eq j k) [
          | inl e ↦
              let at : decision j (decisions past) ≡ Some b = ap (λ z. decision z (decisions past)) e ∙ is in
              ap (λ o. or_else o (decision j (decide_in body))) at ∙ sym at
          | inr ne ↦ ap (λ o. or_else (decision j (decisions past)) o) (ap (decision j) n.decides_it ∙ at_other j ne (decides n.say)) ∙ or_none (decision j (decisions past))
        ])

pub some_of : (o : Option Items) → is_some o ≡ true → (b : Items) × (o ≡ Some b)
some_of None e = absurd cc
some_of (Some b) e = (b, refl)

-- what is said in an instance at the body that names it
pub heard_once : (n me k from : ℕ) (body : Body) (past : Inputs) (say : Say) → say_of k body ≡ Some say → hears_one n me from body past k ≡ in_instance k (says n me (Took from say ∷ turns_of n k past))
heard_once n me k from body past say e = ap (λ o. in_instance k (says_on n me (hears from o) (turns_of n k past))) e

pub silent : (n me : ℕ) (x : Input Act Say) (turns : Turns) (b : Items) → decided turns ≡ Some b → says n me (x ∷ turns) ≡ []
silent n me x turns b e = ap (λ o. cond (is_some o) [] ((moves n turns x (place n turns)).says ++ answers n me turns x)) e

pub silent_sent : (n me k from : ℕ) (body : Body) (past : Inputs) (b : Items) (out : List (ℕ × Body)) → number_in body ≡ k ∷ [] → decision k (decisions past) ≡ Some b → out ≡ out ++ hears_one n me from body past k
silent_sent n me k from body past b out named is =
    let m : Names k from body past = names k from body past named in
    let was : decided (turns_of n k past) ≡ Some b = sym (decision_turns n k past) ∙ is in
    sym (append-nil out) ∙ ap (λ l. out ++ l) (sym (heard_once n me k from body past m.say m.says_it ∙ ap (in_instance k) (silent n me (Took from m.say) (turns_of n k past) b was)))

-- a body of an instance that was not decided
pub say_heard : (m u : ConsensusOrder) (from k : ℕ) (body : Body) (past : Inputs) → Names k from body past → u.broadcasts ≡ m.broadcasts
    → deliveries.IsUpTo u.delivery (items_of (batches (decisions past))) (received past) (decisions past ++ decide_in body)
    → tables.StandsFor u.instances (heard_by (tables.members_of u.instances) from body past) (suspects past) → StandsFor m past → Heard u from body past
say_heard m u from k body past n same d i s = record {
  broadcasts = subst (λ r. rb.StandsFor r (events_of (Took from body ∷ past))) (sym same) (subst (rb.StandsFor m.broadcasts) (sym n.no_event) s.broadcasts);
  delivery = subst (λ rs. deliveries.IsUpTo u.delivery (items_of (batches (decisions past))) rs (decisions (Took from body ∷ past))) (sym (ap (add_new (received past)) n.no_item)) d;
  instances = i;
}

pub none_of : (o : Option Items) → is_some o ≡ false → o ≡ None
none_of None e = refl
none_of (Some b) e = absurd cc

pub decide_of : (k from : ℕ) (body : Body) (past : Inputs) (n : Names k from body past) (i : ℕ) (b : Items) → body ≡ Decide i b → decides n.say ≡ Some b
decide_of k from body past n i b e =
    let said : say_of k (Decide i b) ≡ Some n.say = ap (say_of k) (sym e) ∙ n.says_it in
    elim (cases_Bool (eqb i k)) [
      | inl t ↦
          let is : Some (Decides b) ≡ Some n.say = sym (cond-true (eqb i k) (Some (Decides b)) None t) ∙ said in
          sym (ap decides_or is)
      | inr f ↦ none_is_some n.say (sym (cond-false (eqb i k) (Some (Decides b)) None f) ∙ said)
    ]
  where
    decides_or : Option Say → Option Items
    decides_or None = None
    decides_or (Some say) = decides say

-- what a receipt tells
pub again_received : (past : Inputs) (item : Item) (key : ℕ × ℕ) → key ≡ id_of item → rb.seen (events_of past) key ≡ Again → knows (received past) item ≡ true
again_received past item key is e =
    sym (received_are past item) ∙ (elim (cases_Bool (rb.was_received (events_of past) (id_of item))) [
      | inl t ↦ t
      | inr f ↦ absurd (no_again (not (rb.was_started (events_of past) (id_of item)))
          (sym (ap (λ b. cond b Again (First (not (rb.was_started (events_of past) (id_of item))))) f) ∙ ap (rb.seen (events_of past)) (sym is) ∙ e))
    ])
  where
    no_again : (b : Bool) → First b ≡ Again → ⊥
    no_again b e = absurd cc

pub first_received : (past : Inputs) (item : Item) (key : ℕ × ℕ) (pass : Bool) → key ≡ id_of item → rb.seen (events_of past) key ≡ First pass → knows (received past) item ≡ false
first_received past item key pass is e =
    sym (received_are past item) ∙ (elim (cases_Bool (rb.was_received (events_of past) (id_of item))) [
      | inl t ↦ absurd (no_first pass (sym (ap (λ b. cond b Again (First (not (rb.was_started (events_of past) (id_of item))))) t) ∙ ap (rb.seen (events_of past)) (sym is) ∙ e))
      | inr f ↦ f
    ])
  where
    no_first : (b : Bool) → Again ≡ First b → ⊥
    no_first b e = absurd cc

-- and it is passed on unless its broadcast was begun here
pub first_begun : (past : Inputs) (item : Item) (key : ℕ × ℕ) (pass : Bool) → key ≡ id_of item → rb.seen (events_of past) key ≡ First pass → knows (begun past) item ≡ not pass
first_begun past item key pass is e =
    let at : rb.seen (events_of past) (id_of item) ≡ First pass = ap (rb.seen (events_of past)) (sym is) ∙ e in
    sym (begun_are past item) ∙ told (rb.was_received (events_of past) (id_of item)) (rb.was_started (events_of past) (id_of item)) at
  where
    no_first : (b : Bool) → Again ≡ First b → ⊥
    no_first b e = absurd cc

    same : (a b : Bool) → First a ≡ First b → a ≡ b
    same a b e = cc

    twice : (b : Bool) → b ≡ not (not b)
    twice true = refl
    twice false = refl

    told : (r s : Bool) → cond r Again (First (not s)) ≡ First pass → s ≡ not pass
    told true s e = absurd (no_first pass e)
    told false s e = twice s ∙ ap not (same (not s) pass e)

pub is_rb : (body : Body) (item : Item) → rb_item body ≡ item ∷ [] → body ≡ Rb item
is_rb (Ask x) item e = absurd cc
is_rb (Ord p x) item e = absurd cc
is_rb (Req s x) item e = absurd cc
is_rb (Ack s) item e = absurd cc
is_rb Past item e = absurd cc
is_rb (Rb x) item e = ap (λ z. Rb z) (same x item e)
  where
    same : (x y : Item) → x ∷ [] ≡ y ∷ [] → x ≡ y
    same x y e = cc
is_rb (Est i r s b) item e = absurd cc
is_rb (Prop i r b) item e = absurd cc
is_rb (Reply i r a) item e = absurd cc
is_rb (Next i r) item e = absurd cc
is_rb (Decide i b) item e = absurd cc

pub rb_heard : (m u : ConsensusOrder) (from : ℕ) (item : Item) (body : Body) (past : Inputs) → body ≡ Rb item → rb.StandsFor u.broadcasts (events_of (Took from (Rb item) ∷ past))
    → deliveries.StandsFor u.delivery (received (Took from (Rb item) ∷ past)) (decisions past) → u.instances ≡ m.instances → StandsFor m past → Heard u from body past
rb_heard m u from item body past is b d same s = subst (λ z. Heard u from z past) (sym is) (item_heard m u from item past b d same s)
