use Rattle.std.proofs.Common.{ℕ, zero, suc, ◌+◌, ◌*◌, ◌≡◌, ◌<◌, ◌≤◌, inl, inr, eqb, true, false, cond, List, [], ◌∷◌, ◌++◌, length, Option, Some, None, refl, sym, ap, ◌∙◌, subst, arith, append-nil, append_assoc, ◌||◌, length-append}
use Rattle.std.specs.List.{Contains, All, flat_map, count_by, list_any, cons_option}
use Rattle.std.specs.Option.{is_some}
use Rattle.std.proofs.lemmas.Bool.{cases_Bool, cond_both, cond-true, cond-false, eq-eqb, ne_eqb, or_cases, or_left, or_right, both_ways, false_from_ne_true, true≢false}
use Rattle.std.proofs.lemmas.List.Elements.{Contains-append_left, Contains-append_right, Contains-append_cases, Contains-push, All-nil, All-cons, All-append, All-contains, All-weaker, All-head, All-tail}
use Rattle.std.proofs.lemmas.List.Folds.{list_any-append}
use Rattle.std.proofs.lemmas.List.Sums.{sum_by-cons}
use Rattle.fifo_net.specs.Net.{Input, Called, Took, Step, inputs_of, sent, taken_on, sent_on, bodies_to, MayCome, IsRun}
use Rattle.fifo_net.proofs.Links.{inputs_step, inputs_here, inputs_away, IsPrefix-append}
use Rattle.fifo_net.proofs.Lists.{Contains-prefix}
use Rattle.upd_base.specs.Item.{id_of, has_id}
use Rattle.upd_base.specs.declared.item.Item.{Item}
use Rattle.upd_base.specs.declared.body.Body.{Body}
use Rattle.upd_base.specs.declared.body.Body.TheVariants.{Ask, Ord, Req, Ack, Rb, Est, Prop, Reply, Next, Decide, Past}
use Rattle.order_trait.specs.Runs.{Order, Broadcast, Suspect, Trust, Inputs, Steps, StepsFit, InputFits, broadcast_at, broadcast_in, suspects, suspects_in, sent_in, KeepsBound}
use Rattle.order_trait.specs.Outbox.{to_all}
use Rattle.order_trait.proofs.Sums.{sum_below, sum_below-none, sum_below-same, sum_below-le, sum_below-more}
use Rattle.order_trait.proofs.Broadcasts.{broadcasts, broadcasts_among}
use Rattle.instance_rules.specs.Say.{Items, Starts, Say, Estimates, Proposes, Replies, Moves_on, Decides, Turns, coordinator}
use Rattle.instance_rules.specs.Says.{says}
use Rattle.consensus_rules.specs.Items.{knows, add_new, rb_item, received, begun, begun_at}
use Rattle.consensus_rules.specs.Delivered.{next}
use Rattle.consensus_rules.specs.Waiting.{waiting, next_batch}
use Rattle.instance_rules.specs.Bodies.{say_of, body_of, in_instance}
use Rattle.consensus_rules.specs.Instances.{is_due, number_in, hears, start_of, adds, turns_of, numbers}
use Rattle.consensus_rules.specs.Consensus.{passes_rb, says_on, starts_up, suspects_one, hears_one, sends_by}
use Rattle.instance_rules.proofs.Votes.{none, weigh}
use Rattle.instance_rules.proofs.Said.{said, bodies_among}
use Rattle.consensus_rules.proofs.Delivered.{add_new_more, counted_new}
use Rattle.consensus_rules.proofs.Picks.{tag, pick, pick_append, picks, unsaid}
use Rattle.consensus_rules.specs.Projection.{rounds_of}
use Rattle.consensus_rules.proofs.Projection.{inputs_rounds, run_rounds}
use Rattle.consensus_agreement.proofs.Integrity.{received_broadcast, all_to}
use Rattle.consensus_fulfilment.proofs.Calm.{Good, good_run}
use Rattle.consensus_fulfilment.proofs.Fulfil.{calm_rounds}
use Rattle.consensus_bound.proofs.Counts.{said_bound}
use Rattle.consensus_agreement.proofs.Fresh.{fits_in, next_bound}
use Rattle.consensus_rules.proofs.Known.{contains_knows, has_its_id, known_item, knows_added, knows_more}
use Rattle.consensus_rules.proofs.Begun.{Due, due}
use Rattle.upd_base.specs.declared.kind.Kind.TheVariants.{Consensus}

-- all that a member has sent, and to whom
abbrev outs : ℕ → ℕ → Inputs → List (ℕ × Body)
outs n me [] = []
outs n me (x ∷ past) = outs n me past ++ sends_by n me (x ∷ past)

kind_sent : (n me to : ℕ) (inputs : Inputs) (y : Body) → Contains (sent (sends_by n) me to inputs) y → Contains (outs n me inputs) (to, y)
kind_sent n me to [] y h = none y h
kind_sent n me to (x ∷ past) y h =
    elim (Contains-append_cases (sent (sends_by n) me to past) (bodies_to to (sends_by n me (x ∷ past))) y h) [
      | inl old ↦ Contains-append_left (outs n me past) (sends_by n me (x ∷ past)) (to, y) (kind_sent n me to past y old)
      | inr new ↦ Contains-append_right (outs n me past) (sends_by n me (x ∷ past)) (to, y) (bodies_among to (sends_by n me (x ∷ past)) y new)
    ]

-- the sum over the members
sent_sum : (n : ℕ) (past : Steps) → StepsFit n past → sent_in (sends_by n) past ≡ sum_below n (λ j. length (outs n j (inputs_of j past)))
sent_sum n [] fit = sym (sum_below-none n)
sent_sum n (s ∷ past) fit =
    let now : ℕ → ℕ = λ j. length (outs n j (inputs_of j (s ∷ past))) in
    let before : ℕ → ℕ = λ j. length (outs n j (inputs_of j past)) in
    let new : ℕ = length (sends_by n s.at (s.input ∷ inputs_of s.at past)) in
    let here : now s.at ≡ before s.at + new =
    ap (λ l. length (outs n s.at l)) (inputs_here s.at s past refl) ∙ length-append (outs n s.at (inputs_of s.at past)) (sends_by n s.at (s.input ∷ inputs_of s.at past)) in
    let away : (j : ℕ) → (s.at ≡ j → ⊥) → now j ≡ before j = λ j ne. ap (λ l. length (outs n j l)) (inputs_away j s past ne) in
    let more : sum_below n now ≡ sum_below n before + new = sum_below-more n s.at new before now fit.0 here away in
    let old : sent_in (sends_by n) past ≡ sum_below n before = sent_sum n past fit.2 in
    omega (arith, more, old)

-- what was said in an instance
said_over : (n me : ℕ) (new turns : Turns) → said n me (new ++ turns) ≡ said n me turns ++ says_on n me new turns
said_over n me [] turns = sym (append-nil (said n me turns))
said_over n me (t ∷ ts) turns =
    ap (λ l. l ++ says n me (t ∷ (ts ++ turns))) (said_over n me ts turns)
    ∙ append_assoc (said n me turns) (says_on n me ts turns) (says n me (t ∷ (ts ++ turns)))

pick_outs : (n me k : ℕ) (inputs : Inputs) → pick k (outs n me inputs) ≡ said n me (turns_of n k inputs)
pick_outs n me k [] = refl
pick_outs n me k (x ∷ past) =
    pick_append k (outs n me past) (sends_by n me (x ∷ past))
    ∙ ap (λ l. l ++ pick k (sends_by n me (x ∷ past))) (pick_outs n me k past)
    ∙ ap (λ l. said n me (turns_of n k past) ++ l) (picks n me k x past)
    ∙ sym (said_over n me (adds n k x past (turns_of n k past)) (turns_of n k past))

-- every body is an Rb or of an instance from 1 to the number of items
abbrev InRange : ℕ → Body → Type 0
InRange top (Ask item) = ⊥
InRange top (Ord p item) = ⊥
InRange top (Req stamp item) = ⊥
InRange top (Ack stamp) = ⊥
InRange top Past = ⊥
InRange top (Rb item) = Unit {0}
InRange top (Est instance round stamp batch) = (1 ≤ instance) × (instance ≤ top)
InRange top (Prop instance round batch) = (1 ≤ instance) × (instance ≤ top)
InRange top (Reply instance round agree) = (1 ≤ instance) × (instance ≤ top)
InRange top (Next instance round) = (1 ≤ instance) × (instance ≤ top)
InRange top (Decide instance batch) = (1 ≤ instance) × (instance ≤ top)

higher : (low top : ℕ) (b : Body) → low ≤ top → InRange low b → InRange top b
higher low top (Ask item) le h = h
higher low top (Ord p item) le h = h
higher low top (Req stamp item) le h = h
higher low top (Ack stamp) le h = h
higher low top Past le h = h
higher low top (Rb item) le h = tt
higher low top (Est instance round stamp batch) le h = let l : instance ≤ low = h.1 in (h.0, omega arith)
higher low top (Prop instance round batch) le h = let l : instance ≤ low = h.1 in (h.0, omega arith)
higher low top (Reply instance round agree) le h = let l : instance ≤ low = h.1 in (h.0, omega arith)
higher low top (Next instance round) le h = let l : instance ≤ low = h.1 in (h.0, omega arith)
higher low top (Decide instance batch) le h = let l : instance ≤ low = h.1 in (h.0, omega arith)

one_range : (top k : ℕ) (say : Say) → 1 ≤ k → k ≤ top → InRange top (body_of k say)
one_range top k (Estimates round held) a b = (a, b)
one_range top k (Proposes round batch) a b = (a, b)
one_range top k (Replies round agree) a b = (a, b)
one_range top k (Moves_on round) a b = (a, b)
one_range top k (Decides batch) a b = (a, b)

instance_range : (top k : ℕ) (ps : List (ℕ × Say)) → 1 ≤ k → k ≤ top → All (λ p. InRange top p.1) (in_instance k ps)
instance_range top k [] a b = All-nil (λ p. InRange top p.1)
instance_range top k (p ∷ ps) a b = All-cons (λ q. InRange top q.1) (p.0, body_of k p.1) (in_instance k ps) (one_range top k p.1 a b) (instance_range top k ps a b)

passes_range : (top n : ℕ) (past : Inputs) (body : Body) → All (λ p. InRange top p.1) (passes_rb n past body)
passes_range top n past (Ask item) = All-nil (λ p. InRange top p.1)
passes_range top n past (Ord p item) = All-nil (λ p. InRange top p.1)
passes_range top n past (Req stamp item) = All-nil (λ p. InRange top p.1)
passes_range top n past (Ack stamp) = All-nil (λ p. InRange top p.1)
passes_range top n past Past = All-nil (λ p. InRange top p.1)
passes_range top n past (Rb item) = cond_both (knows (received past) item || knows (begun past) item) [] (to_all n (Rb item)) (All (λ p. InRange top p.1)) (λ t. All-nil (λ p. InRange top p.1)) (λ t. all_to (λ p. InRange top p.1) n (Rb item) (λ to. tt))
passes_range top n past (Est instance round stamp batch) = All-nil (λ p. InRange top p.1)
passes_range top n past (Prop instance round batch) = All-nil (λ p. InRange top p.1)
passes_range top n past (Reply instance round agree) = All-nil (λ p. InRange top p.1)
passes_range top n past (Next instance round) = All-nil (λ p. InRange top p.1)
passes_range top n past (Decide instance batch) = All-nil (λ p. InRange top p.1)

heard_range : (top n me from : ℕ) (body : Body) (past : Inputs) → InRange top body → All (λ p. InRange top p.1) (flat_map (hears_one n me from body past) (number_in body))
heard_range top n me from (Ask item) past h = All-nil (λ p. InRange top p.1)
heard_range top n me from (Ord p item) past h = All-nil (λ p. InRange top p.1)
heard_range top n me from (Req stamp item) past h = All-nil (λ p. InRange top p.1)
heard_range top n me from (Ack stamp) past h = All-nil (λ p. InRange top p.1)
heard_range top n me from Past past h = All-nil (λ p. InRange top p.1)
heard_range top n me from (Rb item) past h = All-nil (λ p. InRange top p.1)
heard_range top n me from (Est k round stamp batch) past h = All-append (λ p. InRange top p.1) (hears_one n me from (Est k round stamp batch) past k) [] (instance_range top k (says_on n me (hears from (say_of k (Est k round stamp batch))) (turns_of n k past)) h.0 h.1) (All-nil (λ p. InRange top p.1))
heard_range top n me from (Prop k round batch) past h = All-append (λ p. InRange top p.1) (hears_one n me from (Prop k round batch) past k) [] (instance_range top k (says_on n me (hears from (say_of k (Prop k round batch))) (turns_of n k past)) h.0 h.1) (All-nil (λ p. InRange top p.1))
heard_range top n me from (Reply k round agree) past h = All-append (λ p. InRange top p.1) (hears_one n me from (Reply k round agree) past k) [] (instance_range top k (says_on n me (hears from (say_of k (Reply k round agree))) (turns_of n k past)) h.0 h.1) (All-nil (λ p. InRange top p.1))
heard_range top n me from (Next k round) past h = All-append (λ p. InRange top p.1) (hears_one n me from (Next k round) past k) [] (instance_range top k (says_on n me (hears from (say_of k (Next k round))) (turns_of n k past)) h.0 h.1) (All-nil (λ p. InRange top p.1))
heard_range top n me from (Decide k batch) past h = All-append (λ p. InRange top p.1) (hears_one n me from (Decide k batch) past k) [] (instance_range top k (says_on n me (hears from (say_of k (Decide k batch))) (turns_of n k past)) h.0 h.1) (All-nil (λ p. InRange top p.1))

start_range : (top n me : ℕ) (inputs : Inputs) (turns : Turns) → (1 ≤ length (waiting inputs) → next inputs ≤ top)
    → All (λ p. InRange top p.1) (in_instance (next inputs) (says_on n me (start_of n (next inputs) inputs turns) turns))
start_range top n me inputs turns h =
    let k : ℕ = next inputs in
    cond_both (is_due n k inputs turns) (Called (Starts (next_batch inputs)) ∷ []) []
    (λ l. All (λ p. InRange top p.1) (in_instance k (says_on n me l turns)))
    (λ t.
    let d : Due n k inputs turns = due n k inputs turns t in
    let some : 0 < length (waiting inputs) = d.some in
    instance_range top k (says_on n me (Called (Starts (next_batch inputs)) ∷ []) turns) (omega arith) (h (omega arith)))
    (λ t. All-nil (λ p. InRange top p.1))

new_range : (top n me : ℕ) (x : Input Order Body) (past : Inputs) → suspects x ≡ 0 → ((from : ℕ) (body : Body) → x ≡ Took from body → InRange top body)
    → (1 ≤ length (waiting (x ∷ past)) → next (x ∷ past) ≤ top) → All (λ p. InRange top p.1) (sends_by n me (x ∷ past))
new_range top n me (Called (Broadcast item)) past c was nb = all_to (λ p. InRange top p.1) n (Rb item) (λ to. tt)
new_range top n me (Called (Suspect who)) past c was nb = absurd (omega (arith, c))
new_range top n me (Called (Trust who)) past c was nb = All-nil (λ p. InRange top p.1)
new_range top n me (Took from body) past c was nb =
    let P : ℕ × Body → Type 0 = (λ p. InRange top p.1) in
    let k : ℕ = next (Took from body ∷ past) in
    let turns : Turns = hears from (say_of k body) ++ turns_of n k past in
    let heard : List (ℕ × Body) = flat_map (hears_one n me from body past) (number_in body) in
    let up : List (ℕ × Body) = starts_up n me k (Took from body ∷ past) turns in
    All-append P (passes_rb n past body) (heard ++ up) (passes_range top n past body)
    (All-append P heard up (heard_range top n me from body past (was from body refl)) (start_range top n me (Took from body ∷ past) turns nb))

longer : (s : Step Order Body) (past : Steps) → length (broadcast_in past) ≤ length (broadcast_in (s ∷ past))
longer s past = omega (arith, length-append (broadcast_at s.input) (broadcast_in past))

all_range : (n : ℕ) (past : Steps) → IsRun (sends_by n) past → StepsFit n past → suspects_in past ≡ 0 → (j : ℕ) → All (λ p. InRange (length (broadcast_in past)) p.1) (outs n j (inputs_of j past))
all_range n [] run fit c j = All-nil (λ p. InRange 0 p.1)
all_range n (s ∷ past) run fit c j =
    let top : ℕ = length (broadcast_in (s ∷ past)) in
    let old : (i : ℕ) → All (λ p. InRange top p.1) (outs n i (inputs_of i past)) = (λ i.
    All-weaker (λ p. InRange (length (broadcast_in past)) p.1) (λ p. InRange top p.1) (λ p h. higher (length (broadcast_in past)) top p.1 (longer s past) h) (outs n i (inputs_of i past))
    (all_range n past run.1 fit.2 (omega (arith, c)) i)) in
    inputs_step (λ l. All (λ p. InRange top p.1) (outs n j l)) j s past
    (λ e. All-append (λ p. InRange top p.1) (outs n j (inputs_of j past)) (sends_by n j (s.input ∷ inputs_of j past)) (old j)
    (new_range top n j s.input (inputs_of j past) (omega (arith, c))
    (λ from body is.
    let may : MayCome (sends_by n) past s.at (Took from body) = subst (MayCome (sends_by n) past s.at) is run.0 in
    let was : Contains (sent_on (sends_by n) from s.at past) body = Contains-prefix (taken_on from s.at past ++ body ∷ []) (sent_on (sends_by n) from s.at past) body may (Contains-push (taken_on from s.at past) body) in
    All-contains (λ p. InRange top p.1) (outs n from (inputs_of from past)) (s.at, body) (old from) (kind_sent n from s.at (inputs_of from past) body was))
    (subst (λ l. 1 ≤ length (waiting l) → next l ≤ top) (inputs_here j s past e) (next_bound n (s ∷ past) run fit j))))
    (old j)

-- counted by instances
abbrev rb_one : Body → ℕ
rb_one (Rb item) = 1
rb_one body = 0

abbrev rbs : List (ℕ × Body) → ℕ
rbs [] = 0
rbs (p ∷ ps) = rb_one p.1 + rbs ps

length_cons : {A : Type 0} (o : Option A) (l : List A) → length (cons_option o l) ≡ weigh (is_some o) + length l
length_cons None l = omega arith
length_cons (Some x) l = omega arith

tag_some : (to : ℕ) (o : Option Say) → is_some (tag to o) ≡ is_some o
tag_some to None = refl
tag_some to (Some say) = refl

one_more : (top k : ℕ) (p : ℕ × Body) (ps : List (ℕ × Body)) → 1 ≤ k → k ≤ top → is_some (say_of k p.1) ≡ true → ((j : ℕ) → (k ≡ j → ⊥) → say_of j p.1 ≡ None)
    → sum_below top (λ j. length (pick (suc j) (p ∷ ps))) ≡ sum_below top (λ j. length (pick (suc j) ps)) + 1
one_more top zero p ps a b some other = absurd (omega arith)
one_more top (suc i) p ps a b some other =
    sum_below-more top i 1 (λ j. length (pick (suc j) ps)) (λ j. length (pick (suc j) (p ∷ ps))) (omega arith)
    (let l : length (pick (suc i) (p ∷ ps)) ≡ weigh (is_some (tag p.0 (say_of (suc i) p.1))) + length (pick (suc i) ps) = length_cons (tag p.0 (say_of (suc i) p.1)) (pick (suc i) ps) in
    let w : weigh (is_some (tag p.0 (say_of (suc i) p.1))) ≡ 1 = ap weigh (tag_some p.0 (say_of (suc i) p.1)) ∙ ap weigh some in
    omega (arith, l, w))
    (λ j ne. ap (λ o. length (cons_option (tag p.0 o) (pick (suc j) ps))) (other (suc j) (λ e. ne (omega (arith, e)))))

none_more : (top : ℕ) (p : ℕ × Body) (ps : List (ℕ × Body)) → ((j : ℕ) → say_of j p.1 ≡ None) → sum_below top (λ j. length (pick (suc j) (p ∷ ps))) ≡ sum_below top (λ j. length (pick (suc j) ps))
none_more top p ps h = sum_below-same top (λ j. length (pick (suc j) (p ∷ ps))) (λ j. length (pick (suc j) ps)) (λ j lt. ap (λ o. length (cons_option (tag p.0 o) (pick (suc j) ps))) (h (suc j)))

single : (k j : ℕ) → (k ≡ j → ⊥) → (eqb k j || false) ≡ false
single k j ne = ap (λ b. b || false) (ne_eqb k j ne)

by_body : (top to : ℕ) (b : Body) (ps : List (ℕ × Body)) → InRange top b
    → 1 + sum_below top (λ j. length (pick (suc j) ps)) ≤ rb_one b + sum_below top (λ j. length (pick (suc j) ((to, b) ∷ ps)))
by_body top to (Ask item) ps h = absurd h
by_body top to (Ord p item) ps h = absurd h
by_body top to (Req stamp item) ps h = absurd h
by_body top to (Ack stamp) ps h = absurd h
by_body top to Past ps h = absurd h
by_body top to (Rb item) ps h = omega (arith, none_more top (to, Rb item) ps (λ j. refl))
by_body top to (Est k round stamp batch) ps h = omega (arith, one_more top k (to, Est k round stamp batch) ps h.0 h.1 (ap is_some (cond-true (eqb k k) (Some (Estimates round (record { stamp = stamp; batch = batch }))) None (eq-eqb k k refl))) (λ j ne. unsaid j (Est k round stamp batch) (single k j ne)))
by_body top to (Prop k round batch) ps h = omega (arith, one_more top k (to, Prop k round batch) ps h.0 h.1 (ap is_some (cond-true (eqb k k) (Some (Proposes round batch)) None (eq-eqb k k refl))) (λ j ne. unsaid j (Prop k round batch) (single k j ne)))
by_body top to (Reply k round agree) ps h = omega (arith, one_more top k (to, Reply k round agree) ps h.0 h.1 (ap is_some (cond-true (eqb k k) (Some (Replies round agree)) None (eq-eqb k k refl))) (λ j ne. unsaid j (Reply k round agree) (single k j ne)))
by_body top to (Next k round) ps h = omega (arith, one_more top k (to, Next k round) ps h.0 h.1 (ap is_some (cond-true (eqb k k) (Some (Moves_on round)) None (eq-eqb k k refl))) (λ j ne. unsaid j (Next k round) (single k j ne)))
by_body top to (Decide k batch) ps h = omega (arith, one_more top k (to, Decide k batch) ps h.0 h.1 (ap is_some (cond-true (eqb k k) (Some (Decides batch)) None (eq-eqb k k refl))) (λ j ne. unsaid j (Decide k batch) (single k j ne)))

count_length : (top : ℕ) (ps : List (ℕ × Body)) → All (λ p. InRange top p.1) ps → length ps ≤ rbs ps + sum_below top (λ j. length (pick (suc j) ps))
count_length top [] h = omega arith
count_length top (p ∷ ps) h =
    let here : 1 + sum_below top (λ j. length (pick (suc j) ps)) ≤ rb_one p.1 + sum_below top (λ j. length (pick (suc j) (p ∷ ps))) = by_body top p.0 p.1 ps (All-head (λ q. InRange top q.1) p ps h) in
    let rest : length ps ≤ rbs ps + sum_below top (λ j. length (pick (suc j) ps)) = count_length top ps (All-tail (λ q. InRange top q.1) p ps h) in
    omega (arith, here, rest)

-- the items that a member has sent an Rb of
abbrev passed : Inputs → Body → Items
passed past (Rb item) = cond (knows (received past) item || knows (begun past) item) [] (item ∷ [])
passed past body = []

abbrev told : Inputs → Items
told [] = []
told (Called order ∷ past) = told past ++ begun_at order
told (Took from body ∷ past) = told past ++ passed past body

rbs_append : (ps qs : List (ℕ × Body)) → rbs (ps ++ qs) ≡ rbs ps + rbs qs
rbs_append [] qs = omega arith
rbs_append (p ∷ ps) qs = omega (arith, rbs_append ps qs)

rbs_all : (n : ℕ) (item : Item) → rbs (to_all n (Rb item)) ≡ n
rbs_all zero item = refl
rbs_all (suc n) item = omega (arith, rbs_append (to_all n (Rb item)) ((n, Rb item) ∷ []), rbs_all n item)

no_rb : (k : ℕ) (say : Say) → rb_one (body_of k say) ≡ 0
no_rb k (Estimates round held) = refl
no_rb k (Proposes round batch) = refl
no_rb k (Replies round agree) = refl
no_rb k (Moves_on round) = refl
no_rb k (Decides batch) = refl

rbs_instance : (k : ℕ) (ps : List (ℕ × Say)) → rbs (in_instance k ps) ≡ 0
rbs_instance k [] = refl
rbs_instance k (p ∷ ps) = omega (arith, no_rb k p.1, rbs_instance k ps)

rbs_flat : (f : ℕ → List (ℕ × Body)) (js : List ℕ) → ((j : ℕ) → rbs (f j) ≡ 0) → rbs (flat_map f js) ≡ 0
rbs_flat f [] h = refl
rbs_flat f (j ∷ js) h = omega (arith, rbs_append (f j) (flat_map f js), h j, rbs_flat f js h)

rbs_passed : (n : ℕ) (past : Inputs) (body : Body) → rbs (passes_rb n past body) ≡ n * length (passed past body)
rbs_passed n past (Ask item) = omega arith
rbs_passed n past (Ord p item) = omega arith
rbs_passed n past (Req stamp item) = omega arith
rbs_passed n past (Ack stamp) = omega arith
rbs_passed n past Past = omega arith
rbs_passed n past (Rb item) =
    elim (knows (received past) item || knows (begun past) item) as (λ b. rbs (cond b [] (to_all n (Rb item))) ≡ n * length (cond b [] (item ∷ []))) [
      | true ↦ omega arith
      | false ↦ omega (arith, rbs_all n item)
    ]
rbs_passed n past (Est instance round stamp batch) = omega arith
rbs_passed n past (Prop instance round batch) = omega arith
rbs_passed n past (Reply instance round agree) = omega arith
rbs_passed n past (Next instance round) = omega arith
rbs_passed n past (Decide instance batch) = omega arith

abbrev told_at : Input Order Body → Inputs → Items
told_at (Called order) past = begun_at order
told_at (Took from body) past = passed past body

told_step : (x : Input Order Body) (past : Inputs) → told (x ∷ past) ≡ told past ++ told_at x past
told_step (Called order) past = refl
told_step (Took from body) past = refl

rbs_step : (n me : ℕ) (x : Input Order Body) (past : Inputs) → rbs (sends_by n me (x ∷ past)) ≡ n * length (told_at x past)
rbs_step n me (Called (Broadcast item)) past = omega (arith, rbs_all n item)
rbs_step n me (Called (Suspect who)) past =
    omega (arith, rbs_flat (suspects_one n me (Called (Suspect who)) past) (numbers past) (λ j. rbs_instance j (says_on n me (adds n j (Called (Suspect who)) past (turns_of n j past)) (turns_of n j past))))
rbs_step n me (Called (Trust who)) past = omega arith
rbs_step n me (Took from body) past =
    let k : ℕ = next (Took from body ∷ past) in
    let turns : Turns = hears from (say_of k body) ++ turns_of n k past in
    let heard : List (ℕ × Body) = flat_map (hears_one n me from body past) (number_in body) in
    let up : List (ℕ × Body) = starts_up n me k (Took from body ∷ past) turns in
    let a : rbs (passes_rb n past body ++ (heard ++ up)) ≡ rbs (passes_rb n past body) + rbs (heard ++ up) = rbs_append (passes_rb n past body) (heard ++ up) in
    let b : rbs (heard ++ up) ≡ rbs heard + rbs up = rbs_append heard up in
    let c : rbs heard ≡ 0 = rbs_flat (hears_one n me from body past) (number_in body) (λ j. rbs_instance j (says_on n me (hears from (say_of j body)) (turns_of n j past))) in
    let d : rbs up ≡ 0 = rbs_instance k (says_on n me (start_of n k (Took from body ∷ past) turns) turns) in
    omega (arith, a, b, c, d, rbs_passed n past body)

rbs_outs : (n me : ℕ) (inputs : Inputs) → rbs (outs n me inputs) ≡ n * length (told inputs)
rbs_outs n me [] = omega arith
rbs_outs n me (x ∷ past) =
    let long : length (told (x ∷ past)) ≡ length (told past) + length (told_at x past) = ap length (told_step x past) ∙ length-append (told past) (told_at x past) in
    let split : rbs (outs n me past ++ sends_by n me (x ∷ past)) ≡ rbs (outs n me past) + rbs (sends_by n me (x ∷ past)) = rbs_append (outs n me past) (sends_by n me (x ∷ past)) in
    let old : rbs (outs n me past) ≡ n * length (told past) = rbs_outs n me past in
    let new : rbs (sends_by n me (x ∷ past)) ≡ n * length (told_at x past) = rbs_step n me x past in
    subst (λ k. rbs (outs n me past ++ sends_by n me (x ∷ past)) ≡ n * k) (sym long) (omega (arith, split, old, new))

-- what was told was received or begun
knows_same : (ls : Items) (x y : Item) → has_id (id_of x) y ≡ true → knows ls y ≡ true → knows ls x ≡ true
knows_same ls x y e h = ap (λ id. list_any (has_id id) ls) (sym (has_its_id (id_of x) y e)) ∙ h

told_known : (inputs : Inputs) (x : Item) → knows (told inputs) x ≡ true → (knows (received inputs) x || knows (begun inputs) x) ≡ true
told_known [] x h = absurd (true≢false (sym h))
told_known (Called order ∷ past) x h =
    elim (or_cases (knows (told past) x) (knows (begun_at order) x) (sym (list_any-append (has_id (id_of x)) (told past) (begun_at order)) ∙ h)) [
      | inl old ↦ elim (or_cases (knows (received past) x) (knows (begun past) x) (told_known past x old)) [
        | inl r ↦ or_left (knows (received past) x) (knows (begun past ++ begun_at order) x) r
        | inr b ↦ or_right (knows (received past) x) (knows (begun past ++ begun_at order) x) (knows_more (begun past) (begun past ++ begun_at order) x (IsPrefix-append (begun past) (begun_at order)) b)
      ]
      | inr new ↦ or_right (knows (received past) x) (knows (begun past ++ begun_at order) x)
          (list_any-append (has_id (id_of x)) (begun past) (begun_at order) ∙ or_right (knows (begun past) x) (knows (begun_at order) x) new)
    ]
told_known (Took from body ∷ past) x h =
    elim (or_cases (knows (told past) x) (knows (passed past body) x) (sym (list_any-append (has_id (id_of x)) (told past) (passed past body)) ∙ h)) [
      | inl old ↦ elim (or_cases (knows (received past) x) (knows (begun past) x) (told_known past x old)) [
        | inl r ↦ or_left (knows (add_new (received past) (rb_item body)) x) (knows (begun past) x) (knows_more (received past) (add_new (received past) (rb_item body)) x (add_new_more (received past) (rb_item body)) r)
        | inr b ↦ or_right (knows (add_new (received past) (rb_item body)) x) (knows (begun past) x) b
      ]
      | inr new ↦ or_left (knows (add_new (received past) (rb_item body)) x) (knows (begun past) x) (now body new)
    ]
  where
    now : (body : Body) → knows (passed past body) x ≡ true → knows (add_new (received past) (rb_item body)) x ≡ true
    now (Ask item) e = absurd (true≢false (sym e))
    now (Ord p item) e = absurd (true≢false (sym e))
    now (Req stamp item) e = absurd (true≢false (sym e))
    now (Ack stamp) e = absurd (true≢false (sym e))
    now Past e = absurd (true≢false (sym e))
    now (Rb item) e =
        cond_both (knows (received past) item || knows (begun past) item) [] (item ∷ []) (λ l. knows l x ≡ true → knows (add_new (received past) (item ∷ [])) x ≡ true)
        (λ t g. absurd (true≢false (sym g)))
        (λ t g. elim (or_cases (has_id (id_of x) item) false g) [
          | inl same ↦ knows_same (add_new (received past) (item ∷ [])) x item same (knows_added (received past) item)
          | inr nothing ↦ absurd (true≢false (sym nothing))
        ])
        e
    now (Est instance round stamp batch) e = absurd (true≢false (sym e))
    now (Prop instance round batch) e = absurd (true≢false (sym e))
    now (Reply instance round agree) e = absurd (true≢false (sym e))
    now (Next instance round) e = absurd (true≢false (sym e))
    now (Decide instance batch) e = absurd (true≢false (sym e))

begun_is : (inputs : Inputs) → begun inputs ≡ broadcasts inputs
begun_is [] = refl
begun_is (Called (Broadcast item) ∷ past) = ap (λ l. l ++ item ∷ []) (begun_is past)
begun_is (Called (Suspect who) ∷ past) = ap (λ l. l ++ []) (begun_is past)
begun_is (Called (Trust who) ∷ past) = ap (λ l. l ++ []) (begun_is past)
begun_is (Took from body ∷ past) = begun_is past ∙ sym (append-nil (broadcasts past))

told_within : (n : ℕ) (past : Steps) → IsRun (sends_by n) past → (j : ℕ) (x : Item) → knows (told (inputs_of j past)) x ≡ true → knows (broadcast_in past) x ≡ true
told_within n past run j x h =
    elim (or_cases (knows (received (inputs_of j past)) x) (knows (begun (inputs_of j past)) x) (told_known (inputs_of j past) x h)) [
      | inl r ↦
          let y : (y : Item) × Contains (received (inputs_of j past)) y × (has_id (id_of x) y ≡ true) = known_item (id_of x) (received (inputs_of j past)) r in
          knows_same (broadcast_in past) x y.0 y.2 (contains_knows (broadcast_in past) y.0 (received_broadcast n past run j y.0 y.1))
      | inr b ↦
          let y : (y : Item) × Contains (begun (inputs_of j past)) y × (has_id (id_of x) y ≡ true) = known_item (id_of x) (begun (inputs_of j past)) b in
          knows_same (broadcast_in past) x y.0 y.2 (contains_knows (broadcast_in past) y.0 (broadcasts_among past j y.0 (subst (λ l. Contains l y.0) (begun_is (inputs_of j past)) y.1)))
    ]

counted_more : (id : ℕ × ℕ) (items : Items) (x : Item) → knows items x ≡ false → count_by (has_id id) items ≤ 1 → count_by (has_id id) (items ++ x ∷ []) ≤ 1
counted_more id items x f h = subst (λ l. count_by (has_id id) l ≤ 1) (cond-false (knows items x) items (items ++ x ∷ []) f) (counted_new id items x h)

counted_none : (id : ℕ × ℕ) (xs : Items) → count_by (has_id id) xs ≡ 0 → list_any (has_id id) xs ≡ false
counted_none id [] e = refl
counted_none id (x ∷ xs) e =
    let sum : count_by (has_id id) (x ∷ xs) ≡ weigh (has_id id x) + count_by (has_id id) xs = sum_by-cons (λ z. cond (has_id id z) 1 0) x xs in
    elim (cases_Bool (has_id id x)) [
      | inl t ↦ let w : weigh (has_id id x) ≡ 1 = ap weigh t in absurd (omega (arith, sum, w, e))
      | inr f ↦ ap (λ b. b || list_any (has_id id) xs) f ∙ counted_none id xs (omega (arith, sum, e))
    ]

told_new : (n : ℕ) (past : Steps) → IsRun (sends_by n) past → (j : ℕ) (x : Input Order Body) → InputFits n past j x → (id : ℕ × ℕ)
    → count_by (has_id id) (told (inputs_of j past)) ≤ 1 → count_by (has_id id) (told (x ∷ inputs_of j past)) ≤ 1
told_new n past run j (Called (Broadcast item)) fit id h =
    counted_more id (told (inputs_of j past)) item
    (false_from_ne_true (knows (told (inputs_of j past)) item)
    (λ t. both_ways (knows (broadcast_in past) item) (counted_none (id_of item) (broadcast_in past) fit.2) (told_within n past run j item t)))
    h
told_new n past run j (Called (Suspect who)) fit id h = subst (λ l. count_by (has_id id) l ≤ 1) (sym (append-nil (told (inputs_of j past)))) h
told_new n past run j (Called (Trust who)) fit id h = subst (λ l. count_by (has_id id) l ≤ 1) (sym (append-nil (told (inputs_of j past)))) h
told_new n past run j (Took from body) fit id h = by_body_of body
  where
    stay_same : count_by (has_id id) (told (inputs_of j past) ++ []) ≤ 1
    stay_same = subst (λ l. count_by (has_id id) l ≤ 1) (sym (append-nil (told (inputs_of j past)))) h

    by_body_of : (body : Body) → count_by (has_id id) (told (inputs_of j past) ++ passed (inputs_of j past) body) ≤ 1
    by_body_of (Ask item) = stay_same
    by_body_of (Ord p item) = stay_same
    by_body_of (Req stamp item) = stay_same
    by_body_of (Ack stamp) = stay_same
    by_body_of Past = stay_same
    by_body_of (Rb item) =
        cond_both (knows (received (inputs_of j past)) item || knows (begun (inputs_of j past)) item) [] (item ∷ []) (λ l. count_by (has_id id) (told (inputs_of j past) ++ l) ≤ 1)
        (λ t. stay_same)
        (λ f. counted_more id (told (inputs_of j past)) item
        (false_from_ne_true (knows (told (inputs_of j past)) item)
        (λ t. both_ways (knows (received (inputs_of j past)) item || knows (begun (inputs_of j past)) item) f (told_known (inputs_of j past) item t)))
        h)
    by_body_of (Est instance round stamp batch) = stay_same
    by_body_of (Prop instance round batch) = stay_same
    by_body_of (Reply instance round agree) = stay_same
    by_body_of (Next instance round) = stay_same
    by_body_of (Decide instance batch) = stay_same

told_once : (n : ℕ) (past : Steps) → IsRun (sends_by n) past → StepsFit n past → (j : ℕ) (id : ℕ × ℕ) → count_by (has_id id) (told (inputs_of j past)) ≤ 1
told_once n [] run fit j id = omega arith
told_once n (s ∷ past) run fit j id =
    inputs_step (λ l. count_by (has_id id) (told l) ≤ 1) j s past
    (λ e. told_new n past run.1 j s.input (subst (λ m. InputFits n past m s.input) e fit.1) id (told_once n past run.1 fit.2 j id))
    (told_once n past run.1 fit.2 j id)

told_few : (n : ℕ) (past : Steps) → IsRun (sends_by n) past → StepsFit n past → (j : ℕ) → length (told (inputs_of j past)) ≤ length (broadcast_in past)
told_few n past run fit j =
    fits_in (told (inputs_of j past)) (broadcast_in past) (told_once n past run fit j)
    (λ x h. told_within n past run j x (contains_knows (told (inputs_of j past)) x h))

-- The sum.
sum_const : (n a : ℕ) → sum_below n (λ j. a) ≡ n * a
sum_const zero a = omega arith
sum_const (suc n) a = omega (arith, sum_const n a)

mul_le : (k a b : ℕ) → a ≤ b → k * a ≤ k * b
mul_le zero a b h = omega arith
mul_le (suc k) a b h = omega (arith, mul_le k a b h, h)

member_bound : (n : ℕ) (past : Steps) → IsRun (sends_by n) past → StepsFit n past → suspects_in past ≡ 0 → (j : ℕ)
    → length (outs n j (inputs_of j past)) ≤ n * length (broadcast_in past) + length (broadcast_in past) * (2 + n) + cond (eqb j (coordinator n 1)) (length (broadcast_in past) * n) 0
member_bound n past run fit c j =
    let top : ℕ = length (broadcast_in past) in
    let all : List (ℕ × Body) = outs n j (inputs_of j past) in
    let split : length all ≤ rbs all + sum_below top (λ i. length (pick (suc i) all)) = count_length top all (all_range n past run fit c j) in
    let rb : rbs all ≡ n * length (told (inputs_of j past)) = rbs_outs n j (inputs_of j past) in
    let few : n * length (told (inputs_of j past)) ≤ n * top = mul_le n (length (told (inputs_of j past))) top (told_few n past run fit j) in
    let each : sum_below top (λ i. length (pick (suc i) all)) ≤ sum_below top (λ i. 2 + n + cond (eqb j (coordinator n 1)) n 0) =
    sum_below-le top (λ i. length (pick (suc i) all)) (λ i. 2 + n + cond (eqb j (coordinator n 1)) n 0)
    (λ i lt. subst (λ l. length l ≤ 2 + n + cond (eqb j (coordinator n 1)) n 0) (sym (pick_outs n j (suc i) (inputs_of j past)))
    (said_bound n j (turns_of n (suc i) (inputs_of j past))
    (subst Good (inputs_rounds n (suc i) j past) (good_run n (rounds_of n (suc i) past) (run_rounds n (suc i) past run) (calm_rounds n (suc i) past c) j)))) in
    let sum : sum_below top (λ i. 2 + n + cond (eqb j (coordinator n 1)) n 0) ≡ top * (2 + n + cond (eqb j (coordinator n 1)) n 0) = sum_const top (2 + n + cond (eqb j (coordinator n 1)) n 0) in
    let parts : top * (2 + n + cond (eqb j (coordinator n 1)) n 0) ≡ top * (2 + n) + cond (eqb j (coordinator n 1)) (top * n) 0 =
    (elim (eqb j (coordinator n 1)) as (λ b. top * (2 + n + cond b n 0) ≡ top * (2 + n) + cond b (top * n) 0) [ true ↦ omega arith | false ↦ omega arith ]) in
    omega (arith, split, rb, few, each, sum, parts)

-- Bound.
pub bounded : (n : ℕ) (past : Steps) → 1 ≤ n → IsRun (sends_by n) past → StepsFit n past → suspects_in past ≡ 0
    → sent_in (sends_by n) past ≤ (2 * n * n + 3 * n) * length (broadcast_in past)
bounded n past some run fit c =
    let top : ℕ = length (broadcast_in past) in
    let lead : ℕ = coordinator n 1 in
    let base : ℕ = n * top + top * (2 + n) in
    let whole : sent_in (sends_by n) past ≡ sum_below n (λ j. length (outs n j (inputs_of j past))) = sent_sum n past fit in
    let le : sum_below n (λ j. length (outs n j (inputs_of j past))) ≤ sum_below n (λ j. base + cond (eqb j lead) (top * n) 0) =
    sum_below-le n (λ j. length (outs n j (inputs_of j past))) (λ j. base + cond (eqb j lead) (top * n) 0) (λ j lt. member_bound n past run fit c j) in
    let one_lead : sum_below n (λ j. base + cond (eqb j lead) (top * n) 0) ≡ sum_below n (λ j. base) + top * n =
    sum_below-more n lead (top * n) (λ j. base) (λ j. base + cond (eqb j lead) (top * n) 0) (lead_below n some)
    (ap (λ k. base + k) (cond-true (eqb lead lead) (top * n) 0 (eq-eqb lead lead refl)))
    (λ j ne. ap (λ k. base + k) (cond-false (eqb j lead) (top * n) 0 (ne_eqb j lead (λ e. ne (sym e)))) ∙ omega arith) in
    let flat_sum : sum_below n (λ j. base) ≡ n * base = sum_const n base in
    let product : n * (n * top + top * (2 + n)) + top * n ≡ (2 * n * n + 3 * n) * top = expand n top in
    omega (arith, whole, le, one_lead, flat_sum, product)
  where
    lead_below : (n : ℕ) → 1 ≤ n → coordinator n 1 < n
    lead_below n some = omega arith

    expand : (n top : ℕ) → n * (n * top + top * (2 + n)) + top * n ≡ (2 * n * n + 3 * n) * top
    expand n top = omega arith

pub bound : KeepsBound sends_by Consensus
bound n past run calm = bounded n past run.some run.fifo run.fit calm
