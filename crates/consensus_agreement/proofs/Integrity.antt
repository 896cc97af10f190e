use Rattle.std.proofs.Common.{ℕ, zero, suc, ◌+◌, ◌≡◌, ◌⊎◌, inl, inr, eqb, Bool, cond, not, List, [], ◌∷◌, ◌++◌, take, Option, Some, None, refl, sym, ap, ◌∙◌, subst, ◌||◌}
use Rattle.std.specs.List.{Contains, All, filter, flat_map}
use Rattle.std.proofs.lemmas.Bool.{cond_both}
use Rattle.std.proofs.lemmas.List.Elements.{Contains-append_left, Contains-append_right, Contains-append_cases, Contains-push, All-nil, All-cons, All-append, All-contains}
use Rattle.fifo_net.specs.Net.{Input, Called, Took, taken, sent, inputs_of, taken_on, sent_on, bodies_to, MayCome, IsRun}
use Rattle.fifo_net.proofs.Links.{inputs_step, inputs_here, taken_on-begins, taken_here}
use Rattle.fifo_net.proofs.Lists.{Contains-prefix}
use Rattle.upd_base.specs.Item.{stands_before}
use Rattle.upd_base.specs.declared.item.Item.{Item}
use Rattle.upd_base.specs.declared.body.Body.{Body}
use Rattle.upd_base.specs.declared.body.Body.TheVariants.{Ask, Ord, Req, Ack, Rb, Est, Prop, Reply, Next, Decide, Past}
use Rattle.order_trait.specs.Runs.{Order, Broadcast, Suspect, Trust, Inputs, Steps, StepsFit, broadcast_at, broadcast_in}
use Rattle.order_trait.specs.Outbox.{to_all}
use Rattle.instance_rules.specs.Say.{Items, Starts, Say, Estimates, Proposes, Replies, Moves_on, Decides, Turns}
use Rattle.consensus_rules.specs.Items.{knows, add_new, rb_item, received, begun}
use Rattle.consensus_rules.specs.Delivered.{decisions, decision, and_on, batches_from, greatest_number, batches, delivers_by, next}
use Rattle.consensus_rules.specs.Waiting.{insert, insert_all, in_order, waiting, next_batch}
use Rattle.instance_rules.specs.Bodies.{say_of, body_of, in_instance}
use Rattle.consensus_rules.specs.Instances.{is_due, number_in, hears, start_of, adds, turns_of, numbers}
use Rattle.consensus_rules.specs.Consensus.{passes_rb, says_on, starts_up, suspects_one, hears_one, sends_by}
use Rattle.instance_rules.specs.Run.{Rounds, started_in}
use Rattle.instance_rules.proofs.Votes.{one, none, take_begins}
use Rattle.instance_rules.proofs.Said.{bodies_among}
use Rattle.instance_rules.proofs.Agree.{runs_valid}
use Rattle.consensus_rules.specs.Projection.{at_step, rounds_of}
use Rattle.consensus_rules.proofs.Projection.{at_step_append, run_rounds, fit_rounds, decision_rounds}
use Rattle.upd_base.specs.declared.limits.TheConstants.{MAX_BATCH}

add_new_from : (items xs : Items) (x : Item) → Contains (add_new items xs) x → Contains items x ⊎ Contains xs x
add_new_from items [] x h = inl h
add_new_from items (y ∷ ys) x h =
    elim (add_new_from (cond (knows items y) items (items ++ y ∷ [])) ys x h) [
      | inl old ↦
          cond_both (knows items y) items (items ++ y ∷ []) (λ l. Contains l x → Contains items x ⊎ Contains (y ∷ ys) x)
          (λ t g. inl g)
          (λ f g. elim (Contains-append_cases items (y ∷ []) x g) [
            | inl a ↦ inl a
            | inr b ↦ inr (Contains-append_left (y ∷ []) ys x b)
          ])
          old
      | inr new ↦ inr (Contains-append_right (y ∷ []) ys x new)
    ]

flat_from : (bs : List Items) (x : Item) → Contains (flat_map (λ b. b) bs) x → (b : Items) × Contains bs b × Contains b x
flat_from [] x h = none x h
flat_from (b ∷ bs) x h =
    elim (Contains-append_cases b (flat_map (λ b. b) bs) x h) [
      | inl here ↦ (b, Contains-append_left (b ∷ []) bs b (Contains-push [] b), here)
      | inr there ↦ let r : (c : Items) × Contains bs c × Contains c x = flat_from bs x there in (r.0, Contains-append_right (b ∷ []) bs r.0 r.1, r.2)
    ]

batch_decided : (f k : ℕ) (ds : List (ℕ × Items)) (b : Items) → Contains (batches_from f k ds) b → (j : ℕ) × (decision j ds ≡ Some b)
batch_decided zero k ds b h = none b h
batch_decided (suc f) k ds b h = by_first (decision k ds) refl (λ g. batch_decided f (k + 1) ds b g) h
  where
    by_first : (o : Option Items) → decision k ds ≡ o → (Contains (batches_from f (k + 1) ds) b → (j : ℕ) × (decision j ds ≡ Some b))
        → Contains (and_on o (batches_from f (k + 1) ds)) b → (j : ℕ) × (decision j ds ≡ Some b)
    by_first None e rest g = none b g
    by_first (Some c) e rest g =
        elim (Contains-append_cases (c ∷ []) (batches_from f (k + 1) ds) b g) [
          | inl here ↦ (k, e ∙ ap (λ z. Some z) (one c b here))
          | inr there ↦ rest there
        ]

-- a start is of received items
insert_from : (y : Item) (ys : Items) (x : Item) → Contains (insert y ys) x → (y ≡ x) ⊎ Contains ys x
insert_from y [] x h = inl (one y x h)
insert_from y (z ∷ zs) x h =
    cond_both (stands_before z y) (z ∷ insert y zs) (y ∷ z ∷ zs) (λ l. Contains l x → (y ≡ x) ⊎ Contains (z ∷ zs) x)
    (λ t g. elim (Contains-append_cases (z ∷ []) (insert y zs) x g) [
      | inl here ↦ inr (Contains-append_left (z ∷ []) zs x here)
      | inr there ↦ elim (insert_from y zs x there) [ inl e ↦ inl e | inr k ↦ inr (Contains-append_right (z ∷ []) zs x k) ]
    ])
    (λ t g. elim (Contains-append_cases (y ∷ []) (z ∷ zs) x g) [ inl here ↦ inl (one y x here) | inr there ↦ inr there ])
    h

insert_all_from : (sorted xs : Items) (x : Item) → Contains (insert_all sorted xs) x → Contains sorted x ⊎ Contains xs x
insert_all_from sorted [] x h = inl h
insert_all_from sorted (y ∷ ys) x h =
    elim (insert_all_from (insert y sorted) ys x h) [
      | inl old ↦ elim (insert_from y sorted x old) [
        | inl e ↦ inr (subst (Contains (y ∷ ys)) e (Contains-append_left (y ∷ []) ys y (Contains-push [] y)))
        | inr k ↦ inl k
      ]
      | inr new ↦ inr (Contains-append_right (y ∷ []) ys x new)
    ]

pub in_order_from : (xs : Items) (x : Item) → Contains (in_order xs) x → Contains xs x
in_order_from xs x h = elim (insert_all_from [] xs x h) [ inl nothing ↦ none x nothing | inr k ↦ k ]

pub filter_from : (p : Item → Bool) (xs : Items) (x : Item) → Contains (filter p xs) x → Contains xs x
filter_from p [] x h = h
filter_from p (y ∷ ys) x h =
    cond_both (p y) (y ∷ filter p ys) (filter p ys) (λ l. Contains l x → Contains (y ∷ ys) x)
    (λ t g. elim (Contains-append_cases (y ∷ []) (filter p ys) x g) [
      | inl here ↦ Contains-append_left (y ∷ []) ys x here
      | inr there ↦ Contains-append_right (y ∷ []) ys x (filter_from p ys x there)
    ])
    (λ t g. Contains-append_right (y ∷ []) ys x (filter_from p ys x g))
    h

next_batch_from : (inputs : Inputs) (x : Item) → Contains (next_batch inputs) x → Contains (received inputs) x
next_batch_from inputs x h =
    filter_from (λ y. not (knows (delivers_by 0 0 inputs) y)) (received inputs) x
    (in_order_from (waiting inputs) x (Contains-prefix (take MAX_BATCH (in_order (waiting inputs))) (in_order (waiting inputs)) x (take_begins MAX_BATCH (in_order (waiting inputs))) h))

rb_from : (body : Body) (x : Item) → Contains (rb_item body) x → body ≡ Rb x
rb_from (Ask item) x h = none x h
rb_from (Ord p item) x h = none x h
rb_from (Req stamp item) x h = none x h
rb_from (Ack stamp) x h = none x h
rb_from Past x h = none x h
rb_from (Rb item) x h = ap (λ z. Rb z) (one item x h)
rb_from (Est instance round stamp batch) x h = none x h
rb_from (Prop instance round batch) x h = none x h
rb_from (Reply instance round agree) x h = none x h
rb_from (Next instance round) x h = none x h
rb_from (Decide instance batch) x h = none x h

body_taken : (j : ℕ) (y : Input Order Body) (past : Inputs) (b : Body) → Contains (taken j past) b → Contains (taken j (y ∷ past)) b
body_taken j (Called order) past b h = h
body_taken j (Took from body) past b h =
    cond_both (eqb from j) (taken j past ++ body ∷ []) (taken j past) (λ l. Contains l b) (λ t. Contains-append_left (taken j past) (body ∷ []) b h) (λ t. h)

just_took : (from : ℕ) (body : Body) (past : Inputs) → Contains (taken from (Took from body ∷ past)) body
just_took from body past = subst (λ l. Contains l body) (sym (taken_here from from body past refl)) (Contains-push (taken from past) body)

received_from : (inputs : Inputs) (x : Item) → Contains (received inputs) x → (j : ℕ) × Contains (taken j inputs) (Rb x)
received_from [] x h = none x h
received_from (Called order ∷ past) x h = received_from past x h
received_from (Took from body ∷ past) x h =
    elim (add_new_from (received past) (rb_item body) x h) [
      | inl old ↦ let r : (j : ℕ) × Contains (taken j past) (Rb x) = received_from past x old in (r.0, body_taken r.0 (Took from body) past (Rb x) r.1)
      | inr new ↦ (from, subst (Contains (taken from (Took from body ∷ past))) (rb_from body x new) (just_took from body past))
    ]

-- an Rb is sent where its item is broadcast, or where it is taken
abbrev RbOk : Input Order Body → Body → Type 0
RbOk y (Rb item) = (y ≡ Called (Broadcast item)) ⊎ ((from : ℕ) × (y ≡ Took from (Rb item)))
RbOk y (Ask item) = Unit {0}
RbOk y (Ord p item) = Unit {0}
RbOk y (Req stamp item) = Unit {0}
RbOk y (Ack stamp) = Unit {0}
RbOk y Past = Unit {0}
RbOk y (Est instance round stamp batch) = Unit {0}
RbOk y (Prop instance round batch) = Unit {0}
RbOk y (Reply instance round agree) = Unit {0}
RbOk y (Next instance round) = Unit {0}
RbOk y (Decide instance batch) = Unit {0}

pub all_to : (P : ℕ × Body → Type 0) (n : ℕ) (body : Body) → ((to : ℕ) → P (to, body)) → All P (to_all n body)
all_to P zero body h = All-nil P
all_to P (suc n) body h = All-append P (to_all n body) ((n, body) ∷ []) (all_to P n body h) (All-cons P (n, body) [] (h n) (All-nil P))

said_ok : (y : Input Order Body) (k : ℕ) (say : Say) → RbOk y (body_of k say)
said_ok y k (Estimates round held) = tt
said_ok y k (Proposes round batch) = tt
said_ok y k (Replies round agree) = tt
said_ok y k (Moves_on round) = tt
said_ok y k (Decides batch) = tt

in_instance_ok : (y : Input Order Body) (k : ℕ) (ps : List (ℕ × Say)) → All (λ p. RbOk y p.1) (in_instance k ps)
in_instance_ok y k [] = All-nil (λ p. RbOk y p.1)
in_instance_ok y k (p ∷ ps) = All-cons (λ q. RbOk y q.1) (p.0, body_of k p.1) (in_instance k ps) (said_ok y k p.1) (in_instance_ok y k ps)

flat_ok : (P : ℕ × Body → Type 0) (f : ℕ → List (ℕ × Body)) (js : List ℕ) → ((j : ℕ) → All P (f j)) → All P (flat_map f js)
flat_ok P f [] h = All-nil P
flat_ok P f (j ∷ js) h = All-append P (f j) (flat_map f js) (h j) (flat_ok P f js h)

passes_ok : (n from : ℕ) (past : Inputs) (body : Body) → All (λ p. RbOk (Took from body) p.1) (passes_rb n past body)
passes_ok n from past (Ask item) = All-nil (λ p. RbOk (Took from (Ask item)) p.1)
passes_ok n from past (Ord p item) = All-nil (λ q. RbOk (Took from (Ord p item)) q.1)
passes_ok n from past (Req stamp item) = All-nil (λ p. RbOk (Took from (Req stamp item)) p.1)
passes_ok n from past (Ack stamp) = All-nil (λ p. RbOk (Took from (Ack stamp)) p.1)
passes_ok n from past Past = All-nil (λ p. RbOk (Took from Past) p.1)
passes_ok n from past (Rb item) =
    cond_both (knows (received past) item || knows (begun past) item) [] (to_all n (Rb item)) (All (λ p. RbOk (Took from (Rb item)) p.1))
    (λ t. All-nil (λ p. RbOk (Took from (Rb item)) p.1))
    (λ t. all_to (λ p. RbOk (Took from (Rb item)) p.1) n (Rb item) (λ to. inr (from, refl)))
passes_ok n from past (Est instance round stamp batch) = All-nil (λ p. RbOk (Took from (Est instance round stamp batch)) p.1)
passes_ok n from past (Prop instance round batch) = All-nil (λ p. RbOk (Took from (Prop instance round batch)) p.1)
passes_ok n from past (Reply instance round agree) = All-nil (λ p. RbOk (Took from (Reply instance round agree)) p.1)
passes_ok n from past (Next instance round) = All-nil (λ p. RbOk (Took from (Next instance round)) p.1)
passes_ok n from past (Decide instance batch) = All-nil (λ p. RbOk (Took from (Decide instance batch)) p.1)

sends_ok : (n me : ℕ) (y : Input Order Body) (past : Inputs) → All (λ p. RbOk y p.1) (sends_by n me (y ∷ past))
sends_ok n me (Called (Broadcast item)) past = all_to (λ p. RbOk (Called (Broadcast item)) p.1) n (Rb item) (λ to. inl refl)
sends_ok n me (Called (Suspect who)) past =
    flat_ok (λ p. RbOk (Called (Suspect who)) p.1) (suspects_one n me (Called (Suspect who)) past) (numbers past)
    (λ j. in_instance_ok (Called (Suspect who)) j (says_on n me (adds n j (Called (Suspect who)) past (turns_of n j past)) (turns_of n j past)))
sends_ok n me (Called (Trust who)) past = All-nil (λ p. RbOk (Called (Trust who)) p.1)
sends_ok n me (Took from body) past =
    let P : ℕ × Body → Type 0 = (λ p. RbOk (Took from body) p.1) in
    let k : ℕ = next (Took from body ∷ past) in
    let turns : Turns = hears from (say_of k body) ++ turns_of n k past in
    let heard : List (ℕ × Body) = flat_map (hears_one n me from body past) (number_in body) in
    let up : List (ℕ × Body) = starts_up n me k (Took from body ∷ past) turns in
    All-append P (passes_rb n past body) (heard ++ up) (passes_ok n from past body)
    (All-append P heard up
    (flat_ok P (hears_one n me from body past) (number_in body) (λ j. in_instance_ok (Took from body) j (says_on n me (hears from (say_of j body)) (turns_of n j past))))
    (in_instance_ok (Took from body) k (says_on n me (start_of n k (Took from body ∷ past) turns) turns)))

-- what was sent as an Rb was broadcast
rb_sent : (n : ℕ) (past : Steps) → IsRun (sends_by n) past → (j to : ℕ) (x : Item) → Contains (sent_on (sends_by n) j to past) (Rb x) → Contains (broadcast_in past) x
rb_sent n [] run j to x = λ h. none (Rb x) h
rb_sent n (s ∷ past) run j to x =
    inputs_step (λ l. Contains (sent (sends_by n) j to l) (Rb x) → Contains (broadcast_in (s ∷ past)) x) j s past
    (λ e h. elim (Contains-append_cases (sent_on (sends_by n) j to past) (bodies_to to (sends_by n j (s.input ∷ inputs_of j past))) (Rb x) h) [
      | inl old ↦ Contains-append_right (broadcast_at s.input) (broadcast_in past) x (rb_sent n past run.1 j to x old)
      | inr new ↦
          let ok : RbOk s.input (Rb x) =
          All-contains (λ p. RbOk s.input p.1) (sends_by n j (s.input ∷ inputs_of j past)) (to, Rb x) (sends_ok n j s.input (inputs_of j past))
          (bodies_among to (sends_by n j (s.input ∷ inputs_of j past)) (Rb x) new) in
          elim ok [
            | inl begins ↦
                let here : Contains (broadcast_at s.input) x = subst (λ z. Contains (broadcast_at z) x) (sym begins) (Contains-push [] x) in
                Contains-append_left (broadcast_at s.input) (broadcast_in past) x here
            | inr passed ↦
                let may : MayCome (sends_by n) past s.at (Took passed.0 (Rb x)) = subst (MayCome (sends_by n) past s.at) passed.1 run.0 in
                let was : Contains (sent_on (sends_by n) passed.0 s.at past) (Rb x) =
                Contains-prefix (taken_on passed.0 s.at past ++ Rb x ∷ []) (sent_on (sends_by n) passed.0 s.at past) (Rb x) may (Contains-push (taken_on passed.0 s.at past) (Rb x)) in
                Contains-append_right (broadcast_at s.input) (broadcast_in past) x (rb_sent n past run.1 passed.0 s.at x was)
          ]
    ])
    (λ h. Contains-append_right (broadcast_at s.input) (broadcast_in past) x (rb_sent n past run.1 j to x h))

pub received_broadcast : (n : ℕ) (past : Steps) → IsRun (sends_by n) past → (m : ℕ) (x : Item) → Contains (received (inputs_of m past)) x → Contains (broadcast_in past) x
received_broadcast n past run m x h =
    let r : (j : ℕ) × Contains (taken j (inputs_of m past)) (Rb x) = received_from (inputs_of m past) x h in
    rb_sent n past run r.0 m x (Contains-prefix (taken_on r.0 m past) (sent_on (sends_by n) r.0 m past) (Rb x) (taken_on-begins (sends_by n) past run r.0 m) r.1)

-- each batch that an instance was started with was broadcast
start_batch : (n k : ℕ) (inputs : Inputs) (turns : Turns) (at : ℕ) (rest : Rounds) (b : Items) → Contains (started_in (at_step at (start_of n k inputs turns) rest)) b
    → (next_batch inputs ≡ b) ⊎ Contains (started_in rest) b
start_batch n k inputs turns at rest b h =
    cond_both (is_due n k inputs turns) (Called (Starts (next_batch inputs)) ∷ []) []
    (λ l. Contains (started_in (at_step at l rest)) b → (next_batch inputs ≡ b) ⊎ Contains (started_in rest) b)
    (λ t g. elim (Contains-append_cases (next_batch inputs ∷ []) (started_in rest) b g) [ inl here ↦ inl (one (next_batch inputs) b here) | inr there ↦ inr there ])
    (λ t g. inr g)
    h

pub heard_starts : (at from : ℕ) (o : Option Say) (rest : Rounds) (b : Items) → Contains (started_in (at_step at (hears from o) rest)) b → Contains (started_in rest) b
heard_starts at from None rest b h = h
heard_starts at from (Some say) rest b h = h

added_starts : (n k at : ℕ) (y : Input Order Body) (past : Inputs) (turns : Turns) (rest : Rounds) (b : Items)
    → Contains (started_in (at_step at (adds n k y past turns) rest)) b → (next_batch (y ∷ past) ≡ b) ⊎ Contains (started_in rest) b
added_starts n k at (Called (Broadcast item)) past turns rest b h = inr h
added_starts n k at (Called (Suspect who)) past turns rest b h = inr h
added_starts n k at (Called (Trust who)) past turns rest b h = inr h
added_starts n k at (Took from body) past turns rest b h =
    let all : Turns = hears from (say_of k body) ++ turns in
    let start : Turns = start_of n k (Took from body ∷ past) all in
    let two : Contains (started_in (at_step at start (at_step at (hears from (say_of k body)) rest))) b =
    subst (λ l. Contains (started_in l) b) (at_step_append at start (hears from (say_of k body)) rest) h in
    elim (start_batch n k (Took from body ∷ past) all at (at_step at (hears from (say_of k body)) rest) b two) [
      | inl now ↦ inl now
      | inr old ↦ inr (heard_starts at from (say_of k body) rest b old)
    ]

pub starts_broadcast : (n k : ℕ) (past : Steps) → IsRun (sends_by n) past → (b : Items) (x : Item) → Contains (started_in (rounds_of n k past)) b → Contains b x → Contains (broadcast_in past) x
starts_broadcast n k [] run b x h g = none b h
starts_broadcast n k (s ∷ past) run b x h g =
    elim (added_starts n k s.at s.input (inputs_of s.at past) (turns_of n k (inputs_of s.at past)) (rounds_of n k past) b h) [
      | inl now ↦
          received_broadcast n (s ∷ past) run s.at x
          (subst (λ l. Contains (received l) x) (sym (inputs_here s.at s past refl))
          (next_batch_from (s.input ∷ inputs_of s.at past) x (subst (λ l. Contains l x) (sym now) g)))
      | inr old ↦ Contains-append_right (broadcast_at s.input) (broadcast_in past) x (starts_broadcast n k past run.1 b x old g)
    ]

-- what is delivered was broadcast
pub delivers_broadcast : (n : ℕ) (past : Steps) → IsRun (sends_by n) past → StepsFit n past → (i : ℕ) (x : Item) → Contains (delivers_by n i (inputs_of i past)) x → Contains (broadcast_in past) x
delivers_broadcast n past run fit i x h =
    let ds : List (ℕ × Items) = decisions (inputs_of i past) in
    elim (add_new_from [] (flat_map (λ b. b) (batches ds)) x h) [
      | inl nothing ↦ none x nothing
      | inr there ↦
          let b : (b : Items) × Contains (batches ds) b × Contains b x = flat_from (batches ds) x there in
          let k : (j : ℕ) × (decision j ds ≡ Some b.0) = batch_decided (greatest_number ds) 1 ds b.0 b.1 in
          starts_broadcast n k.0 past run b.0 x
          (runs_valid n (rounds_of n k.0 past) (run_rounds n k.0 past run) (fit_rounds n k.0 past fit) i b.0 (decision_rounds n k.0 i past b.0 k.1))
          b.2
    ]
