-- The start of the instance that is due.
use Rattle.std.proofs.Common.{ℕ, ◌≡◌, ◌≢◌, ◌<◌, ◌≤◌, inl, inr, Bool, List, [], ◌∷◌, ◌++◌, length, take, Some, None, refl, sym, ap, ◌∙◌, subst, arith, append-nil, append_assoc}
use Rattle.std.specs.Ordering.{nat_cmp}
use Rattle.std.specs.BTreeMap.{get}
use Rattle.std.proofs.lemmas.Bool.{cases_Bool, cases_eq, cond-true, cond-false, cond_both, ne_eqb}
use Rattle.fifo_net.specs.Net.{Called, Took}
use Rattle.upd_base.specs.Item.{stands_before}
use Rattle.upd_base.specs.declared.body.Body.{Body}
use Rattle.upd_base.specs.declared.item.Item.{Item}
use Rattle.upd_base.specs.declared.limits.TheConstants.{MAX_BATCH}
use Rattle.order_trait.specs.Runs.{Inputs}
use Rattle.instance_rules.specs.Say.{Items, Starts, Turns}
use Rattle.instance_rules.specs.History.{decided, suspected}
use Rattle.instance_rules.specs.Place.{place}
use Rattle.instance_rules.specs.Says.{says}
use Rattle.instance_rules.specs.Bodies.{in_instance, say_of}
use Rattle.consensus_rules.specs.Delivered.{next}
use Rattle.consensus_rules.specs.Instances.{hears, is_due, last_instance, start_of, turns_of}
use Rattle.consensus_rules.specs.Waiting.{in_order, insert, insert_all, next_batch, waiting}
use Rattle.consensus_rules.specs.Consensus.{says_on, starts_up}
use Rattle.consensus_rules.proofs.Begun.{Due, due, due_from}
use Rattle.consensus_rules.proofs.Delivered.{next_undecided}
use Rattle.consensus_rules.proofs.Picks.{no_start}
use Rattle.consensus_rules.proofs.Projection.{decided_start, decision_turns}
use Rattle.waiting_items.specs.Ids.{first_of}
use Rattle.instance_table.specs.Table as tables
use Rattle.instance_table.specs.declared.table.Instances.{Instances}
use Rattle.consensus_order.specs.declared.consensus.ConsensusOrder.{ConsensusOrder}
use Rattle.consensus_order.specs.ConsensusOrder.{Ready, StandsFor, heard_by, suspects}

-- the inputs of each instance after a body: those before its start, and its start
pub split : (n from k : ℕ) (body : Body) (past : Inputs)
    → turns_of n k (Took from body ∷ past) ≡ start_of n k (Took from body ∷ past) (heard_by n from body past k) ++ heard_by n from body past k
split n from k body past =
    append_assoc (start_of n k (Took from body ∷ past) (heard_by n from body past k)) (hears from (say_of k body)) (turns_of n k past)

pub undecided : (n from : ℕ) (body : Body) (past : Inputs) → decided (heard_by n from body past (next (Took from body ∷ past))) ≡ None
undecided n from body past =
    let inputs : Inputs = Took from body ∷ past in
    let k : ℕ = next inputs in
    sym (decided_start n k inputs (heard_by n from body past k) (heard_by n from body past k)) ∙ ap decided (sym (split n from k body past))
    ∙ sym (decision_turns n k inputs) ∙ next_undecided inputs

-- at another instance than the next nothing is started
pub others : (n from k : ℕ) (body : Body) (past : Inputs) → k ≢ next (Took from body ∷ past) → turns_of n k (Took from body ∷ past) ≡ heard_by n from body past k
others n from k body past ne =
    split n from k body past
    ∙ ap (λ l. l ++ heard_by n from body past k) (no_start n k (Took from body ∷ past) (heard_by n from body past k) (ne_eqb (next (Took from body ∷ past)) k (λ e. ne (sym e))))

-- whether the next one is due after a body
abbrev pub IsDue : ℕ → ℕ → Body → Inputs → Type 0
IsDue n from body past = Due n (next (Took from body ∷ past)) (Took from body ∷ past) (heard_by n from body past (next (Took from body ∷ past)))

start_none : (n from : ℕ) (body : Body) (past : Inputs) → (IsDue n from body past → ⊥)
    → start_of n (next (Took from body ∷ past)) (Took from body ∷ past) (heard_by n from body past (next (Took from body ∷ past))) ≡ []
start_none n from body past not_due =
    let inputs : Inputs = Took from body ∷ past in
    let turns : Turns = heard_by n from body past (next inputs) in
    elim (cases_Bool (is_due n (next inputs) inputs turns)) [
      | inl t ↦ absurd (not_due (due n (next inputs) inputs turns t))
      | inr f ↦ cond-false (is_due n (next inputs) inputs turns) (Called (Starts (next_batch inputs)) ∷ []) [] f
    ]

start_one : (n from : ℕ) (body : Body) (past : Inputs) → IsDue n from body past
    → start_of n (next (Took from body ∷ past)) (Took from body ∷ past) (heard_by n from body past (next (Took from body ∷ past))) ≡ Called (Starts (next_batch (Took from body ∷ past))) ∷ []
start_one n from body past d =
    let inputs : Inputs = Took from body ∷ past in
    let turns : Turns = heard_by n from body past (next inputs) in
    cond-true (is_due n (next inputs) inputs turns) (Called (Starts (next_batch inputs)) ∷ []) [] (due_from n (next inputs) inputs turns d)

-- the same inputs of each instance
same_turns : (t : Instances) (turns new : ℕ → Turns) (s : ℕ → Bool) → ((k : ℕ) → new k ≡ turns k) → tables.StandsFor t turns s → tables.StandsFor t new s
same_turns t turns new s same h = record {
  row = h.row;
  told = λ k w. ap (λ l. suspected l w) (same k) ∙ h.told k w;
  kept = λ k. subst (λ l. tables.IsKept l (get nat_cmp t.running k)) (sym (same k)) (h.kept k);
}

-- Nothing is due.
pub not_started : (m : ConsensusOrder) (from : ℕ) (body : Body) (past : Inputs) → (IsDue (tables.members_of m.instances) from body past → ⊥) → Ready m from body past → StandsFor m (Took from body ∷ past)
not_started m from body past not_due r =
    let n : ℕ = tables.members_of m.instances in
    let inputs : Inputs = Took from body ∷ past in
    let same : (k : ℕ) → turns_of n k inputs ≡ heard_by n from body past k = λ k. elim (cases_eq k (next inputs)) [
      | inl e ↦
          subst (λ z. turns_of n z inputs ≡ heard_by n from body past z) (sym e)
          (split n from (next inputs) body past ∙ ap (λ l. l ++ heard_by n from body past (next inputs)) (start_none n from body past not_due))
      | inr ne ↦ others n from k body past ne
    ] in
    record {
      broadcasts = r.broadcasts;
      delivery = r.delivery;
      instances = same_turns m.instances (heard_by n from body past) (λ k. turns_of n k inputs) (suspects past) same r.instances;
    }

pub nothing_sent : (n me from : ℕ) (body : Body) (past : Inputs) (out : List (ℕ × Body)) → (IsDue n from body past → ⊥)
    → out ≡ out ++ starts_up n me (next (Took from body ∷ past)) (Took from body ∷ past) (heard_by n from body past (next (Took from body ∷ past)))
nothing_sent n me from body past out not_due =
    let inputs : Inputs = Took from body ∷ past in
    sym (append-nil out) ∙ ap (λ l. out ++ l) (sym (ap (λ l. in_instance (next inputs) (says_on n me l (heard_by n from body past (next inputs)))) (start_none n from body past not_due)))

-- why it is not due: the member takes part in it, nothing waits, or no number is left
pub not_apart : (n from k round : ℕ) (body : Body) (past : Inputs) → k ≡ next (Took from body ∷ past)
    → (decided (heard_by n from body past k) ≡ None → round ≡ (place n (heard_by n from body past k)).round) → round ≢ 0 → IsDue n from body past → ⊥
not_apart n from k round body past is at ne d =
    let at_next : (place n (heard_by n from body past k)).round ≡ 0 = subst (λ z. (place n (heard_by n from body past z)).round ≡ 0) (sym is) d.apart in
    ne (at (subst (λ z. decided (heard_by n from body past z) ≡ None) (sym is) (undecided n from body past)) ∙ at_next)

pub not_some : (n from : ℕ) (body : Body) (past : Inputs) → length (waiting (Took from body ∷ past)) ≡ 0 → IsDue n from body past → ⊥
not_some n from body past none d = let some : 0 < length (waiting (Took from body ∷ past)) = d.some in omega (arith, none, some)

pub not_counted : (n from : ℕ) (body : Body) (past : Inputs) → last_instance < next (Took from body ∷ past) → IsDue n from body past → ⊥
not_counted n from body past more d = let counts : next (Took from body ∷ past) ≤ last_instance = d.counts in omega (arith, more, counts)

-- It is due, and this number and this batch are those of its start.
pub record Begins (n from k : ℕ) (batch : Items) (body : Body) (past : Inputs) : Type 0 where
  pub is_next : k ≡ next (Took from body ∷ past)
  pub undecided : decided (heard_by n from body past k) ≡ None
  pub added : turns_of n k (Took from body ∷ past) ≡ Called (Starts batch) ∷ heard_by n from body past k
  pub others : (j : ℕ) → j ≢ k → turns_of n j (Took from body ∷ past) ≡ heard_by n from body past j
  pub sent : (me : ℕ) → starts_up n me (next (Took from body ∷ past)) (Took from body ∷ past) (heard_by n from body past (next (Took from body ∷ past)))
      ≡ in_instance k (says n me (Called (Starts batch) ∷ heard_by n from body past k))

begins_next : (n from : ℕ) (body : Body) (past : Inputs) → IsDue n from body past → Begins n from (next (Took from body ∷ past)) (next_batch (Took from body ∷ past)) body past
begins_next n from body past d =
    let inputs : Inputs = Took from body ∷ past in
    let k : ℕ = next inputs in
    record {
      is_next = refl;
      undecided = undecided n from body past;
      added = split n from k body past ∙ ap (λ l. l ++ heard_by n from body past k) (start_one n from body past d);
      others = λ j ne. others n from j body past ne;
      sent = λ me. ap (λ l. in_instance k (says_on n me l (heard_by n from body past k))) (start_one n from body past d);
    }

-- the first of what waits
front_stays : (sorted xs : Items) → 1 ≤ length sorted → 1 ≤ length (insert_all sorted xs)
front_stays sorted [] h = h
front_stays sorted (x ∷ xs) h = front_stays (insert x sorted) xs (longer x sorted)
  where
    longer : (x : Item) (ys : Items) → 1 ≤ length (insert x ys)
    longer x [] = omega arith
    longer x (y ∷ ys) = cond_both (stands_before y x) (y ∷ insert x ys) (x ∷ y ∷ ys) (λ l. 1 ≤ length l) (λ t. omega arith) (λ t. omega arith)

pub none_waits : (xs : Items) → None ≡ first_of (in_order xs) → length xs ≡ 0
none_waits [] e = refl
none_waits (x ∷ xs) e = absurd (some_first (in_order (x ∷ xs)) (front_stays (x ∷ []) xs (omega arith)) e)
  where
    some_first : (ys : Items) → 1 ≤ length ys → None ≡ first_of ys → ⊥
    some_first [] h e = omega (arith, h)
    some_first (y ∷ ys) h e = absurd cc

pub first_waits : (xs : Items) (batch : Items) → Some batch ≡ first_of (in_order xs) → (0 < length xs) × (batch ≡ take MAX_BATCH (in_order xs))
first_waits [] batch e = absurd cc
first_waits (x ∷ xs) batch e = (omega arith, taken (in_order (x ∷ xs)) e)
  where
    taken : (ys : Items) → Some batch ≡ first_of ys → batch ≡ take MAX_BATCH ys
    taken [] e = absurd cc
    taken (y ∷ ys) e = cc

pub begins : (n from k round : ℕ) (batch : Items) (body : Body) (past : Inputs) → k ≤ last_instance → k ≡ next (Took from body ∷ past)
    → (decided (heard_by n from body past k) ≡ None → round ≡ (place n (heard_by n from body past k)).round) → round ≡ 0 → Some batch ≡ first_of (in_order (waiting (Took from body ∷ past))) → Begins n from k batch body past
begins n from k round batch body past low is at zero found =
    let inputs : Inputs = Took from body ∷ past in
    let w : (0 < length (waiting inputs)) × (batch ≡ next_batch inputs) = first_waits (waiting inputs) batch found in
    let zero_at : (place n (heard_by n from body past k)).round ≡ 0 = sym (at (subst (λ z. decided (heard_by n from body past z) ≡ None) (sym is) (undecided n from body past))) ∙ zero in
    subst (λ z. Begins n from z batch body past) (sym is)
    (subst (λ b. Begins n from (next inputs) b body past) (sym w.1)
    (begins_next n from body past (record {
      number = refl;
      counts = subst (λ z. z ≤ last_instance) is low;
      some = w.0;
      apart = subst (λ z. (place n (heard_by n from body past z)).round ≡ 0) is zero_at;
    })))
