use Rattle.std.proofs.Common.{ℕ, zero, suc, ◌+◌, ◌≡◌, ◌<◌, ◌≤◌, ◌⊎◌, inl, inr, Bool, true, false, cond, not, List, [], ◌∷◌, ◌++◌, length, take, Option, Some, None, refl, sym, ap, ◌∙◌, subst, arith, length-append}
use Rattle.std.specs.List.{Contains, filter, flat_map, count_by, list_any}
use Rattle.std.proofs.lemmas.Bool.{cond_both, cond-false, or_cases, both_ways, not-true, true≢false}
use Rattle.std.proofs.lemmas.List.Elements.{Contains-append_left, Contains-append_cases, Contains-push, All-contains, filter_passes}
use Rattle.std.proofs.lemmas.List.Sums.{sum_by-cons}
use Rattle.fifo_net.specs.Net.{Input, Called, Took, inputs_of, IsPrefix, IsRun}
use Rattle.fifo_net.proofs.Links.{inputs_step, inputs_here, IsPrefix-self, IsPrefix-trans}
use Rattle.upd_base.specs.Item.{id_of, has_id, stands_before}
use Rattle.upd_base.specs.declared.item.Item.{Item}
use Rattle.upd_base.specs.declared.body.Body.{Body}
use Rattle.order_trait.specs.Runs.{Order, Broadcast, Suspect, Trust, Inputs, Steps, StepsFit, broadcast_in}
use Rattle.instance_rules.specs.Say.{Items, Starts, Turns}
use Rattle.consensus_rules.specs.Items.{knows, add_new, received}
use Rattle.consensus_rules.specs.Delivered.{decisions, decision, and_on, batches_from, greatest_number, batches, delivers_by, next}
use Rattle.consensus_rules.specs.Waiting.{insert, insert_all, in_order, waiting, next_batch}
use Rattle.instance_rules.specs.Bodies.{say_of}
use Rattle.consensus_rules.specs.Instances.{is_due, hears, start_of, adds, turns_of}
use Rattle.consensus_rules.specs.Consensus.{sends_by}
use Rattle.instance_rules.specs.Run.{Rounds, started_in}
use Rattle.instance_rules.proofs.Votes.{one, none, weigh}
use Rattle.instance_rules.proofs.Agree.{runs_valid}
use Rattle.consensus_rules.proofs.Delivered.{add_new_more, add_new_append, decision_more, decisions_grow, batches_agree, Consistent, counted_new, delivers_once}
use Rattle.consensus_rules.specs.Projection.{at_step, rounds_of}
use Rattle.consensus_rules.proofs.Projection.{at_step_append, run_rounds, fit_rounds, decision_rounds, members_consistent}
use Rattle.consensus_agreement.proofs.Integrity.{filter_from, in_order_from, heard_starts, delivers_broadcast, received_broadcast}
use Rattle.consensus_rules.proofs.Known.{contains_knows, has_its_id, knows_self}
use Rattle.consensus_rules.proofs.Begun.{Due, due}
use Rattle.upd_base.specs.declared.limits.TheConstants.{MAX_BATCH}

-- Items of different (origin, number) that are all in a list are no more than it has.
split_count : (p : Item → Bool) (xs : Items) → length xs ≡ count_by p xs + length (filter (λ y. not (p y)) xs)
split_count p [] = omega arith
split_count p (x ∷ xs) =
    let sum : count_by p (x ∷ xs) ≡ weigh (p x) + count_by p xs = sum_by-cons (λ z. cond (p z) 1 0) x xs in
    let rest : length xs ≡ count_by p xs + length (filter (λ y. not (p y)) xs) = split_count p xs in
    let list : length (filter (λ y. not (p y)) (x ∷ xs)) ≡ cond (p x) 0 1 + length (filter (λ y. not (p y)) xs) =
    (elim (p x) as (λ b. length (cond (not b) (x ∷ filter (λ y. not (p y)) xs) (filter (λ y. not (p y)) xs)) ≡ cond b 0 1 + length (filter (λ y. not (p y)) xs)) [ true ↦ omega arith | false ↦ omega arith ]) in
    let both : weigh (p x) + cond (p x) 0 1 ≡ ◌+◌ 1 0 = (elim (p x) as (λ b. weigh b + cond b 0 1 ≡ ◌+◌ 1 0) [ true ↦ omega arith | false ↦ omega arith ]) in
    omega (arith, sum, rest, list, both)

filter_count : (f p : Item → Bool) (xs : Items) → count_by f (filter p xs) ≤ count_by f xs
filter_count f p [] = omega arith
filter_count f p (x ∷ xs) =
    let sum : count_by f (x ∷ xs) ≡ weigh (f x) + count_by f xs = sum_by-cons (λ z. cond (f z) 1 0) x xs in
    cond_both (p x) (x ∷ filter p xs) (filter p xs) (λ l. count_by f l ≤ count_by f (x ∷ xs))
    (λ t. let sum_too : count_by f (x ∷ filter p xs) ≡ weigh (f x) + count_by f (filter p xs) = sum_by-cons (λ z. cond (f z) 1 0) x (filter p xs) in omega (arith, sum, sum_too, filter_count f p xs))
    (λ t. omega (arith, sum, filter_count f p xs))

id_sym : (x l : Item) → has_id (id_of x) l ≡ true → has_id (id_of l) x ≡ true
id_sym x l e = subst (λ id. has_id id x ≡ true) (sym (has_its_id (id_of x) l e)) (knows_self x)

pub fits_in : (xs ls : Items) → ((id : ℕ × ℕ) → count_by (has_id id) xs ≤ 1) → ((x : Item) → Contains xs x → knows ls x ≡ true) → length xs ≤ length ls
fits_in [] [] once h = omega arith
fits_in (x ∷ xs) [] once h = absurd (true≢false (sym (h x (Contains-append_left (x ∷ []) xs x (Contains-push [] x)))))
fits_in xs (l ∷ ls) once h =
    let q : Item → Bool = (λ y. not (has_id (id_of l) y)) in
    let split : length xs ≡ count_by (has_id (id_of l)) xs + length (filter q xs) = split_count (has_id (id_of l)) xs in
    let few : count_by (has_id (id_of l)) xs ≤ 1 = once (id_of l) in
    let rest : length (filter q xs) ≤ length ls =
    fits_in (filter q xs) ls
    (λ id. let a : count_by (has_id id) (filter q xs) ≤ count_by (has_id id) xs = filter_count (has_id id) q xs in let b : count_by (has_id id) xs ≤ 1 = once id in omega arith)
    (λ x g.
    let other : q x ≡ true = All-contains (λ y. q y ≡ true) (filter q xs) x (filter_passes q xs) g in
    elim (or_cases (has_id (id_of x) l) (list_any (has_id (id_of x)) ls) (h x (filter_from q xs x g))) [
      | inl same ↦ absurd (both_ways (has_id (id_of l) x) (not-true (has_id (id_of l) x) other) (id_sym x l same))
      | inr there ↦ there
    ]) in
    omega (arith, split, few, rest)

prefix_length : (xs ys : Items) → IsPrefix xs ys → length xs ≤ length ys
prefix_length xs ys p = let e : length ys ≡ length xs + length p.0 = ap length p.1 ∙ length-append xs p.0 in omega arith

adds_fresh : (items b : Items) (w : Item) → Contains b w → knows items w ≡ false → length items + 1 ≤ length (add_new items b)
adds_fresh items [] w h f = none w h
adds_fresh items (y ∷ ys) w h f =
    cond_both (knows items y) items (items ++ y ∷ []) (λ l. length items + 1 ≤ length (add_new l ys))
    (λ t. elim (Contains-append_cases (y ∷ []) ys w h) [
      | inl here ↦ absurd (both_ways (knows items w) f (subst (λ z. knows items z ≡ true) (one y w here) t))
      | inr there ↦ adds_fresh items ys w there f
    ])
    (λ t. let a : length (items ++ y ∷ []) ≡ length items + 1 = length-append items (y ∷ []) in
    let b : length (items ++ y ∷ []) ≤ length (add_new (items ++ y ∷ []) ys) = prefix_length (items ++ y ∷ []) (add_new (items ++ y ∷ []) ys) (add_new_more (items ++ y ∷ []) ys) in
    omega arith)

abbrev flat : List Items → Items
flat bs = flat_map (λ b. b) bs

-- each batch has an item that those before it lack
many_fresh : (items : Items) (bs : List Items)
    → ((xs : List Items) (b : Items) (ys : List Items) → bs ≡ xs ++ b ∷ ys → (w : Item) × Contains b w × (knows (add_new items (flat xs)) w ≡ false))
    → length items + length bs ≤ length (add_new items (flat bs))
many_fresh items [] h = omega arith
many_fresh items (b ∷ bs) h =
    let first : (w : Item) × Contains b w × (knows items w ≡ false) = h [] b bs refl in
    let grows : length items + 1 ≤ length (add_new items b) = adds_fresh items b first.0 first.1 first.2 in
    let rest : length (add_new items b) + length bs ≤ length (add_new (add_new items b) (flat bs)) =
    many_fresh (add_new items b) bs (λ xs c ys e.
    let w : (w : Item) × Contains c w × (knows (add_new items (b ++ flat xs)) w ≡ false) = h (b ∷ xs) c ys (ap (λ l. b ∷ l) e) in
    (w.0, w.1, ap (λ l. knows l w.0) (sym (add_new_append items b (flat xs))) ∙ w.2)) in
    let same : length (add_new items (b ++ flat bs)) ≡ length (add_new (add_new items b) (flat bs)) = ap length (add_new_append items b (flat bs)) in
    omega (arith, grows, rest, same)

not_empty : {A C : Type 0} (xs : List A) (b : A) (ys : List A) → [] ≡ xs ++ b ∷ ys → C
not_empty [] b ys e = absurd cc
not_empty (x ∷ xs) b ys e = absurd cc

batch_decision : (f k : ℕ) (ds : List (ℕ × Items)) (xs : List Items) (b : Items) (ys : List Items) → batches_from f k ds ≡ xs ++ b ∷ ys → decision (k + length xs) ds ≡ Some b
batch_decision zero k ds xs b ys e = not_empty xs b ys e
batch_decision (suc f) k ds xs b ys e = by_first (decision k ds) refl xs e (λ zs g. batch_decision f (k + 1) ds zs b ys g)
  where
    by_first : (o : Option Items) → decision k ds ≡ o → (xs : List Items) → and_on o (batches_from f (k + 1) ds) ≡ xs ++ b ∷ ys
        → ((zs : List Items) → batches_from f (k + 1) ds ≡ zs ++ b ∷ ys → decision (k + 1 + length zs) ds ≡ Some b) → decision (k + length xs) ds ≡ Some b
    by_first None o_is xs e rest = not_empty xs b ys e
    by_first (Some c) o_is [] e rest =
        let same : c ≡ b = cc in
        let at : k ≡ k + length {A = Items} [] = omega arith in
        subst (λ j. decision j ds ≡ Some b) at (o_is ∙ ap (λ z. Some z) same)
    by_first (Some c) o_is (x ∷ zs) e rest =
        let tail : batches_from f (k + 1) ds ≡ zs ++ b ∷ ys = cc in
        let at : k + 1 + length zs ≡ k + length (x ∷ zs) = omega arith in
        subst (λ j. decision j ds ≡ Some b) at (rest zs tail)

-- a start is made with something that waits
insert_length : (y : Item) (ys : Items) → length (insert y ys) ≡ 1 + length ys
insert_length y [] = omega arith
insert_length y (z ∷ zs) =
    cond_both (stands_before z y) (z ∷ insert y zs) (y ∷ z ∷ zs) (λ l. length l ≡ 1 + length (z ∷ zs))
    (λ t. omega (arith, insert_length y zs)) (λ t. omega arith)

all_length : (sorted xs : Items) → length (insert_all sorted xs) ≡ length sorted + length xs
all_length sorted [] = omega arith
all_length sorted (x ∷ xs) = omega (arith, all_length (insert x sorted) xs, insert_length x sorted)

order_length : (xs : Items) → length (in_order xs) ≡ length xs
order_length xs = omega (arith, all_length [] xs)

first_taken : (l : Items) → 1 ≤ length l → (w : Item) × Contains (take MAX_BATCH l) w × Contains l w
first_taken [] h = absurd (omega (arith, h))
first_taken (y ∷ ys) h = (y, Contains-append_left (y ∷ []) (take 31 ys) y (Contains-push [] y), Contains-append_left (y ∷ []) ys y (Contains-push [] y))

waits_fresh : (inputs : Inputs) → 1 ≤ length (waiting inputs) → (w : Item) × Contains (next_batch inputs) w × Contains (received inputs) w × (knows (delivers_by 0 0 inputs) w ≡ false)
waits_fresh inputs h =
    let w : (w : Item) × Contains (next_batch inputs) w × Contains (in_order (waiting inputs)) w = first_taken (in_order (waiting inputs)) (omega (arith, h, order_length (waiting inputs))) in
    let there : Contains (waiting inputs) w.0 = in_order_from (waiting inputs) w.0 w.2 in
    let fresh : not (knows (delivers_by 0 0 inputs) w.0) ≡ true =
    All-contains (λ y. not (knows (delivers_by 0 0 inputs) y) ≡ true) (waiting inputs) w.0 (filter_passes (λ y. not (knows (delivers_by 0 0 inputs) y)) (received inputs)) there in
    (w.0, w.1, filter_from (λ y. not (knows (delivers_by 0 0 inputs) y)) (received inputs) w.0 there, not-true (knows (delivers_by 0 0 inputs) w.0) fresh)

pub record Began (k : ℕ) (past : Steps) (b : Items) : Type 0 where
  pub at : ℕ
  pub inputs : Inputs
  pub earlier : IsPrefix (decisions inputs) (decisions (inputs_of at past))
  pub number_is : k ≡ next inputs
  pub fresh : (w : Item) × Contains b w × (knows (delivers_by 0 0 inputs) w ≡ false)

start_facts : (n k : ℕ) (inputs : Inputs) (turns : Turns) (at : ℕ) (rest : Rounds) (b : Items) → Contains (started_in (at_step at (start_of n k inputs turns) rest)) b
    → ((next_batch inputs ≡ b) × (k ≡ next inputs) × (1 ≤ length (waiting inputs))) ⊎ Contains (started_in rest) b
start_facts n k inputs turns at rest b h =
    cond_both (is_due n k inputs turns) (Called (Starts (next_batch inputs)) ∷ []) []
    (λ l. Contains (started_in (at_step at l rest)) b → ((next_batch inputs ≡ b) × (k ≡ next inputs) × (1 ≤ length (waiting inputs))) ⊎ Contains (started_in rest) b)
    (λ t g.
    let d : Due n k inputs turns = due n k inputs turns t in
    let some : 0 < length (waiting inputs) = d.some in
    elim (Contains-append_cases (next_batch inputs ∷ []) (started_in rest) b g) [
      | inl here ↦ inl (one (next_batch inputs) b here, d.number, omega arith)
      | inr there ↦ inr there
    ])
    (λ t g. inr g)
    h

added_facts : (n k at : ℕ) (y : Input Order Body) (past : Inputs) (turns : Turns) (rest : Rounds) (b : Items)
    → Contains (started_in (at_step at (adds n k y past turns) rest)) b → ((next_batch (y ∷ past) ≡ b) × (k ≡ next (y ∷ past)) × (1 ≤ length (waiting (y ∷ past)))) ⊎ Contains (started_in rest) b
added_facts n k at (Called (Broadcast item)) past turns rest b h = inr h
added_facts n k at (Called (Suspect who)) past turns rest b h = inr h
added_facts n k at (Called (Trust who)) past turns rest b h = inr h
added_facts n k at (Took from body) past turns rest b h =
    let all : Turns = hears from (say_of k body) ++ turns in
    let start : Turns = start_of n k (Took from body ∷ past) all in
    let two : Contains (started_in (at_step at start (at_step at (hears from (say_of k body)) rest))) b =
    subst (λ l. Contains (started_in l) b) (at_step_append at start (hears from (say_of k body)) rest) h in
    elim (start_facts n k (Took from body ∷ past) all at (at_step at (hears from (say_of k body)) rest) b two) [
      | inl now ↦ inl now
      | inr old ↦ inr (heard_starts at from (say_of k body) rest b old)
    ]

began : (n k : ℕ) (past : Steps) (b : Items) → Contains (started_in (rounds_of n k past)) b → Began k past b
began n k [] b h = none b h
began n k (s ∷ past) b h =
    elim (added_facts n k s.at s.input (inputs_of s.at past) (turns_of n k (inputs_of s.at past)) (rounds_of n k past) b h) [
      | inl now ↦
          let inputs : Inputs = s.input ∷ inputs_of s.at past in
          let w : (w : Item) × Contains (next_batch inputs) w × Contains (received inputs) w × (knows (delivers_by 0 0 inputs) w ≡ false) = waits_fresh inputs now.2 in
          record {
            at = s.at;
            inputs = inputs;
            earlier = subst (λ l. IsPrefix (decisions inputs) (decisions l)) (sym (inputs_here s.at s past refl)) (IsPrefix-self (decisions inputs));
            number_is = now.1;
            fresh = (w.0, subst (λ l. Contains l w.0) now.0 w.1, w.3);
          }
      | inr old ↦
          let o : Began k past b = began n k past b old in
          record {
            at = o.at;
            inputs = o.inputs;
            earlier = IsPrefix-trans (decisions o.inputs) (decisions (inputs_of o.at past)) (decisions (inputs_of o.at (s ∷ past))) o.earlier
                (inputs_step (λ l. IsPrefix (decisions (inputs_of o.at past)) (decisions l)) o.at s past
                (λ e. decisions_grow s.input (inputs_of o.at past)) (IsPrefix-self (decisions (inputs_of o.at past))));
            number_is = o.number_is;
            fresh = o.fresh;
          }
    ]

heads_same : (us xs rs : List Items) (b : Items) (ys : List Items) → us ++ rs ≡ xs ++ b ∷ ys → length us ≡ length xs → us ≡ xs
heads_same [] [] rs b ys e l = refl
heads_same [] (x ∷ xs) rs b ys e l = absurd (omega (arith, l))
heads_same (u ∷ us) [] rs b ys e l = absurd (omega (arith, l))
heads_same (u ∷ us) (x ∷ xs) rs b ys e l =
    let head : u ≡ x = cc in
    let tail : us ++ rs ≡ xs ++ b ∷ ys = cc in
    ap (λ z. z ∷ us) head ∙ ap (λ z. x ∷ z) (heads_same us xs rs b ys tail (omega (arith, l)))

-- Each decided instance has delivered something new.
pub delivers_many : (n : ℕ) (past : Steps) → IsRun (sends_by n) past → StepsFit n past → (i : ℕ) → length (batches (decisions (inputs_of i past))) ≤ length (delivers_by n i (inputs_of i past))
delivers_many n past run fit i =
    let ds : List (ℕ × Items) = decisions (inputs_of i past) in
    let all : length {A = Item} [] + length (batches ds) ≤ length (add_new [] (flat (batches ds))) = many_fresh [] (batches ds) (λ xs b ys e. one_fresh xs b ys e) in
    omega (arith, all)
  where
    one_fresh : (xs : List Items) (b : Items) (ys : List Items) → batches (decisions (inputs_of i past)) ≡ xs ++ b ∷ ys → (w : Item) × Contains b w × (knows (add_new [] (flat xs)) w ≡ false)
    one_fresh xs b ys e =
        let ds : List (ℕ × Items) = decisions (inputs_of i past) in
        let k : ℕ = 1 + length xs in
        let is : decision k ds ≡ Some b = batch_decision (greatest_number ds) 1 ds xs b ys e in
        let o : Began k past b = began n k past b (runs_valid n (rounds_of n k past) (run_rounds n k past run) (fit_rounds n k past fit) i b (decision_rounds n k i past b is)) in
        let es : List (ℕ × Items) = decisions o.inputs in
        let c : Consistent es ds = record { same = λ j a z ea ez. (members_consistent n past run fit o.at i).same j a z (decision_more j es (decisions (inputs_of o.at past)) a o.earlier ea) ez } in
        let long : length (batches es) ≡ length xs = (let l : k ≡ 1 + length (batches es) = o.number_is in omega (arith, l)) in
        let whole : length (batches ds) ≡ length xs + length (b ∷ ys) = ap length e ∙ length-append xs (b ∷ ys) in
        let same : batches es ≡ xs = elim (batches_agree (greatest_number es) (greatest_number ds) 1 es ds c) [
          | inl p ↦ heads_same (batches es) xs p.0 b ys (sym p.1 ∙ e) long
          | inr p ↦ let other : length (batches es) ≡ length (batches ds) + length p.0 = ap length p.1 ∙ length-append (batches ds) p.0 in absurd (omega (arith, other, long, whole))
        ] in
        (o.fresh.0, o.fresh.1, ap (λ bs. knows (add_new [] (flat bs)) o.fresh.0) (sym same) ∙ o.fresh.2)

-- An instance is begun only where there is an item more.
pub next_bound : (n : ℕ) (past : Steps) → IsRun (sends_by n) past → StepsFit n past → (m : ℕ) → 1 ≤ length (waiting (inputs_of m past)) → next (inputs_of m past) ≤ length (broadcast_in past)
next_bound n past run fit m h =
    let inputs : Inputs = inputs_of m past in
    let w : (w : Item) × Contains (next_batch inputs) w × Contains (received inputs) w × (knows (delivers_by 0 0 inputs) w ≡ false) = waits_fresh inputs h in
    let all : length (delivers_by n m inputs ++ w.0 ∷ []) ≤ length (broadcast_in past) =
    fits_in (delivers_by n m inputs ++ w.0 ∷ []) (broadcast_in past)
    (λ id. subst (λ l. count_by (has_id id) l ≤ 1) (cond-false (knows (delivers_by n m inputs) w.0) (delivers_by n m inputs) (delivers_by n m inputs ++ w.0 ∷ []) w.3)
    (counted_new id (delivers_by n m inputs) w.0 (delivers_once n m inputs id)))
    (λ x g. contains_knows (broadcast_in past) x (elim (Contains-append_cases (delivers_by n m inputs) (w.0 ∷ []) x g) [
      | inl old ↦ delivers_broadcast n past run fit m x old
      | inr new ↦ subst (Contains (broadcast_in past)) (one w.0 x new) (received_broadcast n past run m w.0 w.2)
    ])) in
    let long : length (delivers_by n m inputs ++ w.0 ∷ []) ≡ length (delivers_by n m inputs) + 1 = length-append (delivers_by n m inputs) (w.0 ∷ []) in
    omega (arith, all, long, delivers_many n past run fit m)
