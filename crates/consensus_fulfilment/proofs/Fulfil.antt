use Rattle.std.proofs.Common.{ℕ, zero, suc, ◌+◌, ◌^◌, ◌≡◌, ◌<◌, ◌≤◌, inl, inr, eqb, Bool, true, false, cond, not, List, [], ◌∷◌, ◌++◌, length, Option, Some, None, refl, sym, ap, ◌∙◌, subst, arith, append-nil, ◌||◌, length-append}
use Rattle.std.specs.List.{Contains, filter, filter_map, flat_map, count_by, list_any}
use Rattle.std.specs.Option.{is_some}
use Rattle.std.proofs.lemmas.Bool.{cases_Bool, cond_both, cond-false, or_cases, both_ways}
use Rattle.std.proofs.lemmas.List.Elements.{Contains-append_left, Contains-append_right, Contains-append_cases, Contains-push}
use Rattle.std.proofs.lemmas.List.Folds.{list_any-append}
use Rattle.std.proofs.lemmas.List.Sums.{sum_by-cons}
use Rattle.fifo_net.specs.Net.{Input, Called, Took, taken, sent, bodies_to, inputs_of, IsPrefix, IsRun}
use Rattle.upd_base.specs.Item.{id_of, has_id}
use Rattle.upd_base.specs.declared.item.Item.{Item}
use Rattle.upd_base.specs.declared.body.Body.{Body}
use Rattle.upd_base.specs.declared.body.Body.TheVariants.{Rb}
use Rattle.order_trait.specs.Runs.{Order, Broadcast, Suspect, Trust, Inputs, Steps, StepsFit, broadcast_at, broadcast_in, suspects, suspects_in, IsDrained, KeepsFulfilment}
use Rattle.order_trait.specs.Outbox.{to_all}
use Rattle.order_trait.proofs.Broadcasts.{broadcasts, broadcast_by_one, broadcast_once}
use Rattle.order_trait.proofs.Sends.{bodies_to_all}
use Rattle.instance_rules.specs.Say.{Items, Starts, Say, Estimates, Proposes, Replies, Moves_on, Decides, Turns}
use Rattle.instance_rules.specs.History.{decides, decided, or_else}
use Rattle.instance_rules.specs.Says.{to_each, coordinates, made, propose, conclude, leads, has_led, passes_on, says}
use Rattle.instance_rules.specs.Ballot.{proposal, verdict}
use Rattle.instance_rules.specs.Place.{moves, place}
use Rattle.consensus_rules.specs.Items.{knows, add_new, rb_item, received}
use Rattle.consensus_rules.specs.Delivered.{decisions, decision, greatest_number, batches, delivers_by, next}
use Rattle.consensus_rules.specs.Waiting.{waiting, next_batch}
use Rattle.instance_rules.specs.Bodies.{say_of}
use Rattle.consensus_rules.specs.Instances.{is_due, last_instance, hears, start_of, adds, turns_of}
use Rattle.consensus_rules.specs.Consensus.{sends_by}
use Rattle.instance_rules.specs.Run.{Rounds}
use Rattle.instance_rules.proofs.Votes.{one, none, weigh}
use Rattle.instance_rules.proofs.Said.{said}
use Rattle.consensus_rules.proofs.Delivered.{add_new_more, next_undecided, batches_reach, batches_agree}
use Rattle.consensus_rules.specs.Projection.{at_step, rounds_of}
use Rattle.consensus_rules.proofs.Projection.{at_step_append, inputs_rounds, taken_rounds, sent_rounds, run_rounds, fit_rounds, decision_turns, members_consistent}
use Rattle.consensus_agreement.proofs.Integrity.{delivers_broadcast}
use Rattle.consensus_fulfilment.proofs.Calm.{IsCalm}
use Rattle.consensus_fulfilment.proofs.Progress.{said_sent, Drained, decided_by, undecided_before, among_each, led_said, progress}
use Rattle.consensus_rules.proofs.Known.{has_its_id, known_item, knows_added, knows_more, knows_self}
use Rattle.consensus_rules.proofs.Begun.{begun_next}
use Rattle.consensus_agreement.proofs.Fresh.{next_bound}
use Rattle.upd_base.specs.declared.kind.Kind.TheVariants.{Consensus}

-- Who has decided has told all.
no_decide : (n : ℕ) (y : Say) → decides y ≡ None → list_any (λ p. is_some (decides p.1)) (to_each n y) ≡ false
no_decide zero y e = refl
no_decide (suc n) y e =
    list_any-append (λ p. is_some (decides p.1)) (to_each n y) ((n, y) ∷ [])
    ∙ ap (λ b. b || (is_some (decides y) || false)) (no_decide n y e)
    ∙ ap (λ o. is_some o || false) e

pub no_decide_proposed : (n round : ℕ) (o : Option Items) → list_any (λ p. is_some (decides p.1)) (propose n round o) ≡ false
no_decide_proposed n round None = refl
no_decide_proposed n round (Some b) = no_decide n (Proposes round b) refl

concluded : (n round to : ℕ) (v : Option Bool) (o : Option Items) → to < n → list_any (λ p. is_some (decides p.1)) (conclude n round v o) ≡ true → (b : Items) × Contains (conclude n round v o) (to, Decides b)
concluded n round to None o lt e = absurd cc
concluded n round to (Some true) None lt e = absurd cc
concluded n round to (Some false) None lt e = absurd cc
concluded n round to (Some true) (Some b) lt e = (b, among_each n to (Decides b) lt)
concluded n round to (Some false) (Some b) lt e = absurd (both_ways (list_any (λ p. is_some (decides p.1)) (to_each n (Moves_on round))) (no_decide n (Moves_on round) refl) e)

led_decide : (n me : ℕ) (past : Turns) (from : ℕ) (say : Say) (to : ℕ) → to < n → list_any (λ p. is_some (decides p.1)) (leads n me past from say) ≡ true → (b : Items) × Contains (leads n me past from say) (to, Decides b)
led_decide n me past from (Estimates round held) to lt =
    let o : Option Items = made (proposal n round past) (proposal n round (Took from (Estimates round held) ∷ past)) in
    cond_both (coordinates n me round) (propose n round o) [] (λ l. list_any (λ p. is_some (decides p.1)) l ≡ true → (b : Items) × Contains l (to, Decides b))
    (λ t e. absurd (both_ways (list_any (λ p. is_some (decides p.1)) (propose n round o)) (no_decide_proposed n round o) e))
    (λ t e. absurd cc)
led_decide n me past from (Proposes round batch) to lt = λ e. absurd cc
led_decide n me past from (Replies round agree) to lt =
    let v : Option Bool = made (verdict n round past) (verdict n round (Took from (Replies round agree) ∷ past)) in
    cond_both (coordinates n me round) (conclude n round v (proposal n round past)) [] (λ l. list_any (λ p. is_some (decides p.1)) l ≡ true → (b : Items) × Contains l (to, Decides b))
    (λ t e. concluded n round to v (proposal n round past) lt e)
    (λ t e. absurd cc)
led_decide n me past from (Moves_on round) to lt = λ e. absurd cc
led_decide n me past from (Decides batch) to lt = λ e. absurd cc

has_led_said : (n me : ℕ) (turns : Turns) (to : ℕ) → to < n → decided turns ≡ None → has_led n me turns ≡ true → (b : Items) × Contains (said n me turns) (to, Decides b)
has_led_said n me [] to lt und e = absurd cc
has_led_said n me (Called act ∷ past) to lt und e =
    let old : (b : Items) × Contains (said n me past) (to, Decides b) = has_led_said n me past to lt und e in
    (old.0, Contains-append_left (said n me past) (says n me (Called act ∷ past)) (to, Decides old.0) old.1)
has_led_said n me (Took from say ∷ past) to lt und e =
    let before : decided past ≡ None = undecided_before (Took from say) past und in
    elim (or_cases (has_led n me past) (list_any (λ p. is_some (decides p.1)) (leads n me past from say)) e) [
      | inl t ↦
          let old : (b : Items) × Contains (said n me past) (to, Decides b) = has_led_said n me past to lt before t in
          (old.0, Contains-append_left (said n me past) (says n me (Took from say ∷ past)) (to, Decides old.0) old.1)
      | inr t ↦
          let now : (b : Items) × Contains (leads n me past from say) (to, Decides b) = led_decide n me past from say to lt t in
          (now.0, Contains-append_right (said n me past) (says n me (Took from say ∷ past)) (to, Decides now.0) (led_said n me past from say (to, Decides now.0) before now.1))
    ]

passes_said : (n me : ℕ) (past : Turns) (from to : ℕ) (b : Items) → to < n → decided past ≡ None → has_led n me past ≡ false → Contains (says n me (Took from (Decides b) ∷ past)) (to, Decides b)
passes_said n me past from to b lt und f =
    subst (λ l. Contains l (to, Decides b))
    (sym (ap (λ o. cond (is_some o) [] ((moves n past (Took from (Decides b)) (place n past)).says ++ (leads n me past from (Decides b) ++ passes_on n me past (Decides b)))) und
    ∙ cond-false (has_led n me past) [] (to_each n (Decides b)) f))
    (among_each n to (Decides b) lt)

pub decided_told : (n me : ℕ) (turns : Turns) (b : Items) (to : ℕ) → to < n → decided turns ≡ Some b → (c : Items) × Contains (said n me turns) (to, Decides c)
decided_told n me [] b to lt e = absurd cc
decided_told n me (Called act ∷ past) b to lt e =
    let old : (c : Items) × Contains (said n me past) (to, Decides c) = decided_told n me past b to lt e in
    (old.0, Contains-append_left (said n me past) (says n me (Called act ∷ past)) (to, Decides old.0) old.1)
decided_told n me (Took from say ∷ past) b to lt e = by_first (decided past) refl (λ d same. decided_told n me past d to lt same)
  where
    now : (say : Say) → decides say ≡ Some b → decided past ≡ None → (c : Items) × Contains (said n me past ++ says n me (Took from say ∷ past)) (to, Decides c)
    now (Estimates round held) is und = absurd cc
    now (Proposes round batch) is und = absurd cc
    now (Replies round agree) is und = absurd cc
    now (Moves_on round) is und = absurd cc
    now (Decides d) is und =
        elim (cases_Bool (has_led n me past)) [
          | inl t ↦
              let old : (c : Items) × Contains (said n me past) (to, Decides c) = has_led_said n me past to lt und t in
              (old.0, Contains-append_left (said n me past) (says n me (Took from (Decides d) ∷ past)) (to, Decides old.0) old.1)
          | inr f ↦ (d, Contains-append_right (said n me past) (says n me (Took from (Decides d) ∷ past)) (to, Decides d) (passes_said n me past from to d lt und f))
        ]

    by_first : (o : Option Items) → decided past ≡ o → ((d : Items) → decided past ≡ Some d → (c : Items) × Contains (said n me past) (to, Decides c))
        → (c : Items) × Contains (said n me past ++ says n me (Took from say ∷ past)) (to, Decides c)
    by_first (Some d) before old_told =
        let old : (c : Items) × Contains (said n me past) (to, Decides c) = old_told d before in
        (old.0, Contains-append_left (said n me past) (says n me (Took from say ∷ past)) (to, Decides old.0) old.1)
    by_first None before old_told = now say (sym (ap (λ z. or_else z (decides say)) before) ∙ e) before

-- the projection of a run without suspicion, with all taken
calm_added : (n k at : ℕ) (x : Input Order Body) (past : Inputs) (turns : Turns) (rest : Rounds) → suspects x ≡ 0 → IsCalm rest → IsCalm (at_step at (adds n k x past turns) rest)
calm_added n k at (Called (Broadcast item)) past turns rest e c = c
calm_added n k at (Called (Suspect who)) past turns rest e c = absurd (omega (arith, e))
calm_added n k at (Called (Trust who)) past turns rest e c = (tt, c)
calm_added n k at (Took from body) past turns rest e c =
    let all : Turns = hears from (say_of k body) ++ turns in
    let start : Turns = start_of n k (Took from body ∷ past) all in
    subst IsCalm (sym (at_step_append at start (hears from (say_of k body)) rest))
    (cond_both (is_due n k (Took from body ∷ past) all) (Called (Starts (next_batch (Took from body ∷ past))) ∷ []) []
    (λ l. IsCalm (at_step at l (at_step at (hears from (say_of k body)) rest))) (λ t. (tt, one_heard (say_of k body))) (λ t. one_heard (say_of k body)))
  where
    one_heard : (o : Option Say) → IsCalm (at_step at (hears from o) rest)
    one_heard None = c
    one_heard (Some say) = (tt, c)

pub calm_rounds : (n k : ℕ) (past : Steps) → suspects_in past ≡ 0 → IsCalm (rounds_of n k past)
calm_rounds n k [] e = tt
calm_rounds n k (s ∷ past) e =
    calm_added n k s.at s.input (inputs_of s.at past) (turns_of n k (inputs_of s.at past)) (rounds_of n k past) (omega (arith, e)) (calm_rounds n k past (omega (arith, e)))

drained_rounds : (n k : ℕ) (past : Steps) → IsDrained sends_by n past → Drained n (rounds_of n k past)
drained_rounds n k past d = λ i j i_fits j_fits y h.
    subst (λ l. Contains l y) (sent_rounds n k i j past ∙ ap (filter_map (say_of k)) (d i j i_fits j_fits) ∙ sym (taken_rounds n k i j past)) h

-- what one has decided all have
decided_all : (n k : ℕ) (past : Steps) → IsDrained sends_by n past → (i j : ℕ) → i < n → j < n → (b : Items) → decision k (decisions (inputs_of i past)) ≡ Some b
    → decision k (decisions (inputs_of j past)) ≡ None → ⊥
decided_all n k past d i j i_fits j_fits b e none_there =
    let here : decided (inputs_of i (rounds_of n k past)) ≡ Some b = ap decided (inputs_rounds n k i past) ∙ sym (decision_turns n k (inputs_of i past)) ∙ e in
    let there : decided (inputs_of j (rounds_of n k past)) ≡ None = ap decided (inputs_rounds n k j past) ∙ sym (decision_turns n k (inputs_of j past)) ∙ none_there in
    let told : (c : Items) × Contains (said n i (inputs_of i (rounds_of n k past))) (j, Decides c) = decided_told n i (inputs_of i (rounds_of n k past)) b j j_fits here in
    decided_by i (inputs_of j (rounds_of n k past)) told.0
    (drained_rounds n k past d i j i_fits j_fits (Decides told.0) (said_sent n i j (inputs_of i (rounds_of n k past)) (Decides told.0) told.1)) there

rest_empty : (ds es : List (ℕ × Items)) → IsPrefix (batches ds) (batches es) → decision (1 + length (batches ds)) ds ≡ None
    → ((k : ℕ) (b : Items) → decision k es ≡ Some b → decision k ds ≡ None → ⊥) → batches es ≡ batches ds
rest_empty ds es p ends spread = by_rest p.0 p.1
  where
    by_rest : (rest : List Items) → batches es ≡ batches ds ++ rest → batches es ≡ batches ds
    by_rest [] e = e ∙ append-nil (batches ds)
    by_rest (b ∷ bs) e =
        let long : length (batches es) ≡ length (batches ds) + length (b ∷ bs) = ap length e ∙ length-append (batches ds) (b ∷ bs) in
        let some : (c : Items) × (decision (1 + length (batches ds)) es ≡ Some c) = batches_reach (greatest_number es) 1 (1 + length (batches ds)) es (omega arith) (omega (arith, long)) in
        absurd (spread (1 + length (batches ds)) some.0 some.1 ends)

same_batches : (n : ℕ) (past : Steps) → IsRun (sends_by n) past → StepsFit n past → IsDrained sends_by n past → (i j : ℕ) → i < n → j < n
    → batches (decisions (inputs_of i past)) ≡ batches (decisions (inputs_of j past))
same_batches n past run fit d i j i_fits j_fits =
    let xs : List (ℕ × Items) = decisions (inputs_of i past) in
    let ys : List (ℕ × Items) = decisions (inputs_of j past) in
    elim (batches_agree (greatest_number xs) (greatest_number ys) 1 xs ys (members_consistent n past run fit i j)) [
      | inl p ↦ sym (rest_empty xs ys p (next_undecided (inputs_of i past)) (λ k b e z. decided_all n k past d j i j_fits i_fits b e z))
      | inr p ↦ rest_empty ys xs p (next_undecided (inputs_of j past)) (λ k b e z. decided_all n k past d i j i_fits j_fits b e z)
    ]

-- what was broadcast each member has received

takes_in : (inputs : Inputs) (j : ℕ) (x : Item) → Contains (taken j inputs) (Rb x) → knows (received inputs) x ≡ true
takes_in [] j x h = none (Rb x) h
takes_in (Called order ∷ past) j x h = takes_in past j x h
takes_in (Took from body ∷ past) j x h =
    cond_both (eqb from j) (taken j past ++ body ∷ []) (taken j past) (λ l. Contains l (Rb x) → knows (add_new (received past) (rb_item body)) x ≡ true)
    (λ t k. elim (Contains-append_cases (taken j past) (body ∷ []) (Rb x) k) [
      | inl old ↦ knows_more (received past) (add_new (received past) (rb_item body)) x (add_new_more (received past) (rb_item body)) (takes_in past j x old)
      | inr new ↦ subst (λ z. knows (add_new (received past) (rb_item z)) x ≡ true) (sym (one body (Rb x) new)) (knows_added (received past) x)
    ])
    (λ t k. knows_more (received past) (add_new (received past) (rb_item body)) x (add_new_more (received past) (rb_item body)) (takes_in past j x k))
    h

sends_rb : (n j to : ℕ) (inputs : Inputs) (x : Item) → to < n → Contains (broadcasts inputs) x → Contains (sent (sends_by n) j to inputs) (Rb x)
sends_rb n j to [] x lt h = none x h
sends_rb n j to (y ∷ past) x lt h =
    elim (Contains-append_cases (broadcasts past) (broadcast_at y) x h) [
      | inl old ↦ Contains-append_left (sent (sends_by n) j to past) (bodies_to to (sends_by n j (y ∷ past))) (Rb x) (sends_rb n j to past x lt old)
      | inr new ↦ Contains-append_right (sent (sends_by n) j to past) (bodies_to to (sends_by n j (y ∷ past))) (Rb x) (now y new)
    ]
  where
    now : (y : Input Order Body) → Contains (broadcast_at y) x → Contains (bodies_to to (sends_by n j (y ∷ past))) (Rb x)
    now (Called (Broadcast item)) h =
        subst (λ z. Contains (bodies_to to (to_all n (Rb item))) (Rb z)) (one item x h)
        (subst (λ l. Contains l (Rb item)) (sym (bodies_to_all n to (Rb item) lt)) (Contains-push [] (Rb item)))
    now (Called (Suspect who)) h = none x h
    now (Called (Trust who)) h = none x h
    now (Took from body) h = none x h

received_all : (n : ℕ) (past : Steps) → StepsFit n past → IsDrained sends_by n past → (i : ℕ) → i < n → (x : Item) → Contains (broadcast_in past) x → knows (received (inputs_of i past)) x ≡ true
received_all n past fit d i i_fits x h =
    let j : (j : ℕ) × (j < n) × Contains (broadcasts (inputs_of j past)) x = broadcast_by_one n past fit x h in
    takes_in (inputs_of i past) j.0 x
    (subst (λ l. Contains l (Rb x)) (d j.0 i j.1 i_fits) (sends_rb n j.0 i (inputs_of j.0 past) x i_fits j.2))

kept_one : (p : Item → Bool) (id : ℕ × ℕ) (ys : Items) → ((y : Item) → has_id id y ≡ true → p y ≡ true) → list_any (has_id id) ys ≡ true → 1 ≤ length (filter p ys)
kept_one p id [] h e = absurd cc
kept_one p id (y ∷ ys) h e =
    cond_both (p y) (y ∷ filter p ys) (filter p ys) (λ l. 1 ≤ length l)
    (λ t. omega arith)
    (λ f. elim (or_cases (has_id id y) (list_any (has_id id) ys) e) [
      | inl same ↦ absurd (both_ways (p y) f (h y same))
      | inr rest ↦ kept_one p id ys h rest
    ])

waits : (inputs : Inputs) (x : Item) → knows (received inputs) x ≡ true → knows (delivers_by 0 0 inputs) x ≡ false → 1 ≤ length (waiting inputs)
waits inputs x known_x undelivered =
    kept_one (λ y. not (knows (delivers_by 0 0 inputs) y)) (id_of x) (received inputs)
    (λ y same. ap not (ap (λ id. list_any (has_id id) (delivers_by 0 0 inputs)) (has_its_id (id_of x) y same) ∙ undelivered))
    known_x

-- of one (origin, number) there is one item
counted : (id : ℕ × ℕ) (xs : Items) (x : Item) → has_id id x ≡ true → Contains xs x → 1 ≤ count_by (has_id id) xs
counted id [] x e h = none x h
counted id (y ∷ ys) x e h =
    let sum : count_by (has_id id) (y ∷ ys) ≡ weigh (has_id id y) + count_by (has_id id) ys = sum_by-cons (λ z. cond (has_id id z) 1 0) y ys in
    elim (Contains-append_cases (y ∷ []) ys x h) [
      | inl here ↦ let w : weigh (has_id id y) ≡ 1 = ap (λ z. weigh (has_id id z)) (one y x here) ∙ ap weigh e in omega (arith, sum, w)
      | inr there ↦ omega (arith, sum, counted id ys x e there)
    ]

same_item : (id : ℕ × ℕ) (xs : Items) (x y : Item) → count_by (has_id id) xs ≤ 1 → has_id id x ≡ true → has_id id y ≡ true → Contains xs x → Contains xs y → x ≡ y
same_item id [] x y few ex ey hx hy = none x hx
same_item id (z ∷ zs) x y few ex ey hx hy =
    let sum : count_by (has_id id) (z ∷ zs) ≡ weigh (has_id id z) + count_by (has_id id) zs = sum_by-cons (λ w. cond (has_id id w) 1 0) z zs in
    elim (Contains-append_cases (z ∷ []) zs x hx) [
      | inl x_here ↦
          let zx : z ≡ x = one z x x_here in
          let w : weigh (has_id id z) ≡ 1 = ap (λ v. weigh (has_id id v)) zx ∙ ap weigh ex in
          elim (Contains-append_cases (z ∷ []) zs y hy) [
            | inl y_here ↦ sym zx ∙ one z y y_here
            | inr y_there ↦ absurd (omega (arith, sum, w, few, counted id zs y ey y_there))
          ]
      | inr x_there ↦ elim (Contains-append_cases (z ∷ []) zs y hy) [
        | inl y_here ↦
            let w : weigh (has_id id z) ≡ 1 = ap (λ v. weigh (has_id id v)) (one z y y_here) ∙ ap weigh ey in
            absurd (omega (arith, sum, w, few, counted id zs x ex x_there))
        | inr y_there ↦ same_item id zs x y (omega (arith, sum, few)) ex ey x_there y_there
      ]
    ]

-- Fulfilment.
-- no more items are broadcast than there are steps
broadcast_few : (past : Steps) → length (broadcast_in past) ≤ length past
broadcast_few [] = omega arith
broadcast_few (s ∷ past) = omega (arith, one_at s.input, length-append (broadcast_at s.input) (broadcast_in past), broadcast_few past)
  where
    one_at : (x : Input Order Body) → length (broadcast_at x) ≤ 1
    one_at (Called (Broadcast item)) = omega arith
    one_at (Called (Suspect who)) = omega arith
    one_at (Called (Trust who)) = omega arith
    one_at (Took from body) = omega arith

counts_on : (k items steps : ℕ) → k ≤ items → items ≤ steps → steps < 2 ^ 40 → k ≤ last_instance
counts_on k items steps a b c = omega (arith, a, b, c)

pub fulfils : (n : ℕ) (past : Steps) → 1 ≤ n → length past < 2 ^ 40 → IsRun (sends_by n) past → StepsFit n past → suspects_in past ≡ 0 → IsDrained sends_by n past
    → (i : ℕ) → i < n → (x : Item) → Contains (broadcast_in past) x → Contains (delivers_by n i (inputs_of i past)) x
fulfils n past some short run fit calm d i i_fits x h =
    elim (cases_Bool (knows (delivers_by n i (inputs_of i past)) x)) [
      | inl t ↦
          let y : (y : Item) × Contains (delivers_by n i (inputs_of i past)) y × (has_id (id_of x) y ≡ true) = known_item (id_of x) (delivers_by n i (inputs_of i past)) t in
          let same : y.0 ≡ x = same_item (id_of x) (broadcast_in past) y.0 x (broadcast_once n past fit (id_of x)) y.2 (knows_self x) (delivers_broadcast n past run fit i y.0 y.1) h in
          subst (Contains (delivers_by n i (inputs_of i past))) same y.1
      | inr f ↦
          let k : ℕ = next (inputs_of i past) in
          let same : (m : ℕ) → m < n → batches (decisions (inputs_of m past)) ≡ batches (decisions (inputs_of i past)) = (λ m m_fits. same_batches n past run fit d m i m_fits i_fits) in
          let next_is : (m : ℕ) → m < n → next (inputs_of m past) ≡ k = (λ m m_fits. ap (λ bs. 1 + length bs) (same m m_fits)) in
          let none_delivered : (m : ℕ) → m < n → knows (delivers_by 0 0 (inputs_of m past)) x ≡ false = (λ m m_fits. ap (λ bs. knows (add_new [] (flat_map (λ b. b) bs)) x) (same m m_fits) ∙ f) in
          let joined : (m : ℕ) → m < n → 1 ≤ (place n (inputs_of m (rounds_of n k past))).round =
          (λ m m_fits.
          let w : 1 ≤ length (waiting (inputs_of m past)) = waits (inputs_of m past) x (received_all n past fit d m m_fits x h) (none_delivered m m_fits) in
          let b : 1 ≤ (place n (turns_of n (next (inputs_of m past)) (inputs_of m past))).round = begun_next n (inputs_of m past) (counts_on (next (inputs_of m past)) (length (broadcast_in past)) (length past) (next_bound n past run fit m w) (broadcast_few past) short) w in
          subst (λ l. 1 ≤ (place n l).round) (ap (λ z. turns_of n z (inputs_of m past)) (next_is m m_fits) ∙ sym (inputs_rounds n k m past)) b) in
          let undecided : (m : ℕ) → m < n → decided (inputs_of m (rounds_of n k past)) ≡ None =
          (λ m m_fits. ap decided (inputs_rounds n k m past) ∙ sym (decision_turns n k (inputs_of m past))
          ∙ subst (λ z. decision z (decisions (inputs_of m past)) ≡ None) (next_is m m_fits) (next_undecided (inputs_of m past))) in
          absurd (progress n (rounds_of n k past) some (run_rounds n k past run) (fit_rounds n k past fit) (calm_rounds n k past calm) (drained_rounds n k past d) joined undecided)
    ]

pub fulfilment : KeepsFulfilment sends_by delivers_by Consensus
fulfilment n past run calm drained i i_fits x h = fulfils n past run.some run.short run.fifo run.fit calm drained i i_fits x h
