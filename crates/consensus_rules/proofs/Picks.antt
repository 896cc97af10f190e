use Rattle.std.proofs.Common.{ℕ, zero, suc, ◌+◌, ◌≡◌, ◌<◌, ◌≤◌, inl, inr, eqb, ltb, leb, Bool, true, false, cond, not, List, [], ◌∷◌, ◌++◌, length, Option, Some, None, refl, sym, ap, ◌∙◌, subst, arith, append_assoc, append-nil, ◌||◌, ◌&&◌}
use Rattle.std.specs.List.{filter_map, flat_map, list_any, cons_option}
use Rattle.std.specs.Option.{is_some}
use Rattle.std.proofs.lemmas.Bool.{cases_Bool, cases_eq, cond_both, cond-true, cond-false, eqb-true, eq-eqb, ne_eqb, ltb-true, ltb-false, or_parts, and_right}
use Rattle.std.proofs.lemmas.List.Elements.{filter_map-append}
use Rattle.fifo_net.specs.Net.{Input, Called, Took, taken, sent, bodies_to}
use Rattle.fifo_net.proofs.Lists.{bodies_to-append}
use Rattle.upd_base.specs.declared.body.Body.{Body}
use Rattle.upd_base.specs.declared.body.Body.TheVariants.{Ask, Ord, Req, Ack, Rb, Est, Prop, Reply, Next, Decide, Past}
use Rattle.order_trait.specs.Runs.{Order, Broadcast, Suspect, Trust, Inputs}
use Rattle.order_trait.specs.Outbox.{to_all}
use Rattle.instance_rules.specs.Say.{Starts, Suspects, Trusts, Say, Estimates, Proposes, Replies, Moves_on, Decides, Turns}
use Rattle.instance_rules.specs.History.{suspected, decided}
use Rattle.instance_rules.specs.Place.{place, moves}
use Rattle.instance_rules.specs.Says.{says}
use Rattle.consensus_rules.specs.Delivered.{next}
use Rattle.consensus_rules.specs.Waiting.{waiting, next_batch}
use Rattle.instance_rules.specs.Bodies.{say_of, body_of, in_instance}
use Rattle.consensus_rules.specs.Instances.{Quiet, last_instance, is_due, number_in, hears, start_of, adds, turns_of, add_number, add_numbers, numbers}
use Rattle.consensus_rules.specs.Consensus.{passes_rb, says_on, starts_up, hears_one, sends_by}
use Rattle.consensus_rules.specs.Items.{knows, received, begun}
use Rattle.instance_rules.specs.declared.place.Place.{Place}

-- what is said in instance k among these bodies
abbrev pub tag : ℕ → Option Say → Option (ℕ × Say)
tag to None = None
tag to (Some say) = Some (to, say)

abbrev pub pick : ℕ → List (ℕ × Body) → List (ℕ × Say)
pick k ps = filter_map (λ p. tag p.0 (say_of k p.1)) ps

pub pick_append : (k : ℕ) (ps qs : List (ℕ × Body)) → pick k (ps ++ qs) ≡ pick k ps ++ pick k qs
pick_append k ps qs = filter_map-append (λ p. tag p.0 (say_of k p.1)) ps qs

picked : (to : ℕ) (p : ℕ × Body) (rest : List (ℕ × Say)) (o : Option Say)
    → bodies_to to (cons_option (tag p.0 o) rest) ≡ cond (eqb p.0 to) (cons_option o (bodies_to to rest)) (bodies_to to rest)
picked to p rest None = cond_both (eqb p.0 to) (bodies_to to rest) (bodies_to to rest) (λ z. bodies_to to rest ≡ z) (λ t. refl) (λ t. refl)
picked to p rest (Some say) = refl

pub pick_bodies : (k to : ℕ) (ps : List (ℕ × Body)) → filter_map (say_of k) (bodies_to to ps) ≡ bodies_to to (pick k ps)
pick_bodies k to [] = refl
pick_bodies k to (p ∷ ps) =
    let rest : filter_map (say_of k) (bodies_to to ps) ≡ bodies_to to (pick k ps) = pick_bodies k to ps in
    let left : filter_map (say_of k) (bodies_to to (p ∷ ps)) ≡ cond (eqb p.0 to) (cons_option (say_of k p.1) (filter_map (say_of k) (bodies_to to ps))) (filter_map (say_of k) (bodies_to to ps)) =
    elim (eqb p.0 to) as (λ b. filter_map (say_of k) (cond b (p.1 ∷ bodies_to to ps) (bodies_to to ps)) ≡ cond b (cons_option (say_of k p.1) (filter_map (say_of k) (bodies_to to ps))) (filter_map (say_of k) (bodies_to to ps))) [
      | true ↦ refl
      | false ↦ refl
    ] in
    left ∙ ap (λ l. cond (eqb p.0 to) (cons_option (say_of k p.1) l) l) rest ∙ sym (picked to p (pick k ps) (say_of k p.1))

pub say_own : (k : ℕ) (say : Say) → say_of k (body_of k say) ≡ Some say
say_own k (Estimates round held) = cond-true (eqb k k) (Some (Estimates round held)) None (eq-eqb k k refl)
say_own k (Proposes round batch) = cond-true (eqb k k) (Some (Proposes round batch)) None (eq-eqb k k refl)
say_own k (Replies round agree) = cond-true (eqb k k) (Some (Replies round agree)) None (eq-eqb k k refl)
say_own k (Moves_on round) = cond-true (eqb k k) (Some (Moves_on round)) None (eq-eqb k k refl)
say_own k (Decides batch) = cond-true (eqb k k) (Some (Decides batch)) None (eq-eqb k k refl)

say_other : (j k : ℕ) (say : Say) → (j ≡ k → ⊥) → say_of k (body_of j say) ≡ None
say_other j k (Estimates round held) ne = cond-false (eqb j k) (Some (Estimates round held)) None (ne_eqb j k ne)
say_other j k (Proposes round batch) ne = cond-false (eqb j k) (Some (Proposes round batch)) None (ne_eqb j k ne)
say_other j k (Replies round agree) ne = cond-false (eqb j k) (Some (Replies round agree)) None (ne_eqb j k ne)
say_other j k (Moves_on round) ne = cond-false (eqb j k) (Some (Moves_on round)) None (ne_eqb j k ne)
say_other j k (Decides batch) ne = cond-false (eqb j k) (Some (Decides batch)) None (ne_eqb j k ne)

pub pick_own : (k : ℕ) (ps : List (ℕ × Say)) → pick k (in_instance k ps) ≡ ps
pick_own k [] = refl
pick_own k (p ∷ ps) =
    ap (λ o. cons_option (tag p.0 o) (pick k (in_instance k ps))) (say_own k p.1) ∙ ap (λ l. p ∷ l) (pick_own k ps)

pub pick_other : (j k : ℕ) (ps : List (ℕ × Say)) → (j ≡ k → ⊥) → pick k (in_instance j ps) ≡ []
pick_other j k [] ne = refl
pick_other j k (p ∷ ps) ne =
    ap (λ o. cons_option (tag p.0 o) (pick k (in_instance j ps))) (say_other j k p.1 ne) ∙ pick_other j k ps ne

pick_none : (k n : ℕ) (body : Body) → say_of k body ≡ None → pick k (to_all n body) ≡ []
pick_none k zero body e = refl
pick_none k (suc n) body e =
    pick_append k (to_all n body) ((n, body) ∷ []) ∙ ap (λ l. l ++ pick k ((n, body) ∷ [])) (pick_none k n body e)
    ∙ ap (λ o. cons_option (tag n o) []) e

-- the numbers of instances ascend, so that each is there once
abbrev pub has : ℕ → List ℕ → Bool
has k js = list_any (λ j. eqb j k) js

abbrev pub Rising : ℕ → List ℕ → Type 0
Rising low [] = Unit {0}
Rising low (j ∷ js) = (low ≤ j) × Rising (j + 1) js

pub rising_lower : (low lower : ℕ) (js : List ℕ) → lower ≤ low → Rising low js → Rising lower js
rising_lower low lower [] le h = tt
rising_lower low lower (j ∷ js) le h = let l : low ≤ j = h.0 in (omega arith, h.1)

rising_add : (low k : ℕ) (js : List ℕ) → low ≤ k → Rising low js → Rising low (add_number k js)
rising_add low k [] le h = (le, tt)
rising_add low k (j ∷ js) le h =
    cond_both (ltb j k) (j ∷ add_number k js) (cond (eqb j k) (j ∷ js) (k ∷ j ∷ js)) (Rising low)
    (λ t. let lt : j < k = ltb-true j k t in (h.0, rising_add (j + 1) k js (omega arith) h.1))
    (λ f. let ge : k ≤ j = ltb-false j k f in
    elim (cases_eq j k) [
      | inl same ↦ subst (Rising low) (sym (cond-true (eqb j k) (j ∷ js) (k ∷ j ∷ js) (eq-eqb j k same))) h
      | inr ne ↦
          let later : k + 1 ≤ j = omega (arith, ge, ne) in
          subst (Rising low) (sym (cond-false (eqb j k) (j ∷ js) (k ∷ j ∷ js) (ne_eqb j k ne))) (le, (later, h.1))
    ])

rising_all : (ks js : List ℕ) → Rising 0 js → Rising 0 (add_numbers ks js)
rising_all [] js h = h
rising_all (k ∷ ks) js h = rising_add 0 k (add_numbers ks js) (omega arith) (rising_all ks js h)

pub numbers_rise : (past : Inputs) → Rising 0 (numbers past)
numbers_rise [] = tt
numbers_rise (Called order ∷ past) = numbers_rise past
numbers_rise (Took from body ∷ past) =
    rising_add 0 (next (Took from body ∷ past)) (add_numbers (number_in body) (numbers past)) (omega arith) (rising_all (number_in body) (numbers past) (numbers_rise past))

above_absent : (k : ℕ) (js : List ℕ) → Rising (k + 1) js → has k js ≡ false
above_absent k [] h = refl
above_absent k (j ∷ js) h =
    let l : k + 1 ≤ j = h.0 in
    let rest : has k js ≡ false = above_absent k js (rising_lower (j + 1) (k + 1) js (omega arith) h.1) in
    ap (λ b. b || has k js) (ne_eqb j k (λ e. omega (arith, e, l))) ∙ rest

pick_absent : (k : ℕ) (g : ℕ → List (ℕ × Say)) (js : List ℕ) → has k js ≡ false → pick k (flat_map (λ j. in_instance j (g j)) js) ≡ []
pick_absent k g [] e = refl
pick_absent k g (j ∷ js) e =
    let parts : (eqb j k ≡ false) × (has k js ≡ false) = or_parts (eqb j k) (has k js) e in
    pick_append k (in_instance j (g j)) (flat_map (λ j. in_instance j (g j)) js)
    ∙ ap (λ l. l ++ pick k (flat_map (λ j. in_instance j (g j)) js)) (pick_other j k (g j) (λ same. differ (eqb j k) parts.0 (eq-eqb j k same)))
    ∙ pick_absent k g js parts.1
  where
    differ : (b : Bool) → b ≡ false → b ≡ true → ⊥
    differ b e h = absurd cc

pick_present : (k low : ℕ) (g : ℕ → List (ℕ × Say)) (js : List ℕ) → Rising low js → has k js ≡ true → pick k (flat_map (λ j. in_instance j (g j)) js) ≡ g k
pick_present k low g [] rise e = absurd cc
pick_present k low g (j ∷ js) rise e =
    elim (cases_eq j k) [
      | inl same ↦
          let rest : has k js ≡ false = above_absent k js (subst (λ z. Rising (z + 1) js) same rise.1) in
          pick_append k (in_instance j (g j)) (flat_map (λ j. in_instance j (g j)) js)
          ∙ ap (λ l. pick k (in_instance j (g j)) ++ l) (pick_absent k g js rest)
          ∙ append-nil (pick k (in_instance j (g j)))
          ∙ subst (λ z. pick k (in_instance z (g z)) ≡ g k) (sym same) (pick_own k (g k))
      | inr ne ↦
          let rest : has k js ≡ true = sym (ap (λ b. b || has k js) (ne_eqb j k ne)) ∙ e in
          pick_append k (in_instance j (g j)) (flat_map (λ j. in_instance j (g j)) js)
          ∙ ap (λ l. l ++ pick k (flat_map (λ j. in_instance j (g j)) js)) (pick_other j k (g j) ne)
          ∙ pick_present k (j + 1) g js rise.1 rest
    ]

-- an instance of no number has only had suspicions
has_added : (k j : ℕ) (js : List ℕ) → has k (add_number j js) ≡ false → (eqb j k ≡ false) × (has k js ≡ false)
has_added k j [] = λ e. let p : (eqb j k ≡ false) × (false ≡ false) = or_parts (eqb j k) false e in (p.0, refl)
has_added k j (i ∷ is) =
    cond_both (ltb i j) (i ∷ add_number j is) (cond (eqb i j) (i ∷ is) (j ∷ i ∷ is)) (λ l. has k l ≡ false → (eqb j k ≡ false) × (has k (i ∷ is) ≡ false))
    (λ t e. let p : (eqb i k ≡ false) × (has k (add_number j is) ≡ false) = or_parts (eqb i k) (has k (add_number j is)) e in
    let q : (eqb j k ≡ false) × (has k is ≡ false) = has_added k j is p.1 in
    (q.0, ap (λ b. b || has k is) p.0 ∙ q.1))
    (λ f. cond_both (eqb i j) (i ∷ is) (j ∷ i ∷ is) (λ l. has k l ≡ false → (eqb j k ≡ false) × (has k (i ∷ is) ≡ false))
    (λ t e. let p : (eqb i k ≡ false) × (has k is ≡ false) = or_parts (eqb i k) (has k is) e in
    (subst (λ z. eqb z k ≡ false) (eqb-true i j t) p.0, e))
    (λ g e. or_parts (eqb j k) (has k (i ∷ is)) e))

has_all_added : (k : ℕ) (is js : List ℕ) → has k (add_numbers is js) ≡ false → (has k is ≡ false) × (has k js ≡ false)
has_all_added k [] js e = (refl, e)
has_all_added k (i ∷ is) js e =
    let p : (eqb i k ≡ false) × (has k (add_numbers is js) ≡ false) = has_added k i (add_numbers is js) e in
    let q : (has k is ≡ false) × (has k js ≡ false) = has_all_added k is js p.1 in
    (ap (λ b. b || has k is) p.0 ∙ q.0, q.1)

pub unsaid : (k : ℕ) (body : Body) → has k (number_in body) ≡ false → say_of k body ≡ None
unsaid k (Ask item) e = refl
unsaid k (Ord p item) e = refl
unsaid k (Req stamp item) e = refl
unsaid k (Ack stamp) e = refl
unsaid k Past e = refl
unsaid k (Rb item) e = refl
unsaid k (Est instance round stamp batch) e = cond-false (eqb instance k) (Some (Estimates round (record { stamp = stamp; batch = batch }))) None (or_parts (eqb instance k) false e).0
unsaid k (Prop instance round batch) e = cond-false (eqb instance k) (Some (Proposes round batch)) None (or_parts (eqb instance k) false e).0
unsaid k (Reply instance round agree) e = cond-false (eqb instance k) (Some (Replies round agree)) None (or_parts (eqb instance k) false e).0
unsaid k (Next instance round) e = cond-false (eqb instance k) (Some (Moves_on round)) None (or_parts (eqb instance k) false e).0
unsaid k (Decide instance batch) e = cond-false (eqb instance k) (Some (Decides batch)) None (or_parts (eqb instance k) false e).0

eqb_sym : (a b : ℕ) → eqb a b ≡ false → eqb b a ≡ false
eqb_sym a b e = ne_eqb b a (λ same. differ (eqb a b) e (eq-eqb a b (sym same)))
  where
    differ : (b : Bool) → b ≡ false → b ≡ true → ⊥
    differ b e h = absurd cc

pub no_start : (n k : ℕ) (inputs : Inputs) (turns : Turns) → eqb (next inputs) k ≡ false → start_of n k inputs turns ≡ []
no_start n k inputs turns e =
    ap (λ b. cond (b && (leb k last_instance && (ltb 0 (length (waiting inputs)) && eqb (place n turns).round 0))) (Called (Starts (next_batch inputs)) ∷ []) []) (eqb_sym (next inputs) k e)

pub quiet_turns : (n k : ℕ) (past : Inputs) → has k (numbers past) ≡ false → Quiet (turns_of n k past)
quiet_turns n k [] e = tt
quiet_turns n k (Called (Broadcast item) ∷ past) e = quiet_turns n k past e
quiet_turns n k (Called (Suspect who) ∷ past) e = quiet_turns n k past e
quiet_turns n k (Called (Trust who) ∷ past) e = quiet_turns n k past e
quiet_turns n k (Took from body ∷ past) e =
    let p : (eqb (next (Took from body ∷ past)) k ≡ false) × (has k (add_numbers (number_in body) (numbers past)) ≡ false) = has_added k (next (Took from body ∷ past)) (add_numbers (number_in body) (numbers past)) e in
    let q : (has k (number_in body) ≡ false) × (has k (numbers past) ≡ false) = has_all_added k (number_in body) (numbers past) p.1 in
    let none_said : say_of k body ≡ None = unsaid k body q.0 in
    let nothing : adds n k (Took from body) past (turns_of n k past) ≡ [] =
    ap (λ o. start_of n k (Took from body ∷ past) (hears from o ++ turns_of n k past) ++ hears from o) none_said
    ∙ ap (λ l. l ++ []) (no_start n k (Took from body ∷ past) (turns_of n k past) p.0) in
    subst (λ l. Quiet (l ++ turns_of n k past)) (sym nothing) (quiet_turns n k past q.1)

abbrev pub first_place : Place
first_place = record { round = 0; held = record { stamp = 0; batch = [] }; replied = false }

pub quiet_move : (n who : ℕ) (past : Turns) → moves n past (Called (Suspects who)) first_place ≡ record { place = first_place; says = [] }
quiet_move n who past = cond-false (not (suspected past who) && false) _ _ (and_right (not (suspected past who)) false refl)

pub record Still (n : ℕ) (turns : Turns) : Type 0 where
  pub at_first : place n turns ≡ first_place
  pub undecided : decided turns ≡ None

pub still : (n : ℕ) (turns : Turns) → Quiet turns → Still n turns
still n [] q = record { at_first = refl; undecided = refl }
still n (Called (Starts batch) ∷ past) q = absurd q
still n (Called (Suspects who) ∷ past) q =
    let old : Still n past = still n past q in
    record {
      at_first =
          ap (λ o. cond (is_some o) (place n past) (moves n past (Called (Suspects who)) (place n past)).place) old.undecided
          ∙ ap (λ p. (moves n past (Called (Suspects who)) p).place) old.at_first
          ∙ ap (λ m. m.place) (quiet_move n who past);
      undecided = old.undecided;
    }
still n (Called (Trusts who) ∷ past) q =
    let old : Still n past = still n past q in
    record {
      at_first = ap (λ o. cond (is_some o) (place n past) (place n past)) old.undecided ∙ old.at_first;
      undecided = old.undecided;
    }
still n (Took from say ∷ past) q = absurd q

pub quiet_says : (n me who : ℕ) (turns : Turns) → Quiet turns → says n me (Called (Suspects who) ∷ turns) ≡ []
quiet_says n me who turns q =
    let old : Still n turns = still n turns q in
    ap (λ o. cond (is_some o) [] ((moves n turns (Called (Suspects who)) (place n turns)).says ++ [])) old.undecided
    ∙ ap (λ p. (moves n turns (Called (Suspects who)) p).says ++ []) old.at_first
    ∙ ap (λ m. m.says ++ []) (quiet_move n who turns)

one_number : (body : Body) → Rising 0 (number_in body)
one_number (Ask item) = tt
one_number (Ord p item) = tt
one_number (Req stamp item) = tt
one_number (Ack stamp) = tt
one_number Past = tt
one_number (Rb item) = tt
one_number (Est instance round stamp batch) = (omega arith, tt)
one_number (Prop instance round batch) = (omega arith, tt)
one_number (Reply instance round agree) = (omega arith, tt)
one_number (Next instance round) = (omega arith, tt)
one_number (Decide instance batch) = (omega arith, tt)

passes_unsaid : (k n : ℕ) (past : Inputs) (body : Body) → pick k (passes_rb n past body) ≡ []
passes_unsaid k n past (Ask item) = refl
passes_unsaid k n past (Ord p item) = refl
passes_unsaid k n past (Req stamp item) = refl
passes_unsaid k n past (Ack stamp) = refl
passes_unsaid k n past Past = refl
passes_unsaid k n past (Rb item) =
    cond_both (knows (received past) item || knows (begun past) item) [] (to_all n (Rb item)) (λ l. pick k l ≡ []) (λ t. refl) (λ t. pick_none k n (Rb item) refl)
passes_unsaid k n past (Est instance round stamp batch) = refl
passes_unsaid k n past (Prop instance round batch) = refl
passes_unsaid k n past (Reply instance round agree) = refl
passes_unsaid k n past (Next instance round) = refl
passes_unsaid k n past (Decide instance batch) = refl

heard_picked : (n me k from : ℕ) (body : Body) (past : Inputs)
    → pick k (flat_map (hears_one n me from body past) (number_in body)) ≡ says_on n me (hears from (say_of k body)) (turns_of n k past)
heard_picked n me k from body past =
    elim (cases_Bool (has k (number_in body))) [
      | inl t ↦ pick_present k 0 (λ j. says_on n me (hears from (say_of j body)) (turns_of n j past)) (number_in body) (one_number body) t
      | inr f ↦
          pick_absent k (λ j. says_on n me (hears from (say_of j body)) (turns_of n j past)) (number_in body) f
          ∙ sym (ap (λ o. says_on n me (hears from o) (turns_of n k past)) (unsaid k body f))
    ]

start_picked : (n me k from : ℕ) (body : Body) (past : Inputs)
    → pick k (starts_up n me (next (Took from body ∷ past)) (Took from body ∷ past) (hears from (say_of (next (Took from body ∷ past)) body) ++ turns_of n (next (Took from body ∷ past)) past))
    ≡ says_on n me (start_of n k (Took from body ∷ past) (hears from (say_of k body) ++ turns_of n k past)) (hears from (say_of k body) ++ turns_of n k past)
start_picked n me k from body past =
    let turns : ℕ → Turns = λ j. hears from (say_of j body) ++ turns_of n j past in
    let told : ℕ → List (ℕ × Say) = λ j. says_on n me (start_of n j (Took from body ∷ past) (turns j)) (turns j) in
    elim (cases_eq (next (Took from body ∷ past)) k) [
      | inl same ↦ subst (λ z. pick k (in_instance z (told z)) ≡ told k) (sym same) (pick_own k (told k))
      | inr ne ↦
          pick_other (next (Took from body ∷ past)) k (told (next (Took from body ∷ past))) ne
          ∙ sym (ap (λ l. says_on n me l (turns k)) (no_start n k (Took from body ∷ past) (turns k) (ne_eqb (next (Took from body ∷ past)) k ne)))
    ]

pub says_on_append : (n me : ℕ) (new old turns : Turns) → says_on n me (new ++ old) turns ≡ says_on n me old turns ++ says_on n me new (old ++ turns)
says_on_append n me [] old turns = sym (append-nil (says_on n me old turns))
says_on_append n me (t ∷ ts) old turns =
    ap (λ l. l ++ says n me (t ∷ ((ts ++ old) ++ turns))) (says_on_append n me ts old turns)
    ∙ append_assoc (says_on n me old turns) (says_on n me ts (old ++ turns)) (says n me (t ∷ ((ts ++ old) ++ turns)))
    ∙ ap (λ l. says_on n me old turns ++ (says_on n me ts (old ++ turns) ++ says n me (t ∷ l))) (append_assoc ts old turns)

-- What the kind sends for an instance is what the instance sends at the turns that were added.
pub picks : (n me k : ℕ) (x : Input Order Body) (past : Inputs) → pick k (sends_by n me (x ∷ past)) ≡ says_on n me (adds n k x past (turns_of n k past)) (turns_of n k past)
picks n me k (Called (Broadcast item)) past = pick_none k n (Rb item) refl
picks n me k (Called (Suspect who)) past =
    elim (cases_Bool (has k (numbers past))) [
      | inl t ↦ pick_present k 0 (λ j. says_on n me (adds n j (Called (Suspect who)) past (turns_of n j past)) (turns_of n j past)) (numbers past) (numbers_rise past) t
      | inr f ↦
          pick_absent k (λ j. says_on n me (adds n j (Called (Suspect who)) past (turns_of n j past)) (turns_of n j past)) (numbers past) f
          ∙ sym (quiet_says n me who (turns_of n k past) (quiet_turns n k past f))
    ]
picks n me k (Called (Trust who)) past =
    cond_both (is_some (decided (turns_of n k past))) [] [] (λ l. [] ≡ l) (λ t. refl) (λ t. refl)
picks n me k (Took from body) past =
    let turns : Turns = turns_of n k past in
    let heard : List (ℕ × Body) = flat_map (hears_one n me from body past) (number_in body) in
    let up : List (ℕ × Body) = starts_up n me (next (Took from body ∷ past)) (Took from body ∷ past) (hears from (say_of (next (Took from body ∷ past)) body) ++ turns_of n (next (Took from body ∷ past)) past) in
    let start : Turns = start_of n k (Took from body ∷ past) (hears from (say_of k body) ++ turns) in
    pick_append k (passes_rb n past body) (heard ++ up)
    ∙ ap (λ l. l ++ pick k (heard ++ up)) (passes_unsaid k n past body)
    ∙ pick_append k heard up
    ∙ ap (λ l. l ++ pick k up) (heard_picked n me k from body past)
    ∙ ap (λ l. says_on n me (hears from (say_of k body)) turns ++ l) (start_picked n me k from body past)
    ∙ sym (says_on_append n me start (hears from (say_of k body)) turns)

sent_over : (n me to : ℕ) (new turns : Turns) → sent (says n) me to (new ++ turns) ≡ sent (says n) me to turns ++ bodies_to to (says_on n me new turns)
sent_over n me to [] turns = sym (append-nil (sent (says n) me to turns))
sent_over n me to (t ∷ ts) turns =
    ap (λ l. l ++ bodies_to to (says n me (t ∷ (ts ++ turns)))) (sent_over n me to ts turns)
    ∙ append_assoc (sent (says n) me to turns) (bodies_to to (says_on n me ts turns)) (bodies_to to (says n me (t ∷ (ts ++ turns))))
    ∙ ap (λ l. sent (says n) me to turns ++ l) (sym (bodies_to-append to (says_on n me ts turns) (says n me (t ∷ (ts ++ turns)))))

pub sent_turns : (n me k to : ℕ) (inputs : Inputs) → filter_map (say_of k) (sent (sends_by n) me to inputs) ≡ sent (says n) me to (turns_of n k inputs)
sent_turns n me k to [] = refl
sent_turns n me k to (x ∷ past) =
    let turns : Turns = turns_of n k past in
    filter_map-append (say_of k) (sent (sends_by n) me to past) (bodies_to to (sends_by n me (x ∷ past)))
    ∙ ap (λ l. l ++ filter_map (say_of k) (bodies_to to (sends_by n me (x ∷ past)))) (sent_turns n me k to past)
    ∙ ap (λ l. sent (says n) me to turns ++ l) (pick_bodies k to (sends_by n me (x ∷ past)) ∙ ap (bodies_to to) (picks n me k x past))
    ∙ sym (sent_over n me to (adds n k x past turns) turns)

taken_heard : (j from : ℕ) (o : Option Say) (turns : Turns) → taken j (hears from o ++ turns) ≡ cond (eqb from j) (taken j turns ++ cons_option o []) (taken j turns)
taken_heard j from None turns = cond_both (eqb from j) (taken j turns ++ []) (taken j turns) (λ l. taken j turns ≡ l) (λ t. sym (append-nil (taken j turns))) (λ t. refl)
taken_heard j from (Some say) turns = refl

taken_start : (n k j : ℕ) (inputs : Inputs) (base old : Turns) → taken j (start_of n k inputs base ++ old) ≡ taken j old
taken_start n k j inputs base old =
    cond_both (is_due n k inputs base) (Called (Starts (next_batch inputs)) ∷ []) [] (λ l. taken j (l ++ old) ≡ taken j old) (λ t. refl) (λ t. refl)

pub taken_turns : (n k j : ℕ) (inputs : Inputs) → filter_map (say_of k) (taken j inputs) ≡ taken j (turns_of n k inputs)
taken_turns n k j [] = refl
taken_turns n k j (Called (Broadcast item) ∷ past) = taken_turns n k j past
taken_turns n k j (Called (Suspect who) ∷ past) = taken_turns n k j past
taken_turns n k j (Called (Trust who) ∷ past) = taken_turns n k j past
taken_turns n k j (Took from body ∷ past) =
    let turns : Turns = turns_of n k past in
    let start : Turns = start_of n k (Took from body ∷ past) (hears from (say_of k body) ++ turns) in
    let old : filter_map (say_of k) (taken j past) ≡ taken j turns = taken_turns n k j past in
    let left : filter_map (say_of k) (cond (eqb from j) (taken j past ++ body ∷ []) (taken j past)) ≡ cond (eqb from j) (filter_map (say_of k) (taken j past) ++ cons_option (say_of k body) []) (filter_map (say_of k) (taken j past)) =
    elim (eqb from j) as (λ b. filter_map (say_of k) (cond b (taken j past ++ body ∷ []) (taken j past)) ≡ cond b (filter_map (say_of k) (taken j past) ++ cons_option (say_of k body) []) (filter_map (say_of k) (taken j past))) [
      | true ↦ filter_map-append (say_of k) (taken j past) (body ∷ [])
      | false ↦ refl
    ] in
    left
    ∙ ap (λ l. cond (eqb from j) (l ++ cons_option (say_of k body) []) l) old
    ∙ sym (taken_heard j from (say_of k body) turns)
    ∙ sym (taken_start n k j (Took from body ∷ past) (hears from (say_of k body) ++ turns) (hears from (say_of k body) ++ turns))
    ∙ ap (taken j) (sym (append_assoc start (hears from (say_of k body)) turns))
