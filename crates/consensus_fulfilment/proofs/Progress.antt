use Rattle.std.proofs.Common.{ℕ, zero, suc, ◌+◌, ◌≡◌, ◌<◌, ◌≤◌, inl, inr, eqb, ltb, leb, Bool, true, false, cond, not, List, [], ◌∷◌, ◌++◌, length, take, Option, Some, None, refl, sym, ap, ◌∙◌, subst, arith, append-nil, ◌||◌, ◌&&◌}
use Rattle.std.specs.List.{Contains, count_by, list_any}
use Rattle.std.specs.Option.{is_some}
use Rattle.std.proofs.lemmas.Bool.{cases_Bool, cases_eq, cond_both, cond-true, cond-false, eqb-true, eq-eqb, ne_eqb, le-leb, lt-leb, both_ways, and_right, and_from}
use Rattle.std.proofs.lemmas.List.Elements.{Contains-append_left, Contains-append_right, Contains-append_cases, Contains-push}
use Rattle.std.proofs.lemmas.List.Sums.{sum_by-append, sum_by-cons}
use Rattle.fifo_net.specs.Net.{Input, Called, Took, taken, sent, bodies_to, inputs_of, taken_on, sent_on, MayCome, IsRun}
use Rattle.fifo_net.proofs.Links.{inputs_step, inputs_here}
use Rattle.fifo_net.proofs.Lists.{Contains-prefix, sum_by-prefix}
use Rattle.order_trait.proofs.Sums.{sum_below}
use Rattle.instance_rules.specs.Say.{Items, Act, Starts, Suspects, Trusts, Say, Estimates, Proposes, Replies, Moves_on, Decides, Turns, coordinator, majority}
use Rattle.instance_rules.specs.History.{suspected, decides, decided, or_else}
use Rattle.instance_rules.specs.Ballot.{is_from, vote, firsts, estimate_for, reply_for, quorum, best, best_of, proposal, all_yes, verdict}
use Rattle.instance_rules.specs.Says.{to_each, coordinates, made, propose, conclude, leads, passes_on, says}
use Rattle.instance_rules.specs.Place.{stay, accept, awaits, moves, place}
use Rattle.instance_rules.specs.Run.{Rounds, RoundsFit}
use Rattle.instance_rules.proofs.Votes.{one, none, none_is_some, Some-is, weigh, firsts_more, firsts_found, cases_option, members_counted, long_enough, proposal_stays, verdict_stays}
use Rattle.instance_rules.proofs.Said.{said, sent_said, known}
use Rattle.instance_rules.proofs.Places.{PlaceOk, place_ok}
use Rattle.instance_rules.proofs.Agree.{lead, senders_below, proposed_by}
use Rattle.consensus_fulfilment.proofs.Calm.{Good, good_rest, good_run, IsCalm, calm, Stands, Agreed, never_no, accept_calm, unsuspected}
use Rattle.instance_rules.specs.declared.estimate.Estimate.{Estimate}
use Rattle.instance_rules.specs.declared.place.Place.{Place}

-- what a member has said it has sent
said_among : {B : Type 0} (to : ℕ) (ps : List (ℕ × B)) (y : B) → Contains ps (to, y) → Contains (bodies_to to ps) y
said_among to [] y h = none (to, y) h
said_among to (p ∷ ps) y h =
    elim (Contains-append_cases (p ∷ []) ps (to, y) h) [
      | inl here ↦
          let is : p ≡ (to, y) = one p (to, y) here in
          let at : p.0 ≡ to = ap (λ q. q.0) is in
          subst (λ l. Contains l y) (sym (cond-true (eqb p.0 to) (p.1 ∷ bodies_to to ps) (bodies_to to ps) (eq-eqb p.0 to at)))
          (subst (Contains (p.1 ∷ bodies_to to ps)) (ap (λ q. q.1) is) (Contains-append_left (p.1 ∷ []) (bodies_to to ps) p.1 (Contains-push [] p.1)))
      | inr there ↦
          let rest : Contains (bodies_to to ps) y = said_among to ps y there in
          cond_both (eqb p.0 to) (p.1 ∷ bodies_to to ps) (bodies_to to ps) (λ l. Contains l y)
          (λ t. Contains-append_right (p.1 ∷ []) (bodies_to to ps) y rest) (λ t. rest)
    ]

pub said_sent : (n me to : ℕ) (turns : Turns) (y : Say) → Contains (said n me turns) (to, y) → Contains (sent (says n) me to turns) y
said_sent n me to [] y h = none (to, y) h
said_sent n me to (x ∷ past) y h =
    elim (Contains-append_cases (said n me past) (says n me (x ∷ past)) (to, y) h) [
      | inl old ↦ Contains-append_left (sent (says n) me to past) (bodies_to to (says n me (x ∷ past))) y (said_sent n me to past y old)
      | inr new ↦ Contains-append_right (sent (says n) me to past) (bodies_to to (says n me (x ∷ past))) y (said_among to (says n me (x ∷ past)) y new)
    ]

-- what was taken counts as a vote of its member
some_count : {A : Type 0} (p : A → Bool) (xs : List A) → list_any p xs ≡ true → 1 ≤ count_by p xs
some_count p [] e = absurd cc
some_count p (x ∷ xs) e =
    let sum : count_by p (x ∷ xs) ≡ weigh (p x) + count_by p xs = sum_by-cons (λ y. cond (p y) 1 0) x xs in
    elim (cases_Bool (p x)) [
      | inl t ↦ let here : weigh (p x) ≡ 1 = ap weigh t in omega (arith, sum, here)
      | inr f ↦ let rest : list_any p xs ≡ true = sym (ap (λ b. b || list_any p xs) f) ∙ e in omega (arith, sum, some_count p xs rest)
    ]

pub voted : {A : Type 0} (f : Say → Option A) (turns : Turns) (m : ℕ) (y : Say) (x : A) → Contains (taken m turns) y → f y ≡ Some x → 1 ≤ count_by (is_from m) (firsts f turns)
voted f [] m y x h e = none y h
voted {A} f (Called act ∷ past) m y x h e = voted f past m y x h e
voted {A} f (Took from say ∷ past) m y x h e =
    let grows : count_by (is_from m) (firsts f past) ≤ count_by (is_from m) (firsts f past ++ vote (firsts f past) from (f say)) =
    sum_by-prefix (λ v. cond (is_from m v) 1 0) (firsts f past) (firsts f past ++ vote (firsts f past) from (f say)) (firsts_more f (Took from say) past) in
    cond_both (eqb from m) (taken m past ++ say ∷ []) (taken m past) (λ l. Contains l y → 1 ≤ count_by (is_from m) (firsts f past ++ vote (firsts f past) from (f say)))
    (λ t k. elim (Contains-append_cases (taken m past) (say ∷ []) y k) [
      | inl old ↦ omega (arith, grows, voted f past m y x old e)
      | inr new ↦
          let is : f say ≡ Some x = ap f (one say y new) ∙ e in
          subst (λ o. 1 ≤ count_by (is_from m) (firsts f past ++ vote (firsts f past) from o)) (sym is) (counted (firsts f past) (eqb-true from m t))
    ])
    (λ t k. omega (arith, grows, voted f past m y x k e))
    h
  where
    counted : (vs : List (ℕ × A)) → from ≡ m → 1 ≤ count_by (is_from m) (vs ++ vote vs from (Some x))
    counted vs same =
        cond_both (list_any (is_from from) vs) [] ((from, x) ∷ []) (λ l. 1 ≤ count_by (is_from m) (vs ++ l))
        (λ t. let some_of : 1 ≤ count_by (is_from m) vs = some_count (is_from m) vs (subst (λ z. list_any (is_from z) vs ≡ true) same t) in
        let sum : count_by (is_from m) (vs ++ []) ≡ count_by (is_from m) vs = ap (count_by (is_from m)) (append-nil vs) in
        omega (arith, some_of, sum))
        (λ t. let sum : count_by (is_from m) (vs ++ (from, x) ∷ []) ≡ count_by (is_from m) vs + count_by (is_from m) ((from, x) ∷ []) = sum_by-append (λ v. cond (is_from m v) 1 0) vs ((from, x) ∷ []) in
        let single : count_by (is_from m) ((from, x) ∷ []) ≡ weigh (eqb from m) + 0 = sum_by-cons (λ v. cond (is_from m v) 1 0) (from, x) [] in
        let here : weigh (eqb from m) ≡ 1 = ap weigh (eq-eqb from m same) in
        omega (arith, sum, single, here))

sum_all : (n : ℕ) (f : ℕ → ℕ) → ((m : ℕ) → m < n → 1 ≤ f m) → n ≤ sum_below n f
sum_all zero f h = omega arith
sum_all (suc n) f h =
    let here : 1 ≤ f n = h n (omega arith) in
    let below : n ≤ sum_below n f = sum_all n f (λ m lt. h m (omega arith)) in
    omega (arith, here, below)

-- with a vote of each member there is a quorum
pub all_vote : {A : Type 0} (n : ℕ) (vs : List (ℕ × A)) → 1 ≤ n → ((m : ℕ) → m < n → 1 ≤ count_by (is_from m) vs) → ((v : ℕ × A) → Contains vs v → v.0 < n)
    → quorum n vs ≡ Some (take (majority n) vs)
all_vote n vs some each fit =
    let a : sum_below n (λ m. count_by (is_from m) vs) ≡ length vs = members_counted n vs fit in
    let b : n ≤ sum_below n (λ m. count_by (is_from m) vs) = sum_all n (λ m. count_by (is_from m) vs) each in
    cond-true (leb (majority n) (length vs)) (Some (take (majority n) vs)) None (le-leb (majority n) (length vs) (omega (arith, a, b, some)))

pub undecided_before : (x : Input Act Say) (past : Turns) → decided (x ∷ past) ≡ None → decided past ≡ None
undecided_before (Called act) past e = e
undecided_before (Took from say) past e = first (decided past) e
  where
    first : (o : Option Items) → or_else o (decides say) ≡ None → o ≡ None
    first None h = refl
    first (Some b) h = h

pub among_each : (n to : ℕ) (y : Say) → to < n → Contains (to_each n y) (to, y)
among_each zero to y lt = absurd (omega arith)
among_each (suc n) to y lt =
    elim (cases_eq n to) [
      | inl same ↦ subst (λ z. Contains (to_each n y ++ (n, y) ∷ []) (z, y)) same (Contains-push (to_each n y) (n, y))
      | inr ne ↦ Contains-append_left (to_each n y) ((n, y) ∷ []) (to, y) (among_each n to y (omega arith))
    ]

-- while a member is undecided it says what it leads
pub led_said : (n me : ℕ) (past : Turns) (from : ℕ) (say : Say) (p : ℕ × Say) → decided past ≡ None → Contains (leads n me past from say) p → Contains (says n me (Took from say ∷ past)) p
led_said n me past from say p e h =
    subst (λ l. Contains l p) (sym (ap (λ o. cond (is_some o) [] ((moves n past (Took from say) (place n past)).says ++ (leads n me past from say ++ passes_on n me past say))) e))
    (Contains-append_right (moves n past (Took from say) (place n past)).says (leads n me past from say ++ passes_on n me past say) p
    (Contains-append_left (leads n me past from say) (passes_on n me past say) p h))

same_votes : {A : Type 0} (f : Say → Option A) (from : ℕ) (say : Say) (past : Turns) → f say ≡ None → firsts f (Took from say ∷ past) ≡ firsts f past
same_votes f from say past e = ap (λ o. firsts f past ++ vote (firsts f past) from o) e ∙ append-nil (firsts f past)

no_quorum : {A : Type 0} (n : ℕ) → quorum {A = A} n [] ≡ None
no_quorum {A} n = cond-false (leb (majority n) 0) (Some (take {A = ℕ × A} (majority n) [])) None (lt-leb (majority n) 0 (omega arith))

-- A coordinator that has a proposal has sent it to all.
pub proposal_said : (n me r : ℕ) (turns : Turns) (batch : Items) (to : ℕ) → coordinates n me r ≡ true → to < n → decided turns ≡ None → proposal n r turns ≡ Some batch
    → Contains (said n me turns) (to, Proposes r batch)
proposal_said n me r [] batch to at lt und e = absurd (none_is_some batch (sym (ap best_of (no_quorum n)) ∙ e))
proposal_said n me r (x ∷ past) batch to at lt und e =
    elim (cases_option (proposal n r past)) [
      | inr q ↦
          let same : q.0 ≡ batch = Some-is q.0 batch (sym (proposal_stays n r x past q.0 q.1) ∙ e) in
          Contains-append_left (said n me past) (says n me (x ∷ past)) (to, Proposes r batch)
          (proposal_said n me r past batch to at lt (undecided_before x past und) (q.1 ∙ ap (λ z. Some z) same))
      | inl before ↦ Contains-append_right (said n me past) (says n me (x ∷ past)) (to, Proposes r batch) (new x before e (undecided_before x past und))
    ]
  where
    unchanged : (from : ℕ) (say : Say) → estimate_for r say ≡ None → proposal n r past ≡ None → proposal n r (Took from say ∷ past) ≡ Some batch → ⊥
    unchanged from say none_here before e =
        none_is_some batch (sym before ∙ sym (ap (λ l. best_of (quorum n l)) (same_votes (estimate_for r) from say past none_here)) ∙ e)

    new : (x : Input Act Say) → proposal n r past ≡ None → proposal n r (x ∷ past) ≡ Some batch → decided past ≡ None → Contains (says n me (x ∷ past)) (to, Proposes r batch)
    new (Called act) before e und = absurd (none_is_some batch (sym before ∙ e))
    new (Took from (Estimates round held)) before e und =
        elim (cases_eq round r) [
          | inl same ↦
              let x : Input Act Say = Took from (Estimates round held) in
              let made_is : made (proposal n round past) (proposal n round (x ∷ past)) ≡ Some batch =
              subst (λ z. made (proposal n z past) (proposal n z (x ∷ past)) ≡ Some batch) (sym same)
              (ap (λ o. made o (proposal n r (x ∷ past))) before ∙ e) in
              let here : coordinates n me round ≡ true = subst (λ z. coordinates n me z ≡ true) (sym same) at in
              let list : leads n me past from (Estimates round held) ≡ to_each n (Proposes round batch) =
              cond-true (coordinates n me round) (propose n round (made (proposal n round past) (proposal n round (x ∷ past)))) [] here
              ∙ ap (propose n round) made_is in
              subst (λ z. Contains (says n me (x ∷ past)) (to, Proposes z batch)) same
              (led_said n me past from (Estimates round held) (to, Proposes round batch) und
              (subst (λ l. Contains l (to, Proposes round batch)) (sym list) (among_each n to (Proposes round batch) lt)))
          | inr ne ↦ absurd (unchanged from (Estimates round held) (cond-false (eqb round r) (Some held) None (ne_eqb round r ne)) before e)
        ]
    new (Took from (Proposes round b)) before e und = absurd (unchanged from (Proposes round b) refl before e)
    new (Took from (Replies round agree)) before e und = absurd (unchanged from (Replies round agree) refl before e)
    new (Took from (Moves_on round)) before e und = absurd (unchanged from (Moves_on round) refl before e)
    new (Took from (Decides b)) before e und = absurd (unchanged from (Decides b) refl before e)

low_round : (n me : ℕ) (all : List (ℕ × Say)) (p : Place) → Stands n me all p → p.round ≤ 1
low_round n me all p (inl idle) = let e : p.round ≡ 0 = idle.round_is in omega arith
low_round n me all p (inr (inl g)) = let e : p.round ≡ 1 = g.round_is in omega arith
low_round n me all p (inr (inr g)) = let e : p.round ≡ 1 = g.round_is in omega arith

-- where a member has agreed, the coordinator has a proposal
pub agreed_proposal : (n : ℕ) (past : Rounds) → IsRun (says n) past → IsCalm past → (m to : ℕ) → Contains (said n m (inputs_of m past)) (to, Replies 1 true)
    → (b : Items) × (proposal n 1 (lead n past 1) ≡ Some b)
agreed_proposal n past run c m to h =
    let turns : Turns = inputs_of m past in
    let ok : PlaceOk n turns = place_ok n turns in
    let p : Place = place n turns in
    let low : p.round ≤ 1 = low_round n m (said n m turns) p (calm n m turns (good_run n past run c m)).stands in
    let le : p.held.stamp ≤ p.round = ok.behind in
    let high : 1 ≤ p.held.stamp = known n m turns to (Replies 1 true) h in
    let is : p.held.stamp ≡ 1 = omega (arith, low, le, high) in
    elim (ok.origin (omega (arith, low, le, high))) [
      | inl own ↦ let at_zero : p.held.stamp ≡ 0 = own.0 in absurd (omega (arith, at_zero, high))
      | inr came ↦ (p.held.batch, subst (λ z. proposal n z (lead n past z) ≡ Some p.held.batch) is (proposed_by n past run m p.held.stamp p.held.batch came.1))
    ]

-- and one that has a verdict has sent the decision to all
pub verdict_said : (n : ℕ) (past : Rounds) → IsRun (says n) past → IsCalm past → (to : ℕ) → to < n → decided (lead n past 1) ≡ None → verdict n 1 (lead n past 1) ≡ Some true
    → (b : Items) × Contains (said n (coordinator n 1) (lead n past 1)) (to, Decides b)
verdict_said n [] run c to lt = λ und e. absurd (none_is_some true (sym (ap all_yes (no_quorum n)) ∙ e))
verdict_said n (s ∷ past) run c to lt =
    inputs_step (λ l. decided l ≡ None → verdict n 1 l ≡ Some true → (b : Items) × Contains (said n (coordinator n 1) l) (to, Decides b)) (coordinator n 1) s past
    (λ at und e. elim (cases_option (verdict n 1 (lead n past 1))) [
      | inr v ↦
          let same : v.0 ≡ true = Some-is v.0 true (sym (verdict_stays n 1 s.input (lead n past 1) v.0 v.1) ∙ e) in
          let old : (b : Items) × Contains (said n (coordinator n 1) (lead n past 1)) (to, Decides b) =
          verdict_said n past run.1 c.1 to lt (undecided_before s.input (lead n past 1) und) (v.1 ∙ ap (λ z. Some z) same) in
          (old.0, Contains-append_left (said n (coordinator n 1) (lead n past 1)) (says n (coordinator n 1) (s.input ∷ lead n past 1)) (to, Decides old.0) old.1)
      | inl before ↦
          let now : (b : Items) × Contains (says n (coordinator n 1) (s.input ∷ lead n past 1)) (to, Decides b) =
          new s.input (subst (λ z. MayCome (says n) past z s.input) at run.0)
          (subst Good (inputs_here (coordinator n 1) s past at) (good_run n (s ∷ past) run c (coordinator n 1)))
          before e (undecided_before s.input (lead n past 1) und) in
          (now.0, Contains-append_right (said n (coordinator n 1) (lead n past 1)) (says n (coordinator n 1) (s.input ∷ lead n past 1)) (to, Decides now.0) now.1)
    ])
    (verdict_said n past run.1 c.1 to lt)
  where
    unchanged : (from : ℕ) (say : Say) → reply_for 1 say ≡ None → verdict n 1 (lead n past 1) ≡ None → verdict n 1 (Took from say ∷ lead n past 1) ≡ Some true → ⊥
    unchanged from say none_here before e =
        none_is_some true (sym before ∙ sym (ap (λ l. all_yes (quorum n l)) (same_votes (reply_for 1) from say (lead n past 1) none_here)) ∙ e)

    new : (x : Input Act Say) → MayCome (says n) past (coordinator n 1) x → Good (x ∷ lead n past 1) → verdict n 1 (lead n past 1) ≡ None → verdict n 1 (x ∷ lead n past 1) ≡ Some true → decided (lead n past 1) ≡ None
        → (b : Items) × Contains (says n (coordinator n 1) (x ∷ lead n past 1)) (to, Decides b)
    new (Called act) may g before e und = absurd (none_is_some true (sym before ∙ e))
    new (Took from (Estimates round held)) may g before e und = absurd (unchanged from (Estimates round held) refl before e)
    new (Took from (Proposes round b)) may g before e und = absurd (unchanged from (Proposes round b) refl before e)
    new (Took from (Replies round agree)) may g before e und =
        let x : Input Act Say = Took from (Replies round agree) in
        let me : ℕ = coordinator n 1 in
        let turns : Turns = lead n past 1 in
        let is : round ≡ 1 = g.0.0 in
        let was : Contains (sent_on (says n) from me past) (Replies round agree) =
        Contains-prefix (taken_on from me past ++ Replies round agree ∷ []) (sent_on (says n) from me past) (Replies round agree) may (Contains-push (taken_on from me past) (Replies round agree)) in
        let said_it : Contains (said n from (inputs_of from past)) (me, Replies round agree) = sent_said n from me (inputs_of from past) (Replies round agree) was in
        let said_yes : Contains (said n from (inputs_of from past)) (me, Replies 1 true) =
        subst (λ z. Contains (said n from (inputs_of from past)) (me, Replies 1 z)) g.0.1 (subst (λ z. Contains (said n from (inputs_of from past)) (me, Replies z agree)) is said_it) in
        let q : (b : Items) × (proposal n 1 turns ≡ Some b) = agreed_proposal n past run.1 c.1 from me said_yes in
        let made_is : made (verdict n round turns) (verdict n round (x ∷ turns)) ≡ Some true =
        subst (λ z. made (verdict n z turns) (verdict n z (x ∷ turns)) ≡ Some true) (sym is) (ap (λ o. made o (verdict n 1 (x ∷ turns))) before ∙ e) in
        let list : leads n me turns from (Replies round agree) ≡ to_each n (Decides q.0) =
        cond-true (coordinates n me round) (conclude n round (made (verdict n round turns) (verdict n round (x ∷ turns))) (proposal n round turns)) [] (subst (λ z. coordinates n me z ≡ true) (sym is) (eq-eqb me me refl))
        ∙ ap (λ o. conclude n round o (proposal n round turns)) made_is
        ∙ ap (λ o. conclude n round (Some true) o) (subst (λ z. proposal n z turns ≡ Some q.0) (sym is) q.1) in
        (q.0, led_said n me turns from (Replies round agree) (to, Decides q.0) und (subst (λ l. Contains l (to, Decides q.0)) (sym list) (among_each n to (Decides q.0) lt)))
    new (Took from (Moves_on round)) may g before e und = absurd (unchanged from (Moves_on round) refl before e)
    new (Took from (Decides b)) may g before e und = absurd (unchanged from (Decides b) refl before e)

-- who has taken the proposal has replied
reply_kept : (n : ℕ) (past : Turns) (x : Input Act Say) (p : Place) → Good (x ∷ past) → p.round ≡ 1 → p.replied ≡ true → (moves n past x p).place.replied ≡ true
reply_kept n past (Called (Starts batch)) p g at h = ap (λ m. m.place.replied) (cond-false (eqb p.round 0) _ (stay p) (ne_eqb p.round 0 (λ e. omega (arith, e, at)))) ∙ h
reply_kept n past (Called (Suspects who)) p g at h = absurd g
reply_kept n past (Called (Trusts who)) p g at h = h
reply_kept n past (Took from (Estimates round held)) p g at h = h
reply_kept n past (Took from (Proposes round batch)) p g at h =
    cond_both (eqb from (coordinator n round) && awaits p round) (accept n (suspected past) round batch) (stay p) (λ m. m.place.replied ≡ true)
    (λ t. ap (λ m. m.place.replied) (accept_calm n (suspected past) round batch (unsuspected past g.1)))
    (λ t. h)
reply_kept n past (Took from (Replies round agree)) p g at h = h
reply_kept n past (Took from (Moves_on round)) p g at h = absurd g.0
reply_kept n past (Took from (Decides batch)) p g at h = h

not_awaited : (n me : ℕ) (all : List (ℕ × Say)) (p : Place) → Stands n me all p → awaits p 1 ≡ false → p.replied ≡ true
not_awaited n me all p (inl idle) e =
    let yes_awaited : awaits p 1 ≡ true = ap (λ r. ltb 0 1 && (ltb r 1 || (eqb r 1 && not p.replied))) idle.round_is in absurd (both_ways (awaits p 1) e yes_awaited)
not_awaited n me all p (inr (inl g)) e =
    let yes_awaited : awaits p 1 ≡ true = ap (λ r. ltb 0 1 && (ltb r 1 || (eqb r 1 && not p.replied))) g.round_is ∙ ap not g.not_yet in absurd (both_ways (awaits p 1) e yes_awaited)
not_awaited n me all p (inr (inr g)) e = g.replied_is

agreed_round : (n me : ℕ) (all : List (ℕ × Say)) (p : Place) → Stands n me all p → p.replied ≡ true → Agreed n me all p
agreed_round n me all p (inl idle) h = absurd (both_ways p.replied idle.not_yet h)
agreed_round n me all p (inr (inl g)) h = absurd (both_ways p.replied g.not_yet h)
agreed_round n me all p (inr (inr g)) h = g

pub took_replied : (n me : ℕ) (turns : Turns) (b : Items) → Good turns → decided turns ≡ None → Contains (taken (coordinator n 1) turns) (Proposes 1 b) → (place n turns).replied ≡ true
took_replied n me [] b g und h = none (Proposes 1 b) h
took_replied n me (x ∷ past) b g und h =
    let und_before : decided past ≡ None = undecided_before x past und in
    let at : place n (x ∷ past) ≡ (moves n past x (place n past)).place = ap (λ o. cond (is_some o) (place n past) (moves n past x (place n past)).place) und_before in
    ap (λ p. p.replied) at ∙ by_input x g h (λ old. took_replied n me past b (good_rest x past g) und_before old)
  where
    stood : Good past → Stands n me (said n me past) (place n past)
    stood g = (calm n me past g).stands

    kept_on : (x : Input Act Say) → Good (x ∷ past) → (place n past).replied ≡ true → (moves n past x (place n past)).place.replied ≡ true
    kept_on x g r = reply_kept n past x (place n past) g (agreed_round n me (said n me past) (place n past) (stood (good_rest x past g)) r).round_is r

    by_input : (x : Input Act Say) → Good (x ∷ past) → Contains (taken (coordinator n 1) (x ∷ past)) (Proposes 1 b) → (Contains (taken (coordinator n 1) past) (Proposes 1 b) → (place n past).replied ≡ true)
        → (moves n past x (place n past)).place.replied ≡ true
    by_input (Called act) g h old = kept_on (Called act) g (old h)
    by_input (Took from say) g h old =
        cond_both (eqb from (coordinator n 1)) (taken (coordinator n 1) past ++ say ∷ []) (taken (coordinator n 1) past) (λ l. Contains l (Proposes 1 b) → (moves n past (Took from say) (place n past)).place.replied ≡ true)
        (λ t k. elim (Contains-append_cases (taken (coordinator n 1) past) (say ∷ []) (Proposes 1 b) k) [
          | inl before ↦ kept_on (Took from say) g (old before)
          | inr now ↦
              let is : say ≡ Proposes 1 b = one say (Proposes 1 b) now in
              subst (λ z. (moves n past (Took from z) (place n past)).place.replied ≡ true) (sym is)
              (elim (cases_Bool (awaits (place n past) 1)) [
                | inl waits ↦
                    ap (λ m. m.place.replied) (cond-true (eqb from (coordinator n 1) && awaits (place n past) 1) (accept n (suspected past) 1 b) (stay (place n past)) (and_from (eqb from (coordinator n 1)) (awaits (place n past) 1) t waits))
                    ∙ ap (λ m. m.place.replied) (accept_calm n (suspected past) 1 b (unsuspected past g.1))
                | inr no_wait ↦
                    ap (λ m. m.place.replied) (cond-false (eqb from (coordinator n 1) && awaits (place n past) 1) (accept n (suspected past) 1 b) (stay (place n past)) (and_right (eqb from (coordinator n 1)) (awaits (place n past) 1) no_wait))
                    ∙ not_awaited n me (said n me past) (place n past) (stood g.1) no_wait
              ])
        ])
        (λ t k. kept_on (Took from say) g (old k))
        h

-- each body that was sent was taken
abbrev pub Drained : ℕ → Rounds → Type 0
Drained n past = (i j : ℕ) → i < n → j < n → (y : Say) → Contains (sent_on (says n) i j past) y → Contains (taken_on i j past) y

votes_below : {A : Type 0} (n : ℕ) (past : Rounds) → RoundsFit n past → (f : Say → Option A) (i : ℕ) (v : ℕ × A) → Contains (firsts f (inputs_of i past)) v → v.0 < n
votes_below n past fit f i v h = let s : (say : Say) × Contains (taken v.0 (inputs_of i past)) say × (f say ≡ Some v.1) = firsts_found f (inputs_of i past) v h in senders_below n past fit v.0 i s.0 s.1

-- the best of a list that is not empty
some_best : (vs : List (ℕ × Estimate)) → 1 ≤ length vs → (b : Items) × (best_of (Some vs) ≡ Some b)
some_best [] h = absurd (omega (arith, h))
some_best (v ∷ vs) h = ((best v vs).1.batch, refl)

pub decided_by : (j : ℕ) (turns : Turns) (b : Items) → Contains (taken j turns) (Decides b) → decided turns ≡ None → ⊥
decided_by j [] b h e = none (Decides b) h
decided_by j (Called act ∷ past) b h e = decided_by j past b h e
decided_by j (Took from say ∷ past) b h e =
    cond_both (eqb from j) (taken j past ++ say ∷ []) (taken j past) (λ l. Contains l (Decides b) → ⊥)
    (λ t k. elim (Contains-append_cases (taken j past) (say ∷ []) (Decides b) k) [
      | inl old ↦ decided_by j past b old (undecided_before (Took from say) past e)
      | inr new ↦
          let is : say ≡ Decides b = one say (Decides b) new in
          let now : or_else (decided past) (Some b) ≡ None = sym (ap (λ z. or_else (decided past) (decides z)) is) ∙ e in
          or_some (decided past) b now
    ])
    (λ t k. decided_by j past b k (undecided_before (Took from say) past e))
    h
  where
    or_some : (o : Option Items) (b : Items) → or_else o (Some b) ≡ None → ⊥
    or_some None b e = none_is_some b (sym e)
    or_some (Some c) b e = none_is_some c (sym e)

-- Without suspicion, with all taken, and all members in the instance, not all are undecided.
pub progress : (n : ℕ) (past : Rounds) → 1 ≤ n → IsRun (says n) past → RoundsFit n past → IsCalm past → Drained n past
    → ((m : ℕ) → m < n → 1 ≤ (place n (inputs_of m past)).round) → ((m : ℕ) → m < n → decided (inputs_of m past) ≡ None) → ⊥
progress n past some run fit c drained joined undecided =
    let lead_fits : coordinator n 1 < n = lead_below n some in
    let p : (b : Items) × (proposal n 1 (lead n past 1) ≡ Some b) = proposes in
    let each : (m : ℕ) → m < n → 1 ≤ count_by (is_from m) (firsts (reply_for 1) (lead n past 1)) =
    (λ m lt.
    let got : Contains (taken (coordinator n 1) (inputs_of m past)) (Proposes 1 p.0) =
    drained (coordinator n 1) m lead_fits lt (Proposes 1 p.0)
    (said_sent n (coordinator n 1) m (lead n past 1) (Proposes 1 p.0)
    (proposal_said n (coordinator n 1) 1 (lead n past 1) p.0 m (eq-eqb (coordinator n 1) (coordinator n 1) refl) lt (undecided (coordinator n 1) lead_fits) p.1)) in
    let good : Good (inputs_of m past) = good_run n past run c m in
    let agreed : Agreed n m (said n m (inputs_of m past)) (place n (inputs_of m past)) =
    agreed_round n m (said n m (inputs_of m past)) (place n (inputs_of m past)) (calm n m (inputs_of m past) good).stands
    (took_replied n m (inputs_of m past) p.0 good (undecided m lt) got) in
    voted (reply_for 1) (lead n past 1) m (Replies 1 true) true
    (drained m (coordinator n 1) lt lead_fits (Replies 1 true) (said_sent n m (coordinator n 1) (inputs_of m past) (Replies 1 true) agreed.was_said)) refl) in
    let q : verdict n 1 (lead n past 1) ≡ all_yes (Some (take (majority n) (firsts (reply_for 1) (lead n past 1)))) =
    ap all_yes (all_vote n (firsts (reply_for 1) (lead n past 1)) some each (votes_below n past fit (reply_for 1) (coordinator n 1))) in
    let yes_all : verdict n 1 (lead n past 1) ≡ Some true = all_true (verdict n 1 (lead n past 1)) (take (majority n) (firsts (reply_for 1) (lead n past 1))) q (never_no n 1 (lead n past 1) (good_run n past run c (coordinator n 1))) in
    let d : (b : Items) × Contains (said n (coordinator n 1) (lead n past 1)) (coordinator n 1, Decides b) =
    verdict_said n past run c (coordinator n 1) lead_fits (undecided (coordinator n 1) lead_fits) yes_all in
    decided_by (coordinator n 1) (lead n past 1) d.0
    (drained (coordinator n 1) (coordinator n 1) lead_fits lead_fits (Decides d.0) (said_sent n (coordinator n 1) (coordinator n 1) (lead n past 1) (Decides d.0) d.1))
    (undecided (coordinator n 1) lead_fits)
  where
    lead_below : (n : ℕ) → 1 ≤ n → coordinator n 1 < n
    lead_below n some = omega arith

    all_true : (o : Option Bool) → (vs : List (ℕ × Bool)) → o ≡ all_yes (Some vs) → (o ≡ Some false → ⊥) → o ≡ Some true
    all_true None vs e h = absurd cc
    all_true (Some true) vs e h = refl
    all_true (Some false) vs e h = absurd (h refl)

    proposes : (b : Items) × (proposal n 1 (lead n past 1) ≡ Some b)
    proposes =
        elim (cases_option (proposal n 1 (lead n past 1))) [
          | inr q ↦ q
          | inl nothing ↦
              let lead_fits : coordinator n 1 < n = lead_below n some in
              let each : (m : ℕ) → m < n → 1 ≤ count_by (is_from m) (firsts (estimate_for 1) (lead n past 1)) =
              (λ m lt. by_stand m lt lead_fits nothing (calm n m (inputs_of m past) (good_run n past run c m)).stands) in
              let vs : List (ℕ × Estimate) = firsts (estimate_for 1) (lead n past 1) in
              let full : quorum n vs ≡ Some (take (majority n) vs) = all_vote n vs some each (votes_below n past fit (estimate_for 1) (coordinator n 1)) in
              let long : length (take (majority n) vs) ≡ majority n = (long_enough n vs (take (majority n) vs) full).1 in
              let w : (b : Items) × (best_of (Some (take (majority n) vs)) ≡ Some b) = some_best (take (majority n) vs) (omega (arith, long)) in
              (w.0, ap best_of full ∙ w.1)
        ]
      where
        by_stand : (m : ℕ) → m < n → coordinator n 1 < n → proposal n 1 (lead n past 1) ≡ None → Stands n m (said n m (inputs_of m past)) (place n (inputs_of m past))
            → 1 ≤ count_by (is_from m) (firsts (estimate_for 1) (lead n past 1))
        by_stand m lt lead_fits nothing (inl idle) = let e : (place n (inputs_of m past)).round ≡ 0 = idle.round_is in let j : 1 ≤ (place n (inputs_of m past)).round = joined m lt in absurd (omega (arith, e, j))
        by_stand m lt lead_fits nothing (inr (inl g)) =
            voted (estimate_for 1) (lead n past 1) m (Estimates 1 g.held) g.held
            (drained m (coordinator n 1) lt lead_fits (Estimates 1 g.held) (said_sent n m (coordinator n 1) (inputs_of m past) (Estimates 1 g.held) g.was_said)) refl
        by_stand m lt lead_fits nothing (inr (inr g)) =
            let q : (b : Items) × (proposal n 1 (lead n past 1) ≡ Some b) = agreed_proposal n past run c m (coordinator n 1) g.was_said in
            absurd (none_is_some q.0 (sym nothing ∙ q.1))
