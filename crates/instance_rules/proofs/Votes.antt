use Rattle.std.proofs.Common.{ℕ, zero, suc, ◌+◌, ◌≡◌, ◌<◌, ◌≤◌, ◌⊎◌, inl, inr, eqb, ltb, leb, Bool, true, false, cond, List, [], ◌∷◌, ◌++◌, length, take, drop, Option, Some, None, refl, sym, ap, ◌∙◌, subst, arith, ◌&&◌, take-append-drop}
use Rattle.std.specs.List.{Contains, count_by, list_any, list_all}
use Rattle.std.proofs.lemmas.Bool.{cases_Bool, cases_eq, cases_lt, cond_both, cond-true, cond-false, eqb-true, eq-eqb, ne_eqb, leb-true, le-leb, ltb-true, ltb-false, or_cases, or_parts, and_parts}
use Rattle.std.proofs.lemmas.List.{take-append-le, length-take, length-append}
use Rattle.std.proofs.lemmas.List.Elements.{Contains-append_left, Contains-append_right, Contains-append_cases, Contains-push, Contains-push_cases, All-contains}
use Rattle.std.proofs.lemmas.List.Sums.{sum_by-append, sum_by-cons, AllPass-from_list_all}
use Rattle.fifo_net.specs.Net.{Input, Called, Took, taken, IsPrefix}
use Rattle.fifo_net.proofs.Links.{IsPrefix-self, IsPrefix-append, taken_here}
use Rattle.fifo_net.proofs.Lists.{Contains-prefix}
use Rattle.order_trait.proofs.Sums.{sum_below, sum_below-none, sum_below-more}
use Rattle.instance_rules.specs.Say.{Items, Estimate, Act, Say, Estimates, Proposes, Replies, Moves_on, Decides, Turns, majority}
use Rattle.instance_rules.specs.Ballot.{is_from, vote, firsts, estimate_for, reply_for, quorum, outranks, best, best_of, proposal, all_yes, verdict}

pub one : {A : Type 0} (y x : A) → Contains (y ∷ []) x → y ≡ x
one y x h = elim (Contains-push_cases [] y x h) [ inl no_more ↦ absurd (omega (arith, no_more.1)) | inr e ↦ e ]

pub none : {A : Type 0} {C : Type 0} (x : A) → Contains [] x → C
none x h = absurd (omega (arith, h.1))

pub none_is_some : {A : Type 0} {C : Type 0} (x : A) → None ≡ Some x → C
none_is_some x e = absurd cc

abbrev pub weigh : Bool → ℕ
weigh b = cond b 1 0

pub Some-is : {A : Type 0} (x y : A) → Some x ≡ Some y → x ≡ y
Some-is x y e = cc

pub taken_more : (j : ℕ) (x : Input Act Say) (past : Turns) → IsPrefix (taken j past) (taken j (x ∷ past))
taken_more j (Called act) past = IsPrefix-self (taken j past)
taken_more j (Took from say) past =
    cond_both (eqb from j) (taken j past ++ say ∷ []) (taken j past) (IsPrefix (taken j past)) (λ e. IsPrefix-append (taken j past) (say ∷ [])) (λ e. IsPrefix-self (taken j past))

pub was_taken : (j : ℕ) (x : Input Act Say) (past : Turns) (y : Say) → Contains (taken j past) y → Contains (taken j (x ∷ past)) y
was_taken j x past y h = Contains-prefix (taken j past) (taken j (x ∷ past)) y (taken_more j x past) h

pub just_taken : (from j : ℕ) (y : Say) (past : Turns) → from ≡ j → Contains (taken j (Took from y ∷ past)) y
just_taken from j y past e = subst (λ l. Contains l y) (sym (taken_here j from y past e)) (Contains-push (taken j past) y)

-- votes only grow
pub firsts_more : {A : Type 0} (f : Say → Option A) (x : Input Act Say) (past : Turns) → IsPrefix (firsts f past) (firsts f (x ∷ past))
firsts_more f (Called act) past = IsPrefix-self (firsts f past)
firsts_more f (Took from say) past = IsPrefix-append (firsts f past) (vote (firsts f past) from (f say))

quorum_holds : {A : Type 0} (n : ℕ) (vs : List (ℕ × A)) (q : List (ℕ × A)) → quorum n vs ≡ Some q → (majority n ≤ length vs) × (q ≡ take (majority n) vs)
quorum_holds {A} n vs q e =
    elim (cases_Bool (leb (majority n) (length vs))) [
      | inl t ↦ (leb-true (majority n) (length vs) t, Some-is q (take (majority n) vs) (sym e ∙ cond-true (leb (majority n) (length vs)) (Some (take (majority n) vs)) None t))
      | inr f ↦
          none_is_some q (sym (cond-false (leb (majority n) (length vs)) (Some (take (majority n) vs)) None f) ∙ e)
    ]

quorum_stays : {A : Type 0} (n : ℕ) (vs ws q : List (ℕ × A)) → IsPrefix vs ws → quorum n vs ≡ Some q → quorum n ws ≡ Some q
quorum_stays n vs ws q p e =
    let h : (majority n ≤ length vs) × (q ≡ take (majority n) vs) = quorum_holds n vs q e in
    let longer : length vs ≤ length ws = (let sum : length ws ≡ length vs + length p.0 = ap length p.1 ∙ length-append vs p.0 in omega arith) in
    let same : take (majority n) ws ≡ take (majority n) vs = ap (take (majority n)) p.1 ∙ take-append-le (majority n) vs p.0 h.0 in
    cond-true (leb (majority n) (length ws)) (Some (take (majority n) ws)) None (le-leb (majority n) (length ws) (omega arith)) ∙ ap (λ l. Some l) (same ∙ sym h.1)

pub cases_option : {A : Type 0} (o : Option A) → (o ≡ None) ⊎ ((x : A) × (o ≡ Some x))
cases_option None = inl refl
cases_option (Some x) = inr (x, refl)

pub proposal_stays : (n r : ℕ) (x : Input Act Say) (past : Turns) (b : Items) → proposal n r past ≡ Some b → proposal n r (x ∷ past) ≡ Some b
proposal_stays n r x past b e =
    elim (cases_option (quorum n (firsts (estimate_for r) past))) [
      | inl no_quorum ↦ none_is_some b (sym (ap best_of no_quorum) ∙ e)
      | inr q ↦ ap best_of (quorum_stays n (firsts (estimate_for r) past) (firsts (estimate_for r) (x ∷ past)) q.0 (firsts_more (estimate_for r) x past) q.1 ∙ sym q.1) ∙ e
    ]

pub verdict_stays : (n r : ℕ) (x : Input Act Say) (past : Turns) (b : Bool) → verdict n r past ≡ Some b → verdict n r (x ∷ past) ≡ Some b
verdict_stays n r x past b e =
    elim (cases_option (quorum n (firsts (reply_for r) past))) [
      | inl no_quorum ↦ none_is_some b (sym (ap all_yes no_quorum) ∙ e)
      | inr q ↦ ap all_yes (quorum_stays n (firsts (reply_for r) past) (firsts (reply_for r) (x ∷ past)) q.0 (firsts_more (reply_for r) x past) q.1 ∙ sym q.1) ∙ e
    ]

-- each vote was taken from its member
vote_found : {A : Type 0} (f : Say → Option A) (votes : List (ℕ × A)) (from : ℕ) (say : Say) (o : Option A) → f say ≡ o → (v : ℕ × A) → Contains (vote votes from o) v
    → (from ≡ v.0) × (f say ≡ Some v.1)
vote_found f votes from say None e v h = none v h
vote_found {A} f votes from say (Some x) e v h =
    let is : (from, x) ≡ v =
    cond_both (list_any (is_from from) votes) [] ((from, x) ∷ []) (λ l. Contains l v → (from, x) ≡ v) (λ t g. none v g) (λ t g. one (from, x) v g) h in
    (ap (λ p. p.0) is, e ∙ ap (λ p. Some p.1) is)

pub firsts_found : {A : Type 0} (f : Say → Option A) (past : Turns) (v : ℕ × A) → Contains (firsts f past) v
    → (say : Say) × Contains (taken v.0 past) say × (f say ≡ Some v.1)
firsts_found f [] v h = none v h
firsts_found {A} f (Called act ∷ past) v h = firsts_found f past v h
firsts_found {A} f (Took from say ∷ past) v h =
    elim (Contains-append_cases (firsts f past) (vote (firsts f past) from (f say)) v h) [
      | inl old ↦
          let s : (say : Say) × Contains (taken v.0 past) say × (f say ≡ Some v.1) = firsts_found f past v old in
          (s.0, was_taken v.0 (Took from say) past s.0 s.1, s.2)
      | inr new ↦
          let s : (from ≡ v.0) × (f say ≡ Some v.1) = vote_found f (firsts f past) from say (f say) refl v new in
          (say, just_taken from v.0 say past s.0, s.1)
    ]

-- and no member has two
pub none_count : {A : Type 0} (p : A → Bool) (xs : List A) → list_any p xs ≡ false → count_by p xs ≡ 0
none_count p [] e = refl
none_count p (x ∷ xs) e =
    let parts : (p x ≡ false) × (list_any p xs ≡ false) = or_parts (p x) (list_any p xs) e in
    let here : weigh (p x) ≡ 0 = ap weigh parts.0 in
    let sum : count_by p (x ∷ xs) ≡ weigh (p x) + count_by p xs = sum_by-cons (λ y. cond (p y) 1 0) x xs in
    omega (arith, here, sum, none_count p xs parts.1)

vote_once : {A : Type 0} (m : ℕ) (votes : List (ℕ × A)) (from : ℕ) (o : Option A) → count_by (is_from m) votes ≤ 1
    → count_by (is_from m) votes + count_by (is_from m) (vote votes from o) ≤ 1
vote_once m votes from None h = omega arith
vote_once m votes from (Some x) h =
    cond_both (list_any (is_from from) votes) [] ((from, x) ∷ []) (λ l. count_by (is_from m) votes + count_by (is_from m) l ≤ 1)
    (λ t. omega arith)
    (λ t. elim (cases_eq from m) [
      | inl e ↦
          let zero_before : count_by (is_from m) votes ≡ 0 = none_count (is_from m) votes (subst (λ k. list_any (is_from k) votes ≡ false) e t) in
          let here : weigh (eqb from m) ≡ 1 = ap weigh (eq-eqb from m e) in
          let sum : count_by (is_from m) ((from, x) ∷ []) ≡ weigh (eqb from m) + 0 = sum_by-cons (λ y. cond (is_from m y) 1 0) (from, x) [] in
          omega (arith, zero_before, here, sum)
      | inr ne ↦
          let here : weigh (eqb from m) ≡ 0 = ap weigh (ne_eqb from m ne) in
          let sum : count_by (is_from m) ((from, x) ∷ []) ≡ weigh (eqb from m) + 0 = sum_by-cons (λ y. cond (is_from m y) 1 0) (from, x) [] in
          omega (arith, h, here, sum)
    ])

pub firsts_once : {A : Type 0} (f : Say → Option A) (m : ℕ) (past : Turns) → count_by (is_from m) (firsts f past) ≤ 1
firsts_once f m [] = omega arith
firsts_once f m (Called act ∷ past) = firsts_once f m past
firsts_once f m (Took from say ∷ past) =
    let sum : count_by (is_from m) (firsts f past ++ vote (firsts f past) from (f say)) ≡ count_by (is_from m) (firsts f past) + count_by (is_from m) (vote (firsts f past) from (f say))
    = sum_by-append (λ y. cond (is_from m y) 1 0) (firsts f past) (vote (firsts f past) from (f say)) in
    omega (arith, sum, vote_once m (firsts f past) from (f say) (firsts_once f m past))

-- Two lists of votes, each with at most one of a member, that together are more than the members: one member is in both.
pub members_counted : {A : Type 0} (n : ℕ) (vs : List (ℕ × A)) → ((v : ℕ × A) → Contains vs v → v.0 < n) → sum_below n (λ m. count_by (is_from m) vs) ≡ length vs
members_counted n [] h = sum_below-none n
members_counted {A} n (v ∷ vs) h =
    let here : count_by (is_from v.0) (v ∷ vs) ≡ count_by (is_from v.0) vs + 1 =
    (let sum : count_by (is_from v.0) (v ∷ vs) ≡ weigh (eqb v.0 v.0) + count_by (is_from v.0) vs = sum_by-cons (λ y. cond (is_from v.0 y) 1 0) v vs in
    let yes_here : weigh (eqb v.0 v.0) ≡ 1 = ap weigh (eq-eqb v.0 v.0 refl) in
    omega (arith, sum, yes_here)) in
    let away : (j : ℕ) → (v.0 ≡ j → ⊥) → count_by (is_from j) (v ∷ vs) ≡ count_by (is_from j) vs =
    (λ j ne. let sum : count_by (is_from j) (v ∷ vs) ≡ weigh (eqb v.0 j) + count_by (is_from j) vs = sum_by-cons (λ y. cond (is_from j y) 1 0) v vs in
    let not_here : weigh (eqb v.0 j) ≡ 0 = ap weigh (ne_eqb v.0 j ne) in
    omega (arith, sum, not_here)) in
    let more : sum_below n (λ m. count_by (is_from m) (v ∷ vs)) ≡ sum_below n (λ m. count_by (is_from m) vs) + 1 =
    sum_below-more n v.0 1 (λ m. count_by (is_from m) vs) (λ m. count_by (is_from m) (v ∷ vs)) (h v (Contains-append_left (v ∷ []) vs v (Contains-push [] v))) here away in
    let old : sum_below n (λ m. count_by (is_from m) vs) ≡ length vs = members_counted n vs (λ w g. h w (Contains-append_right (v ∷ []) vs w g)) in
    omega (arith, more, old)

counted_found : {A : Type 0} (m : ℕ) (vs : List (ℕ × A)) → 1 ≤ count_by (is_from m) vs → (x : A) × Contains vs (m, x)
counted_found m [] h = absurd (omega (arith, h))
counted_found {A} m (v ∷ vs) h =
    elim (cases_eq v.0 m) [
      | inl e ↦ (v.1, subst (λ k. Contains (v ∷ vs) (k, v.1)) e (Contains-append_left (v ∷ []) vs v (Contains-push [] v)))
      | inr ne ↦
          let sum : count_by (is_from m) (v ∷ vs) ≡ weigh (eqb v.0 m) + count_by (is_from m) vs = sum_by-cons (λ y. cond (is_from m y) 1 0) v vs in
          let not_here : weigh (eqb v.0 m) ≡ 0 = ap weigh (ne_eqb v.0 m ne) in
          let rest : (x : A) × Contains vs (m, x) = counted_found m vs (omega (arith, sum, not_here, h)) in
          (rest.0, Contains-append_right (v ∷ []) vs (m, rest.0) rest.1)
    ]

both_below : (n : ℕ) (f g : ℕ → ℕ) → ((m : ℕ) → f m ≤ 1) → ((m : ℕ) → g m ≤ 1) → n < sum_below n f + sum_below n g → (m : ℕ) × (1 ≤ f m) × (1 ≤ g m)
both_below zero f g hf hg lt = absurd (omega arith)
both_below (suc n) f g hf hg lt =
    let a : f n ≤ 1 = hf n in
    let b : g n ≤ 1 = hg n in
    elim (cases_lt (f n + g n) 2) [
      | inl few ↦ both_below n f g hf hg (omega arith)
      | inr enough ↦ (n, omega arith, omega arith)
    ]

pub quorums_meet : {A B : Type 0} (n : ℕ) (vs : List (ℕ × A)) (ws : List (ℕ × B))
    → ((m : ℕ) → count_by (is_from m) vs ≤ 1) → ((m : ℕ) → count_by (is_from m) ws ≤ 1)
    → ((v : ℕ × A) → Contains vs v → v.0 < n) → ((w : ℕ × B) → Contains ws w → w.0 < n)
    → length vs ≡ majority n → length ws ≡ majority n
    → (m : ℕ) × ((x : A) × Contains vs (m, x)) × ((y : B) × Contains ws (m, y))
quorums_meet {A} {B} n vs ws vs_once ws_once vs_fit ws_fit vs_long ws_long =
    let a : sum_below n (λ m. count_by (is_from m) vs) ≡ length vs = members_counted n vs vs_fit in
    let b : sum_below n (λ m. count_by (is_from m) ws) ≡ length ws = members_counted n ws ws_fit in
    let m : (m : ℕ) × (1 ≤ count_by (is_from m) vs) × (1 ≤ count_by (is_from m) ws) =
    both_below n (λ m. count_by (is_from m) vs) (λ m. count_by (is_from m) ws) vs_once ws_once (omega (arith, a, b, vs_long, ws_long)) in
    (m.0, counted_found m.0 vs m.1, counted_found m.0 ws m.2)

-- the best is one of them, and none has a greater stamp
outranks_le : (w v : ℕ × Estimate) → outranks w v ≡ true → v.1.stamp ≤ w.1.stamp
outranks_le w v e =
    elim (or_cases (ltb v.1.stamp w.1.stamp) (eqb w.1.stamp v.1.stamp && ltb w.0 v.0) e) [
      | inl lt ↦ let l : v.1.stamp < w.1.stamp = ltb-true v.1.stamp w.1.stamp lt in omega arith
      | inr same ↦
          let p : (eqb w.1.stamp v.1.stamp ≡ true) × (ltb w.0 v.0 ≡ true) = and_parts (eqb w.1.stamp v.1.stamp) (ltb w.0 v.0) same in
          let l : w.1.stamp ≡ v.1.stamp = eqb-true w.1.stamp v.1.stamp p.0 in
          omega arith
    ]

outranked_le : (w v : ℕ × Estimate) → outranks w v ≡ false → w.1.stamp ≤ v.1.stamp
outranked_le w v e =
    let p : (ltb v.1.stamp w.1.stamp ≡ false) × ((eqb w.1.stamp v.1.stamp && ltb w.0 v.0) ≡ false) = or_parts (ltb v.1.stamp w.1.stamp) (eqb w.1.stamp v.1.stamp && ltb w.0 v.0) e in
    ltb-false v.1.stamp w.1.stamp p.0

best_first : (v : ℕ × Estimate) (vs : List (ℕ × Estimate)) → v.1.stamp ≤ (best v vs).1.stamp
best_first v [] = omega arith
best_first v (w ∷ ws) =
    cond_both (outranks w v) w v (λ u. v.1.stamp ≤ (best u ws).1.stamp)
    (λ t. let a : v.1.stamp ≤ w.1.stamp = outranks_le w v t in let b : w.1.stamp ≤ (best w ws).1.stamp = best_first w ws in omega arith)
    (λ f. best_first v ws)

best_rest : (v : ℕ × Estimate) (vs : List (ℕ × Estimate)) (u : ℕ × Estimate) → Contains vs u → u.1.stamp ≤ (best v vs).1.stamp
best_rest v [] u h = none u h
best_rest v (w ∷ ws) u h =
    elim (Contains-append_cases (w ∷ []) ws u h) [
      | inl here ↦
          let e : w ≡ u = one w u here in
          let top : w.1.stamp ≤ (best v (w ∷ ws)).1.stamp =
          cond_both (outranks w v) w v (λ z. w.1.stamp ≤ (best z ws).1.stamp)
          (λ t. best_first w ws)
          (λ f. let a : w.1.stamp ≤ v.1.stamp = outranked_le w v f in let b : v.1.stamp ≤ (best v ws).1.stamp = best_first v ws in omega arith) in
          subst (λ z. z.1.stamp ≤ (best v (w ∷ ws)).1.stamp) e top
      | inr there ↦ best_rest (cond (outranks w v) w v) ws u there
    ]

pub best_among : (v : ℕ × Estimate) (vs : List (ℕ × Estimate)) → Contains (v ∷ vs) (best v vs)
best_among v [] = Contains-push [] v
best_among v (w ∷ ws) =
    cond_both (outranks w v) w v (λ z. Contains (v ∷ w ∷ ws) (best z ws))
    (λ t. Contains-append_right (v ∷ []) (w ∷ ws) (best w ws) (best_among w ws))
    (λ f. elim (Contains-append_cases (v ∷ []) ws (best v ws) (best_among v ws)) [
      | inl here ↦ Contains-append_left (v ∷ []) (w ∷ ws) (best v ws) here
      | inr there ↦ Contains-append_right (v ∷ w ∷ []) ws (best v ws) there
    ])

-- What stands behind a proposal and behind a decision.
pub record Backed (n r : ℕ) (turns : Turns) (batch : Items) : Type 0 where
  pub votes : List (ℕ × Estimate)
  pub begins : IsPrefix votes (firsts (estimate_for r) turns)
  pub enough : length votes ≡ majority n
  pub chosen : ℕ × Estimate
  pub among : Contains votes chosen
  pub batch_is : chosen.1.batch ≡ batch
  pub top : (u : ℕ × Estimate) → Contains votes u → u.1.stamp ≤ chosen.1.stamp

pub record Approved (n r : ℕ) (turns : Turns) : Type 0 where
  pub votes : List (ℕ × Bool)
  pub begins : IsPrefix votes (firsts (reply_for r) turns)
  pub enough : length votes ≡ majority n
  pub agreed : (v : ℕ × Bool) → Contains votes v → v.1 ≡ true

pub take_begins : {A : Type 0} (k : ℕ) (xs : List A) → IsPrefix (take k xs) xs
take_begins k xs = (drop k xs, sym (take-append-drop k xs))

backed_by : (n r : ℕ) (turns : Turns) (batch : Items) (votes : List (ℕ × Estimate)) → IsPrefix votes (firsts (estimate_for r) turns) → length votes ≡ majority n
    → best_of (Some votes) ≡ Some batch → Backed n r turns batch
backed_by n r turns batch [] p l e = none_is_some batch (e)
backed_by n r turns batch (v ∷ vs) p l e = record {
  votes = v ∷ vs;
  begins = p;
  enough = l;
  chosen = best v vs;
  among = best_among v vs;
  batch_is = Some-is (best v vs).1.batch batch e;
  top = λ u h. elim (Contains-append_cases (v ∷ []) vs u h) [
    | inl here ↦ subst (λ z. z.1.stamp ≤ (best v vs).1.stamp) (one v u here) (best_first v vs)
    | inr there ↦ best_rest v vs u there
  ];
}

pub long_enough : {A : Type 0} (n : ℕ) (vs q : List (ℕ × A)) → quorum n vs ≡ Some q → IsPrefix q vs × (length q ≡ majority n)
long_enough n vs q e =
    let h : (majority n ≤ length vs) × (q ≡ take (majority n) vs) = quorum_holds n vs q e in
    let p : IsPrefix q vs = subst (λ l. IsPrefix l vs) (sym h.1) (take_begins (majority n) vs) in
    let l : length (take (majority n) vs) ≡ majority n = length_taken (majority n) vs h.0 in
    (p, ap length h.1 ∙ l)
  where
    length_taken : {A : Type 0} (k : ℕ) (xs : List A) → k ≤ length xs → length (take k xs) ≡ k
    length_taken k xs h = omega (arith, length-take k xs)

pub backed : (n r : ℕ) (turns : Turns) (batch : Items) → proposal n r turns ≡ Some batch → Backed n r turns batch
backed n r turns batch e =
    elim (cases_option (quorum n (firsts (estimate_for r) turns))) [
      | inl no_quorum ↦ none_is_some batch (sym (ap best_of no_quorum) ∙ e)
      | inr q ↦
          let l : IsPrefix q.0 (firsts (estimate_for r) turns) × (length q.0 ≡ majority n) = long_enough n (firsts (estimate_for r) turns) q.0 q.1 in
          backed_by n r turns batch q.0 l.0 l.1 (sym (ap best_of q.1) ∙ e)
    ]

pub approved : (n r : ℕ) (turns : Turns) → verdict n r turns ≡ Some true → Approved n r turns
approved n r turns e =
    elim (cases_option (quorum n (firsts (reply_for r) turns))) [
      | inl no_quorum ↦ none_is_some true (sym (ap all_yes no_quorum) ∙ e)
      | inr q ↦
          let l : IsPrefix q.0 (firsts (reply_for r) turns) × (length q.0 ≡ majority n) = long_enough n (firsts (reply_for r) turns) q.0 q.1 in
          let all : list_all (λ v. v.1) q.0 ≡ true = Some-is (list_all (λ v. v.1) q.0) true (sym (ap all_yes q.1) ∙ e) in
          record {
            votes = q.0;
            begins = l.0;
            enough = l.1;
            agreed = λ v h. All-contains (λ w. w.1 ≡ true) q.0 v (AllPass-from_list_all (λ w. w.1) q.0 all) h;
          }
    ]

pub estimate_said : (r : ℕ) (say : Say) (held : Estimate) → estimate_for r say ≡ Some held → say ≡ Estimates r held
estimate_said r (Estimates round own) held e =
    elim (cases_eq round r) [
      | inl same ↦
          let is : own ≡ held = Some-is own held (sym (cond-true (eqb round r) (Some own) None (eq-eqb round r same)) ∙ e) in
          cc
      | inr ne ↦ none_is_some held (sym (cond-false (eqb round r) (Some own) None (ne_eqb round r ne)) ∙ e)
    ]
estimate_said r (Proposes round batch) held e = absurd cc
estimate_said r (Replies round agree) held e = absurd cc
estimate_said r (Moves_on round) held e = absurd cc
estimate_said r (Decides batch) held e = absurd cc

pub reply_said : (r : ℕ) (say : Say) (answer : Bool) → reply_for r say ≡ Some answer → say ≡ Replies r answer
reply_said r (Estimates round own) answer e = absurd cc
reply_said r (Proposes round batch) answer e = absurd cc
reply_said r (Replies round agree) answer e =
    elim (cases_eq round r) [
      | inl same ↦
          let is : agree ≡ answer = Some-is agree answer (sym (cond-true (eqb round r) (Some agree) None (eq-eqb round r same)) ∙ e) in
          cc
      | inr ne ↦ none_is_some answer (sym (cond-false (eqb round r) (Some agree) None (ne_eqb round r ne)) ∙ e)
    ]
reply_said r (Moves_on round) answer e = absurd cc
reply_said r (Decides batch) answer e = absurd cc
