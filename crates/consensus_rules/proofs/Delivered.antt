use Rattle.std.proofs.Common.{ℕ, zero, suc, ◌+◌, ◌≡◌, ◌<◌, ◌≤◌, inl, inr, eqb, false, cond, List, [], ◌∷◌, ◌++◌, length, Option, Some, None, refl, sym, ap, ◌∙◌, subst, arith}
use Rattle.std.specs.List.{flat_map, count_by, list_any}
use Rattle.std.proofs.lemmas.Bool.{cases_Bool, cases_eq, cond_both, cond-true, cond-false, ne_eqb}
use Rattle.std.proofs.lemmas.List.Sums.{sum_by_push}
use Rattle.fifo_net.specs.Net.{Input, Called, Took, IsPrefix}
use Rattle.fifo_net.proofs.Links.{IsPrefix-self, IsPrefix-append, IsPrefix-trans}
use Rattle.fifo_net.proofs.Lists.{IsPrefix-flat_map}
use Rattle.upd_base.specs.Item.{id_of, has_id}
use Rattle.upd_base.specs.declared.item.Item.{Item}
use Rattle.upd_base.specs.declared.body.Body.{Body}
use Rattle.consensus_rules.proofs.Known.{has_its_id}
use Rattle.instance_rules.proofs.Votes.{none_count, weigh}
use Rattle.order_trait.specs.Runs.{Order, Inputs, Agree}
use Rattle.instance_rules.specs.Say.{Items}
use Rattle.consensus_rules.specs.Items.{knows, add_new}
use Rattle.consensus_rules.specs.Delivered.{decide_in, decisions, decision, and_on, batches_from, greatest_number, batches, delivers_by, next}

-- adding goes on
pub add_new_more : (items xs : Items) → IsPrefix items (add_new items xs)
add_new_more items [] = IsPrefix-self items
add_new_more items (x ∷ xs) =
    cond_both (knows items x) items (items ++ x ∷ []) (λ l. IsPrefix items (add_new l xs))
    (λ t. add_new_more items xs)
    (λ t. IsPrefix-trans items (items ++ x ∷ []) (add_new (items ++ x ∷ []) xs) (IsPrefix-append items (x ∷ [])) (add_new_more (items ++ x ∷ []) xs))

pub add_new_append : (items xs ys : Items) → add_new items (xs ++ ys) ≡ add_new (add_new items xs) ys
add_new_append items [] ys = refl
add_new_append items (x ∷ xs) ys = add_new_append (cond (knows items x) items (items ++ x ∷ [])) xs ys

pub add_new_prefix : (items xs ys : Items) → IsPrefix xs ys → IsPrefix (add_new items xs) (add_new items ys)
add_new_prefix items xs ys p =
    let e : add_new items ys ≡ add_new (add_new items xs) p.0 = ap (add_new items) p.1 ∙ add_new_append items xs p.0 in
    subst (IsPrefix (add_new items xs)) (sym e) (add_new_more (add_new items xs) p.0)

-- a first decision stays
pub decision_append : (k : ℕ) (ds es : List (ℕ × Items)) (b : Items) → decision k ds ≡ Some b → decision k (ds ++ es) ≡ Some b
decision_append k [] es b e = absurd cc
decision_append k (d ∷ ds) es b e =
    elim (cases_Bool (eqb d.0 k)) [
      | inl t ↦ cond-true (eqb d.0 k) (Some d.1) (decision k (ds ++ es)) t ∙ sym (cond-true (eqb d.0 k) (Some d.1) (decision k ds) t) ∙ e
      | inr f ↦ cond-false (eqb d.0 k) (Some d.1) (decision k (ds ++ es)) f
          ∙ decision_append k ds es b (sym (cond-false (eqb d.0 k) (Some d.1) (decision k ds) f) ∙ e)
    ]

pub decision_more : (k : ℕ) (ds es : List (ℕ × Items)) (b : Items) → IsPrefix ds es → decision k ds ≡ Some b → decision k es ≡ Some b
decision_more k ds es b p e = ap (decision k) p.1 ∙ decision_append k ds p.0 b e

-- the batches only grow
pub batches_grow : (short long k : ℕ) (ds es : List (ℕ × Items)) → short ≤ long → IsPrefix ds es → IsPrefix (batches_from short k ds) (batches_from long k es)
batches_grow zero long k ds es le p = (batches_from long k es, refl)
batches_grow (suc short) zero k ds es le p = absurd (omega arith)
batches_grow (suc short) (suc long) k ds es le p = by_first (decision k ds) refl (batches_grow short long (k + 1) ds es (omega arith) p)
  where
    by_first : (o : Option Items) → decision k ds ≡ o → IsPrefix (batches_from short (k + 1) ds) (batches_from long (k + 1) es)
        → IsPrefix (and_on (decision k ds) (batches_from short (k + 1) ds)) (and_on (decision k es) (batches_from long (k + 1) es))
    by_first None e rest = subst (λ o. IsPrefix (and_on o (batches_from short (k + 1) ds)) (and_on (decision k es) (batches_from long (k + 1) es))) (sym e) (and_on (decision k es) (batches_from long (k + 1) es), refl)
    by_first (Some b) e rest =
        let there : decision k es ≡ Some b = decision_more k ds es b p e in (
          rest.0,
          ap (λ o. and_on o (batches_from long (k + 1) es)) there ∙ ap (λ l. b ∷ l) rest.1 ∙ ap (λ o. and_on o (batches_from short (k + 1) ds) ++ rest.0) (sym e),
        )

greatest_append : (ds es : List (ℕ × Items)) → greatest_number ds ≤ greatest_number (ds ++ es)
greatest_append [] es = omega arith
greatest_append (d ∷ ds) es = omega (arith, greatest_append ds es)

pub greatest_prefix : (ds es : List (ℕ × Items)) → IsPrefix ds es → greatest_number ds ≤ greatest_number es
greatest_prefix ds es p = subst (λ l. greatest_number ds ≤ greatest_number l) (sym p.1) (greatest_append ds p.0)

-- the batches end where an instance is not decided
past_greatest : (k : ℕ) (ds : List (ℕ × Items)) → greatest_number ds < k → decision k ds ≡ None
past_greatest k [] lt = refl
past_greatest k (d ∷ ds) lt =
    cond-false (eqb d.0 k) (Some d.1) (decision k ds) (ne_eqb d.0 k (λ e. omega (arith, e, lt))) ∙ past_greatest k ds (omega (arith, lt))

pub batches_stop : (f k : ℕ) (ds : List (ℕ × Items)) → greatest_number ds < k + f → decision (k + length (batches_from f k ds)) ds ≡ None
batches_stop zero k ds lt = subst (λ j. decision j ds ≡ None) (let e : k ≡ k + 0 = omega arith in e) (past_greatest k ds (omega (arith, lt)))
batches_stop (suc f) k ds lt = by_first (decision k ds) refl (batches_stop f (k + 1) ds (omega (arith, lt)))
  where
    by_first : (o : Option Items) → decision k ds ≡ o → decision (k + 1 + length (batches_from f (k + 1) ds)) ds ≡ None
        → decision (k + length (and_on (decision k ds) (batches_from f (k + 1) ds))) ds ≡ None
    by_first None e rest =
        subst (λ o. decision (k + length (and_on o (batches_from f (k + 1) ds))) ds ≡ None) (sym e)
        (subst (λ j. decision j ds ≡ None) (let a : k ≡ k + 0 = omega arith in a) e)
    by_first (Some b) e rest =
        subst (λ o. decision (k + length (and_on o (batches_from f (k + 1) ds))) ds ≡ None) (sym e)
        (subst (λ j. decision j ds ≡ None) (let a : k + 1 + length (batches_from f (k + 1) ds) ≡ k + length (b ∷ batches_from f (k + 1) ds) = omega arith in a) rest)

pub next_undecided : (inputs : Inputs) → decision (next inputs) (decisions inputs) ≡ None
next_undecided inputs = batches_stop (greatest_number (decisions inputs)) 1 (decisions inputs) (omega arith)

-- and below their end each is
pub batches_reach : (f k j : ℕ) (ds : List (ℕ × Items)) → k ≤ j → j < k + length (batches_from f k ds) → (b : Items) × (decision j ds ≡ Some b)
batches_reach zero k j ds le lt = absurd (omega arith)
batches_reach (suc f) k j ds le lt = by_first (decision k ds) refl (λ after less. batches_reach f (k + 1) j ds after less) lt
  where
    by_first : (o : Option Items) → decision k ds ≡ o → (k + 1 ≤ j → j < k + 1 + length (batches_from f (k + 1) ds) → (b : Items) × (decision j ds ≡ Some b))
        → j < k + length (and_on o (batches_from f (k + 1) ds)) → (b : Items) × (decision j ds ≡ Some b)
    by_first None e rest less = absurd (omega arith)
    by_first (Some b) e rest less =
        elim (cases_eq k j) [
          | inl same ↦ (b, subst (λ z. decision z ds ≡ Some b) same e)
          | inr ne ↦ rest (omega arith) (omega arith)
        ]

pub decisions_grow : (x : Input Order Body) (past : Inputs) → IsPrefix (decisions past) (decisions (x ∷ past))
decisions_grow (Called order) past = IsPrefix-self (decisions past)
decisions_grow (Took from body) past = IsPrefix-append (decisions past) (decide_in body)

-- what a member has delivered stays, at every list of inputs
pub delivers_grow : (n m : ℕ) (x : Input Order Body) (past : Inputs) → IsPrefix (delivers_by n m past) (delivers_by n m (x ∷ past))
delivers_grow n m x past =
    let p : IsPrefix (decisions past) (decisions (x ∷ past)) = decisions_grow x past in
    let longer : greatest_number (decisions past) ≤ greatest_number (decisions (x ∷ past)) = greatest_prefix (decisions past) (decisions (x ∷ past)) p in
    add_new_prefix [] (flat_map (λ b. b) (batches (decisions past))) (flat_map (λ b. b) (batches (decisions (x ∷ past))))
    (IsPrefix-flat_map (λ b. b) (batches (decisions past)) (batches (decisions (x ∷ past)))
    (batches_grow (greatest_number (decisions past)) (greatest_number (decisions (x ∷ past))) 1 (decisions past) (decisions (x ∷ past)) longer p))

-- and a call delivers nothing
pub delivers_takes : (n m : ℕ) (order : Order) (past : Inputs) → delivers_by n m (Called order ∷ past) ≡ delivers_by n m past
delivers_takes n m order past = refl

-- no item is delivered twice
pub counted_new : (id : ℕ × ℕ) (items : Items) (x : Item) → count_by (has_id id) items ≤ 1 → count_by (has_id id) (cond (knows items x) items (items ++ x ∷ [])) ≤ 1
counted_new id items x h =
    cond_both (knows items x) items (items ++ x ∷ []) (λ l. count_by (has_id id) l ≤ 1)
    (λ t. h)
    (λ f. elim (cases_Bool (has_id id x)) [
      | inl same ↦
          let is : id_of x ≡ id = has_its_id id x same in
          let zero_before : count_by (has_id id) items ≡ 0 = none_count (has_id id) items (subst (λ k. list_any (has_id k) items ≡ false) is f) in
          let here : weigh (has_id id x) ≡ 1 = ap weigh same in
          let sum : count_by (has_id id) (items ++ x ∷ []) ≡ count_by (has_id id) items + weigh (has_id id x) = sum_by_push (λ y. cond (has_id id y) 1 0) items x in
          omega (arith, zero_before, here, sum)
      | inr other ↦
          let here : weigh (has_id id x) ≡ 0 = ap weigh other in
          let sum : count_by (has_id id) (items ++ x ∷ []) ≡ count_by (has_id id) items + weigh (has_id id x) = sum_by_push (λ y. cond (has_id id y) 1 0) items x in
          omega (arith, h, here, sum)
    ])

pub added_once : (id : ℕ × ℕ) (items xs : Items) → count_by (has_id id) items ≤ 1 → count_by (has_id id) (add_new items xs) ≤ 1
added_once id items [] h = h
added_once id items (x ∷ xs) h = added_once id (cond (knows items x) items (items ++ x ∷ [])) xs (counted_new id items x h)

pub delivers_once : (n m : ℕ) (past : Inputs) (id : ℕ × ℕ) → count_by (has_id id) (delivers_by n m past) ≤ 1
delivers_once n m past id = added_once id [] (flat_map (λ b. b) (batches (decisions past))) (omega arith)

-- Of two lists of decisions that never differ the batches of one begin those of the other.
pub record Consistent (ds es : List (ℕ × Items)) : Type 0 where
  pub same : (k : ℕ) (a b : Items) → decision k ds ≡ Some a → decision k es ≡ Some b → a ≡ b

pub batches_agree : (f g k : ℕ) (ds es : List (ℕ × Items)) → Consistent ds es → Agree (batches_from f k ds) (batches_from g k es)
batches_agree zero g k ds es c = inl (batches_from g k es, refl)
batches_agree (suc f) zero k ds es c = inr (batches_from (suc f) k ds, refl)
batches_agree (suc f) (suc g) k ds es c = by_first (decision k ds) (decision k es) refl refl (batches_agree f g (k + 1) ds es c)
  where
    by_first : (o p : Option Items) → decision k ds ≡ o → decision k es ≡ p → Agree (batches_from f (k + 1) ds) (batches_from g (k + 1) es)
        → Agree (and_on (decision k ds) (batches_from f (k + 1) ds)) (and_on (decision k es) (batches_from g (k + 1) es))
    by_first None p e h rest = subst (λ o. Agree (and_on o (batches_from f (k + 1) ds)) (and_on (decision k es) (batches_from g (k + 1) es))) (sym e) (inl (and_on (decision k es) (batches_from g (k + 1) es), refl))
    by_first (Some a) None e h rest = subst (λ o. Agree (and_on (decision k ds) (batches_from f (k + 1) ds)) (and_on o (batches_from g (k + 1) es))) (sym h) (inr (and_on (decision k ds) (batches_from f (k + 1) ds), refl))
    by_first (Some a) (Some b) e h rest =
        let same : a ≡ b = c.same k a b e h in
        let both : Agree (a ∷ batches_from f (k + 1) ds) (a ∷ batches_from g (k + 1) es) = elim rest [
          | inl p ↦ inl (p.0, ap (λ l. a ∷ l) p.1)
          | inr p ↦ inr (p.0, ap (λ l. a ∷ l) p.1)
        ] in
        subst (λ o. Agree (and_on o (batches_from f (k + 1) ds)) (and_on (decision k es) (batches_from g (k + 1) es))) (sym e)
        (subst (λ o. Agree (a ∷ batches_from f (k + 1) ds) (and_on o (batches_from g (k + 1) es))) (sym h)
        (subst (λ z. Agree (a ∷ batches_from f (k + 1) ds) (z ∷ batches_from g (k + 1) es)) same both))

pub delivers_agree : (n i j : ℕ) (xs ys : Inputs) → Consistent (decisions xs) (decisions ys) → Agree (delivers_by n i xs) (delivers_by n j ys)
delivers_agree n i j xs ys c =
    elim (batches_agree (greatest_number (decisions xs)) (greatest_number (decisions ys)) 1 (decisions xs) (decisions ys) c) [
      | inl p ↦ inl (add_new_prefix [] (flat_map (λ b. b) (batches (decisions xs))) (flat_map (λ b. b) (batches (decisions ys))) (IsPrefix-flat_map (λ b. b) (batches (decisions xs)) (batches (decisions ys)) p))
      | inr p ↦ inr (add_new_prefix [] (flat_map (λ b. b) (batches (decisions ys))) (flat_map (λ b. b) (batches (decisions xs))) (IsPrefix-flat_map (λ b. b) (batches (decisions ys)) (batches (decisions xs)) p))
    ]
