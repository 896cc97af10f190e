-- How far the decisions reach.
use Rattle.std.proofs.Common.{ℕ, zero, suc, ◌+◌, ◌^◌, ◌≡◌, ◌<◌, ◌≤◌, inl, inr, true, List, [], ◌∷◌, ◌++◌, length, take, Option, Some, None, refl, sym, ap, ◌∙◌, subst, arith, length-append}
use Rattle.std.specs.Ordering.{nat_cmp}
use Rattle.std.specs.BTreeMap.{get}
use Rattle.number_runs.specs.Runs.{holds}
use Rattle.upd_base.specs.Item.{id_of}
use Rattle.std.specs.Option.{is_some}
use Rattle.std.proofs.Math.Seq.{take-append_seam}
use Rattle.std.proofs.lemmas.Bool.{cases_lt}
use Rattle.fifo_net.specs.Net.{IsPrefix}
use Rattle.fifo_net.proofs.Links.{IsPrefix-append}
use Rattle.instance_rules.specs.Say.{Items}
use Rattle.instance_rules.specs.History.{or_else}
use Rattle.instance_rules.proofs.Votes.{none_is_some}
use Rattle.consensus_rules.specs.Delivered.{decision, and_on, batches_from, greatest_number, batches, items_of}
use Rattle.consensus_rules.proofs.Delivered.{batches_stop, batches_reach, batches_grow, greatest_prefix}
use Rattle.consensus_rules.proofs.Projection.{decision_or}
use Rattle.batch_delivery.specs.Delivery.{IsUpTo, StandsFor}
use Rattle.batch_delivery.specs.declared.delivery.Delivery.{Delivery}

-- what is delivered begins what more decisions let be delivered
pub batches_prefix : (ds es : List (ℕ × Items)) → IsPrefix (batches ds) (batches (ds ++ es))
batches_prefix ds es = batches_grow (greatest_number ds) (greatest_number (ds ++ es)) 1 ds (ds ++ es) (greatest_prefix ds (ds ++ es) (IsPrefix-append ds es)) (IsPrefix-append ds es)

front_same : (ds es : List (ℕ × Items)) → take (length (batches ds)) (batches (ds ++ es)) ≡ batches ds
front_same ds es = let p : IsPrefix (batches ds) (batches (ds ++ es)) = batches_prefix ds es in ap (take (length (batches ds))) p.1 ∙ take-append_seam (batches ds) p.0

reach_less : (ds es : List (ℕ × Items)) → length (batches ds) ≤ length (batches (ds ++ es))
reach_less ds es =
    let p : IsPrefix (batches ds) (batches (ds ++ es)) = batches_prefix ds es in
    let e : length (batches (ds ++ es)) ≡ length (batches ds) + length p.0 = ap length p.1 ∙ length-append (batches ds) p.0 in
    omega (arith, e)

-- the batch after those that were delivered
batch_at : (f k c : ℕ) (ds : List (ℕ × Items)) (b : Items) → c < length (batches_from f k ds) → decision (k + c) ds ≡ Some b
    → take (suc c) (batches_from f k ds) ≡ take c (batches_from f k ds) ++ b ∷ []
batch_at zero k c ds b lt e = absurd (omega (arith, lt))
batch_at (suc f) k c ds b lt e = by_first (decision k ds) refl lt (λ j less g. batch_at f (k + 1) j ds b less g) c e lt
  where
    by_first : (o : Option Items) → decision k ds ≡ o → c < length (and_on (decision k ds) (batches_from f (k + 1) ds))
        → ((j : ℕ) → j < length (batches_from f (k + 1) ds) → decision (k + 1 + j) ds ≡ Some b → take (suc j) (batches_from f (k + 1) ds) ≡ take j (batches_from f (k + 1) ds) ++ b ∷ [])
        → (c : ℕ) → decision (k + c) ds ≡ Some b → c < length (and_on (decision k ds) (batches_from f (k + 1) ds))
        → take (suc c) (and_on (decision k ds) (batches_from f (k + 1) ds)) ≡ take c (and_on (decision k ds) (batches_from f (k + 1) ds)) ++ b ∷ []
    by_first None o lt rest c e less =
        let none : length (and_on (decision k ds) (batches_from f (k + 1) ds)) ≡ 0 = ap (λ z. length (and_on z (batches_from f (k + 1) ds))) o in absurd (omega (arith, none, less))
    by_first (Some a) o lt rest zero e less =
        let at : decision k ds ≡ Some b = subst (λ j. decision j ds ≡ Some b) (let z : k + 0 ≡ k = omega arith in z) e in
        let same : a ≡ b = is_same a b (sym o ∙ at) in
        subst (λ z. take (suc zero) (and_on z (batches_from f (k + 1) ds)) ≡ take zero (and_on z (batches_from f (k + 1) ds)) ++ b ∷ []) (sym o) (ap (λ z. z ∷ []) same)
      where
        is_same : (a b : Items) → Some a ≡ Some b → a ≡ b
        is_same a b e = cc
    by_first (Some a) o lt rest (suc j) e less =
        let long : length (and_on (decision k ds) (batches_from f (k + 1) ds)) ≡ suc (length (batches_from f (k + 1) ds)) = ap (λ z. length (and_on z (batches_from f (k + 1) ds))) o in
        let here : decision (k + 1 + j) ds ≡ Some b = subst (λ i. decision i ds ≡ Some b) (let z : k + suc j ≡ k + 1 + j = omega arith in z) e in
        let tail : take (suc j) (batches_from f (k + 1) ds) ≡ take j (batches_from f (k + 1) ds) ++ b ∷ [] = rest j (omega (arith, less, long)) here in
        subst (λ z. take (suc (suc j)) (and_on z (batches_from f (k + 1) ds)) ≡ take (suc j) (and_on z (batches_from f (k + 1) ds)) ++ b ∷ []) (sym o) (ap (λ l. a ∷ l) tail)

ends : (ds : List (ℕ × Items)) → decision (1 + length (batches ds)) ds ≡ None
ends ds = batches_stop (greatest_number ds) 1 ds (omega arith)

-- the next is decided
pub goes_on : (c : ℕ) (ds : List (ℕ × Items)) (b : Items) → c ≤ length (batches ds) → decision (c + 1) ds ≡ Some b
    → (c < length (batches ds)) × (take (c + 1) (batches ds) ≡ take c (batches ds) ++ b ∷ [])
goes_on c ds b le e =
    elim (cases_lt c (length (batches ds))) [
      | inl lt ↦ (
        lt,
        subst (λ j. take j (batches ds) ≡ take c (batches ds) ++ b ∷ []) (let z : suc c ≡ c + 1 = omega arith in z)
            (batch_at (greatest_number ds) 1 c ds b lt (subst (λ j. decision j ds ≡ Some b) (let z : c + 1 ≡ 1 + c = omega arith in z) e)),
      )
      | inr ge ↦
          let is : c + 1 ≡ 1 + length (batches ds) = omega (arith, le, ge) in
          none_is_some b (sym (ends ds) ∙ ap (λ j. decision j ds) (sym is) ∙ e)
    ]

-- the next is not
pub stops_here : (c : ℕ) (ds : List (ℕ × Items)) → c ≤ length (batches ds) → decision (c + 1) ds ≡ None → c ≡ length (batches ds)
stops_here c ds le e =
    elim (cases_lt c (length (batches ds))) [
      | inl lt ↦
          let some : (b : Items) × (decision (c + 1) ds ≡ Some b) = batches_reach (greatest_number ds) 1 (c + 1) ds (omega arith) (omega (arith, lt)) in
          none_is_some some.0 (sym e ∙ some.1)
      | inr ge ↦ omega (arith, le, ge)
    ]

pub take_whole : (xs : List Items) → take (length xs) xs ≡ xs
take_whole [] = refl
take_whole (x ∷ xs) = ap (λ l. x ∷ l) (take_whole xs)

-- at no instance up to those that were delivered is anything open
pub decided_low : (c k : ℕ) (ds : List (ℕ × Items)) → c ≡ length (batches ds) → 1 ≤ k → k ≤ c → is_some (decision k ds) ≡ true
decided_low c k ds is some le =
    let b : (b : Items) × (decision k ds ≡ Some b) = batches_reach (greatest_number ds) 1 k ds some (omega (arith, is, le)) in ap is_some b.1

-- more decisions, of which those that are ahead are known
pub later : (d e : Delivery) (items : Items) (ds es : List (ℕ × Items)) → e.count ≡ d.count → e.ids ≡ d.ids → e.waiting ≡ d.waiting
    → ((k : ℕ) → d.count < k → get nat_cmp e.ahead k ≡ decision k (ds ++ es)) → ((k : ℕ) → 2 ^ 64 ≤ k → decision k es ≡ None)
    → StandsFor d items ds → IsUpTo e (items_of (batches ds)) items (ds ++ es)
later d e items ds es same_count same_ids same_waiting ahead low s = record {
  reached = (let a : length (batches ds) ≤ length (batches (ds ++ es)) = reach_less ds es in let b : d.count ≡ length (batches ds) = s.all in omega (arith, a, b, same_count));
  known_are = ap items_of (sym (front_same ds es) ∙ ap (λ c. take c (batches (ds ++ es))) (sym s.all ∙ sym same_count));
  ahead = λ k lt. ahead k (subst (λ c. c < k) same_count lt);
  ids = λ x. ap (λ i. holds i (id_of x)) same_ids ∙ s.up_to.ids x;
  waiting = same_waiting ∙ s.up_to.waiting;
  numbered = λ k le. decision_or k ds es ∙ ap (λ o. or_else o (decision k es)) (s.up_to.numbered k le) ∙ low k le;
}
