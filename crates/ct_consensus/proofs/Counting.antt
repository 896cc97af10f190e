use Rattle.std.proofs.Common.{ℕ, ◌≡◌, ◌<◌, ◌≤◌, leb, true, List, [], ◌∷◌, ◌++◌, ◌-◌, length, take, drop, slice_index_or, Option, Some, None, sym, ap, ◌∙◌, subst, arith, inl, inr}
use Rattle.std.specs.List.{All, list_any}
use Rattle.std.proofs.lemmas.Bool.{cases_Bool, cond_both, cond-true, cond-false, le-leb, leb-true}
use Rattle.std.proofs.lemmas.List.{length-append, take_all}
use Rattle.std.proofs.lemmas.List.Elements.{All-nil, All-cons, All-append, All-contains}
use Rattle.instance_rules.specs.declared.estimate.Estimate.{Estimate}
use Rattle.instance_rules.specs.Say.{majority}
use Rattle.instance_rules.specs.Ballot.{is_from, vote, quorum, best}
use Rattle.instance_rules.specs.Says.{made}
use Rattle.instance_rules.proofs.Votes.{best_among}
use Rattle.ct_consensus.specs.Ballot.{all_fit}

-- fewer than a majority are no quorum
pub quorum_none : {A : Type 0} (n : ℕ) (votes : List (ℕ × A)) → length votes < majority n → quorum n votes ≡ None
quorum_none {A} n votes few =
    elim (cases_Bool (leb (majority n) (length votes))) [
      | inl t ↦ let le : majority n ≤ length votes = leb-true (majority n) (length votes) t in absurd (omega (arith, le, few))
      | inr f ↦ cond-false (leb (majority n) (length votes)) (Some (take (majority n) votes)) None f
    ]

-- so many are one
pub quorum_all : {A : Type 0} (n : ℕ) (votes : List (ℕ × A)) → length votes ≡ majority n → quorum n votes ≡ Some votes
quorum_all n votes same =
    cond-true (leb (majority n) (length votes)) (Some (take (majority n) votes)) None (le-leb (majority n) (length votes) (omega (arith, same)))
    ∙ ap (λ l. Some l) (take_all (majority n) votes (omega (arith, same)))

pub vote_short : {A : Type 0} (votes : List (ℕ × A)) (from : ℕ) (o : Option A) → length (vote votes from o) ≤ 1
vote_short votes from None = omega arith
vote_short votes from (Some x) = cond_both (list_any (is_from from) votes) [] ((from, x) ∷ []) (λ l. length l ≤ 1) (λ t. omega arith) (λ t. omega arith)

-- one more vote makes a quorum of all, where there was none
pub quorum_reached : {A : Type 0} (n : ℕ) (votes : List (ℕ × A)) (from : ℕ) (o : Option A) → length votes < majority n
    → majority n ≤ length (votes ++ vote votes from o) → quorum n (votes ++ vote votes from o) ≡ Some (votes ++ vote votes from o)
quorum_reached n votes from o few enough =
    quorum_all n (votes ++ vote votes from o) (omega (arith, few, enough, length-append votes (vote votes from o), vote_short votes from o))

-- what there is of a quorum that was not there before is new
pub newly : {A B : Type 0} (f : Option (List (ℕ × A)) → Option B) (n : ℕ) (votes : List (ℕ × A)) (now : Option B) → f None ≡ None → length votes < majority n
    → made (f (quorum n votes)) now ≡ now
newly f n votes now none few = ap (λ o. made o now) (ap f (quorum_none n votes few) ∙ none)

pub vote_all : {A : Type 0} (P : ℕ × A → Type 0) (votes : List (ℕ × A)) (from : ℕ) (x : A) → P (from, x) → All P votes → All P (votes ++ vote votes from (Some x))
vote_all P votes from x h all =
    All-append P votes (vote votes from (Some x)) all
    (cond_both (list_any (is_from from) votes) [] ((from, x) ∷ []) (All P) (λ t. All-nil P) (λ t. All-cons P (from, x) [] h (All-nil P)))

pub best_all : (P : ℕ × Estimate → Type 0) (v : ℕ × Estimate) (vs : List (ℕ × Estimate)) → All P (v ∷ vs) → P (best v vs)
best_all P v vs all = All-contains P (v ∷ vs) (best v vs) all (best_among v vs)

-- the same where the votes are given as the first and the rest
pub best_fits : (n : ℕ) (votes : List (ℕ × Estimate)) (first : ℕ × Estimate) → 1 ≤ length votes → first ≡ slice_index_or votes 0 first → All (λ v. all_fit n v.1.batch ≡ true) votes
    → all_fit n (best first (take (length votes - 1) (drop 1 votes))).1.batch ≡ true
best_fits n [] first some e all = absurd (omega (arith, some))
best_fits n (v ∷ vs) first some e all =
    let same : v ≡ first = sym e in
    let rest : take (length (v ∷ vs) - 1) vs ≡ vs = take_all (length (v ∷ vs) - 1) vs (omega arith) in
    subst (λ w. all_fit n (best w (take (length (v ∷ vs) - 1) vs)).1.batch ≡ true) same
    (subst (λ l. all_fit n (best v l).1.batch ≡ true) (sym rest) (best_all (λ w. all_fit n w.1.batch ≡ true) v vs all))
