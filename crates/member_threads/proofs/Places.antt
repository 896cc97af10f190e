-- Own places after a join, and facts of all of them.
use Rattle.std.proofs.Common.{◌≡◌, ℕ, suc, ◌<◌, ◌≤◌, ◌⊎◌, inl, inr, Bool, true, false, ltb, cond, List, [], ◌∷◌, ◌++◌, refl, sym, ap, ◌∙◌, arith}
use Rattle.std.specs.Prelude.{All}
use Rattle.std.specs.List.{flat_map}
use Rattle.std.proofs.lemmas.List.Elements.{All-nil, All-cons, All-head, All-tail}
use Rattle.std.proofs.lemmas.List.Concat.{flat_map-cons}
use Rattle.std.proofs.lemmas.Bool.Decides.{nat_tests}
use Rattle.turn_lock.specs.Places.{Ascends, insert_place, merged}

module _ {A : Type 0} where
  pub All-imply : (P Q : A → Type 0) (xs : List A) → ((x : A) → P x → Q x) → All P xs → All Q xs
  All-imply P Q [] f h = All-nil Q
  All-imply P Q (x ∷ xs) f h = All-cons Q x xs (f x (All-head P x xs h)) (All-imply P Q xs f (All-tail P x xs h))

pub All-insert : (P : ℕ → Type 0) (p : ℕ) (qs : List ℕ) → P p → All P qs → All P (insert_place p qs)
All-insert P p [] h hs = All-cons P p [] h (All-nil P)
All-insert P p (q ∷ qs) h hs = by (ltb p q) (All-insert P p qs h (All-tail P q qs hs))
  where
    by : (b : Bool) → All P (insert_place p qs) → All P (cond b (p ∷ q ∷ qs) (q ∷ insert_place p qs))
    by true rest = All-cons P p (q ∷ qs) h hs
    by false rest = All-cons P q (insert_place p qs) (All-head P q qs hs) rest

pub All-merged : (P : ℕ → Type 0) (ps qs : List ℕ) → All P ps → All P qs → All P (merged ps qs)
All-merged P [] qs hs ks = ks
All-merged P (p ∷ ps) qs hs ks = All-insert P p (merged ps qs) (All-head P p ps hs) (All-merged P ps qs (All-tail P p ps hs) ks)

-- rising places are not below the first
pub All-above : (low high : ℕ) (ps : List ℕ) → Ascends low high ps → All (λ p. low ≤ p) ps
All-above low high [] up = All-nil _
All-above low high (p ∷ ps) up = All-cons (λ q. low ≤ q) p ps up.0.0 (All-imply (λ q. suc p ≤ q) (λ q. low ≤ q) ps (λ q le. let l = up.0.0 in omega arith) (All-above (suc p) high ps up.1))

pub All-below : (low high : ℕ) (ps : List ℕ) → Ascends low high ps → All (λ p. p < high) ps
All-below low high [] up = All-nil _
All-below low high (p ∷ ps) up = All-cons (λ q. q < high) p ps up.0.1 (All-below (suc p) high ps up.1)

module _ {F : Type 0} (f : ℕ → List F) where
  pub flat_map-none : (ps : List ℕ) → All (λ p. f p ≡ []) ps → flat_map f ps ≡ []
  flat_map-none [] h = refl
  flat_map-none (p ∷ ps) h = flat_map-cons f p ps ∙ (ap (λ z. z ++ flat_map f ps) (All-head (λ p. f p ≡ []) p ps h) ∙ flat_map-none ps (All-tail (λ p. f p ≡ []) p ps h))

  insert_none : (p : ℕ) (qs : List ℕ) → f p ≡ [] → flat_map f (insert_place p qs) ≡ flat_map f qs
  insert_none p [] e = flat_map-cons f p [] ∙ ap (λ z. z ++ []) e
  insert_none p (q ∷ qs) e = by (ltb p q) (insert_none p qs e)
    where
      by : (b : Bool) → flat_map f (insert_place p qs) ≡ flat_map f qs → flat_map f (cond b (p ∷ q ∷ qs) (q ∷ insert_place p qs)) ≡ flat_map f (q ∷ qs)
      by true rest = flat_map-cons f p (q ∷ qs) ∙ ap (λ z. z ++ flat_map f (q ∷ qs)) e
      by false rest = flat_map-cons f q (insert_place p qs) ∙ (ap (λ z. f q ++ z) rest ∙ sym (flat_map-cons f q qs))

  -- where the first places bring nothing, both bring what the others do
  pub merged_none : (ps qs : List ℕ) → All (λ p. f p ≡ []) ps → flat_map f (merged ps qs) ≡ flat_map f qs
  merged_none [] qs h = refl
  merged_none (p ∷ ps) qs h = insert_none p (merged ps qs) (All-head (λ p. f p ≡ []) p ps h) ∙ merged_none ps qs (All-tail (λ p. f p ≡ []) p ps h)

  abbrev Later : ℕ → ℕ → Type 0
  Later p q = (p < q) ⊎ (f q ≡ [])

  insert_first : (p : ℕ) (qs : List ℕ) → All (Later p) qs → flat_map f (insert_place p qs) ≡ f p ++ flat_map f qs
  insert_first p [] h = flat_map-cons f p []
  insert_first p (q ∷ qs) h = by (ltb p q) refl (insert_first p qs (All-tail (Later p) q qs h))
    where
      none_there : q ≤ p → Later p q → f q ≡ []
      none_there le (inl l) = absurd (omega arith)
      none_there le (inr e) = e

      by : (b : Bool) → ltb p q ≡ b → flat_map f (insert_place p qs) ≡ f p ++ flat_map f qs → flat_map f (cond b (p ∷ q ∷ qs) (q ∷ insert_place p qs)) ≡ f p ++ flat_map f (q ∷ qs)
      by true is rest = flat_map-cons f p (q ∷ qs)
      by false is rest =
          let le : q ≤ p = grind (arith, nat_tests) in
          let e : f q ≡ [] = none_there le (All-head (Later p) q qs h) in
          flat_map-cons f q (insert_place p qs)
          ∙ (ap (λ z. z ++ flat_map f (insert_place p qs)) e
          ∙ (rest
          ∙ ap (λ z. f p ++ z) (sym (flat_map-cons f q qs ∙ ap (λ z. z ++ flat_map f qs) e))))

  -- where the second places bring nothing, both bring what the first do
  pub none_merged : (low high : ℕ) (ps qs : List ℕ) → Ascends low high ps → All (λ q. f q ≡ []) qs → flat_map f (merged ps qs) ≡ flat_map f ps
  none_merged low high [] qs up h = flat_map-none qs h
  none_merged low high (p ∷ ps) qs up h =
      let later : All (Later p) ps = All-imply (λ q. suc p ≤ q) (Later p) ps (λ q le. inl le) (All-above (suc p) high ps up.1) in
      let none_later : All (Later p) qs = All-imply (λ q. f q ≡ []) (Later p) qs (λ q e. inr e) h in
      insert_first p (merged ps qs) (All-merged (Later p) ps qs later none_later)
      ∙ (ap (λ z. f p ++ z) (none_merged (suc p) high ps qs up.1 h) ∙ sym (flat_map-cons f p ps))
