use Rattle.std.proofs.Common.{ℕ, ◌≡◌, ◌⊎◌, inl, inr, eqb, List, [], ◌∷◌, ◌++◌, refl, sym, ap, ◌∙◌, subst, append_assoc, append-nil, take, length}
use Rattle.std.proofs.lemmas.Bool.{cond_both, cond-true, cond-false, eqb-true, eq-eqb, ne_eqb}
use Rattle.std.proofs.Math.Seq.{take-append_seam}
use Rattle.fifo_net.specs.Net.{Input, Called, Took, Step, Sends, inputs_of, taken, bodies_to, sent, taken_on, sent_on, IsPrefix, MayCome, IsRun}

pub IsPrefix-self : {A : Type 0} (xs : List A) → IsPrefix xs xs
IsPrefix-self xs = ([], sym (append-nil xs))

pub IsPrefix-append : {A : Type 0} (xs ys : List A) → IsPrefix xs (xs ++ ys)
IsPrefix-append xs ys = (ys, refl)

pub IsPrefix-trans : {A : Type 0} (xs ys zs : List A) → IsPrefix xs ys → IsPrefix ys zs → IsPrefix xs zs
IsPrefix-trans xs ys zs p q = (p.0 ++ q.0, q.1 ∙ ap (λ l. l ++ q.0) p.1 ∙ append_assoc xs p.0 q.0)

pub IsPrefix-take : {A : Type 0} (xs ys : List A) → IsPrefix xs ys → xs ≡ take (length xs) ys
IsPrefix-take xs ys p = sym (take-append_seam xs p.0) ∙ sym (ap (take (length xs)) p.1)

splits_agree : {A : Type 0} (xs ys us vs : List A) → xs ++ us ≡ ys ++ vs → IsPrefix xs ys ⊎ IsPrefix ys xs
splits_agree [] ys us vs e = inl (ys, refl)
splits_agree (x ∷ xs) [] us vs e = inr (x ∷ xs, refl)
splits_agree (x ∷ xs) (y ∷ ys) us vs e =
    let head : x ≡ y = cc in
    let tail : xs ++ us ≡ ys ++ vs = cc in
    elim (splits_agree xs ys us vs tail) [
      | inl p ↦ inl (p.0, ap (λ l. y ∷ l) p.1 ∙ ap (λ h. h ∷ (xs ++ p.0)) (sym head))
      | inr p ↦ inr (p.0, ap (λ l. x ∷ l) p.1 ∙ ap (λ h. h ∷ (ys ++ p.0)) head)
    ]

-- of two beginnings of one list, one begins the other
pub prefixes_agree : {A : Type 0} (xs ys zs : List A) → IsPrefix xs zs → IsPrefix ys zs → IsPrefix xs ys ⊎ IsPrefix ys xs
prefixes_agree xs ys zs p q = splits_agree xs ys p.0 q.0 (sym p.1 ∙ q.1)

-- the inputs of the member that has the step, and those of another
pub inputs_here : {X B : Type 0} (m : ℕ) (s : Step X B) (past : List (Step X B)) → s.at ≡ m → inputs_of m (s ∷ past) ≡ s.input ∷ inputs_of m past
inputs_here m s past e = cond-true (eqb s.at m) (s.input ∷ inputs_of m past) (inputs_of m past) (eq-eqb s.at m e)

pub inputs_away : {X B : Type 0} (m : ℕ) (s : Step X B) (past : List (Step X B)) → (s.at ≡ m → ⊥) → inputs_of m (s ∷ past) ≡ inputs_of m past
inputs_away m s past ne = cond-false (eqb s.at m) (s.input ∷ inputs_of m past) (inputs_of m past) (ne_eqb s.at m ne)

pub taken_here : {X B : Type 0} (from j : ℕ) (body : B) (past : List (Input X B)) → j ≡ from → taken from (Took j body ∷ past) ≡ taken from past ++ body ∷ []
taken_here from j body past e = cond-true (eqb j from) (taken from past ++ body ∷ []) (taken from past) (eq-eqb j from e)

pub taken_away : {X B : Type 0} (from j : ℕ) (body : B) (past : List (Input X B)) → (j ≡ from → ⊥) → taken from (Took j body ∷ past) ≡ taken from past
taken_away from j body past ne = cond-false (eqb j from) (taken from past ++ body ∷ []) (taken from past) (ne_eqb j from ne)

-- What a step does to the inputs of a member, as a law over any property of the lists.
pub inputs_step : {X B : Type 0} (P : List (Input X B) → Type 0) (m : ℕ) (s : Step X B) (past : List (Step X B))
    → (s.at ≡ m → P (s.input ∷ inputs_of m past)) → P (inputs_of m past) → P (inputs_of m (s ∷ past))
inputs_step P m s past here away =
    cond_both (eqb s.at m) (s.input ∷ inputs_of m past) (inputs_of m past) P (λ e. here (eqb-true s.at m e)) (λ e. away)

-- what is sent on a link only grows
pub sent_on-grows : {X B : Type 0} (sends : Sends X B) (from to : ℕ) (s : Step X B) (past : List (Step X B))
    → IsPrefix (sent_on sends from to past) (sent_on sends from to (s ∷ past))
sent_on-grows sends from to s past =
    inputs_step (λ l. IsPrefix (sent_on sends from to past) (sent sends from to l)) from s past
    (λ e. IsPrefix-append (sent_on sends from to past) (bodies_to to (sends from (s.input ∷ inputs_of from past))))
    (IsPrefix-self (sent_on sends from to past))

-- what an input adds to what was taken from a member
pub taken-grows : {X B : Type 0} (from : ℕ) (x : Input X B) (past : List (Input X B)) → IsPrefix (taken from past) (taken from (x ∷ past))
taken-grows from (Called call) past = IsPrefix-self (taken from past)
taken-grows from (Took j body) past =
    cond_both (eqb j from) (taken from past ++ body ∷ []) (taken from past) (λ l. IsPrefix (taken from past) l)
    (λ e. IsPrefix-append (taken from past) (body ∷ []))
    (λ e. IsPrefix-self (taken from past))

-- what was taken from a link only grows
pub taken_on-grows : {X B : Type 0} (from to : ℕ) (s : Step X B) (past : List (Step X B)) → IsPrefix (taken_on from to past) (taken_on from to (s ∷ past))
taken_on-grows from to s past =
    inputs_step (λ l. IsPrefix (taken_on from to past) (taken from l)) to s past
    (λ e. taken-grows from s.input (inputs_of to past))
    (IsPrefix-self (taken_on from to past))

takes : {X B : Type 0} (sends : Sends X B) (past : List (Step X B)) (from to : ℕ) (x : Input X B)
    → IsPrefix (taken_on from to past) (sent_on sends from to past) → MayCome sends past to x
    → IsPrefix (taken from (x ∷ inputs_of to past)) (sent_on sends from to past)
takes sends past from to (Called call) old may = old
takes sends past from to (Took j body) old may =
    cond_both (eqb j from) (taken_on from to past ++ body ∷ []) (taken_on from to past) (λ l. IsPrefix l (sent_on sends from to past))
    (λ e. subst (λ k. IsPrefix (taken_on k to past ++ body ∷ []) (sent_on sends k to past)) (eqb-true j from e) may)
    (λ e. old)

-- what was taken from a link begins what was sent on it
pub taken_on-begins : {X B : Type 0} (sends : Sends X B) (past : List (Step X B)) → IsRun sends past
    → (from to : ℕ) → IsPrefix (taken_on from to past) (sent_on sends from to past)
taken_on-begins sends [] run from to = IsPrefix-self []
taken_on-begins {X} {B} sends (s ∷ past) run from to =
    let old : IsPrefix (taken_on from to past) (sent_on sends from to past) = taken_on-begins sends past run.1 from to in
    let grows : IsPrefix (sent_on sends from to past) (sent_on sends from to (s ∷ past)) = sent_on-grows sends from to s past in
    IsPrefix-trans (taken_on from to (s ∷ past)) (sent_on sends from to past) (sent_on sends from to (s ∷ past))
    (inputs_step (λ l. IsPrefix (taken from l) (sent_on sends from to past)) to s past
    (λ e. takes sends past from to s.input old (subst (λ k. MayCome sends past k s.input) e run.0))
    old)
    grows
