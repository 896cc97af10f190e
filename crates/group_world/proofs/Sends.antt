-- Frames that go to several members.
use Rattle.std.proofs.Common.{ℕ, ◌≡◌, ◌≢◌, ◌<◌, ◌≤◌, ◌+◌, ◌==◌, true, false, inl, inr, List, [], ◌∷◌, ◌++◌, length, refl, sym, ◌∙◌, ap, subst, arith, if◌then◌else◌, cond, append_assoc}
use Rattle.std.specs.Prelude.{All, count_by}
use Rattle.std.proofs.lemmas.List.Elements.{All-tail, All-head}
use Rattle.std.proofs.lemmas.List.Sums.{sum_by-cons}
use Rattle.fifo_net.specs.Net.{bodies_to}
use Rattle.fifo_link.specs.Links.{Linked, on_link, spare_of, is_other, LeavesOthers}
use Rattle.upd_base.specs.declared.frame.Frame.{Frame}
use Rattle.group_run.proofs.Lists.{same_or, eqb_self, eqb_other}

-- how many go to a member
pub count_to : (to : ℕ) (sent : List (ℕ × Frame)) → count_by (λ s. s.0 == to) sent ≡ length (bodies_to to sent)
count_to to [] = refl
count_to to (s ∷ sent) =
    let c : count_by (λ x. x.0 == to) (s ∷ sent) ≡ cond (s.0 == to) 1 0 + count_by (λ x. x.0 == to) sent = sum_by-cons (λ (x : ℕ × Frame). cond (x.0 == to) 1 0) s sent in
    c ∙ elim (s.0 == to) as (λ b. cond b 1 0 + count_by (λ x. x.0 == to) sent ≡ length (if b then s.1 ∷ bodies_to to sent else bodies_to to sent)) [
      | true ↦ let h = count_to to sent in omega (arith, h)
      | false ↦ let h = count_to to sent in omega (arith, h)
    ]

-- what goes to the first of them, and to another
pub first_to : (to : ℕ) (frame : Frame) (rest : List (ℕ × Frame)) → bodies_to to ((to, frame) ∷ rest) ≡ frame ∷ bodies_to to rest
first_to to frame rest = rw (eqb_self to) refl

pub first_away : (to other : ℕ) (frame : Frame) (rest : List (ℕ × Frame)) → to ≢ other → bodies_to other ((to, frame) ∷ rest) ≡ bodies_to other rest
first_away to other frame rest ne = rw (eqb_other to other ne) refl

pub other_of : (i j from to : ℕ) → (i ≡ from → j ≡ to → ⊥) → is_other i j from to ≡ true
other_of i j from to h = elim (same_or i from) [
  | inl p ↦ elim (same_or j to) [
    | inl q ↦ absurd (h p q)
    | inr ne ↦ rw (p, eqb_self from, eqb_other j to ne) refl
  ]
  | inr ne ↦ rw (eqb_other i from ne) refl
]

-- One frame more on its link, of those that are to go ---------------------------------------------------------------

pub first_fits : (n : ℕ) (sent rest : List (ℕ × Frame)) (f : ℕ × Frame) → sent ≡ f ∷ rest → All (λ s. s.0 < n) sent → f.0 < n
first_fits n sent rest f e h = All-head (λ s. s.0 < n) f rest (subst (All (λ s. s.0 < n)) e h)

pub rest_fit : (n : ℕ) (sent rest : List (ℕ × Frame)) (f : ℕ × Frame) → sent ≡ f ∷ rest → All (λ s. s.0 < n) sent → All (λ s. s.0 < n) rest
rest_fit n sent rest f e h = All-tail (λ s. s.0 < n) f rest (subst (All (λ s. s.0 < n)) e h)

to_first : (sent rest : List (ℕ × Frame)) (f : ℕ × Frame) → sent ≡ f ∷ rest → bodies_to f.0 sent ≡ f.1 ∷ bodies_to f.0 rest
to_first sent rest f e = ap (bodies_to f.0) e ∙ first_to f.0 f.1 rest

to_other : (sent rest : List (ℕ × Frame)) (f : ℕ × Frame) (to : ℕ) → sent ≡ f ∷ rest → to ≢ f.0 → bodies_to to sent ≡ bodies_to to rest
to_other sent rest f to e ne = ap (bodies_to to) e ∙ first_away f.0 to f.1 rest (λ q. ne (sym q))

pub first_room : (now : Linked) (from : ℕ) (sent rest : List (ℕ × Frame)) (f : ℕ × Frame) → sent ≡ f ∷ rest → length (bodies_to f.0 sent) ≤ spare_of now from f.0 → 1 ≤ spare_of now from f.0
first_room now from sent rest f e h =
    let q : length (bodies_to f.0 sent) ≡ length (f.1 ∷ bodies_to f.0 rest) = ap (length {A = Frame}) (to_first sent rest f e) in
    omega (arith, q, h)

pub rest_room : (now next : Linked) (from to : ℕ) (sent rest : List (ℕ × Frame)) (f : ℕ × Frame) → from < now.members → to < now.members → sent ≡ f ∷ rest → spare_of now from f.0 ≤ spare_of next from f.0 + 1 → LeavesOthers now next from f.0
    → length (bodies_to to sent) ≤ spare_of now from to → length (bodies_to to rest) ≤ spare_of next from to
rest_room now next from to sent rest f lt l e had others h = elim (same_or to f.0) [
  | inl q ↦
      let P : ℕ → Type 0 = λ k. length (bodies_to k sent) ≤ spare_of now from k → length (bodies_to k rest) ≤ spare_of next from k in
      let here : P f.0 = λ r.
      let z : length (bodies_to f.0 sent) ≡ length (f.1 ∷ bodies_to f.0 rest) = ap (length {A = Frame}) (to_first sent rest f e) in
      omega (arith, z, r, had) in
      subst P (sym q) here h
  | inr ne ↦
      let z : length (bodies_to to sent) ≡ length (bodies_to to rest) = ap (length {A = Frame}) (to_other sent rest f to e ne) in
      let o = (others from to lt l (other_of from to from f.0 (λ p q. ne q))).1 in
      omega (arith, z, h, o)
]

pub rest_added : (now next : Linked) (from i j : ℕ) (sent rest : List (ℕ × Frame)) (f : ℕ × Frame) → i < now.members → j < now.members → sent ≡ f ∷ rest → on_link next from f.0 ≡ on_link now from f.0 ++ f.1 ∷ [] → LeavesOthers now next from f.0
    → on_link next i j ++ (if from == i then bodies_to j rest else []) ≡ on_link now i j ++ (if from == i then bodies_to j sent else [])
rest_added now next from i j sent rest f lt l e put others = elim (same_or i from) [
  | inl p ↦ elim (same_or j f.0) [
    | inl q ↦
        let P : ℕ → ℕ → Type 0 = λ a b. on_link next a b ++ (if from == a then bodies_to b rest else []) ≡ on_link now a b ++ (if from == a then bodies_to b sent else []) in
        let here : P from f.0 = rw (eqb_self from) (ap (λ l. l ++ bodies_to f.0 rest) put ∙ append_assoc (on_link now from f.0) (f.1 ∷ []) (bodies_to f.0 rest) ∙ ap (λ l. on_link now from f.0 ++ l) (sym (to_first sent rest f e))) in
        subst (λ a. P a j) (sym p) (subst (P from) (sym q) here)
    | inr ne ↦
        let o = (others i j lt l (other_of i j from f.0 (λ a b. ne b))).0 in
        ap (λ l. l ++ (if from == i then bodies_to j rest else [])) o ∙ ap (λ l. on_link now i j ++ (if from == i then l else [])) (sym (to_other sent rest f j e ne))
  ]
  | inr ne ↦
      let o = (others i j lt l (other_of i j from f.0 (λ a b. ne a))).0 in
      rw (eqb_other from i (λ q. ne (sym q))) (ap (λ l. l ++ []) o)
]
