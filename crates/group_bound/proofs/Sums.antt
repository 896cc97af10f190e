-- Sums over links and versions.
use Rattle.std.proofs.Common.{ℕ, zero, suc, ◌≡◌, ◌<◌, ◌≤◌, ◌+◌, ◌*◌, inl, inr, List, [], ◌∷◌, ◌++◌, length, refl, sym, ◌∙◌, ap, subst, arith, length-append}
use Rattle.std.proofs.lemmas.Bool.{cases_lt}
use Rattle.fifo_net.specs.Net.{Input, Called, Took, Step, Sends, IsRun, inputs_of, taken, sent, taken_on, sent_on, bodies_to}
use Rattle.fifo_net.proofs.Links.{inputs_here, inputs_away, taken_here, taken_away}
use Rattle.order_trait.specs.Runs.{Order, Steps, StepsFit, sent_in}
use Rattle.order_trait.proofs.Sums.{sum_below, sum_below-none, sum_below-same, sum_below-le, sum_below-more}
use Rattle.upd_base.specs.declared.body.Body.{Body}
use Rattle.upd_base.specs.declared.frame.Frame.{Frame}
use Rattle.group_run.specs.Group.{Group, Outer}
use Rattle.group_run.specs.Turn.{member_sends}
use Rattle.group_run.specs.Run.{Moves}
use Rattle.group_run.specs.Link.{bodies_of}
use Rattle.group_run.proofs.Lists.{eqb_self, eqb_other, same_or}
use Rattle.group_projection.proofs.Moved.{AllMembers, inputs_above}

sum_add : (n : ℕ) (f g : ℕ → ℕ) → sum_below n (λ j. f j + g j) ≡ sum_below n f + sum_below n g
sum_add zero f g = refl
sum_add (suc n) f g = let r = sum_add n f g in omega arith

sum_swap : (n m : ℕ) (f : ℕ → ℕ → ℕ) → sum_below n (λ i. sum_below m (f i)) ≡ sum_below m (λ v. sum_below n (λ i. f i v))
sum_swap zero m f = sym (sum_below-none m)
sum_swap (suc n) m f =
    let r = sum_swap n m f in
    let a = sum_add m (λ v. sum_below n (λ i. f i v)) (f n) in
    omega (arith, r, a)

pub sum_bump : (n k d : ℕ) (f g : ℕ → ℕ) → ((j : ℕ) → (k ≡ j → ⊥) → g j ≡ f j) → g k ≤ f k + d → sum_below n g ≤ sum_below n f + d
sum_bump zero k d f g away here = omega arith
sum_bump (suc n) k d f g away here = elim (same_or k n) [
  | inl e ↦
      let at : g n ≤ f n + d = subst (λ z. g z ≤ f z + d) e here in
      let below = sum_below-same n g f (λ j l. away j (λ q. omega arith)) in
      omega (arith, at, below)
  | inr ne ↦
      let at = away n ne in
      let below = sum_bump n k d f g away here in
      omega (arith, at, below)
]

pub sum_all : (n d : ℕ) (f : ℕ → ℕ) → ((j : ℕ) → j < n → f j ≤ d) → sum_below n f ≤ n * d
sum_all zero d f h = omega arith
sum_all (suc n) d f h = let a = sum_all n d f (λ j l. h j (omega arith)) in let b = h n (omega arith) in omega (arith, a, b)

-- over all links of n members
abbrev pub links : ℕ → (ℕ → ℕ → ℕ) → ℕ
links n f = sum_below n (λ i. sum_below n (f i))

pub links_le : (n : ℕ) (f g : ℕ → ℕ → ℕ) → ((i j : ℕ) → i < n → j < n → f i j ≤ g i j) → links n f ≤ links n g
links_le n f g h = sum_below-le n (λ i. sum_below n (f i)) (λ i. sum_below n (g i)) (λ i hi. sum_below-le n (f i) (g i) (λ j hj. h i j hi hj))

pub links_same : (n : ℕ) (f g : ℕ → ℕ → ℕ) → ((i j : ℕ) → i < n → j < n → f i j ≡ g i j) → links n f ≡ links n g
links_same n f g h = sum_below-same n (λ i. sum_below n (f i)) (λ i. sum_below n (g i)) (λ i hi. sum_below-same n (f i) (g i) (λ j hj. h i j hi hj))

links_more : (n a b : ℕ) (f g : ℕ → ℕ → ℕ) → a < n → b < n → g a b ≡ f a b + 1 → ((j : ℕ) → (b ≡ j → ⊥) → g a j ≡ f a j) → ((i j : ℕ) → (a ≡ i → ⊥) → g i j ≡ f i j) → links n g ≡ links n f + 1
links_more n a b f g ha hb here row other =
    sum_below-more n a 1 (λ i. sum_below n (f i)) (λ i. sum_below n (g i)) ha (sum_below-more n b 1 (f a) (g a) hb here row)
    (λ i ne. sum_below-same n (g i) (f i) (λ j l. other i j ne))

links_swap : (n m : ℕ) (f : ℕ → ℕ → ℕ → ℕ) → links n (λ i j. sum_below m (f i j)) ≡ sum_below m (λ v. links n (λ i j. f i j v))
links_swap n m f =
    sum_below-same n (λ i. sum_below n (λ j. sum_below m (f i j))) (λ i. sum_below m (λ v. sum_below n (λ j. f i j v))) (λ i h. sum_swap n m (f i))
    ∙ sum_swap n m (λ i v. sum_below n (λ j. f i j v))

-- Frames by version -------------------------------------------------------------------------------------------------

by_versions : (top : ℕ) (fs : List Frame) → ((v : ℕ) → top ≤ v → bodies_of v fs ≡ []) → length fs ≡ sum_below top (λ v. length (bodies_of v fs))
by_versions top [] h = sym (sum_below-none top)
by_versions top (f ∷ fs) h =
    let here : bodies_of f.version (f ∷ fs) ≡ f.body ∷ bodies_of f.version fs = rw (eqb_self f.version) refl in
    let away : (v : ℕ) → (f.version ≡ v → ⊥) → bodies_of v (f ∷ fs) ≡ bodies_of v fs = λ v ne. rw (eqb_other f.version v ne) refl in
    let lt : f.version < top = elim (cases_lt f.version top) [
      | inl l ↦ l
      | inr le ↦ absurd (let e : [] ≡ f.body ∷ bodies_of f.version fs = sym (h f.version le) ∙ here in let z = ap length e in omega arith)
    ] in
    let r = by_versions top fs (λ v le. sym (away v (λ q. omega arith)) ∙ h v le) in
    let more = sum_below-more top f.version 1 (λ v. length (bodies_of v fs)) (λ v. length (bodies_of v (f ∷ fs))) lt (let q = ap length here in omega arith) (λ v ne. ap length (away v ne)) in
    omega (arith, r, more)

pub links_by_versions : (n top : ℕ) (out : ℕ → ℕ → List Frame) → ((i j v : ℕ) → i < n → j < n → top ≤ v → bodies_of v (out i j) ≡ []) →
    links n (λ i j. length (out i j)) ≡ sum_below top (λ v. links n (λ i j. length (bodies_of v (out i j))))
links_by_versions n top out h =
    links_same n (λ i j. length (out i j)) (λ i j. sum_below top (λ v. length (bodies_of v (out i j)))) (λ i j hi hj. by_versions top (out i j) (λ v. h i j v hi hj))
    ∙ links_swap n top (λ i j v. length (bodies_of v (out i j)))

-- What modules send -------------------------------------------------------------------------------------------------

bodies_sum : (n : ℕ) (bs : List (ℕ × Body)) → sum_below n (λ j. length (bodies_to j bs)) ≤ length bs
bodies_sum n [] = let z = sum_below-none n in omega (arith, z)
bodies_sum n (b ∷ bs) =
    let r = bodies_sum n bs in
    let away : (j : ℕ) → (b.0 ≡ j → ⊥) → bodies_to j (b ∷ bs) ≡ bodies_to j bs = λ j ne. rw (eqb_other b.0 j ne) refl in
    let here : bodies_to b.0 (b ∷ bs) ≡ b.1 ∷ bodies_to b.0 bs = rw (eqb_self b.0) refl in
    let bump = sum_bump n b.0 1 (λ j. length (bodies_to j bs)) (λ j. length (bodies_to j (b ∷ bs))) (λ j ne. ap length (away j ne)) (let q = ap length here in omega arith) in
    omega (arith, r, bump)

pub sent_links : (sends : Sends Order Body) (n : ℕ) (past : Steps) → StepsFit n past → links n (λ i j. length (sent_on sends i j past)) ≤ sent_in sends past
sent_links sends n [] fit = let z = sum_below-same n (λ i. sum_below n (λ j. 0)) (λ i. 0) (λ i h. sum_below-none n) in let y = sum_below-none n in omega (arith, z, y)
sent_links sends n (s ∷ past) fit =
    let new : List (ℕ × Body) = sends s.at (s.input ∷ inputs_of s.at past) in
    let f : ℕ → ℕ → ℕ = λ i j. length (sent_on sends i j past) in
    let g : ℕ → ℕ → ℕ = λ i j. length (sent_on sends i j (s ∷ past)) in
    let mine : (j : ℕ) → g s.at j ≡ f s.at j + length (bodies_to j new) = λ j.
    ap (λ xs. length (sent sends s.at j xs)) (inputs_here s.at s past refl) ∙ length-append (sent_on sends s.at j past) (bodies_to j new) in
    let row : sum_below n (g s.at) ≡ sum_below n (f s.at) + sum_below n (λ j. length (bodies_to j new)) =
    sum_below-same n (g s.at) (λ j. f s.at j + length (bodies_to j new)) (λ j h. mine j) ∙ sum_add n (f s.at) (λ j. length (bodies_to j new)) in
    let more = sum_below-more n s.at (sum_below n (λ j. length (bodies_to j new))) (λ i. sum_below n (f i)) (λ i. sum_below n (g i)) fit.0 row
    (λ i ne. sum_below-same n (g i) (f i) (λ j h. ap (λ xs. length (sent sends i j xs)) (inputs_away i s past ne))) in
    let r = sent_links sends n past fit.2 in
    let b = bodies_sum n new in
    omega (arith, more, r, b)

-- What was received --------------------------------------------------------------------------------------------------

abbrev pub tooks : Input Outer Frame → ℕ
tooks (Called call) = 0
tooks (Took from frame) = 1

abbrev pub taken_total : Moves → ℕ
taken_total [] = 0
taken_total (s ∷ ms) = tooks s.input + taken_total ms

taken_input : (g : Group) (n at : ℕ) (x : Input Outer Frame) (ms : Moves) → n ≡ g.members → at < n → AllMembers n ms → (let s : Step Outer Frame = record { at = at; input = x } in IsRun (member_sends g) (s ∷ ms)
    → links n (λ i j. length (taken_on i j (s ∷ ms))) ≡ links n (λ i j. length (taken_on i j ms)) + tooks x)
taken_input g n at (Called call) ms e h m r =
    let s : Step Outer Frame = record { at = at; input = Called call } in
    let same = links_same n (λ i j. length (taken_on i j (s ∷ ms))) (λ i j. length (taken_on i j ms)) (λ i j hi hj. elim (same_or at j) [
      | inl is ↦ ap (λ xs. length (taken i xs)) (inputs_here j s ms is)
      | inr ne ↦ ap (λ xs. length (taken i xs)) (inputs_away j s ms ne)
    ]) in
    omega (arith, same)
taken_input g n at (Took from frame) ms e h m r =
    let s : Step Outer Frame = record { at = at; input = Took from frame } in
    let member : from < n = elim (cases_lt from n) [
      | inl l ↦ l
      | inr le ↦
          let none : sent_on (member_sends g) from at ms ≡ [] = ap (sent (member_sends g) from at) (inputs_above n ms m from le) in
          let long = ap length (sym none ∙ r.0.1) in
          let a = length-append (taken_on from at ms ++ frame ∷ []) r.0.0 in
          let b = length-append (taken_on from at ms) (frame ∷ []) in
          absurd (omega arith)
    ] in
    let at_to : (i : ℕ) → taken_on i at (s ∷ ms) ≡ taken i (Took from frame ∷ inputs_of at ms) = λ i. ap (taken i) (inputs_here at s ms refl) in
    links_more n from at (λ i j. length (taken_on i j ms)) (λ i j. length (taken_on i j (s ∷ ms))) member h
    (ap length (at_to from ∙ taken_here from from frame (inputs_of at ms) refl) ∙ length-append (taken_on from at ms) (frame ∷ []))
    (λ j ne. ap (λ xs. length (taken from xs)) (inputs_away j s ms ne))
    (λ i j ne. elim (same_or at j) [
      | inl is ↦ subst (λ k. length (taken_on i k (s ∷ ms)) ≡ length (taken_on i k ms)) is (ap length (at_to i ∙ taken_away i from frame (inputs_of at ms) ne))
      | inr no_match ↦ ap (λ xs. length (taken i xs)) (inputs_away j s ms no_match)
    ])

pub taken_links : (g : Group) (ms : Moves) → AllMembers g.members ms → IsRun (member_sends g) ms → links g.members (λ i j. length (taken_on i j ms)) ≡ taken_total ms
taken_links g [] m r = sum_below-same g.members (λ i. sum_below g.members (λ j. 0)) (λ i. 0) (λ i h. sum_below-none g.members) ∙ sum_below-none g.members
taken_links g (s ∷ ms) m r =
    let a = taken_input g g.members s.at s.input ms refl m.0 m.1 r in
    let b = taken_links g ms m.1 r.1 in
    omega (arith, a, b)
