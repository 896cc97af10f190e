use Rattle.std.proofs.Common.{ℕ, zero, suc, ◌≡◌, ◌<◌, ◌≤◌, inl, inr, List, [], ◌∷◌, ◌++◌, eqb, true, false, length, refl, ap, ◌∙◌, arith, length-append}
use Rattle.std.proofs.lemmas.Bool.{and_parts, cases_eq, cond-true, cond-false, eq-eqb, ne_eqb}
use Rattle.std.proofs.lemmas.List.Elements.{All-nil, All-push}
use Rattle.std.specs.List.{All, list_all, flat_map}
use Rattle.std.specs.Prelude.{not}
use Rattle.fifo_net.specs.Net.{Input, Called, Took, inputs_of, bodies_to}
use Rattle.fifo_net.proofs.Lists.{bodies_to-append}
use Rattle.fifo_net.proofs.Links.{inputs_step}
use Rattle.upd_base.specs.Body.{BodyFits, is_body, is_past}
use Rattle.upd_base.specs.declared.body.Body.{Body}
use Rattle.order_trait.specs.Runs.{Order, Inputs, Steps, StepsFit, InputFits}
use Rattle.order_trait.specs.Outbox.{to_all, SendFits}

-- a body that fits is sent to all within the members
pub to_all-fits : (n k : ℕ) (body : Body) → k ≤ n → BodyFits n body → is_body body ≡ true → All (SendFits n) (to_all k body)
to_all-fits n zero body h fits counts = All-nil (SendFits n)
to_all-fits n (suc k) body h fits counts =
    All-push (SendFits n) (to_all k body) (k, body) (to_all-fits n k body (omega arith) fits counts) (omega arith, fits, counts)

pub length-to_all : (n : ℕ) (body : Body) → length (to_all n body) ≡ n
length-to_all zero body = refl
length-to_all (suc n) body = omega (arith, length-append (to_all n body) ((n, body) ∷ []), length-to_all n body)

-- nothing goes to a member that is not below n, and one copy to each that is
pub bodies_to_all-past : (n m : ℕ) (body : Body) → n ≤ m → bodies_to m (to_all n body) ≡ []
bodies_to_all-past zero m body h = refl
bodies_to_all-past (suc n) m body h =
    let below : bodies_to m (to_all n body) ≡ [] = bodies_to_all-past n m body (omega arith) in
    let here : bodies_to m ((n, body) ∷ []) ≡ [] = cond-false (eqb n m) (body ∷ []) [] (ne_eqb n m (λ e. omega arith)) in
    bodies_to-append m (to_all n body) ((n, body) ∷ []) ∙ ap (λ l. l ++ bodies_to m ((n, body) ∷ [])) below ∙ here

pub bodies_to_all : (n m : ℕ) (body : Body) → m < n → bodies_to m (to_all n body) ≡ body ∷ []
bodies_to_all zero m body h = absurd (omega arith)
bodies_to_all (suc n) m body h =
    elim (cases_eq n m) [
      | inl e ↦
          let below : bodies_to m (to_all n body) ≡ [] = bodies_to_all-past n m body (omega arith) in
          let here : bodies_to m ((n, body) ∷ []) ≡ body ∷ [] = cond-true (eqb n m) (body ∷ []) [] (eq-eqb n m e) in
          bodies_to-append m (to_all n body) ((n, body) ∷ []) ∙ ap (λ l. l ++ bodies_to m ((n, body) ∷ [])) below ∙ here
      | inr ne ↦
          let less : m < n = omega arith in
          let below : bodies_to m (to_all n body) ≡ body ∷ [] = bodies_to_all n m body less in
          let here : bodies_to m ((n, body) ∷ []) ≡ [] = cond-false (eqb n m) (body ∷ []) [] (ne_eqb n m ne) in
          bodies_to-append m (to_all n body) ((n, body) ∷ []) ∙ ap (λ l. l ++ bodies_to m ((n, body) ∷ [])) below ∙ ap (λ l. body ∷ l) here
    ]

-- Bodies of which none says that a version is past ---------------------------------------------------------------------

abbrev pub NeverIn : List (ℕ × Body) → Type 0
NeverIn bodies = list_all (λ s. not (is_past s.1)) bodies ≡ true

pub never-append : (xs ys : List (ℕ × Body)) → NeverIn xs → NeverIn ys → NeverIn (xs ++ ys)
never-append [] ys a b = b
never-append (x ∷ xs) ys a b =
    let k = and_parts (not (is_past x.1)) (list_all (λ s. not (is_past s.1)) xs) a in
    rw k.0 (never-append xs ys k.1 b)

pub never-to_all : (n : ℕ) (body : Body) → is_past body ≡ false → NeverIn (to_all n body)
never-to_all zero body h = refl
never-to_all (suc n) body h = never-append (to_all n body) ((n, body) ∷ []) (never-to_all n body h) (rw h refl)

pub never-flat_map : {A : Type 0} (f : A → List (ℕ × Body)) (xs : List A) → ((x : A) → NeverIn (f x)) → NeverIn (flat_map f xs)
never-flat_map f [] h = refl
never-flat_map f (x ∷ xs) h = never-append (f x) (flat_map f xs) (h x) (never-flat_map f xs h)

-- all that was taken came from members below n
abbrev pub SendersFit : ℕ → Inputs → Type 0
SendersFit n [] = Unit {0}
SendersFit n (Called order ∷ past) = SendersFit n past
SendersFit n (Took from body ∷ past) = (from < n) × SendersFit n past

sender_fits : (n : ℕ) (past : Steps) (at : ℕ) (x : Input Order Body) (inputs : Inputs) → InputFits n past at x → SendersFit n inputs → SendersFit n (x ∷ inputs)
sender_fits n past at (Called order) inputs fit old = old
sender_fits n past at (Took from body) inputs fit old = (fit, old)

pub senders_fit : (n : ℕ) (past : Steps) (m : ℕ) → StepsFit n past → SendersFit n (inputs_of m past)
senders_fit n [] m fit = tt
senders_fit n (s ∷ past) m fit =
    inputs_step (SendersFit n) m s past (λ e. sender_fits n past s.at s.input (inputs_of m past) fit.1 (senders_fit n past m fit.2)) (senders_fit n past m fit.2)
