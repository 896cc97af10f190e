-- What one step of a network does to its links.
use Rattle.std.proofs.Common.{ℕ, ◌≡◌, ◌==◌, ◌&&◌, Bool, true, false, inl, inr, List, [], ◌∷◌, ◌++◌, drop, refl, sym, ◌∙◌, ap, subst, append_assoc, append-nil, Some, None, if◌then◌else◌}
use Rattle.std.specs.Prelude.{slice_get}
use Rattle.fifo_net.specs.Net.{Input, Called, Took, Step, Sends, inputs_of, taken, bodies_to, taken_on, sent_on}
use Rattle.fifo_net.proofs.Links.{inputs_here, inputs_away, taken_here, taken_away}
use Rattle.group_run.proofs.Lists.{same_or, eqb_self, eqb_other}

-- what the member of a step sends goes to the end of its links
pub sent_step : {X B : Type 0} (sends : Sends X B) (from to at : ℕ) (x : Input X B) (past : List (Step X B))
    → sent_on sends from to (record { at = at; input = x } ∷ past) ≡ sent_on sends from to past ++ (if at == from then bodies_to to (sends at (x ∷ inputs_of at past)) else [])
sent_step {X} {B} sends from to at x past = elim (same_or at from) [
  | inl e ↦
      let P : ℕ → Type 0 = λ f. sent_on sends f to (record { at = at; input = x } ∷ past) ≡ sent_on sends f to past ++ (if at == f then bodies_to to (sends at (x ∷ inputs_of at past)) else []) in
      subst P e (rw (eqb_self at) refl)
  | inr ne ↦ rw (eqb_other at from ne) (sym (append-nil (sent_on sends from to past)))
]

-- a call takes nothing
pub taken_call : {X B : Type 0} (from to at : ℕ) (call : X) (past : List (Step X B)) → taken_on from to (record { at = at; input = Called call } ∷ past) ≡ taken_on from to past
taken_call {X} {B} from to at call past = elim (same_or at to) [
  | inl e ↦ ap (taken from) (inputs_here to (record { at = at; input = Called call }) past e)
  | inr ne ↦ ap (taken from) (inputs_away to (record { at = at; input = Called call }) past ne)
]

-- a receipt takes what is first on its link, and leaves the rest
pub taken_receipt : {X B : Type 0} (from to f t : ℕ) (body : B) (past : List (Step X B)) (waiting : List B) → (f ≡ from → t ≡ to → slice_get waiting 0 ≡ Some body)
    → taken_on from to (record { at = t; input = Took f body } ∷ past) ++ (if (f == from) && (t == to) then drop 1 waiting else waiting) ≡ taken_on from to past ++ waiting
taken_receipt {X} {B} from to f t body past waiting first = elim (same_or t to) [
  | inl e ↦ elim (same_or f from) [
    | inl q ↦
        let one : taken_on from to (record { at = t; input = Took f body } ∷ past) ≡ taken_on from to past ++ body ∷ [] =
        ap (taken from) (inputs_here to (record { at = t; input = Took f body }) past e) ∙ taken_here from f body (inputs_of to past) q in
        let two : (if (f == from) && (t == to) then drop 1 waiting else waiting) ≡ drop 1 waiting = rw (e, q, eqb_self from, eqb_self to) refl in
        rw (one, two) (append_assoc (taken_on from to past) (body ∷ []) (drop 1 waiting) ∙ ap (λ l. taken_on from to past ++ l) (sym (head_rest waiting body (first q e))))
    | inr ne ↦
        let one : taken_on from to (record { at = t; input = Took f body } ∷ past) ≡ taken_on from to past =
        ap (taken from) (inputs_here to (record { at = t; input = Took f body }) past e) ∙ taken_away from f body (inputs_of to past) ne in
        rw (one, eqb_other f from ne) refl
  ]
  | inr ne ↦
      let one : taken_on from to (record { at = t; input = Took f body } ∷ past) ≡ taken_on from to past =
      ap (taken from) (inputs_away to (record { at = t; input = Took f body }) past ne) in
      rw (one, eqb_other t to ne) (ap (λ (l : List B). taken_on from to past ++ l) (neither (f == from) waiting))
]
  where
    head_rest : {B : Type 0} (waiting : List B) (body : B) → slice_get waiting 0 ≡ Some body → waiting ≡ body ∷ drop 1 waiting
    head_rest [] body e = absurd (let q : None ≡ Some body = e in cc)
    head_rest (w ∷ waiting) body e = let q : w ≡ body = cc in ap (λ z. z ∷ waiting) q

    neither : (b : Bool) {B : Type 0} (waiting : List B) → (if b && false then drop 1 waiting else waiting) ≡ waiting
    neither true waiting = refl
    neither false waiting = refl
