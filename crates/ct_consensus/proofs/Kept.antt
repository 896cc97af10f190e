-- What is kept of a round, where other rounds are open.
use Rattle.std.proofs.Common.{ℕ, ◌≡◌, inl, inr, cond, List, Option, Some, sym, ap, ◌∙◌, subst}
use Rattle.std.specs.Ordering.{nat_cmp}
use Rattle.std.specs.BTreeMap.{BTreeMap, get}
use Rattle.std.proofs.lemmas.Bool.{cases_Bool, cond-true, cond-false}
use Rattle.number_runs.specs.Runs.{holds}
use Rattle.number_runs.specs.declared.runs.Run.{Run}
use Rattle.ct_consensus.specs.Ballot.{over}
use Rattle.ct_consensus.specs.Ballots.{turn_of}
use Rattle.ct_consensus.specs.declared.ballot.Ballot.{Ballot}

pub same_over : (n r : ℕ) (was now : List Run) (old new : BTreeMap ℕ Ballot) → now ≡ was → (P : Option Ballot → Type 0)
    → (P (get nat_cmp old r) → P (get nat_cmp new r)) → P (cond (holds was (turn_of n r)) (Some over) (get nat_cmp old r)) → P (cond (holds now (turn_of n r)) (Some over) (get nat_cmp new r))
same_over n r was now old new is P h k =
    let same : holds now (turn_of n r) ≡ holds was (turn_of n r) = ap (λ x. holds x (turn_of n r)) is in
    elim (cases_Bool (holds was (turn_of n r))) [
      | inl t ↦ subst P
          (cond-true (holds was (turn_of n r)) (Some over) (get nat_cmp old r) t
          ∙ sym (cond-true (holds now (turn_of n r)) (Some over) (get nat_cmp new r) (same ∙ t))) k
      | inr f ↦ subst P (sym (cond-false (holds now (turn_of n r)) (Some over) (get nat_cmp new r) (same ∙ f)))
          (h (subst P (cond-false (holds was (turn_of n r)) (Some over) (get nat_cmp old r) f) k))
    ]
