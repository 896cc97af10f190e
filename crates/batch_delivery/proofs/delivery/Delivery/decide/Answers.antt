use Rattle.std.proofs.Common.{ℕ, ◌≡◌, ◌≢◌, ◌++◌, ◌∷◌, [], inl, inr, eqb, true, refl, ap, sym, ◌∙◌, subst, None, Some, arith}
use Rattle.std.specs.List.{All, list_all}
use Rattle.std.specs.Map.{values_of}
use Rattle.std.specs.Ordering.{nat_cmp}
use Rattle.std.specs.BTreeMap.{get}
use Rattle.std.proofs.lemmas.Bool.{cases_eq, cond-true, cond-false, eq-eqb, ne_eqb}
use Rattle.std.proofs.lemmas.Result.{on_ok_weaker}
use Rattle.std.proofs.lemmas.Map.Views.{All-values-insert_entry}
use Rattle.upd_base.specs.Item.{item_fits}
use Rattle.instance_rules.specs.History.{or_else}
use Rattle.consensus_rules.specs.Delivered.{decision}
use Rattle.consensus_rules.proofs.Projection.{decision_or, or_none}
use Rattle.batch_delivery.proofs.Fits.{either_way, both_ok}
use Rattle.batch_delivery.proofs.Reach.{later}
use Rattle.batch_delivery.proofs.delivery.Delivery.decide.Goals as goal

pub invariant_of-self-clause-ahead_fit : goal.invariant_of-self-clause-ahead_fit
invariant_of-self-clause-ahead_fit c =
    either_way c.put.result c.put.ensures.ok c.put.ensures.err
    (λ is. subst (λ es. All (λ b. list_all (item_fits c.args.self.now.members) b ≡ true) (values_of es)) (sym is)
    (All-values-insert_entry nat_cmp c.args.instance c.args.batch (λ b. list_all (item_fits c.args.self.now.members) b ≡ true) c.args.self.now.ahead.entries c.args.self.now.ahead_fit c.requires))
    (λ same. subst (λ es. All (λ b. list_all (item_fits c.args.self.now.members) b ≡ true) (values_of es)) (sym same) c.args.self.now.ahead_fit)

pub returns-clause-stands : goal.returns-clause-stands
returns-clause-stands c =
    on_ok_weaker {P = (get nat_cmp c.put.new.batches c.args.instance ≡ Some c.args.batch) × ((k : ℕ) → k ≢ c.args.instance → get nat_cmp c.put.new.batches k ≡ get nat_cmp c.args.self.now.ahead k)} c.put.result
    (λ h. λ items ds fresh s. later c.args.self.now _ items ds ((c.args.instance, c.args.batch) ∷ []) refl refl refl
    (λ k lt. elim (cases_eq k c.args.instance) [
      | inl e ↦ subst (λ j. get nat_cmp c.put.new.batches j ≡ decision j (ds ++ (c.args.instance, c.args.batch) ∷ [])) (sym e)
          (h.0 ∙ sym (decision_or c.args.instance ds ((c.args.instance, c.args.batch) ∷ []) ∙ ap (λ o. or_else o (decision c.args.instance ((c.args.instance, c.args.batch) ∷ []))) fresh
          ∙ cond-true (eqb c.args.instance c.args.instance) (Some c.args.batch) None (eq-eqb c.args.instance c.args.instance refl)))
      | inr ne ↦ h.1 k ne ∙ s.up_to.ahead k lt ∙ sym (decision_or k ds ((c.args.instance, c.args.batch) ∷ []) ∙ ap (λ o. or_else (decision k ds) o)
          (cond-false (eqb c.args.instance k) (Some c.args.batch) None (ne_eqb c.args.instance k (λ e. ne (sym e)))) ∙ or_none (decision k ds))
    ])
    (λ k le. cond-false (eqb c.args.instance k) (Some c.args.batch) None (ne_eqb c.args.instance k (λ e. omega (arith, e, le, c.ranges.instance.fits)))) s)
    (both_ok _ _ c.put.result c.put.ensures.here c.put.ensures.others)
