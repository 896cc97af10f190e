-- Items that are among others by origin and number.
use Rattle.std.proofs.Common.{ℕ, ◌≡◌, inl, inr, eqb, true, false, cond, [], ◌∷◌, ◌++◌, refl, ap, ◌∙◌, ◌||◌}
use Rattle.std.specs.List.{Contains, list_any}
use Rattle.std.proofs.lemmas.Bool.{cond_both, eqb-true, eq-eqb, or_cases, or_right, and_parts, and_from}
use Rattle.std.proofs.lemmas.List.Elements.{Contains-append_left, Contains-append_right, Contains-append_cases, Contains-push}
use Rattle.std.proofs.lemmas.List.Folds.{list_any-append}
use Rattle.fifo_net.specs.Net.{IsPrefix}
use Rattle.upd_base.specs.Item.{id_of, has_id, origin_of, number_of}
use Rattle.upd_base.specs.declared.item.Item.{Item}
use Rattle.instance_rules.specs.Say.{Items}
use Rattle.instance_rules.proofs.Votes.{one, none}
use Rattle.consensus_rules.specs.Items.{knows}

pub has_its_id : (id : ℕ × ℕ) (item : Item) → has_id id item ≡ true → id_of item ≡ id
has_its_id id item h =
    let parts : (eqb (origin_of item) id.0 ≡ true) × (eqb (number_of item) id.1 ≡ true) = and_parts (eqb (origin_of item) id.0) (eqb (number_of item) id.1) h in
    let a : origin_of item ≡ id.0 = eqb-true (origin_of item) id.0 parts.0 in
    let b : number_of item ≡ id.1 = eqb-true (number_of item) id.1 parts.1 in
    ap (λ k. (k, number_of item)) a ∙ ap (λ k. (id.0, k)) b

pub knows_self : (x : Item) → has_id (id_of x) x ≡ true
knows_self x = and_from (eqb (origin_of x) (origin_of x)) (eqb (number_of x) (number_of x)) (eq-eqb (origin_of x) (origin_of x) refl) (eq-eqb (number_of x) (number_of x) refl)

pub knows_more : (xs ys : Items) (x : Item) → IsPrefix xs ys → knows xs x ≡ true → knows ys x ≡ true
knows_more xs ys x p e = ap (λ l. knows l x) p.1 ∙ list_any-append (has_id (id_of x)) xs p.0 ∙ ap (λ b. b || list_any (has_id (id_of x)) p.0) e

pub knows_added : (xs : Items) (x : Item) → knows (cond (knows xs x) xs (xs ++ x ∷ [])) x ≡ true
knows_added xs x =
    cond_both (knows xs x) xs (xs ++ x ∷ []) (λ l. knows l x ≡ true)
    (λ t. t)
    (λ f. list_any-append (has_id (id_of x)) xs (x ∷ []) ∙ ap (λ b. b || (has_id (id_of x) x || false)) f ∙ ap (λ b. b || false) (knows_self x))

pub contains_knows : (xs : Items) (x : Item) → Contains xs x → knows xs x ≡ true
contains_knows [] x h = none x h
contains_knows (y ∷ ys) x h =
    elim (Contains-append_cases (y ∷ []) ys x h) [
      | inl here ↦ ap (λ z. has_id (id_of x) z || knows ys x) (one y x here) ∙ ap (λ b. b || knows ys x) (knows_self x)
      | inr there ↦ or_right (has_id (id_of x) y) (knows ys x) (contains_knows ys x there)
    ]

pub known_item : (id : ℕ × ℕ) (xs : Items) → list_any (has_id id) xs ≡ true → (y : Item) × Contains xs y × (has_id id y ≡ true)
known_item id [] e = absurd cc
known_item id (x ∷ xs) e =
    elim (or_cases (has_id id x) (list_any (has_id id) xs) e) [
      | inl here ↦ (x, Contains-append_left (x ∷ []) xs x (Contains-push [] x), here)
      | inr there ↦ let r : (y : Item) × Contains xs y × (has_id id y ≡ true) = known_item id xs there in (r.0, Contains-append_right (x ∷ []) xs r.0 r.1, r.2)
    ]
