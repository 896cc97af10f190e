-- What holds of each value of a map or of each item.
use Rattle.std.proofs.Common.{ℕ, zero, suc, ◌≡◌, inl, inr, Bool, true, false, cond, List, [], ◌∷◌, ◌++◌, take, Some, Result, Ok, Err, refl, sym, ap, ◌∙◌, subst, append-nil, append_assoc}
use Rattle.std.specs.Prelude.{OnOk, OnErr, IfSome}
use Rattle.std.specs.List.{All, list_all}
use Rattle.std.specs.Map.{values_of, lookup, remove_entry}
use Rattle.std.proofs.lemmas.Bool.{cases_Bool, and_parts, and_from, cond-true, cond-false}
use Rattle.std.proofs.lemmas.List.Elements.{All-append, All-cons, All-head, All-tail, All-nil}
use Rattle.order_trait.specs.Outbox.{Grows}
use Rattle.upd_base.specs.Item.{ItemFits, item_fits}
use Rattle.upd_base.specs.declared.item.Item.{Item}
use Rattle.upd_base.specs.declared.limits.TheConstants.{MAX_BATCH}
use Rattle.waiting_items.specs.Ids.{first_of}

pub either_way : {T E P Q R : Type 0} (r : Result T E) → OnOk r P → OnErr r Q → (P → R) → (Q → R) → R
either_way (Ok x) p q f g = f p
either_way (Err e) p q f g = g q

pub all_removed : {K V : Type 0} (P : V → Type 0) (test : K → Bool) (es : List (K × V)) → All P (values_of es) → All P (values_of (remove_entry test es))
all_removed P test [] a = a
all_removed P test (e ∷ es) a =
    elim (test e.0) as (λ b. All P (values_of (cond b es (e ∷ remove_entry test es)))) [
      | true ↦ All-tail P e.1 (values_of es) a
      | false ↦ All-cons P e.1 (values_of (remove_entry test es)) (All-head P e.1 (values_of es) a) (all_removed P test es (All-tail P e.1 (values_of es) a))
    ]

pub found_fits : {K V : Type 0} (P : V → Type 0) (test : K → Bool) (es : List (K × V)) (v : V) → All P (values_of es) → lookup test es ≡ Some v → P v
found_fits P test [] v a e = absurd cc
found_fits {K} {V} P test (x ∷ es) v a e =
    elim (cases_Bool (test x.0)) [
      | inl t ↦
          let same : x.1 ≡ v = is_same x.1 v (sym (cond-true (test x.0) (Some x.1) (lookup test es) t) ∙ e) in
          subst P same (All-head P x.1 (values_of es) a)
      | inr f ↦ found_fits P test es v (All-tail P x.1 (values_of es) a) (sym (cond-false (test x.0) (Some x.1) (lookup test es) f) ∙ e)
    ]
  where
    is_same : (a b : V) → Some a ≡ Some b → a ≡ b
    is_same a b e = cc

all_to_list : (n : ℕ) (xs : List Item) → All (ItemFits n) xs → list_all (item_fits n) xs ≡ true
all_to_list n [] a = refl
all_to_list n (x ∷ xs) a = and_from (item_fits n x) (list_all (item_fits n) xs) (All-head (ItemFits n) x xs a) (all_to_list n xs (All-tail (ItemFits n) x xs a))

pub list_to_all : (n : ℕ) (xs : List Item) → list_all (item_fits n) xs ≡ true → All (ItemFits n) xs
list_to_all n [] e = All-nil (ItemFits n)
list_to_all n (x ∷ xs) e =
    let p : (item_fits n x ≡ true) × (list_all (item_fits n) xs ≡ true) = and_parts (item_fits n x) (list_all (item_fits n) xs) e in
    All-cons (ItemFits n) x xs p.0 (list_to_all n xs p.1)

taken_fit : (n k : ℕ) (xs : List Item) → All (ItemFits n) xs → All (ItemFits n) (take k xs)
taken_fit n zero xs a = All-nil (ItemFits n)
taken_fit n (suc k) [] a = All-nil (ItemFits n)
taken_fit n (suc k) (x ∷ xs) a = All-cons (ItemFits n) x (take k xs) (All-head (ItemFits n) x xs a) (taken_fit n k xs (All-tail (ItemFits n) x xs a))

pub first_fits : (n : ℕ) (xs : List Item) → All (ItemFits n) xs → IfSome (first_of xs) (λ batch. list_all (item_fits n) batch ≡ true)
first_fits n [] a = tt
first_fits n (x ∷ xs) a = all_to_list n (take MAX_BATCH (x ∷ xs)) (taken_fit n MAX_BATCH (x ∷ xs) a)

pub grows_none : {A : Type 0} (P : A → Type 0) (xs : List A) → Grows P xs xs
grows_none P xs = ([], sym (append-nil xs), All-nil P)

pub both_ok : {T E : Type 0} (P Q : Type 0) (r : Result T E) → OnOk r P → OnOk r Q → OnOk r (P × Q)
both_ok P Q (Ok x) p q = (p, q)
both_ok P Q (Err e) p q = tt

pub grows_more : {A : Type 0} (P : A → Type 0) (xs ys zs : List A) → Grows P xs ys → Grows P ys zs → Grows P xs zs
grows_more P xs ys zs a b =
    (a.0 ++ b.0, b.1 ∙ ap (λ l. l ++ b.0) a.1 ∙ append_assoc xs a.0 b.0, All-append P a.0 b.0 a.2 b.2)
