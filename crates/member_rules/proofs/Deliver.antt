-- What acts say, and what is left undelivered.
use Rattle.std.proofs.Common.{ℕ, ◌≡◌, ◌&&◌, ◌||◌, inl, inr, Bool, true, false, not, Option, List, [], ◌∷◌, ◌++◌, map, refl, sym, ◌∙◌, ap, Some, None, append_assoc, append-nil, reverse}
use Rattle.std.specs.Prelude.{nat_lt}
use Rattle.std.specs.List.{list_any, filter}
use Rattle.upd_base.specs.Item.{has_id, id_of, is_message}
use Rattle.upd_base.specs.declared.kind.Kind.{Kind}
use Rattle.upd_base.specs.declared.item.Item.{Item}
use Rattle.upd_base.specs.declared.item.Item.TheVariants.{Msg, Switch}
use Rattle.upd_base.specs.declared.entry.Entry.{Entry}
use Rattle.upd_base.specs.declared.limits.TheConstants.{MAX_VERSION}
use Rattle.replacement.specs.declared.act.Act.{Act}
use Rattle.replacement.specs.declared.act.Act.TheVariants.{Deliver, Reissue}
use Rattle.replacement.specs.Repl.{counted, other_than, left, renewal, acts_on}
use Rattle.group_run.specs.Group.{Group}
use Rattle.group_run.specs.Version.{segment, entries, next_kind}
use Rattle.group_run.specs.Part.{is_logged}
use Rattle.group_run.proofs.Lists.{tested}
use Rattle.member_rules.specs.Acts.{is_kept, delivered_by, reissued_by, bound_by}
use Rattle.member_rules.proofs.Turns.{absent_from}

-- the segment is what counts of the kept items
pub segment_is : (g : Group) (v : ℕ) (items : List Item) → counted v (filter (is_kept g.rules.serves) items) ≡ segment g v items
segment_is g v [] = refl
segment_is g v (Msg origin number payload ∷ items) = ap (λ xs. Msg origin number payload ∷ xs) (segment_is g v items)
segment_is g v (Switch origin number kind ∷ items) = elim (tested (g.rules.serves kind)) [
  | inl s ↦ rw s (elim (tested (nat_lt v MAX_VERSION)) [
    | inl e ↦ rw e refl
    | inr e ↦ rw e (segment_is g v items)
  ])
  | inr s ↦ rw s (elim (tested (nat_lt v MAX_VERSION)) [
    | inl e ↦ rw e (segment_is g v items)
    | inr e ↦ rw e (segment_is g v items)
  ])
]

-- Acts -----------------------------------------------------------------------------------------------------------

delivered_reissues : (items : List Item) → delivered_by (map (λ item. Reissue item) items) ≡ []
delivered_reissues [] = refl
delivered_reissues (x ∷ items) = delivered_reissues items

reissued_reissues : (items : List Item) → reissued_by (map (λ item. Reissue item) items) ≡ items
reissued_reissues [] = refl
reissued_reissues (x ∷ items) = ap (λ xs. x ∷ xs) (reissued_reissues items)

bound_reissues : (o : Option Kind) (items : List Item) → bound_by o (map (λ item. Reissue item) items) ≡ o
bound_reissues o [] = refl
bound_reissues o (x ∷ items) = bound_reissues o items

delivered_after : (items : List Item) (acts : List Act) → delivered_by (map (λ item. Deliver item) items ++ acts) ≡ items ++ delivered_by acts
delivered_after [] acts = refl
delivered_after (x ∷ items) acts = ap (λ xs. x ∷ xs) (delivered_after items acts)

reissued_after : (items : List Item) (acts : List Act) → reissued_by (map (λ item. Deliver item) items ++ acts) ≡ reissued_by acts
reissued_after [] acts = refl
reissued_after (x ∷ items) acts = reissued_after items acts

bound_after : (o : Option Kind) (items : List Item) (acts : List Act) → bound_by o (map (λ item. Deliver item) items ++ acts) ≡ bound_by o acts
bound_after o [] acts = refl
bound_after o (x ∷ items) acts = bound_after o items acts

delivered_renewal : (waiting : List Item) (o : Option Kind) → delivered_by (renewal waiting o) ≡ []
delivered_renewal waiting None = refl
delivered_renewal waiting (Some kind) = delivered_reissues waiting

bound_renewal : (waiting : List Item) (o : Option Kind) → bound_by None (renewal waiting o) ≡ o
bound_renewal waiting None = refl
bound_renewal waiting (Some kind) = bound_reissues (Some kind) waiting

reissued_renewal : (waiting : List Item) (o : Option Kind) (kind : Kind) → o ≡ Some kind → reissued_by (renewal waiting o) ≡ waiting
reissued_renewal waiting None kind h = absurd (let p : None ≡ Some kind = h in cc)
reissued_renewal waiting (Some other) kind h = reissued_reissues waiting

pub delivered_acts : (waiting items : List Item) → delivered_by (acts_on waiting items) ≡ items
delivered_acts waiting items =
    delivered_after items (renewal (left waiting items) (next_kind items))
    ∙ ap (λ xs. items ++ xs) (delivered_renewal (left waiting items) (next_kind items)) ∙ append-nil items

pub bound_acts : (waiting items : List Item) → bound_by None (acts_on waiting items) ≡ next_kind items
bound_acts waiting items = bound_after None items (renewal (left waiting items) (next_kind items)) ∙ bound_renewal (left waiting items) (next_kind items)

pub reissued_acts : (waiting items : List Item) (kind : Kind) → next_kind items ≡ Some kind → reissued_by (acts_on waiting items) ≡ left waiting items
reissued_acts waiting items kind h = reissued_after items (renewal (left waiting items) (next_kind items)) ∙ reissued_renewal (left waiting items) (next_kind items) kind h

-- What is left ---------------------------------------------------------------------------------------------------

any-append : {A : Type 0} (p : A → Bool) (xs ys : List A) → list_any p (xs ++ ys) ≡ (list_any p xs || list_any p ys)
any-append p [] ys = refl
any-append p (x ∷ xs) ys = elim (p x) as (λ b. (b || list_any p (xs ++ ys)) ≡ ((b || list_any p xs) || list_any p ys)) [ true ↦ refl | false ↦ any-append p xs ys ]

filter_twice : {A : Type 0} (p q r : A → Bool) → ((x : A) → r x ≡ (q x && p x)) → (xs : List A) → filter r xs ≡ filter p (filter q xs)
filter_twice p q r h [] = refl
filter_twice p q r h (x ∷ xs) = elim (tested (q x)) [
  | inl a ↦ elim (tested (p x)) [
    | inl b ↦ let e : r x ≡ true = h x ∙ rw (a, b) refl in rw (e, a, b) (ap (λ ys. x ∷ ys) (filter_twice p q r h xs))
    | inr b ↦ let e : r x ≡ false = h x ∙ rw (a, b) refl in rw (e, a, b) (filter_twice p q r h xs)
  ]
  | inr a ↦ let e : r x ≡ false = h x ∙ rw a refl in rw (e, a) (filter_twice p q r h xs)
]

split_test : (m a b : Bool) → (m && not (a || (b || false))) ≡ ((m && not a) && not b)
split_test true true b = refl
split_test true false true = refl
split_test true false false = refl
split_test false a b = refl

one_more : (es : List Entry) (e : Entry) (accepted : List Item) → absent_from (es ++ e ∷ []) accepted ≡ other_than e.item (absent_from es accepted)
one_more es e accepted =
    filter_twice (λ (x : Item). not (has_id (id_of x) e.item)) (λ (x : Item). is_message x && not (is_logged x es))
    (λ (x : Item). is_message x && not (is_logged x (es ++ e ∷ [])))
    (λ x. ap (λ b. is_message x && not b) (any-append (λ (f : Entry). has_id (id_of x) f.item) es (e ∷ [])) ∙ split_test (is_message x) (is_logged x es) (has_id (id_of x) e.item))
    (reverse accepted)

pub left_is : (v : ℕ) (items : List Item) (es : List Entry) (accepted : List Item) → left (absent_from es accepted) items ≡ absent_from (es ++ entries v items) accepted
left_is v [] es accepted = ap (λ fs. absent_from fs accepted) (sym (append-nil es))
left_is v (item ∷ items) es accepted =
    let e : Entry = record { version = v; item = item } in
    ap (λ xs. left xs items) (sym (one_more es e accepted))
    ∙ left_is v items (es ++ e ∷ []) accepted
    ∙ ap (λ fs. absent_from fs accepted) (append_assoc es (e ∷ []) (entries v items))
