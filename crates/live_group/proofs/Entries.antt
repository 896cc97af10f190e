-- The list that a shared journal stands for, and its events.
use Rattle.std.proofs.Common.{◌≡◌, suc, Bool, true, false, ltb, cond, List, [], ◌∷◌, ◌++◌, map, length, refl, sym, ap, ◌∙◌, subst, inl, inr, arith}
use Rattle.std.proofs.lemmas.List.{length-map, map-append}
use Rattle.std.proofs.lemmas.Bool.Decides.{nat_tests}
use Rattle.upd_base.specs.Plan.{Planned}
use Rattle.upd_base.specs.declared.event.Event.{Event}
use Rattle.turn_lock.specs.Lists.{IsPrefix, AddsAtMostOne, longer}
use Rattle.live_group.specs.declared.recorded.Recorded.{Recorded}
use Rattle.live_group.specs.declared.recorded.Recorded.TheVariants.{Began, Made}
use Rattle.live_group.specs.Recorded.{entries, events_in, HasPlan}

pub events_made : (es : List Event) → events_in (map Made es) ≡ es
events_made [] = refl
events_made (e ∷ es) = ap (λ xs. e ∷ xs) (events_made es)

events_append : (xs ys : List Recorded) → events_in (xs ++ ys) ≡ events_in xs ++ events_in ys
events_append [] ys = refl
events_append (Began p ∷ xs) ys = events_append xs ys
events_append (Made e ∷ xs) ys = ap (λ zs. e ∷ zs) (events_append xs ys)

-- of a beginning of a list the events begin the list's
pub begin_events : (xs ys : List Recorded) → IsPrefix xs ys → IsPrefix (events_in xs) (events_in ys)
begin_events xs ys b = (events_in b.0, ap events_in b.1 ∙ events_append xs b.0)

pub begin_entries : (xs : List Recorded) (p : Planned) (es : List Event) → IsPrefix xs (entries p es) → IsPrefix (events_in xs) es
begin_entries xs p es b = subst (λ z. IsPrefix (events_in xs) z) (events_made es) (begin_events xs (entries p es) b)

pub opening_events : (p q : Planned) (xs ys : List Event) → IsPrefix (entries p xs) (entries q ys) → IsPrefix xs ys
opening_events p q xs ys b = subst (λ z. IsPrefix z ys) (events_made xs) (begin_entries (entries p xs) q ys b)

pub same_plan : (p q : Planned) (xs : List Recorded) (ys : List Event) → HasPlan p xs → IsPrefix xs (entries q ys) → q ≡ p
same_plan p q xs ys has b =
    let e : entries q ys ≡ entries p has.0 ++ b.0 = b.1 ∙ ap (λ z. z ++ b.0) has.1 in
    let heads : Began q ≡ Began p = cc in
    cc

pub length-entries : (p : Planned) (es : List Event) → length (entries p es) ≡ suc (length es)
length-entries p es = ap suc (length-map es Made)

-- one event more is one entry more
pub adds_entries : (p : Planned) (es es' : List Event) → AddsAtMostOne es es' → AddsAtMostOne (entries p es) (entries p es')
adds_entries p es es' (inl same) = inl (ap (entries p) same)
adds_entries p es es' (inr more) = inr (Made more.0, ap (entries p) more.1 ∙ ap (λ z. Began p ∷ z) (map-append Made es (more.0 ∷ [])))

pub adds_noted : (noted : List Recorded) (p q : Planned) (es es' : List Event) → noted ≡ entries p (events_in noted) → AddsAtMostOne (events_in noted) es → q ≡ p → es' ≡ es → AddsAtMostOne noted (entries q es')
adds_noted noted p q es es' is adds same same' =
    let now : entries p es ≡ entries q es' = ap (λ z. entries z es) (sym same) ∙ ap (entries q) (sym same') in
    subst (λ z. AddsAtMostOne noted z) now (subst (λ z. AddsAtMostOne z (entries p es)) (sym is) (adds_entries p (events_in noted) es adds))

-- of two lists of one plan, the longer has the longer list of events
pub events_longer : (p : Planned) (xs ys : List Recorded) → HasPlan p xs → HasPlan p ys → events_in (longer xs ys) ≡ longer (events_in xs) (events_in ys)
events_longer p xs ys hx hy =
    let lx : length xs ≡ suc (length (events_in xs)) = lengths xs hx in
    let ly : length ys ≡ suc (length (events_in ys)) = lengths ys hy in
    let same : ltb (length xs) (length ys) ≡ ltb (length (events_in xs)) (length (events_in ys)) = grind (arith, nat_tests) in
    rw same (by (ltb (length (events_in xs)) (length (events_in ys))))
  where
    lengths : (zs : List Recorded) → HasPlan p zs → length zs ≡ suc (length (events_in zs))
    lengths zs h = ap length h.1 ∙ (length-entries p h.0 ∙ ap (λ z. suc (length z)) (sym (ap events_in h.1 ∙ events_made h.0)))

    by : (b : Bool) → events_in (cond b ys xs) ≡ cond b (events_in ys) (events_in xs)
    by true = refl
    by false = refl

pub plan_longer : (p : Planned) (xs ys : List Recorded) → HasPlan p xs → HasPlan p ys → HasPlan p (longer xs ys)
plan_longer p xs ys hx hy = by (ltb (length xs) (length ys))
  where
    by : (b : Bool) → HasPlan p (cond b ys xs)
    by true = hy
    by false = hx
