-- Places among entries and among events.
use Rattle.std.proofs.Common.{◌≡◌, ℕ, zero, suc, ◌-◌, ◌<◌, ◌≤◌, Bool, true, false, ltb, cond, List, [], ◌∷◌, ◌++◌, length, refl, sym, ap, ◌∙◌, subst, arith}
use Rattle.std.proofs.lemmas.List.{map-append}
use Rattle.std.proofs.lemmas.Bool.Decides.{nat_tests}
use Rattle.upd_base.specs.Plan.{Planned}
use Rattle.upd_base.specs.declared.event.Event.{Event}
use Rattle.turn_lock.specs.Places.{Ascends, insert_place, merged, new_places, places_from}
use Rattle.live_group.specs.declared.recorded.Recorded.{Recorded}
use Rattle.live_group.specs.Recorded.{entries, events_in, event_places, AreBehind, HasPlan}
use Rattle.live_group.proofs.Entries.{events_made, length-entries}

places_down : (low n : ℕ) → event_places (places_from (suc low) n) ≡ places_from low n
places_down low zero = refl
places_down low (suc n) = let e : suc low - 1 ≡ low = omega arith in let r = places_down (suc low) n in cc

-- the new places among entries are those among events
pub new_event_places : (p q : Planned) (xs ys : List Event) → event_places (new_places (entries p xs) (entries q ys)) ≡ new_places xs ys
new_event_places p q xs ys =
    let a = length-entries p xs in
    let b = length-entries q ys in
    let n : length (entries q ys) - length (entries p xs) ≡ length ys - length xs = omega arith in
    ap (λ z. event_places (places_from z (length (entries q ys) - length (entries p xs)))) a ∙ (ap (λ z. event_places (places_from (suc (length xs)) z)) n ∙ places_down (length xs) (length ys - length xs))

behind_from : (low n : ℕ) → 1 ≤ low → AreBehind (places_from low n)
behind_from low zero l = tt
behind_from low (suc n) l = (l, behind_from (suc low) n (omega arith))

behind_append : (xs ys : List ℕ) → AreBehind xs → AreBehind ys → AreBehind (xs ++ ys)
behind_append [] ys behind other = other
behind_append (x ∷ xs) ys behind other = (behind.0, behind_append xs ys behind.1 other)

pub behind_new : (own : List ℕ) (noted list : List Recorded) (p : Planned) (es : List Event) → noted ≡ entries p es → AreBehind own → AreBehind (own ++ new_places noted list)
behind_new own noted list p es is behind =
    let a : length noted ≡ suc (length es) = ap length is ∙ length-entries p es in
    behind_append own (new_places noted list) behind (behind_from (length noted) (length list - length noted) (omega arith))

-- the places of events after a turn
pub places_after : (own : List ℕ) (noted : List Recorded) (p q : Planned) (es es' : List Event) → noted ≡ entries p (events_in noted) → es' ≡ es
    → event_places (own ++ new_places noted (entries q es')) ≡ event_places own ++ new_places (events_in noted) es
places_after own noted p q es es' is same =
    map-append (λ place. place - 1) own (new_places noted (entries q es'))
    ∙ ap (λ z. event_places own ++ z) (ap (λ z. event_places (new_places z (entries q es'))) is ∙ (new_event_places p q (events_in noted) es' ∙ ap (new_places (events_in noted)) same))

behind_insert : (p : ℕ) (qs : List ℕ) → 1 ≤ p → AreBehind qs → AreBehind (insert_place p qs)
behind_insert p [] l behind = (l, tt)
behind_insert p (q ∷ qs) l behind = by (ltb p q) (behind_insert p qs l behind.1)
  where
    by : (b : Bool) → AreBehind (insert_place p qs) → AreBehind (cond b (p ∷ q ∷ qs) (q ∷ insert_place p qs))
    by true rest = (l, behind)
    by false rest = (behind.0, rest)

pub behind_merged : (ps qs : List ℕ) → AreBehind ps → AreBehind qs → AreBehind (merged ps qs)
behind_merged [] qs behind other = other
behind_merged (p ∷ ps) qs behind other = behind_insert p (merged ps qs) behind.0 (behind_merged ps qs behind.1 other)

insert_down : (p : ℕ) (qs : List ℕ) → 1 ≤ p → AreBehind qs → event_places (insert_place p qs) ≡ insert_place (p - 1) (event_places qs)
insert_down p [] l behind = refl
insert_down p (q ∷ qs) l behind =
    let lq : 1 ≤ q = behind.0 in
    let same : ltb p q ≡ ltb (p - 1) (q - 1) = grind (arith, nat_tests) in
    rw same (by (ltb (p - 1) (q - 1)) (insert_down p qs l behind.1))
  where
    by : (b : Bool) → event_places (insert_place p qs) ≡ insert_place (p - 1) (event_places qs) → event_places (cond b (p ∷ q ∷ qs) (q ∷ insert_place p qs)) ≡ cond b ((p - 1) ∷ (q - 1) ∷ event_places qs) ((q - 1) ∷ insert_place (p - 1) (event_places qs))
    by true rest = refl
    by false rest = ap (λ z. (q - 1) ∷ z) rest

-- the events' places of both are those of the places of both
pub merged_down : (ps qs : List ℕ) → AreBehind ps → AreBehind qs → event_places (merged ps qs) ≡ merged (event_places ps) (event_places qs)
merged_down [] qs behind other = refl
merged_down (p ∷ ps) qs behind other =
    insert_down p (merged ps qs) behind.0 (behind_merged ps qs behind.1 other) ∙ ap (insert_place (p - 1)) (merged_down ps qs behind.1 other)

ascends_down : (low high : ℕ) (ps : List ℕ) → Ascends (suc low) (suc high) ps → Ascends low high (event_places ps)
ascends_down low high [] up = tt
ascends_down low high (p ∷ ps) up =
    let a : low ≤ p - 1 = let h = up.0.0 in omega arith in
    let b : p - 1 < high = let h = up.0.1 in let l = up.0.0 in omega arith in
    let e : suc p ≡ suc (suc (p - 1)) = let l = up.0.0 in omega arith in
    ((a, b), ascends_down (suc (p - 1)) high ps (subst (λ z. Ascends z (suc high) ps) e up.1))

-- places behind the plan that rise among entries rise among events
pub rise_events : (p : Planned) (list : List Recorded) (own : List ℕ) → HasPlan p list → AreBehind own → Ascends 0 (length list) own → Ascends 0 (length (events_in list)) (event_places own)
rise_events p list own has behind up =
    let n : length list ≡ suc (length has.0) = ap length has.1 ∙ length-entries p has.0 in
    let m : length (events_in list) ≡ length has.0 = ap length (ap events_in has.1 ∙ events_made has.0) in
    subst (λ z. Ascends 0 z (event_places own)) (sym m) (ascends_down 0 (length has.0) own (from_one own behind (subst (λ z. Ascends 0 z own) n up)))
  where
    from_one : (ps : List ℕ) → AreBehind ps → Ascends 0 (suc (length has.0)) ps → Ascends 1 (suc (length has.0)) ps
    from_one [] b u = tt
    from_one (p ∷ ps) b u = ((b.0, u.0.1), u.1)
