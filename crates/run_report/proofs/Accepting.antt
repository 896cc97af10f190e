-- What was accepted has an origin among the members, and a number below the next of its origin.
use Rattle.std.proofs.Common.{ℕ, zero, suc, ◌≡◌, ◌∙◌, ◌<◌, List, [], ◌∷◌, ap, sym, subst, append-nil, reverse, inl, inr, get_or}
use Rattle.std.specs.Prelude.{All, Contains, flat_map}
use Rattle.std.proofs.lemmas.List.{reverse-reverse}
use Rattle.std.proofs.lemmas.List.Elements.{All-contains_itself, Contains-append_cases}
use Rattle.std.proofs.lemmas.Grind.{flat_map-append}
use Rattle.fifo_net.specs.Net.{inputs_of}
use Rattle.upd_base.specs.Item.{origin_of, number_of}
use Rattle.upd_base.specs.Plan.{Planned}
use Rattle.upd_base.specs.declared.item.Item.{Item}
use Rattle.group_run.specs.Group.{Rules}
use Rattle.group_run.specs.Run.{Events, group, moves_in, part}
use Rattle.group_run.specs.Ordered.{accepted_in}
use Rattle.group_run.specs.Part.{below}
use Rattle.group_run.proofs.Lists.{contains_filter, contains_reverse, nothing}
use Rattle.group_laws.specs.Canon.{one_list}
use Rattle.upd_base.specs.declared.entry.Entry.{Entry}
use Rattle.upd_base.specs.declared.event.Event.{Event}
use Rattle.run_report.specs.Report.{absent_from, absent_items, accepted_of, by_origin, of_origin}
use Rattle.run_report.proofs.Turned.{accepted_turned}
use Rattle.group_members.specs.Accepted.{AcceptedAlike}
use Rattle.group_members.proofs.Own.{own_all}
use Rattle.group_members.proofs.Fresh.{accepted_below}
use Rattle.run_journal.specs.Asked.{accepted_by}

pub numbered_below : (rules : Rules) (plan : Planned) (past : Events) → AcceptedAlike rules plan past → (item : Item) → Contains (accepted_in plan past) item
    → (origin_of item < plan.members) × (number_of item < accepted_by rules plan past (origin_of item))
numbered_below rules plan past alike item c =
    let k = alike.kept item c in
    let g = group rules plan in
    let m : ℕ = origin_of item in
    (k.0, accepted_below g m (part rules plan past m) (own_all g m (inputs_of m (moves_in rules plan past)) k.0) item k.1)

-- what stands in a list by origins stands in the list
in_origins : (items : List Item) (n : ℕ) (x : Item) → Contains (by_origin n items) x → Contains items x
in_origins items zero x c = absurd (nothing x c)
in_origins items (suc n) x c =
    let P : List Item → Type 0 = λ l. Contains l x in
    elim (Contains-append_cases (by_origin n items) (flat_map (of_origin items) (n ∷ [])) x (subst P (flat_map-append (of_origin items) (below n) (n ∷ [])) c)) [
      | inl d ↦ in_origins items n x d
      | inr d ↦ (contains_filter _ items x (subst P (append-nil (of_origin items n)) d)).0
    ]

-- each absent item was accepted
pub absent_accepted : (rules : Rules) (plan : Planned) (past : Events) (items : List Item) → items ≡ absent_items rules plan past → All (λ item. Contains (accepted_in plan past) item) items
absent_accepted rules plan past items e = λ k d lt.
    let sorted : List Item = by_origin plan.members (reverse (accepted_in plan past)) in
    let x : Item = get_or items k d in
    let here : Contains (absent_items rules plan past) x = subst (λ l. Contains l x) e (All-contains_itself items k d lt) in
    contains_reverse (accepted_in plan past) x (in_origins (reverse (accepted_in plan past)) plan.members x (contains_filter _ sorted x here).0)

-- the absent items, from the events in the order in which they were made
pub absent_are : (rules : Rules) (plan p q : Planned) (events es : List Event) (log : List Entry) (accepted accepted2 sorted sorted2 items : List Item) (n : ℕ)
    → p ≡ plan → q ≡ plan → es ≡ events → log ≡ one_list rules plan (reverse events)
    → accepted ≡ flat_map (accepted_of p) es → accepted2 ≡ accepted → n ≡ q.members → sorted ≡ by_origin n accepted2 → sorted2 ≡ sorted
    → items ≡ absent_from log sorted2 → items ≡ absent_items rules plan (reverse events)
absent_are rules plan p q events es log accepted accepted2 sorted sorted2 items n pe qe ee le ae ae2 ne se se2 e =
    let turned : accepted2 ≡ reverse (accepted_in plan (reverse events)) =
    ae2 ∙ ae ∙ ap (λ r. flat_map (accepted_of r) es) pe ∙ ap (flat_map (accepted_of plan)) (ee ∙ sym (reverse-reverse events)) ∙ sym (accepted_turned plan (reverse events)) in
    let by : sorted2 ≡ by_origin plan.members (reverse (accepted_in plan (reverse events))) =
    se2 ∙ se ∙ ap (λ m. by_origin m accepted2) (ne ∙ ap (λ r. r.members) qe) ∙ ap (by_origin plan.members) turned in
    e ∙ ap (λ l. absent_from l sorted2) le ∙ ap (absent_from (one_list rules plan (reverse events))) by
