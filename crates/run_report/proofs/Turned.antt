-- What doesn't hang on the order of a list.
use Rattle.std.proofs.Common.{ℕ, Bool, ◌≡◌, ◌∙◌, sym, ap, refl, arith, List, [], ◌∷◌, ◌++◌, reverse, append-nil, cond}
use Rattle.std.specs.Prelude.{count_by, sum_by, flat_map, Option, Some, None}
use Rattle.std.proofs.lemmas.List.{length-reverse, reverse-append}
use Rattle.std.proofs.lemmas.Grind.{flat_map-append}
use Rattle.std.proofs.lemmas.List.Sums.{sum_by-append, sum_by-cons}
use Rattle.upd_base.specs.Plan.{Planned, planned, steps_in}
use Rattle.upd_base.specs.declared.event.Event.{Event}
use Rattle.upd_base.specs.declared.event.Event.TheVariants.{Call as CallEvent, Receive, Release}
use Rattle.upd_base.specs.declared.call.Call.{Call}
use Rattle.upd_base.specs.declared.call.Call.TheVariants.{Send, Change, Suspect, Trust, Crash}
use Rattle.upd_base.specs.declared.call.Step.{Step as PlannedStep}
use Rattle.upd_base.specs.declared.answer.Answer.{Answer}
use Rattle.upd_base.specs.declared.answer.Answer.TheVariants.{Accepted, Done, Full, Crashed, VersionLimit, BadKind, BadMember}
use Rattle.group_run.specs.Ordered.{accepted_at, accepted_by, accepted_in}
use Rattle.run_report.specs.Report.{accepted_of, counts_of, counts_text, is_accepted, is_answered, is_call, is_crashed, is_done, is_full}

sum_turned : {X : Type 0} (f : X → ℕ) (xs : List X) → sum_by f (reverse xs) ≡ sum_by f xs
sum_turned f [] = refl
sum_turned f (x ∷ xs) =
    let turned : sum_by f (reverse (x ∷ xs)) ≡ sum_by f (reverse xs ++ x ∷ []) = ap (sum_by f) (reverse-append (x ∷ []) xs) in
    let a = sum_by-append f (reverse xs) (x ∷ []) in
    let b = sum_by-cons f x [] in
    let c = sum_by-cons f x xs in
    let d = sum_turned f xs in
    let none : sum_by f [] ≡ 0 = refl in
    omega (arith, turned, a, b, c, d, none)

abbrev one_or_none : {X : Type 0} → (X → Bool) → X → ℕ
one_or_none p x = cond (p x) 1 0

pub count_turned : {X : Type 0} (p : X → Bool) (xs : List X) → count_by p (reverse xs) ≡ count_by p xs
count_turned p xs = sum_turned (one_or_none p) xs

-- an event accepts one item at most, so a list of them is its own turn
turned_call : (member : ℕ) (call : Call) (given : Answer) → reverse (accepted_by member call given) ≡ accepted_by member call given
turned_call member (Send text) (Accepted number) = refl
turned_call member (Send text) Done = refl
turned_call member (Send text) Full = refl
turned_call member (Send text) Crashed = refl
turned_call member (Send text) VersionLimit = refl
turned_call member (Send text) BadKind = refl
turned_call member (Send text) BadMember = refl
turned_call member (Change kind) (Accepted number) = refl
turned_call member (Change kind) Done = refl
turned_call member (Change kind) Full = refl
turned_call member (Change kind) Crashed = refl
turned_call member (Change kind) VersionLimit = refl
turned_call member (Change kind) BadKind = refl
turned_call member (Change kind) BadMember = refl
turned_call member (Suspect who) given = refl
turned_call member (Trust who) given = refl
turned_call member Crash given = refl

turned_step : (member : ℕ) (o : Option PlannedStep) (given : Answer) → reverse (accepted_at member o given) ≡ accepted_at member o given
turned_step member None given = refl
turned_step member (Some s) given = turned_call member s.call given

turned_event : (plan : Planned) (e : Event) → reverse (accepted_of plan e) ≡ accepted_of plan e
turned_event plan (CallEvent thread index member given) = turned_step member (planned plan thread index) given
turned_event plan (Receive from to) = refl
turned_event plan (Release at) = refl

accepted_cons : (plan : Planned) (e : Event) (past : List Event) → accepted_in plan (e ∷ past) ≡ accepted_of plan e ++ accepted_in plan past
accepted_cons plan (CallEvent thread index member given) past = refl
accepted_cons plan (Receive from to) past = refl
accepted_cons plan (Release at) past = refl

-- the items accepted in events, in the order of the events
turned_past : (plan : Planned) (past : List Event) → reverse (accepted_in plan past) ≡ flat_map (accepted_of plan) (reverse past)
turned_past plan [] = refl
turned_past plan (e ∷ past) =
    ap reverse (accepted_cons plan e past)
    ∙ reverse-append (accepted_of plan e) (accepted_in plan past)
    ∙ ap (λ l. l ++ reverse (accepted_of plan e)) (turned_past plan past)
    ∙ ap (λ l. flat_map (accepted_of plan) (reverse past) ++ l) (turned_event plan e ∙ sym (append-nil (accepted_of plan e)))
    ∙ sym (flat_map-append (accepted_of plan) (reverse past) (e ∷ []))
    ∙ sym (ap (flat_map (accepted_of plan)) (reverse-append (e ∷ []) past))

pub accepted_turned : (plan : Planned) (past : List Event) → reverse (accepted_in plan past) ≡ flat_map (accepted_of plan) (reverse past)
accepted_turned = turned_past

-- the two lines of counts, of the events in the order in which they were made
pub counts_turned : (plan : Planned) (events : List Event) (out new : List ℕ) (members planned : ℕ) → members ≡ plan.members → planned ≡ sum_by steps_in plan.threads
    → new ≡ out ++ counts_of members planned events → new ≡ out ++ counts_text plan (reverse events)
counts_turned plan events out new members planned m p e =
    e ∙ ap (λ x. out ++ x) (ap (λ n. counts_of n planned events) m ∙ ap (λ n. counts_of plan.members n events) p ∙ sym turned)
  where
    turned : counts_of plan.members (sum_by steps_in plan.threads) (reverse events) ≡ counts_of plan.members (sum_by steps_in plan.threads) events
    turned = rw (length-reverse events, count_turned is_call events, count_turned (is_answered is_accepted) events, count_turned (is_answered is_done) events, count_turned (is_answered is_full) events, count_turned (is_answered is_crashed) events) refl
