-- The lines of a journal's text are each what is wanted there.
use Rattle.std.proofs.Common.{ℕ, ◌≡◌, ◌≢◌, ◌∙◌, ◌≤◌, ◌++◌, true, List, [], ◌∷◌, sym, ap, refl, subst, arith, length, append_assoc, append-nil}
use Rattle.std.specs.Prelude.{All, flat_map, map, sum_by}
use Rattle.std.specs.List.{list_all}
use Rattle.std.proofs.lemmas.Bool.{and_parts}
use Rattle.std.proofs.lemmas.Bool.Decides.{nat_tests}
use Rattle.std.proofs.lemmas.List.Elements.{All-head, All-tail}
use Rattle.std.proofs.lemmas.List.Sums.{sum_by-append, sum_by-cons}
use Rattle.upd_base.specs.Plan.{Planned, all_fit, change_count, changes_in, is_open, is_plan, plan_of, step_fits, steps_in}
use Rattle.upd_base.specs.declared.call.Step.{Step}
use Rattle.upd_base.specs.declared.event.Event.{Event}
use Rattle.upd_base.specs.declared.limits.TheConstants.{MAX_CALLS, MAX_CHANGES}
use Rattle.upd_base.proofs.PlanFacts.{plan_facts}
use Rattle.journal_file.specs.Text.{Line, event_line, event_lines, journal_lines, journal_text, last_line, step_line, text_of, thread_lines}
use Rattle.journal_file.specs.Grammar.{EventFits, Leads, TextFits, Wanted, calls_with, changes_with, event_or_end, step_or_thread, thread_or_events, with_thread}
use Rattle.journal_file.specs.Grammar.Wanted.{WantsHeading, WantsMembers, WantsFirst, WantsThreads, WantsThread, WantsEvents, WantsEnd, WantsNothing}
use Rattle.journal_file.specs.Reading.{IsJournalText, IsFirstFault, IsRefused}
use Rattle.journal_laws.proofs.Ends.{IsEnd, fault_end, one_end}
use Rattle.journal_laws.proofs.Lines.{leads_lines}

leads_append : (a b c : Wanted) (xs ys : List Line) → Leads a xs b → Leads b ys c → Leads a (xs ++ ys) c
leads_append a b c [] ys l k = subst (λ (w : Wanted). Leads w ys c) (sym l) k
leads_append a b c (x ∷ xs) ys l k = (l.0, l.1, leads_append l.0 b c xs ys l.2 k)

steps_lead : (plan : Planned) (done more : List Step) (threads : ℕ) → list_all (step_fits plan.members) more ≡ true → All (λ s. TextFits s.call) more → changes_with plan (done ++ more) ≤ MAX_CHANGES
    → Leads (step_or_thread plan done (length more) threads) (map step_line more) (thread_or_events (with_thread plan (done ++ more)) threads)
steps_lead plan done [] threads fit texts few = ap (λ (steps : List Step). thread_or_events (with_thread plan steps) threads) (sym (append-nil done))
steps_lead plan done (s ∷ more) threads fit texts few =
    let fits = and_parts (step_fits plan.members s) (list_all (step_fits plan.members) more) fit in
    let fewer : changes_with plan (done ++ s ∷ []) ≤ MAX_CHANGES =
    (let a = sum_by-append (λ x. change_count x.call) done (s ∷ []) in
    let b = sum_by-append (λ x. change_count x.call) done (s ∷ more) in
    let c = sum_by-cons (λ x. change_count x.call) s more in
    let d = sum_by-cons (λ x. change_count x.call) s [] in
    omega (arith, a, b, c, d, few)) in (
      step_or_thread plan (done ++ s ∷ []) (length more) threads,
      (s, record { fits = fits.0; text = All-head (λ x. TextFits x.call) s more texts; changes = fewer }, refl, refl),
      subst (λ (steps : List Step). Leads (step_or_thread plan (done ++ s ∷ []) (length more) threads) (map step_line more) (thread_or_events (with_thread plan steps) threads))
          (append_assoc done (s ∷ []) more)
          (steps_lead plan (done ++ s ∷ []) more threads fits.1 (All-tail (λ x. TextFits x.call) s more texts)
          (subst (λ (steps : List Step). changes_with plan steps ≤ MAX_CHANGES) (sym (append_assoc done (s ∷ []) more)) few)),
    )

threads_lead : (plan : Planned) (more : List (List Step)) → all_fit plan.members more ≡ true → All (All (λ s. TextFits s.call)) more → sum_by steps_in (plan.threads ++ more) ≤ MAX_CALLS
    → sum_by changes_in (plan.threads ++ more) ≤ MAX_CHANGES
    → Leads (thread_or_events plan (length more)) (flat_map thread_lines more) (WantsEvents (plan_of plan.members plan.first (plan.threads ++ more)))
threads_lead plan [] fit texts calls changes = ap (λ (ts : List (List Step)). WantsEvents (plan_of plan.members plan.first ts)) (sym (append-nil plan.threads))
threads_lead plan (t ∷ more) fit texts calls changes =
    let fits = and_parts (list_all (step_fits plan.members) t) (all_fit plan.members more) fit in
    let few_calls : calls_with plan (length t) ≤ MAX_CALLS =
    (let a = sum_by-append steps_in plan.threads (t ∷ more) in
    let b = sum_by-cons steps_in t more in
    omega (arith, a, b, calls)) in
    let few_changes : changes_with plan t ≤ MAX_CHANGES =
    (let a = sum_by-append changes_in plan.threads (t ∷ more) in
    let b = sum_by-cons changes_in t more in
    omega (arith, a, b, changes)) in
    let moved : plan.threads ++ t ∷ [] ++ more ≡ plan.threads ++ (t ∷ more) = append_assoc plan.threads (t ∷ []) more in
    leads_append (WantsThread plan (length more)) (thread_or_events (with_thread plan t) (length more)) (WantsEvents (plan_of plan.members plan.first (plan.threads ++ t ∷ more)))
    (thread_lines t) (flat_map thread_lines more)
    (step_or_thread plan [] (length t) (length more), (length t, few_calls, refl, refl), steps_lead plan [] t (length more) fits.0 (All-head (All (λ s. TextFits s.call)) t more texts) few_changes)
    (subst (λ (ts : List (List Step)). Leads (thread_or_events (with_thread plan t) (length more)) (flat_map thread_lines more) (WantsEvents (plan_of plan.members plan.first ts)))
    moved
    (threads_lead (with_thread plan t) more fits.1 (All-tail (All (λ s. TextFits s.call)) t more texts)
    (subst (λ (ts : List (List Step)). sum_by steps_in ts ≤ MAX_CALLS) (sym moved) calls)
    (subst (λ (ts : List (List Step)). sum_by changes_in ts ≤ MAX_CHANGES) (sym moved) changes)))

events_lead : (plan : Planned) (done more : List Event) → All EventFits more → Leads (event_or_end plan done (length more)) (map event_line more) (WantsEnd plan (done ++ more))
events_lead plan done [] fit = ap (WantsEnd plan) (sym (append-nil done))
events_lead plan done (e ∷ more) fit = (
  event_or_end plan (done ++ e ∷ []) (length more),
  (e, All-head EventFits e more fit, refl, refl),
  subst (λ (es : List Event). Leads (event_or_end plan (done ++ e ∷ []) (length more)) (map event_line more) (WantsEnd plan es)) (append_assoc done (e ∷ []) more)
      (events_lead plan (done ++ e ∷ []) more (All-tail EventFits e more fit)),
)

some_threads : (p : Planned) → is_plan p ≡ true → 1 ≤ length p.threads
unfolding is_plan is_open
some_threads p is = grind (arith, nat_tests)

text_leads : (bytes : List ℕ) (plan : Planned) (es : List Event) → IsJournalText bytes plan es → Leads WantsHeading (journal_lines plan es) (WantsNothing plan es)
text_leads bytes plan es t =
    let f = plan_facts plan t.of_plan in
    let head = plan_of plan.members plan.first [] in
    let threads = threads_lead head plan.threads f.fit t.payloads (let l = f.few_calls in omega (arith, l)) (let l = f.few_changes in omega (arith, l)) in
    let events : Leads (WantsEvents plan) (event_lines es) (WantsEnd plan es) = (event_or_end plan [] (length es), (length es, t.few, refl, refl), events_lead plan [] es t.fit) in (
      WantsMembers,
      (refl, refl),
      (
        WantsFirst plan.members,
        (plan.members, f.some, (let l = f.few in omega (arith, l)), refl, refl),
        (
          WantsThreads plan.members plan.first,
          (plan.first, f.first_fits, refl, refl),
          (
            thread_or_events head (length plan.threads),
            (length plan.threads, some_threads plan t.of_plan, (let l = f.few_threads in omega (arith, l)), refl, refl),
            leads_append (thread_or_events head (length plan.threads)) (WantsEnd plan es) (WantsNothing plan es) (flat_map thread_lines plan.threads ++ event_lines es) (last_line ∷ [])
                (leads_append (thread_or_events head (length plan.threads)) (WantsEvents plan) (WantsEnd plan es) (flat_map thread_lines plan.threads) (event_lines es) threads events)
                (WantsNothing plan es, (refl, refl), refl),
          ),
        ),
      ),
    )

-- where a text ends
text_end : (bytes : List ℕ) (plan : Planned) (es : List Event) → IsJournalText bytes plan es → IsEnd WantsHeading (journal_lines plan es) (WantsNothing plan es) [] bytes
unfolding journal_text
text_end bytes plan es t =
    let leads = text_leads bytes plan es t in
    record {
      whole = leads_lines WantsHeading (WantsNothing plan es) (journal_lines plan es) tt leads;
      leads = leads;
      stop = λ line more next is e f. f;
      text = t.text ∙ sym (append-nil (text_of (journal_lines plan es)));
    }

pub one_text : (bytes : List ℕ) (p q : Planned) (es fs : List Event) → IsJournalText bytes p es → IsJournalText bytes q fs → (p ≡ q) × (es ≡ fs)
one_text bytes p q es fs t u =
    let e = one_end WantsHeading (WantsNothing p es) (WantsNothing q fs) (journal_lines p es) (journal_lines q fs) [] [] bytes tt (text_end bytes p es t) (text_end bytes q fs u) in
    let w = e.wanted in
    ((let plan : p ≡ q = cc in plan), (let events : es ≡ fs = cc in events))

pub no_line : (bytes : List ℕ) (plan : Planned) (es : List Event) (number : ℕ) → IsJournalText bytes plan es → IsFirstFault bytes number → ⊥
no_line bytes plan es number t f =
    let e = one_end WantsHeading (WantsNothing plan es) f.wanted (journal_lines plan es) f.before [] f.rest bytes tt (text_end bytes plan es t) (fault_end bytes number f) in
    let over : [] ≢ [] = subst (λ (r : List ℕ). IsRefused (WantsNothing plan es) r) (sym e.left) (subst (λ (w : Wanted). IsRefused w f.rest) (sym e.wanted) f.refused) in
    over refl
