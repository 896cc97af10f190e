-- The lines that lead to the end are those of a journal's text.
use Rattle.std.proofs.Common.{ℕ, zero, suc, ◌≡◌, ◌∙◌, ◌+◌, ◌++◌, List, [], ◌∷◌, sym, ap, refl, subst, arith, length, append_assoc, append-nil}
use Rattle.std.specs.Prelude.{flat_map, map, ◌≤◌}
use Rattle.std.proofs.lemmas.Grind.{flat_map-append}
use Rattle.std.proofs.lemmas.List.{length-append, map_push}
use Rattle.upd_base.specs.Plan.{Planned, plan_of}
use Rattle.upd_base.specs.declared.call.Step.{Step}
use Rattle.upd_base.specs.declared.event.Event.{Event}
use Rattle.journal_file.specs.Text.{Line, event_line, event_lines, events_line, first_line, heading_line, journal_text, last_line, members_line, step_line, text_of, thread_line, thread_lines, threads_line}
use Rattle.journal_file.specs.Grammar.{Wanted, Follows, Leads, event_or_end, step_or_thread, thread_or_events, with_thread}
use Rattle.journal_file.specs.Grammar.Wanted.{WantsHeading, WantsMembers, WantsFirst, WantsThreads, WantsThread, WantsStep, WantsEvents, WantsEvent, WantsEnd, WantsNothing}
use Rattle.journal_file.specs.Reading.{IsJournalText}
use Rattle.journal_file.specs.Within.{AreEvents, IsWithin}
use Rattle.journal_file.specs.declared.limits.TheConstants.{MAX_TEXT}
use Rattle.journal_file.proofs.Keeping.{leads_within}
use Rattle.journal_file.proofs.Leading.{IsReached}
use Rattle.journal_file.proofs.Sent.{leads_sent}

-- the lines of a plan's head and of its first threads, where it is to have so many
abbrev head_lines : Planned → ℕ → List Line
head_lines plan threads = heading_line ∷ members_line plan.members ∷ first_line plan.first ∷ threads_line threads ∷ flat_map thread_lines plan.threads

-- the lines that lead to what is wanted
abbrev so_far : Wanted → List Line
so_far WantsHeading = []
so_far WantsMembers = heading_line ∷ []
so_far (WantsFirst n) = heading_line ∷ members_line n ∷ []
so_far (WantsThreads n kind) = heading_line ∷ members_line n ∷ first_line kind ∷ []
so_far (WantsThread plan left) = head_lines plan (length plan.threads + suc left)
so_far (WantsStep plan steps left threads) = head_lines plan (length plan.threads + suc threads) ++ (thread_line (length steps + suc left) ∷ map step_line steps)
so_far (WantsEvents plan) = head_lines plan (length plan.threads)
so_far (WantsEvent plan es left) = head_lines plan (length plan.threads) ++ (events_line (length es + suc left) ∷ map event_line es)
so_far (WantsEnd plan es) = head_lines plan (length plan.threads) ++ event_lines es
so_far (WantsNothing plan es) = head_lines plan (length plan.threads) ++ event_lines es ++ last_line ∷ []

at_thread : (plan : Planned) (left : ℕ) → so_far (thread_or_events plan left) ≡ head_lines plan (length plan.threads + left)
at_thread plan zero = ap (head_lines plan) (let e : length plan.threads ≡ length plan.threads + 0 = omega arith in e)
at_thread plan (suc left) = refl

thread_more : (plan : Planned) (steps : List Step) (n : ℕ) → head_lines (with_thread plan steps) n ≡ head_lines plan n ++ thread_lines steps
thread_more plan steps n =
    ap (λ ls. heading_line ∷ members_line plan.members ∷ first_line plan.first ∷ threads_line n ∷ ls)
    (flat_map-append thread_lines plan.threads (steps ∷ []) ∙ ap (λ ls. flat_map thread_lines plan.threads ++ ls) (append-nil (thread_lines steps)))

at_step : (plan : Planned) (steps : List Step) (left threads : ℕ)
    → so_far (step_or_thread plan steps left threads) ≡ head_lines plan (length plan.threads + suc threads) ++ (thread_line (length steps + left) ∷ map step_line steps)
at_step plan steps zero threads =
    at_thread (with_thread plan steps) threads ∙ thread_more plan steps (length (plan.threads ++ steps ∷ []) + threads)
    ∙ (λ i. head_lines plan (count i) ++ (thread_line (sized i) ∷ map step_line steps))
  where
    count : length (plan.threads ++ steps ∷ []) + threads ≡ length plan.threads + suc threads
    count = let l = length-append plan.threads (steps ∷ []) in omega (arith, l)

    sized : length steps ≡ length steps + 0
    sized = omega arith
at_step plan steps (suc left) threads = refl

at_event : (plan : Planned) (es : List Event) (left : ℕ) → so_far (event_or_end plan es left) ≡ head_lines plan (length plan.threads) ++ (events_line (length es + left) ∷ map event_line es)
at_event plan es zero = ap (λ n. head_lines plan (length plan.threads) ++ (events_line n ∷ map event_line es)) (let e : length es ≡ length es + 0 = omega arith in e)
at_event plan es (suc left) = refl

-- a block whose first line counts the others gets one more
block_more : {A : Type 0} (f : A → Line) (count : ℕ → Line) (head : List Line) (xs : List A) (x : A) (left : ℕ)
    → head ++ (count (length (xs ++ x ∷ []) + left) ∷ map f (xs ++ x ∷ [])) ≡ head ++ (count (length xs + suc left) ∷ map f xs) ++ f x ∷ []
block_more f count head xs x left =
    (λ i. head ++ (count (n i) ∷ map_push f xs x i)) ∙ sym (append_assoc head (count (length xs + suc left) ∷ map f xs) (f x ∷ []))
  where
    n : length (xs ++ x ∷ []) + left ≡ length xs + suc left
    n = let l = length-append xs (x ∷ []) in omega (arith, l)

follows_so_far : (w : Wanted) (line : Line) (next : Wanted) → Follows w line next → so_far next ≡ so_far w ++ line ∷ []
follows_so_far WantsHeading line next f = ap so_far f.1 ∙ ap (λ l. l ∷ []) (sym f.0)
follows_so_far WantsMembers line next f = ap so_far f.4 ∙ ap (λ l. heading_line ∷ l ∷ []) (sym f.3)
follows_so_far (WantsFirst n) line next f = ap so_far f.3 ∙ ap (λ l. heading_line ∷ members_line n ∷ l ∷ []) (sym f.2)
follows_so_far (WantsThreads n kind) line next f =
    ap so_far f.4 ∙ at_thread (plan_of n kind []) f.0 ∙ ap (λ c. heading_line ∷ members_line n ∷ first_line kind ∷ threads_line c ∷ []) (let e : 0 + f.0 ≡ f.0 = omega arith in e)
    ∙ ap (λ l. heading_line ∷ members_line n ∷ first_line kind ∷ l ∷ []) (sym f.3)
follows_so_far (WantsThread plan left) line next f =
    ap so_far f.3 ∙ at_step plan [] f.0 left ∙ ap (λ c. head_lines plan (length plan.threads + suc left) ++ (thread_line c ∷ [])) (let e : 0 + f.0 ≡ f.0 = omega arith in e)
    ∙ ap (λ l. head_lines plan (length plan.threads + suc left) ++ (l ∷ [])) (sym f.2)
follows_so_far (WantsStep plan steps left threads) line next f =
    ap so_far f.3 ∙ at_step plan (steps ++ f.0 ∷ []) left threads ∙ block_more step_line thread_line (head_lines plan (length plan.threads + suc threads)) steps f.0 left
    ∙ ap (λ l. so_far (WantsStep plan steps left threads) ++ l ∷ []) (sym f.2)
follows_so_far (WantsEvents plan) line next f =
    ap so_far f.3 ∙ at_event plan [] f.0 ∙ ap (λ c. head_lines plan (length plan.threads) ++ (events_line c ∷ [])) (let e : 0 + f.0 ≡ f.0 = omega arith in e)
    ∙ ap (λ l. head_lines plan (length plan.threads) ++ (l ∷ [])) (sym f.2)
follows_so_far (WantsEvent plan es left) line next f =
    ap so_far f.3 ∙ at_event plan (es ++ f.0 ∷ []) left ∙ block_more event_line events_line (head_lines plan (length plan.threads)) es f.0 left
    ∙ ap (λ l. so_far (WantsEvent plan es left) ++ l ∷ []) (sym f.2)
follows_so_far (WantsEnd plan es) line next f = ap so_far f.1 ∙ ap (λ l. so_far (WantsEnd plan es) ++ l ∷ []) (sym f.0)
follows_so_far (WantsNothing plan es) line next f = absurd f

leads_so_far : (from to : Wanted) (lines : List Line) → Leads from lines to → so_far to ≡ so_far from ++ lines
leads_so_far from to [] l = ap so_far (sym l) ∙ sym (append-nil (so_far from))
leads_so_far from to (line ∷ lines) l =
    leads_so_far l.0 to lines l.2 ∙ ap (λ ls. ls ++ lines) (follows_so_far from line l.0 l.1) ∙ append_assoc (so_far from) (line ∷ []) lines

whole : (bytes rest : List ℕ) (number : ℕ) (plan : Planned) (es : List Event) → length bytes ≤ MAX_TEXT → IsReached bytes number (WantsNothing plan es) rest → rest ≡ [] → IsJournalText bytes plan es
unfolding journal_text
whole bytes rest number plan es s r e =
    let within : IsWithin (WantsNothing plan es) = leads_within WantsHeading (WantsNothing plan es) r.before tt r.leads in
    record {
      short = s;
      of_plan = within.of_plan;
      payloads = leads_sent WantsHeading (WantsNothing plan es) r.before tt r.leads;
      few = let h = within.few in omega (arith, h);
      fit = within.fit;
      text = r.text ∙ ap (λ x. text_of r.before ++ x) e ∙ append-nil (text_of r.before) ∙ ap text_of (sym (leads_so_far WantsHeading (WantsNothing plan es) r.before r.leads));
    }

-- where no line more is wanted and no byte is left, the bytes are a journal's text
pub read_whole : (bytes rest : List ℕ) (number : ℕ) (w : Wanted) (plan : Planned) (es : List Event) → length bytes ≤ MAX_TEXT → IsReached bytes number w rest → w ≡ WantsNothing plan es → rest ≡ []
    → IsJournalText bytes plan es
read_whole bytes rest number w plan es s r q e = whole bytes rest number plan es s (subst (λ (x : Wanted). IsReached bytes number x rest) q r) e
