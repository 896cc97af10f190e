-- What is read keeps its limits.
use Rattle.std.proofs.Common.{ℕ, zero, suc, ◌≡◌, ◌∙◌, ◌<◌, ◌≤◌, ◌+◌, ◌-◌, ◌++◌, ◌&&◌, Bool, true, List, [], ◌∷◌, sym, ap, refl, subst, arith, length}
use Rattle.std.specs.Prelude.{sum_by}
use Rattle.std.specs.List.{list_all}
use Rattle.std.proofs.lemmas.Grind.{common_steps}
use Rattle.std.proofs.lemmas.Bool.Decides.{nat_tests}
use Rattle.std.proofs.lemmas.List.{length-append}
use Rattle.std.proofs.lemmas.List.Sums.{sum_by_push}
use Rattle.std.proofs.lemmas.List.Folds.{list_all-append}
use Rattle.std.proofs.lemmas.List.Elements.{All-nil, All-push}
use Rattle.upd_base.specs.Plan.{Planned, all_fit, bound, change_count, changes_in, is_open, is_plan, plan_of, step_fits, steps_in}
use Rattle.upd_base.specs.declared.call.Step.{Step}
use Rattle.upd_base.specs.declared.event.Event.{Event}
use Rattle.upd_base.specs.declared.limits.TheConstants.{MAX_CALLS, MAX_CHANGES}
use Rattle.upd_base.proofs.PlanFacts.{plan_facts}
use Rattle.journal_file.specs.Text.{Line}
use Rattle.journal_file.specs.Grammar.{Wanted, EventFits, Follows, Leads, calls_with, changes_with, event_or_end, step_or_thread, thread_or_events, with_thread}
use Rattle.journal_file.specs.Grammar.Wanted.{WantsHeading, WantsMembers, WantsFirst, WantsThreads, WantsThread, WantsStep, WantsEvents, WantsEvent, WantsEnd, WantsNothing}
use Rattle.journal_file.specs.Within.{AreEvents, AreNext, IsFront, IsWithin}

is_plan_of : (plan : Planned) → IsFront plan 0 → 1 ≤ length plan.threads → is_plan plan ≡ true
unfolding is_plan is_open
is_plan_of plan f one =
    let a = f.some in
    let b = f.few in
    let c = f.first_fits in
    let d = f.fit in
    let e = f.few_threads in
    let g = f.few_calls in
    let h = f.few_changes in
    grind (arith, common_steps, nat_tests)

-- both tests hold
both : (a b : Bool) → a ≡ true → b ≡ true → (a && b) ≡ true
both a b p q = grind arith

all_more : {A : Type 0} (test : A → Bool) (xs : List A) (x : A) → list_all test xs ≡ true → test x ≡ true → list_all test (xs ++ x ∷ []) ≡ true
all_more test xs x h k = list_all-append test xs (x ∷ []) ∙ both (list_all test xs) (list_all test (x ∷ [])) h (both (test x) true k refl)

-- one thread more
front_more : (plan : Planned) (steps : List Step) (left : ℕ) → IsFront plan (suc left) → AreNext plan steps 0 → IsFront (with_thread plan steps) left
front_more plan steps left f a = record {
  some = f.some;
  few = f.few;
  first_fits = f.first_fits;
  fit = all_more (list_all (step_fits plan.members)) plan.threads steps f.fit a.fit;
  few_threads = let l = length-append plan.threads (steps ∷ []) in let h = f.few_threads in omega (arith, l, h);
  few_calls = let l = sum_by_push steps_in plan.threads steps in let h = a.few_calls in omega (arith, l, h);
  few_changes = let l = sum_by_push changes_in plan.threads steps in let h = a.few_changes in omega (arith, l, h);
}

within_threads : (plan : Planned) (left : ℕ) → IsFront plan left → 1 ≤ length plan.threads + left → IsWithin (thread_or_events plan left)
within_threads plan zero f one = is_plan_of plan f (omega (arith, one))
within_threads plan (suc left) f one = f

within_steps : (plan : Planned) (steps : List Step) (left threads : ℕ) → IsFront plan (suc threads) → AreNext plan steps left → IsWithin (step_or_thread plan steps left threads)
within_steps plan steps zero threads f a =
    within_threads (with_thread plan steps) threads (front_more plan steps threads f a) (let l = length-append plan.threads (steps ∷ []) in omega (arith, l))
within_steps plan steps (suc left) threads f a = (f, a)

within_events : (plan : Planned) (es : List Event) (left : ℕ) → AreEvents plan es left → IsWithin (event_or_end plan es left)
within_events plan es zero a = a
within_events plan es (suc left) a = a

pub follows_within : (w : Wanted) (line : Line) (next : Wanted) → IsWithin w → Follows w line next → IsWithin next
follows_within WantsHeading line next h f = subst IsWithin (sym f.1) tt
follows_within WantsMembers line next h f = subst IsWithin (sym f.4) (f.1, f.2)
follows_within (WantsFirst n) line next h f = subst IsWithin (sym f.3) (h.0, h.1, f.1)
follows_within (WantsThreads n kind) line next h f =
    subst IsWithin (sym f.4) (within_threads (plan_of n kind []) f.0
    (record { some = h.0; few = h.1; first_fits = h.2; fit = refl; few_threads = let l = f.2 in omega (arith, l); few_calls = omega arith; few_changes = omega arith })
    (let l = f.1 in omega (arith, l)))
follows_within (WantsThread plan left) line next h f =
    subst IsWithin (sym f.3) (within_steps plan [] f.0 left h
    (record { fit = refl; few_calls = let l = f.1 in omega (arith, l); few_changes = let l = h.few_changes in omega (arith, l) }))
follows_within (WantsStep plan steps left threads) line next h f =
    subst IsWithin (sym f.3) (within_steps plan (steps ++ f.0 ∷ []) left threads h.0
    (record {
      fit = all_more (step_fits plan.members) steps f.0 h.1.fit f.1.fits;
      few_calls = let l = length-append steps (f.0 ∷ []) in let k = h.1.few_calls in omega (arith, l, k);
      few_changes = f.1.changes;
    }))
follows_within (WantsEvents plan) line next h f =
    subst IsWithin (sym f.3) (within_events plan [] f.0 (record { of_plan = h; few = let l = f.1 in omega (arith, l); fit = All-nil EventFits }))
follows_within (WantsEvent plan es left) line next h f =
    subst IsWithin (sym f.3) (within_events plan (es ++ f.0 ∷ []) left
    (record {
      of_plan = h.of_plan;
      few = let l = length-append es (f.0 ∷ []) in let k = h.few in omega (arith, l, k);
      fit = All-push EventFits es f.0 h.fit f.1;
    }))
follows_within (WantsEnd plan es) line next h f = subst IsWithin (sym f.1) h
follows_within (WantsNothing plan es) line next h f = absurd f

pub leads_within : (from to : Wanted) (lines : List Line) → IsWithin from → Leads from lines to → IsWithin to
leads_within from to [] h l = subst IsWithin l h
leads_within from to (line ∷ lines) h l = leads_within l.0 to lines (follows_within from line l.0 h l.1) l.2

-- At the stages -----------------------------------------------------------------------------------------------

-- a thread's line was read
pub thread_within : (plan : Planned) (steps : List Step) (count left most calls : ℕ) → IsFront plan (suc left) → calls ≡ sum_by steps_in plan.threads → most ≡ MAX_CALLS - calls → count ≤ most → steps ≡ []
    → IsWithin (step_or_thread plan steps count left)
thread_within plan steps count left most calls f c m l e =
    subst (λ (xs : List Step). IsWithin (step_or_thread plan xs count left)) (sym e)
    (within_steps plan [] count left f
    (record { fit = refl; few_calls = let h = f.few_calls in omega (arith, c, m, l, h); few_changes = let h = f.few_changes in omega (arith, h) }))

-- a step's line was read
pub step_within : (plan : Planned) (steps more : List Step) (s : Step) (left threads changes : ℕ) → IsFront plan (suc threads) → AreNext plan steps (suc left) → more ≡ steps ++ s ∷ []
    → step_fits plan.members s ≡ true → changes ≡ changes_with plan steps → changes + change_count s.call ≤ MAX_CHANGES → IsWithin (step_or_thread plan more left threads)
step_within plan steps more s left threads changes f a e fits c l =
    subst (λ (xs : List Step). IsWithin (step_or_thread plan xs left threads)) (sym e)
    (within_steps plan (steps ++ s ∷ []) left threads f
    (record {
      fit = all_more (step_fits plan.members) steps s a.fit fits;
      few_calls = let n = length-append steps (s ∷ []) in let h = a.few_calls in omega (arith, n, h);
      few_changes = let n = sum_by_push (λ x. change_count x.call) steps s in omega (arith, n, c, l);
    }))

few_calls : (plan : Planned) (left : ℕ) → IsWithin (thread_or_events plan left) → sum_by steps_in plan.threads ≤ MAX_CALLS
few_calls plan zero w = (plan_facts plan w).few_calls
few_calls plan (suc left) w = w.few_calls

-- the calls of a thread whose steps are all read
pub calls_within : (plan : Planned) (steps : List Step) (left threads : ℕ) → left ≤ 0 → IsWithin (step_or_thread plan steps left threads) → calls_with plan (length steps) ≤ MAX_CALLS
calls_within plan steps zero threads l w =
    let n = sum_by_push steps_in plan.threads steps in
    let h = few_calls (with_thread plan steps) threads w in
    omega (arith, n, h)
calls_within plan steps (suc left) threads l w = absurd (omega (arith, l))
