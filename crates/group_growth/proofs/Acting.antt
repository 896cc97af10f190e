-- Acts are a run of their plan.
use Rattle.std.proofs.Common.{ℕ, zero, suc, ◌≡◌, ◌<◌, ◌^◌, true, List, [], ◌∷◌, ◌++◌, length, refl, sym, ◌∙◌, ap, subst, arith, Option, Some, None, lit<}
use Rattle.std.specs.Prelude.{slice_get, unwrap_or, nat_lt}
use Rattle.std.proofs.lemmas.Bool.{and_parts}
use Rattle.upd_base.specs.Plan.{Planned, planned, step_in, all_fit, step_fits, call_fits}
use Rattle.upd_base.specs.declared.kind.Kind.{Kind}
use Rattle.upd_base.specs.declared.call.Step.{Step as PlannedStep}
use Rattle.upd_base.proofs.Fits.{nat_lt-true}
use Rattle.group_run.specs.Group.{Rules}
use Rattle.upd_base.specs.declared.event.Event.TheVariants.{Call as CallEvent, Receive, Release}
use Rattle.fifo_net.specs.Net.{IsPrefix}
use Rattle.group_run.specs.Run.{IsGroupRun, calls_made, log_in}
use Rattle.group_growth.specs.Growth.{GoesOn, said}
use Rattle.group_growth.specs.Acts.{Says, Receives, Releases, Acts, no_calls, unplanned, plan_of, past_of, Follow}
use Rattle.group_growth.specs.Laws.{IsGroup, IsOpenRun, ActsAreRuns, BeginningsFollow, ActsGoOn, MoreActsGoOn, RestIsSettled, OpenLogsGrow}
use Rattle.group_growth.proofs.Plans.{opens, said_goes_on, many_said}
use Rattle.group_growth.proofs.Saying.{says_at_once}
use Rattle.group_growth.proofs.Logs.{logs_grow_on}

-- The plan of acts --------------------------------------------------------------------------------------------------

members_of : (n : ℕ) (first : Kind) (acts : Acts) → (plan_of n first acts).members ≡ n
members_of n first [] = refl
members_of n first (Says s given ∷ acts) = members_of n first acts
members_of n first (Receives from to ∷ acts) = members_of n first acts
members_of n first (Releases at ∷ acts) = members_of n first acts

pub first_of : (n : ℕ) (first : Kind) (acts : Acts) → (plan_of n first acts).first ≡ first
first_of n first [] = refl
first_of n first (Says s given ∷ acts) = first_of n first acts
first_of n first (Receives from to ∷ acts) = first_of n first acts
first_of n first (Releases at ∷ acts) = first_of n first acts

many_none : (n : ℕ) → length (no_calls n) ≡ n
many_none zero = refl
many_none (suc n) = ap suc (many_none n)

threads_of : (n : ℕ) (first : Kind) (acts : Acts) → length (plan_of n first acts).threads ≡ n
threads_of n first [] = many_none n
threads_of n first (Says s given ∷ acts) = many_said (plan_of n first acts).threads s.at s ∙ threads_of n first acts
threads_of n first (Receives from to ∷ acts) = threads_of n first acts
threads_of n first (Releases at ∷ acts) = threads_of n first acts

fit_none : (n k : ℕ) → all_fit n (no_calls k) ≡ true
fit_none n zero = refl
fit_none n (suc k) = fit_none n k

none_planned : (n thread : ℕ) → unwrap_or (slice_get (no_calls n) thread) [] ≡ []
none_planned zero thread = refl
none_planned (suc n) zero = refl
none_planned (suc n) (suc thread) = none_planned n thread

length_past : (acts : Acts) → length (past_of acts) ≡ length acts
length_past [] = refl
length_past (Says s given ∷ acts) = ap suc (length_past acts)
length_past (Receives from to ∷ acts) = ap suc (length_past acts)
length_past (Releases at ∷ acts) = ap suc (length_past acts)

-- Runs --------------------------------------------------------------------------------------------------------------

acts_run : (rules : Rules) (n : ℕ) (first : Kind) (acts : Acts) → IsGroup n first → length acts < 2 ^ 30 → Follow rules n first acts → IsOpenRun rules n first acts
acts_run rules n first [] g short f = record {
  run = record {
    of_plan = let m = many_none n in let a = g.some in let b = g.few in opens (unplanned n first) g.some g.few g.fits (omega arith) (omega arith) (fit_none n n);
    short = lit< tt;
    enabled = tt;
  };
  made = λ thread. sym (ap length (none_planned n thread));
}
acts_run rules n first (Says s given ∷ acts) g short f =
    let r = acts_run rules n first acts g (omega arith) f.1 in
    let plan : Planned = plan_of n first acts in
    let m = members_of n first acts in
    let t = threads_of n first acts in
    let fits : step_fits plan.members s ≡ true = subst (λ k. step_fits k s ≡ true) (sym m) f.0.fits in
    let below : s.at < n = nat_lt-true s.at n (and_parts (nat_lt s.at n) (call_fits n s.at s.call) f.0.fits).0 in
    let l = length_past acts in
    let next = says_at_once rules plan (past_of acts) s.at s given r.run r.made (omega arith) fits (omega arith) f.0.answered in
    record { run = next.run; made = next.made }
acts_run rules n first (Receives from to ∷ acts) g short f =
    let r = acts_run rules n first acts g (omega arith) f.1 in
    let l = length_past acts in
    record {
      run = record { of_plan = r.run.of_plan; short = omega arith; enabled = (f.0, r.run.enabled) };
      made = r.made;
    }
acts_run rules n first (Releases at ∷ acts) g short f =
    let r = acts_run rules n first acts g (omega arith) f.1 in
    let l = length_past acts in
    record {
      run = record { of_plan = r.run.of_plan; short = omega arith; enabled = (f.0, r.run.enabled) };
      made = r.made;
    }

pub acts_are_runs : ActsAreRuns
acts_are_runs = λ rules n first acts g short f. acts_run rules n first acts g short f

follow_before : (rules : Rules) (n : ℕ) (first : Kind) (later acts : Acts) → Follow rules n first (later ++ acts) → Follow rules n first acts
follow_before rules n first [] acts f = f
follow_before rules n first (act ∷ later) acts f = follow_before rules n first later acts f.1

pub beginnings_follow : BeginningsFollow
beginnings_follow = λ rules n first later acts f. follow_before rules n first later acts f

-- More acts ---------------------------------------------------------------------------------------------------------

goes_on_self : (p : Planned) → GoesOn p p
goes_on_self p = record { members = refl; first = refl; calls = λ thread index s e. e }

goes_on_trans : (p q r : Planned) → GoesOn p q → GoesOn q r → GoesOn p r
goes_on_trans p q r a b = record {
  members = b.members ∙ a.members;
  first = b.first ∙ a.first;
  calls = λ thread index s e. b.calls thread index s (a.calls thread index s e);
}

more_acts : (n : ℕ) (first : Kind) (later acts : Acts) → ActsGoOn n first later acts
more_acts n first [] acts = record { plan = goes_on_self (plan_of n first acts); newer = []; past = refl }
more_acts n first (Says s given ∷ later) acts =
    let r = more_acts n first later acts in
    record {
      plan = goes_on_trans (plan_of n first acts) (plan_of n first (later ++ acts)) (said (plan_of n first (later ++ acts)) s.at s) r.plan (said_goes_on (plan_of n first (later ++ acts)) s.at s);
      newer = CallEvent s.at (calls_made s.at (past_of (later ++ acts))) s.at given ∷ r.newer;
      past = ap (λ past. CallEvent s.at (calls_made s.at (past_of (later ++ acts))) s.at given ∷ past) r.past;
    }
more_acts n first (Receives from to ∷ later) acts =
    let r = more_acts n first later acts in record { plan = r.plan; newer = Receive from to ∷ r.newer; past = ap (λ past. Receive from to ∷ past) r.past }
more_acts n first (Releases at ∷ later) acts =
    let r = more_acts n first later acts in record { plan = r.plan; newer = Release at ∷ r.newer; past = ap (λ past. Release at ∷ past) r.past }

pub more_acts_go_on : MoreActsGoOn
more_acts_go_on = λ n first later acts. more_acts n first later acts

-- At rest -----------------------------------------------------------------------------------------------------------

past_end : {A : Type 0} (xs : List A) → slice_get xs (length xs) ≡ None
past_end [] = refl
past_end (x ∷ xs) = past_end xs

none_left : (o : Option (List PlannedStep)) → step_in o (length (unwrap_or o [])) ≡ None
none_left None = refl
none_left (Some steps) = past_end steps

pub rest_is_settled : RestIsSettled
rest_is_settled = λ rules n first acts r rest. record {
  calls = λ thread.
      let plan : Planned = plan_of n first acts in
      ap (planned plan thread) (r.made thread) ∙ none_left (slice_get plan.threads thread);
  receipts = rest.receipts;
  releases = rest.releases;
}

pub open_logs_grow : OpenLogsGrow
open_logs_grow = λ rules k n first s later acts old new i hi.
    let a = more_acts n first later acts in
    let p : Planned = plan_of n first acts in
    let q : Planned = plan_of n first (later ++ acts) in
    let m = members_of n first acts in
    let run = subst (λ past. IsGroupRun rules q past) a.past new.run in
    subst (λ past. IsPrefix (log_in rules p (past_of acts) i) (log_in rules q past i)) (sym a.past)
    (logs_grow_on rules k p q a.plan (ap rules.serves (first_of n first acts) ∙ s) a.newer (past_of acts) old.run run i (omega arith))
