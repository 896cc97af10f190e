-- A call that is said is made at once.
use Rattle.std.proofs.Common.{ℕ, zero, suc, ◌≡◌, ◌≢◌, ◌<◌, inl, inr, List, [], ◌∷◌, length, refl, sym, ◌∙◌, ap, subst, arith}
use Rattle.std.specs.Prelude.{slice_get, unwrap_or}
use Rattle.std.proofs.lemmas.List.{length-append}
use Rattle.upd_base.specs.Plan.{Planned, planned, steps_of}
use Rattle.upd_base.specs.declared.answer.Answer.{Answer}
use Rattle.upd_base.specs.declared.call.Step.{Step as PlannedStep}
use Rattle.upd_base.specs.declared.event.Event.TheVariants.{Call as CallEvent}
use Rattle.group_run.specs.Answer.{answer}
use Rattle.group_run.specs.Run.{Events, calls_made, turn_at, IsCall}
use Rattle.group_run.proofs.Lists.{eqb_self, eqb_other, same_or}
use Rattle.group_growth.specs.Growth.{AllMade, said, said_in}
use Rattle.group_growth.specs.Laws.{SaysAtOnce}
use Rattle.group_growth.proofs.Plans.{said_goes_on, said_is_open, planned_last}
use Rattle.group_growth.proofs.Alike.{enabled_on, read_same}

-- how many calls a thread has
longer_here : (threads : List (List PlannedStep)) (at : ℕ) (s : PlannedStep) → at < length threads → length (unwrap_or (slice_get (said_in at s threads) at) []) ≡ suc (length (unwrap_or (slice_get threads at) []))
longer_here [] at s h = absurd (omega arith)
longer_here (steps ∷ threads) zero s h = let l = length-append steps (s ∷ []) in omega (arith, l)
longer_here (steps ∷ threads) (suc at) s h = longer_here threads at s (omega arith)

same_there : (threads : List (List PlannedStep)) (at other : ℕ) (s : PlannedStep) → other ≢ at → unwrap_or (slice_get (said_in at s threads) other) [] ≡ unwrap_or (slice_get threads other) []
same_there [] at other s ne = refl
same_there (steps ∷ threads) zero zero s ne = absurd (ne refl)
same_there (steps ∷ threads) zero (suc other) s ne = refl
same_there (steps ∷ threads) (suc at) zero s ne = refl
same_there (steps ∷ threads) (suc at) (suc other) s ne = same_there threads at other s (λ e. ne (ap suc e))

pub made_said : (plan : Planned) (past : Events) (thread index member : ℕ) (s : PlannedStep) (given : Answer) → thread < length plan.threads → AllMade plan past
    → AllMade (said plan thread s) (CallEvent thread index member given ∷ past)
made_said plan past thread index member s given h all other = elim (same_or other thread) [
  | inl e ↦
      let here : calls_made thread (CallEvent thread index member given ∷ past) ≡ suc (calls_made thread past) = rw (eqb_self thread) refl in
      subst (λ t. calls_made t (CallEvent thread index member given ∷ past) ≡ length (steps_of (said plan thread s) t)) (sym e)
      (here ∙ ap suc (all thread) ∙ sym (longer_here plan.threads thread s h))
  | inr ne ↦
      let away : calls_made other (CallEvent thread index member given ∷ past) ≡ calls_made other past = rw (eqb_other thread other (λ e. ne (sym e))) refl in
      away ∙ all other ∙ sym (ap length (same_there plan.threads thread other s ne))
]

pub says_at_once : SaysAtOnce
says_at_once = λ rules plan past thread s given r all h p short a. record {
  run = record {
    of_plan = said_is_open plan thread s r.of_plan p;
    short = short;
    enabled = (
      subst (λ o. IsCall rules (said plan thread s) past thread (calls_made thread past) s.at given o)
          (sym (ap (planned (said plan thread s) thread) (all thread) ∙ planned_last plan thread s h))
          (record {
            next = refl;
            at = refl;
            answered = a ∙ sym (read_same rules plan (said plan thread s) past (λ g ms. answer g s.at (turn_at g ms s.at).part s.call) (said_goes_on plan thread s) r.enabled);
          }),
      enabled_on rules plan (said plan thread s) past (said_goes_on plan thread s) r.enabled,
    );
  };
  made = made_said plan past thread (calls_made thread past) s.at s given h all;
}
