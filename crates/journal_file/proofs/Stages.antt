-- What the stages of a reading come to.
use Rattle.std.proofs.Common.{ℕ, suc, ◌≡◌, ◌≢◌, ◌∙◌, ◌<◌, ◌≤◌, ◌+◌, ◌++◌, List, [], ◌∷◌, sym, ap, refl, arith, true, length, Vec, Option, Some, None, Result, IfOk, IfSome, map}
use Rattle.std.specs.Prelude.{ok_or, sum_by}
use Rattle.std.proofs.lemmas.List.Sums.{sum_by_push}
use Rattle.std.specs.declared.alloc.Global.{Global}
use Rattle.upd_base.specs.Plan.{Planned, change_count, changes_in, step_fits}
use Rattle.upd_base.specs.declared.call.Step.{Step as PlannedStep}
use Rattle.upd_base.specs.declared.limits.TheConstants.{MAX_CHANGES}
use Rattle.journal_file.specs.Text.{step_line}
use Rattle.journal_file.specs.Grammar.{StepFits, Wanted, changes_with}
use Rattle.journal_file.specs.Grammar.Wanted.{WantsNothing}
use Rattle.journal_file.specs.Reading.{IsJournalText, IsLine, IsRefused}
use Rattle.journal_file.specs.Stage.{wanted_by}
use Rattle.journal_file.specs.Written.{event_written}
use Rattle.journal_file.specs.declared.limits.TheConstants.{MAX_TEXT}
use Rattle.journal_file.specs.declared.lines.Written.{Written}
use Rattle.journal_file.specs.declared.stage.Recorded.{Recorded}
use Rattle.journal_file.specs.declared.stage.Stage.{Stage}
use Rattle.journal_file.specs.declared.stage.Stage.TheVariants.{Heading, Members, First, Threads, Thread, Step, Events, Event, End, Nothing}
use Rattle.journal_file.proofs.Leading.{IsReached, no_line}
use Rattle.journal_file.proofs.Spelling.{same_changes}
use Rattle.journal_file.proofs.Whole.{read_whole}

-- one change above the most
pub too_many : (plan : Planned) (steps : List PlannedStep) (s t : PlannedStep) (line : List ℕ) (changes : ℕ) → plan.members ≤ 7 → step_fits plan.members s ≡ true → line ≡ step_line s
    → changes ≡ changes_with plan steps → MAX_CHANGES < changes + change_count s.call → StepFits plan steps t → line ≡ step_line t → ⊥
too_many plan steps s t line changes few fits is c l f q =
    let n = sum_by_push (λ x. change_count x.call) steps t in
    let e = same_changes plan.members s t line few fits f.fits is q in
    let h = f.changes in
    omega (arith, n, e, c, l, h)

-- a line is wanted, and none is left
pub not_over : (s : Stage) (rest : List ℕ) → IsLine rest → ((plan : Planned) (events : Vec Written Global) → s ≡ Nothing plan events → ⊥) → IsRefused (wanted_by s) rest
not_over Heading rest is h = λ line more next p q f. no_line rest more line is q
not_over Members rest is h = λ line more next p q f. no_line rest more line is q
not_over (First n) rest is h = λ line more next p q f. no_line rest more line is q
not_over (Threads n kind) rest is h = λ line more next p q f. no_line rest more line is q
not_over (Thread draft left) rest is h = λ line more next p q f. no_line rest more line is q
not_over (Step draft steps left threads) rest is h = λ line more next p q f. no_line rest more line is q
not_over (Events plan) rest is h = λ line more next p q f. no_line rest more line is q
not_over (Event plan events left) rest is h = λ line more next p q f. no_line rest more line is q
not_over (End plan events) rest is h = λ line more next p q f. no_line rest more line is q
not_over (Nothing plan events) rest is h = absurd (h plan events refl)

-- where no line is wanted and no byte is left, the text is whole
pub finished : {E : Type 0} (o : Option Recorded) (r : Result Recorded E) (err : E) (bytes rest : List ℕ) (number : ℕ) (w : Wanted) → length bytes ≤ MAX_TEXT → IsReached bytes number w rest → r ≡ ok_or o err
    → IfSome o (λ x. (w ≡ WantsNothing x.plan (map event_written x.events.items)) × (rest ≡ [])) → IfOk r (λ x. IsJournalText bytes x.plan (map event_written x.events.items))
finished (Some x) r err bytes rest number w s h e f = rw e (read_whole bytes rest number w x.plan (map event_written x.events.items) s h f.0 f.1)
finished None r err bytes rest number w s h e f = rw e tt
