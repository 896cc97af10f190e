-- From the bytes of a journal's text that were read to all that the source had.
use Rattle.std.proofs.Common.{ℕ, zero, suc, ◌+◌, ◌≡◌, ◌≢◌, ◌<◌, ◌≤◌, ◌⊎◌, inl, inr, List, [], ◌∷◌, length, take, Option, Some, None, IfSome, refl, sym, ap, ◌∙◌, subst, arith, reverse}
use Rattle.upd_base.specs.Plan.{Planned}
use Rattle.upd_base.specs.declared.event.Event.{Event}
use Rattle.upd_io.specs.Whole.{ReadUpTo}
use Rattle.group_run.specs.Run.{IsGroupRun}
use Rattle.journal_laws.specs.Laws.{IsAnsweredOneWay}
use Rattle.journal_file.specs.Reading.{HasWrongEvent, IsFirstFault, IsJournalText, ReadFault}
use Rattle.journal_file.specs.declared.fault.JournalFault.{JournalFault}
use Rattle.journal_file.specs.declared.fault.JournalFault.TheVariants as faults
use Rattle.journal_file.specs.declared.limits.TheConstants.{MAX_TEXT}
use Rattle.top_calls.specs.Causes.{OrMemory}
use Rattle.top_calls.specs.Checked.{IsOfCheck, IsWritten, JournalCause, journal_refused}
use Rattle.program_texts.specs.Rules.{the_rules}
use Rattle.program_texts.specs.declared.status.Status.{Status}
use Rattle.program_texts.specs.declared.status.Status.TheVariants as statuses

-- fewer bytes than were asked for are all
all_taken : (k : ℕ) (all : List ℕ) → length (take (suc k) all) ≤ k → take (suc k) all ≡ all
all_taken k [] le = refl
all_taken zero (x ∷ xs) le = absurd (omega (arith, le))
all_taken (suc k) (x ∷ xs) le = ap (λ l. x ∷ l) (all_taken k xs (omega (arith, le)))

whole : (bytes all : List ℕ) → bytes ≡ take (MAX_TEXT + 1) all → length bytes ≤ MAX_TEXT → bytes ≡ all
whole bytes all is short =
    let next : MAX_TEXT + 1 ≡ suc MAX_TEXT = omega arith in
    let front : bytes ≡ take (suc MAX_TEXT) all = is ∙ ap (λ k. take k all) next in
    front ∙ all_taken MAX_TEXT all (subst (λ l. length l ≤ MAX_TEXT) front short)

taken_fewer : (k : ℕ) (all : List ℕ) → length (take k all) ≤ length all
taken_fewer zero all = omega arith
taken_fewer (suc k) [] = omega arith
taken_fewer (suc k) (x ∷ xs) = omega (arith, taken_fewer k xs)

fault_of_all : (bytes all : List ℕ) (f : JournalFault) → bytes ≡ take (MAX_TEXT + 1) all → ReadFault the_rules bytes f → ReadFault the_rules all f
fault_of_all bytes all faults.TooLong is more =
    let fewer : length bytes ≤ length all = subst (λ l. length l ≤ length all) (sym is) (taken_fewer (MAX_TEXT + 1) all) in
    let long : MAX_TEXT < length bytes = more in
    omega (arith, fewer, long)
fault_of_all bytes all (faults.Line number) is first = subst (λ l. IsFirstFault l number) (whole bytes all is first.short) first
fault_of_all bytes all (faults.Event place) is wrong = subst (λ l. HasWrongEvent the_rules l place) (whole bytes all is wrong.2.short) wrong
fault_of_all bytes all faults.NoMemory is free = tt

pub journal_read : (old new : Option (List ℕ)) (bytes : List ℕ) (plan : Planned) (events : List Event) → ReadUpTo old new MAX_TEXT bytes → IsJournalText bytes plan events
    → IfSome old (λ all. IsJournalText all plan events)
journal_read None new bytes plan events read is = tt
journal_read (Some all) new bytes plan events read is = subst (λ l. IsJournalText l plan events) (whole bytes all read.given is.short) is

pub journal_fault : (old new : Option (List ℕ)) (bytes : List ℕ) (f : JournalFault) (before now : ℕ) → ReadUpTo old new MAX_TEXT bytes → ReadFault the_rules bytes f → JournalCause (journal_refused f) before now old
journal_fault None new bytes faults.TooLong before now read is = (tt, tt)
journal_fault None new bytes (faults.Line number) before now read is = (tt, tt)
journal_fault None new bytes (faults.Event place) before now read is = tt
journal_fault old new bytes faults.NoMemory before now read is = tt
journal_fault (Some all) new bytes faults.TooLong before now read is = (tt, fault_of_all bytes all faults.TooLong read.given is)
journal_fault (Some all) new bytes (faults.Line number) before now read is = (tt, fault_of_all bytes all (faults.Line number) read.given is)
journal_fault (Some all) new bytes (faults.Event place) before now read is = fault_of_all bytes all (faults.Event place) read.given is

-- What is told where the bytes are a text, or have a fault -------------------------------------------------------------

pub text_told : (status : Status) (before now : ℕ) (old : Option (List ℕ)) → IsAnsweredOneWay → JournalCause status before now old
    → IfSome old (λ all. (p : Planned) (es : List Event) → IsJournalText all p es → IsGroupRun the_rules p (reverse es) → IsWritten status ⊎ (status ≡ statuses.SourceFailed))
text_told status before now None law cause = tt
text_told statuses.SourceFailed before now (Some all) law cause = λ p es text run. inr refl
text_told (statuses.NotARun place) before now (Some all) law cause = λ p es text run. absurd (let e = (law the_rules all).no_fault p es (faults.Event place) text run cause in cc)
text_told (statuses.JournalRefused faults.TooLong) before now (Some all) law cause = λ p es text run. absurd (let e = (law the_rules all).no_fault p es faults.TooLong text run cause.1 in cc)
text_told (statuses.JournalRefused (faults.Line number)) before now (Some all) law cause = λ p es text run. absurd (let e = (law the_rules all).no_fault p es (faults.Line number) text run cause.1 in cc)
text_told (statuses.JournalRefused (faults.Event place)) before now (Some all) law cause = absurd cause.0
text_told (statuses.JournalRefused faults.NoMemory) before now (Some all) law cause = absurd cause.0
text_told statuses.NoMemory before now (Some all) law cause = λ p es text run. inl (inr (inr refl))
text_told statuses.Words before now (Some all) law cause = absurd cause
text_told statuses.Done before now (Some all) law cause = absurd cause
text_told statuses.SinkFailed before now (Some all) law cause = absurd cause
text_told (statuses.Scenario fault) before now (Some all) law cause = absurd cause
text_told statuses.TurnsSpent before now (Some all) law cause = absurd cause
text_told (statuses.LineDown from to) before now (Some all) law cause = absurd cause
text_told (statuses.LineLied from to at put got) before now (Some all) law cause = absurd cause

same_told : (all : List ℕ) (f g : JournalFault) → IsAnsweredOneWay → f ≢ faults.NoMemory → g ≢ faults.NoMemory → ReadFault the_rules all f → ReadFault the_rules all g → journal_refused g ≡ journal_refused f
same_told all f g law one other first second = ap (λ h. journal_refused h) ((law the_rules all).one_fault g f other one second first)

pub fault_told : (status : Status) (before now : ℕ) (old : Option (List ℕ)) → IsAnsweredOneWay → JournalCause status before now old
    → IfSome old (λ all. (f : JournalFault) → f ≢ faults.NoMemory → ReadFault the_rules all f → OrMemory status (journal_refused f) ⊎ (status ≡ statuses.SourceFailed))
fault_told status before now None law cause = tt
fault_told statuses.SourceFailed before now (Some all) law cause = λ f some read. inr refl
fault_told (statuses.NotARun place) before now (Some all) law cause = λ f some read. inl (inl (same_told all f (faults.Event place) law some (λ e. cc) read cause))
fault_told (statuses.JournalRefused faults.TooLong) before now (Some all) law cause = λ f some read. inl (inl (same_told all f faults.TooLong law some (λ e. cc) read cause.1))
fault_told (statuses.JournalRefused (faults.Line number)) before now (Some all) law cause = λ f some read. inl (inl (same_told all f (faults.Line number) law some (λ e. cc) read cause.1))
fault_told (statuses.JournalRefused (faults.Event place)) before now (Some all) law cause = absurd cause.0
fault_told (statuses.JournalRefused faults.NoMemory) before now (Some all) law cause = absurd cause.0
fault_told statuses.NoMemory before now (Some all) law cause = λ f some read. inl (inr refl)
fault_told statuses.Words before now (Some all) law cause = absurd cause
fault_told statuses.Done before now (Some all) law cause = absurd cause
fault_told statuses.SinkFailed before now (Some all) law cause = absurd cause
fault_told (statuses.Scenario fault) before now (Some all) law cause = absurd cause
fault_told statuses.TurnsSpent before now (Some all) law cause = absurd cause
fault_told (statuses.LineDown from to) before now (Some all) law cause = absurd cause
fault_told (statuses.LineLied from to at put got) before now (Some all) law cause = absurd cause

-- a text that was read has no fault
pub none_told : (status : Status) (old : Option (List ℕ)) (p : Planned) (es : List Event) → IsAnsweredOneWay → IsGroupRun the_rules p (reverse es) → IfSome old (λ all. IsJournalText all p es)
    → IfSome old (λ all. (f : JournalFault) → f ≢ faults.NoMemory → ReadFault the_rules all f → OrMemory status (journal_refused f) ⊎ (status ≡ statuses.SourceFailed))
none_told status None p es law run text = tt
none_told status (Some all) p es law run text = λ f some read. absurd (some ((law the_rules all).no_fault p es f text run read))

-- and its run is told
pub written_told : (status : Status) (old : Option (List ℕ)) → IsWritten status
    → IfSome old (λ all. (p : Planned) (es : List Event) → IsJournalText all p es → IsGroupRun the_rules p (reverse es) → IsWritten status ⊎ (status ≡ statuses.SourceFailed))
written_told status None written = tt
written_told status (Some all) written = λ p es text run. inl written

-- Refusals ------------------------------------------------------------------------------------------------------------

-- want of memory may take the place of what was to be told
pub told_cause : (given status : Status) (before now : ℕ) (old : Option (List ℕ)) → JournalCause given before now old → OrMemory status given → JournalCause status before now old
told_cause given status before now old cause (inl e) = subst (λ (s : Status). JournalCause s before now old) (sym e) cause
told_cause given status before now old cause (inr e) = subst (λ (s : Status). JournalCause s before now old) (sym e) tt

-- the status of what was not read is a refusal, or want of memory
pub is_of_check : (given : Status) (before now : ℕ) (old : Option (List ℕ)) → JournalCause given before now old → IsOfCheck given
is_of_check statuses.SourceFailed before now old cause = tt
is_of_check (statuses.NotARun place) before now old cause = tt
is_of_check (statuses.JournalRefused fault) before now old cause = tt
is_of_check statuses.NoMemory before now old cause = tt
is_of_check statuses.Words before now old cause = absurd cause
is_of_check statuses.Done before now old cause = absurd cause
is_of_check statuses.SinkFailed before now old cause = absurd cause
is_of_check (statuses.Scenario fault) before now old cause = absurd cause
is_of_check statuses.TurnsSpent before now old cause = absurd cause
is_of_check (statuses.LineDown from to) before now old cause = absurd cause
is_of_check (statuses.LineLied from to at put got) before now old cause = absurd cause
