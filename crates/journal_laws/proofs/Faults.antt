-- The causes of the faults exclude one another.
use Rattle.std.proofs.Common.{ℕ, ◌≡◌, ◌<◌, ◌≤◌, ◌≢◌, List, sym, ap, refl, subst, arith, reverse, length}
use Rattle.upd_base.specs.Plan.{Planned}
use Rattle.upd_base.specs.declared.event.Event.{Event}
use Rattle.group_run.specs.Group.{Rules}
use Rattle.group_run.specs.Run.{IsGroupRun}
use Rattle.journal_file.specs.Reading.{HasWrongEvent, IsFirstWrong, IsJournalText, ReadFault}
use Rattle.journal_file.specs.declared.fault.JournalFault.{JournalFault}
use Rattle.journal_file.specs.declared.fault.JournalFault.TheVariants as faults
use Rattle.journal_file.specs.declared.limits.TheConstants.{MAX_TEXT}
use Rattle.journal_laws.specs.Laws.{OneAnswer}
use Rattle.journal_laws.proofs.Ends.{one_line}
use Rattle.journal_laws.proofs.Runs.{none_wrong, one_wrong}
use Rattle.journal_laws.proofs.Texts.{no_line, one_text}

-- a wrong event of one reading is one of the other
moved : (rules : Rules) (bytes : List ℕ) (p q : Planned) (es fs : List Event) (place : ℕ) → IsJournalText bytes p es → IsJournalText bytes q fs → IsFirstWrong rules q fs place → IsFirstWrong rules p es place
moved rules bytes p q es fs place t u w =
    let same = one_text bytes p q es fs t u in
    subst (λ (x : Planned). IsFirstWrong rules x es place) (sym same.0) (subst (λ (x : List Event). IsFirstWrong rules q x place) (sym same.1) w)

pub one_event : (rules : Rules) (bytes : List ℕ) (m n : ℕ) → HasWrongEvent rules bytes m → HasWrongEvent rules bytes n → m ≡ n
one_event rules bytes m n v w = one_wrong rules v.0 v.1 m n v.3 (moved rules bytes v.0 w.0 v.1 w.1 n v.2 w.2 w.3)

pub no_event : (rules : Rules) (bytes : List ℕ) (plan : Planned) (es : List Event) (place : ℕ) → IsJournalText bytes plan es → IsGroupRun rules plan (reverse es) → HasWrongEvent rules bytes place → ⊥
no_event rules bytes plan es place t run w = none_wrong rules plan es place run (moved rules bytes plan w.0 es w.1 place t w.2 w.3)

too_long : (bytes : List ℕ) {A : Type 0} → length bytes ≤ MAX_TEXT → MAX_TEXT < length bytes → A
too_long bytes short long = absurd (omega (arith, short, long))

pub one_fault : (rules : Rules) (bytes : List ℕ) (f g : JournalFault) → f ≢ faults.NoMemory → g ≢ faults.NoMemory → ReadFault rules bytes f → ReadFault rules bytes g → f ≡ g
one_fault rules bytes faults.TooLong faults.TooLong some more p q = refl
one_fault rules bytes faults.TooLong (faults.Line n) some more p q = too_long bytes q.short p
one_fault rules bytes faults.TooLong (faults.Event n) some more p q = too_long bytes q.2.short p
one_fault rules bytes (faults.Line m) faults.TooLong some more p q = too_long bytes p.short q
one_fault rules bytes (faults.Line m) (faults.Line n) some more p q = ap faults.Line (one_line bytes m n p q)
one_fault rules bytes (faults.Line m) (faults.Event n) some more p q = absurd (no_line bytes q.0 q.1 m q.2 p)
one_fault rules bytes (faults.Event m) faults.TooLong some more p q = too_long bytes p.2.short q
one_fault rules bytes (faults.Event m) (faults.Line n) some more p q = absurd (no_line bytes p.0 p.1 n p.2 q)
one_fault rules bytes (faults.Event m) (faults.Event n) some more p q = ap faults.Event (one_event rules bytes m n p q)
one_fault rules bytes faults.NoMemory g some more p q = absurd (some refl)
one_fault rules bytes f faults.NoMemory some more p q = absurd (more refl)

pub no_fault : (rules : Rules) (bytes : List ℕ) (plan : Planned) (es : List Event) (f : JournalFault) → IsJournalText bytes plan es → IsGroupRun rules plan (reverse es) → ReadFault rules bytes f → f ≡ faults.NoMemory
no_fault rules bytes plan es faults.TooLong t run p = too_long bytes t.short p
no_fault rules bytes plan es (faults.Line n) t run p = absurd (no_line bytes plan es n t p)
no_fault rules bytes plan es (faults.Event n) t run p = absurd (no_event rules bytes plan es n t run p)
no_fault rules bytes plan es faults.NoMemory t run p = refl

pub one_answer : (rules : Rules) (bytes : List ℕ) → OneAnswer rules bytes
one_answer rules bytes = record { one_fault = one_fault rules bytes; no_fault = no_fault rules bytes }
