-- How the answers of a reading exclude one another.
use Rattle.std.specs.Prelude.{ℕ, ◌≡◌, ◌≢◌, List, reverse}
use Rattle.upd_base.specs.Plan.{Planned}
use Rattle.upd_base.specs.declared.event.Event.{Event}
use Rattle.group_run.specs.Group.{Rules}
use Rattle.group_run.specs.Run.{IsGroupRun}
use Rattle.journal_file.specs.Reading.{HasWrongEvent, IsFirstFault, IsJournalText, ReadFault}
use Rattle.journal_file.specs.declared.fault.JournalFault.{JournalFault}
use Rattle.journal_file.specs.declared.fault.JournalFault.TheVariants.{NoMemory}

-- Bytes are the text of at most one plan and one list of events.
abbrev pub IsReadOneWay : Type 0
IsReadOneWay = (bytes : List ℕ) (p q : Planned) (es fs : List Event) → IsJournalText bytes p es → IsJournalText bytes q fs → (p ≡ q) × (es ≡ fs)

-- In a text of a plan and events no line is the first that isn't what the grammar wants.
abbrev pub NamesNoLine : Type 0
NamesNoLine = (bytes : List ℕ) (plan : Planned) (events : List Event) (number : ℕ) → IsJournalText bytes plan events → IsFirstFault bytes number → ⊥

-- In any bytes at most one line is.
abbrev pub NamesOneLine : Type 0
NamesOneLine = (bytes : List ℕ) (m n : ℕ) → IsFirstFault bytes m → IsFirstFault bytes n → m ≡ n

-- At most one event of a text is the first that can't be made.
abbrev pub NamesOneEvent : Type 0
NamesOneEvent = (rules : Rules) (bytes : List ℕ) (m n : ℕ) → HasWrongEvent rules bytes m → HasWrongEvent rules bytes n → m ≡ n

-- In the text of a group run no event is.
abbrev pub NamesNoEvent : Type 0
NamesNoEvent = (rules : Rules) (bytes : List ℕ) (plan : Planned) (events : List Event) (place : ℕ)
    → IsJournalText bytes plan events → IsGroupRun rules plan (reverse events) → HasWrongEvent rules bytes place → ⊥

-- Bytes have at most one fault, besides want of memory.
abbrev pub HasOneFault : Rules → List ℕ → Type 0
HasOneFault rules bytes = (f g : JournalFault) → f ≢ NoMemory → g ≢ NoMemory → ReadFault rules bytes f → ReadFault rules bytes g → f ≡ g

-- The text of a group run has no other.
abbrev pub RunHasNoFault : Rules → List ℕ → Type 0
RunHasNoFault rules bytes = (plan : Planned) (events : List Event) (f : JournalFault) → IsJournalText bytes plan events → IsGroupRun rules plan (reverse events) → ReadFault rules bytes f → f ≡ NoMemory

-- One answer is right for any bytes: the run that they are the text of, or one fault.
pub record OneAnswer (rules : Rules) (bytes : List ℕ) : Type 0 where
  pub one_fault : HasOneFault rules bytes
  pub no_fault : RunHasNoFault rules bytes

abbrev pub IsAnsweredOneWay : Type 0
IsAnsweredOneWay = (rules : Rules) (bytes : List ℕ) → OneAnswer rules bytes
