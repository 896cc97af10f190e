-- What `check` and `gen` come to.
use Rattle.std.specs.Prelude.{ℕ, ◌≡◌, ◌⊎◌, List, Option, IfSome}
use Rattle.std.specs.Io.KnownBytes.{Appends, Keeps}
use Rattle.upd_base.specs.Edge.{Rose}
use Rattle.upd_base.specs.declared.edge.EdgeFault.{EdgeFault}
use Rattle.upd_base.specs.declared.edge.EdgeFault.TheVariants.{Failed, NoMemory}
use Rattle.upd_base.specs.Plan.{Planned}
use Rattle.upd_io.specs.Whole.{AppendsLess}
use Rattle.group_run.specs.Run.{Events}
use Rattle.journal_file.specs.Reading.{HasWrongEvent, ReadFault}
use Rattle.journal_file.specs.declared.fault.JournalFault.{JournalFault}
use Rattle.journal_file.specs.declared.fault.JournalFault.TheVariants as journal_faults
use Rattle.program_texts.specs.Rules.{the_rules}
use Rattle.program_texts.specs.Texts.{checked_text}
use Rattle.program_texts.specs.declared.status.Status.{Status}
use Rattle.program_texts.specs.declared.status.Status.TheVariants as statuses

-- the status of a refused journal text
abbrev pub journal_refused : JournalFault → Status
journal_refused journal_faults.TooLong = statuses.JournalRefused journal_faults.TooLong
journal_refused (journal_faults.Line number) = statuses.JournalRefused (journal_faults.Line number)
journal_refused (journal_faults.Event place) = statuses.NotARun place
journal_refused journal_faults.NoMemory = statuses.NoMemory

-- a fault of the text alone
abbrev pub IsOfText : JournalFault → Type 0
IsOfText journal_faults.TooLong = Unit {0}
IsOfText (journal_faults.Line number) = Unit {0}
IsOfText (journal_faults.Event place) = ⊥
IsOfText journal_faults.NoMemory = ⊥

-- Why there is no journal of what was read of a source.
abbrev pub JournalCause : Status → ℕ → ℕ → Option (List ℕ) → Type 0
JournalCause statuses.SourceFailed before now old = Rose before now
JournalCause (statuses.NotARun place) before now old = IfSome old (λ all. HasWrongEvent the_rules all place)
JournalCause (statuses.JournalRefused fault) before now old = IsOfText fault × IfSome old (λ all. ReadFault the_rules all fault)
JournalCause statuses.NoMemory before now old = Unit {0}
JournalCause statuses.Words before now old = ⊥
JournalCause statuses.Done before now old = ⊥
JournalCause statuses.SinkFailed before now old = ⊥
JournalCause (statuses.Scenario fault) before now old = ⊥
JournalCause statuses.TurnsSpent before now old = ⊥
JournalCause (statuses.LineDown from to) before now old = ⊥
JournalCause (statuses.LineLied from to at put got) before now old = ⊥

-- the statuses of a journal's text that is read and reported
abbrev pub IsOfCheck : Status → Type 0
IsOfCheck statuses.Done = Unit {0}
IsOfCheck statuses.SourceFailed = Unit {0}
IsOfCheck statuses.SinkFailed = Unit {0}
IsOfCheck statuses.NoMemory = Unit {0}
IsOfCheck (statuses.NotARun place) = Unit {0}
IsOfCheck (statuses.JournalRefused fault) = Unit {0}
IsOfCheck statuses.Words = ⊥
IsOfCheck (statuses.Scenario fault) = ⊥
IsOfCheck statuses.TurnsSpent = ⊥
IsOfCheck (statuses.LineDown from to) = ⊥
IsOfCheck (statuses.LineLied from to at put got) = ⊥

-- how the writing of a text may end
abbrev pub IsWritten : Status → Type 0
IsWritten status = (status ≡ statuses.Done) ⊎ (status ≡ statuses.SinkFailed) ⊎ (status ≡ statuses.NoMemory)

-- the status where a text was not written whole
abbrev pub unwritten : EdgeFault → Status
unwritten Failed = statuses.SinkFailed
unwritten NoMemory = statuses.NoMemory

-- The sink got the whole text, or at a fault of the sink a prefix that is not all of it; at want of memory such a prefix
-- too, or nothing where there was no text yet.
abbrev pub WroteText : Status → List ℕ → Option (List ℕ) → Option (List ℕ) → Type 0
WroteText statuses.Done text old new = Appends old new text
WroteText statuses.SinkFailed text old new = AppendsLess old new text
WroteText statuses.NoMemory text old new = Keeps old new ⊎ AppendsLess old new text
WroteText statuses.Words text old new = ⊥
WroteText statuses.SourceFailed text old new = ⊥
WroteText (statuses.Scenario fault) text old new = ⊥
WroteText statuses.TurnsSpent text old new = ⊥
WroteText (statuses.LineDown from to) text old new = ⊥
WroteText (statuses.LineLied from to at put got) text old new = ⊥
WroteText (statuses.NotARun place) text old new = ⊥
WroteText (statuses.JournalRefused fault) text old new = ⊥

-- what the sink got of the report of a run that was read
abbrev pub WroteCheck : Status → Planned → Events → Option (List ℕ) → Option (List ℕ) → Type 0
WroteCheck status plan past old new = WroteText status (checked_text plan past) old new
