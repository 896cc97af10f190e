-- The texts that the sink gets.
use Rattle.std.specs.Prelude.{ℕ, true, false, ◌/◌, ◌%◌, List, [], ◌∷◌, ◌++◌, codes, decimal, reverse}
use Rattle.std.specs.Fmt.{digit_glyph}
use Rattle.scenario.specs.declared.fault.ScenarioFault.{ScenarioFault}
use Rattle.scenario.specs.declared.fault.ScenarioFault.TheVariants as faults
use Rattle.scenario.specs.declared.fault.Reason.{Reason}
use Rattle.scenario.specs.declared.fault.Reason.TheVariants as reasons
use Rattle.journal_file.specs.Text.{journal_text}
use Rattle.journal_file.specs.declared.fault.JournalFault.{JournalFault}
use Rattle.journal_file.specs.declared.fault.JournalFault.TheVariants as journal_faults
use Rattle.run_report.specs.Report.{report}
use Rattle.upd_base.specs.Plan.{Planned}
use Rattle.group_run.specs.Run.{Events}
use Rattle.program_texts.specs.Rules.{the_rules}
use Rattle.program_texts.specs.declared.status.Status.{Status}
use Rattle.program_texts.specs.declared.status.Status.TheVariants as statuses
use Rattle.program_words.specs.declared.words.Form.{Form}
use Rattle.program_words.specs.declared.words.Form.TheVariants.{Long, Short, Journal}
use Rattle.program_texts.specs.declared.run_end.End.{End}
use Rattle.program_texts.specs.declared.run_end.End.TheVariants.{Settled, Spent, Lied, Down}

-- a reason in words
abbrev pub reason_text : Reason → List ℕ
reason_text reasons.Missing = codes "missing"
reason_text reasons.WrongType = codes "wrong type"
reason_text reasons.OutOfRange = codes "out of range"
reason_text reasons.UnknownKey = codes "unknown key"
reason_text reasons.BadText = codes "bad text"
reason_text reasons.BadKind = codes "bad kind"
reason_text reasons.BadOp = codes "bad op"
reason_text reasons.TooMany = codes "too many"

-- why a scenario is refused
unfoldable pub fault_text : ScenarioFault → List ℕ
fault_text faults.TooLong = codes "scenario refused: too long\n"
fault_text faults.NotJson = codes "scenario refused: not JSON\n"
fault_text (faults.At path reason) = codes "scenario refused at " ++ path ++ codes ": " ++ reason_text reason ++ codes "\n"
fault_text faults.NoMemory = []

-- why a text is no journal's
unfoldable pub journal_fault_text : JournalFault → List ℕ
journal_fault_text journal_faults.TooLong = codes "journal refused: too long\n"
journal_fault_text (journal_faults.Line number) = codes "journal refused: line " ++ decimal number ++ codes "\n"
journal_fault_text (journal_faults.Event place) = []
journal_fault_text journal_faults.NoMemory = []

-- what the program can be asked for
abbrev pub usage : List ℕ
usage = codes "usage: updatectl rehearse [SEED] [short|journal]\n       updatectl check\n       updatectl gen SEED CALLS\n       updatectl run memory|loopback [short|journal]\n"

-- the text of a refusal
unfoldable pub refusal_text : Status → List ℕ
refusal_text statuses.Words = usage
refusal_text statuses.SourceFailed = codes "source failed\n"
refusal_text (statuses.Scenario fault) = fault_text fault
refusal_text statuses.Done = []
refusal_text statuses.SinkFailed = []
refusal_text statuses.TurnsSpent = []
refusal_text (statuses.LineDown from to) = []
refusal_text (statuses.LineLied from to at put got) = []
refusal_text statuses.NoMemory = []
refusal_text (statuses.NotARun place) = codes "not a run: event " ++ decimal place ++ codes "\n"
refusal_text (statuses.JournalRefused fault) = journal_fault_text fault

-- a byte as two hexadecimal digits, in lower case
unfoldable pub two_digits : ℕ → List ℕ
two_digits byte = digit_glyph false (byte / 16) ∷ digit_glyph false (byte % 16) ∷ []

unfoldable pub lied_text : ℕ → ℕ → ℕ → List ℕ → List ℕ → List ℕ
lied_text from to at put got = codes "end: line " ++ decimal from ++ codes " " ++ decimal to ++ codes " lied at " ++ decimal at ++ codes ": put " ++ put ++ codes ", got " ++ got ++ codes "\n"

abbrev pub lied_line : ℕ → ℕ → ℕ → ℕ → ℕ → List ℕ
lied_line from to at put got = lied_text from to at (two_digits put) (two_digits got)

unfoldable pub down_line : ℕ → ℕ → List ℕ
down_line from to = codes "end: line " ++ decimal from ++ codes " " ++ decimal to ++ codes " down\n"

-- the last line of a run's text
abbrev pub end_line : End → List ℕ
end_line Settled = codes "end: settled\n"
end_line Spent = codes "end: turns spent\n"
end_line (Lied from to at put got) = lied_line from to at put got
end_line (Down from to) = down_line from to

-- the report of a run with its end line, or its journal's text
unfoldable pub run_text : Form → Planned → Events → End → List ℕ
run_text Long plan past end = report the_rules plan past false ++ end_line end
run_text Short plan past end = report the_rules plan past true ++ end_line end
run_text Journal plan past end = journal_text plan (reverse past)

-- the report of a run that was read
unfoldable pub checked_text : Planned → Events → List ℕ
checked_text plan past = report the_rules plan past false ++ codes "end: a run\n"

-- the exit status
abbrev pub code_of : Status → ℕ
code_of statuses.Done = 0
code_of statuses.Words = 2
code_of statuses.SourceFailed = 3
code_of statuses.SinkFailed = 4
code_of (statuses.Scenario fault) = 5
code_of (statuses.LineDown from to) = 6
code_of statuses.TurnsSpent = 7
code_of (statuses.LineLied from to at put got) = 8
code_of statuses.NoMemory = 9
code_of (statuses.NotARun place) = 10
code_of (statuses.JournalRefused fault) = 11
