-- What a status says of the source, the sink and the journal.
use Rattle.std.specs.Prelude.{ℕ, ◌≡◌, ◌≢◌, ◌⊎◌, List, Option, Some, None, Result, Ok, Err, ⊤, IfSome}
use Rattle.upd_base.specs.declared.edge.EdgeFault.{EdgeFault}
use Rattle.std.specs.Io.KnownBytes.{Appends, IsAtEnd, Keeps}
use Rattle.upd_base.specs.Edge.{Rose}
use Rattle.upd_io.specs.Whole.{AppendsPrefix, AppendsLess}
use Rattle.upd_base.specs.Plan.{Planned}
use Rattle.scenario.specs.Reading.{reading}
use Rattle.scenario.specs.declared.fault.ScenarioFault.{ScenarioFault}
use Rattle.scenario.specs.declared.fault.ScenarioFault.TheVariants as faults
use Rattle.group_run.specs.Run.{Events}
use Rattle.rehearsal.specs.declared.rehearsed.RehearsalEnd.{RehearsalEnd}
use Rattle.rehearsal.specs.declared.rehearsed.RehearsalEnd.TheVariants as ends
use Rattle.journal_file.specs.Reading.{HasWrongEvent, ReadFault}
use Rattle.program_texts.specs.Rules.{the_rules}
use Rattle.top_calls.specs.Recorded.{CameTo}
use Rattle.top_calls.specs.Checked.{IsOfText, unwritten}
use Rattle.program_words.specs.declared.words.Command.{Command}
use Rattle.program_words.specs.declared.words.Command.TheVariants as commands
use Rattle.program_words.specs.declared.words.Rehearse.{Rehearse}
use Rattle.program_texts.specs.Texts.{run_text}
use Rattle.program_words.specs.declared.words.Form.{Form}
use Rattle.program_texts.specs.declared.run_end.End.{End}
use Rattle.program_texts.specs.declared.run_end.End.TheVariants.{Settled, Spent, Lied, Down}
use Rattle.program_texts.specs.declared.status.Status.{Status}
use Rattle.program_texts.specs.declared.status.Status.TheVariants as statuses

-- the sink got the whole text, or a prefix of it where its faults rose
abbrev pub Told : ℕ → ℕ → Option (List ℕ) → Option (List ℕ) → List ℕ → Type 0
Told before now old new text = Appends old new text ⊎ (Rose before now × AppendsPrefix old new text)

-- this status, or want of memory
abbrev pub OrMemory : Status → Status → Type 0
OrMemory given wanted = (given ≡ wanted) ⊎ (given ≡ statuses.NoMemory)

-- how a run may end
abbrev pub IsWriting : Status → Type 0
IsWriting status = (status ≡ statuses.Done) ⊎ (status ≡ statuses.SinkFailed) ⊎ (status ≡ statuses.TurnsSpent) ⊎ (status ≡ statuses.NoMemory)

-- the statuses whose texts are refusals
abbrev pub IsRefusal : Status → Type 0
IsRefusal statuses.Words = Unit {0}
IsRefusal statuses.SourceFailed = Unit {0}
IsRefusal (statuses.Scenario fault) = Unit {0}
IsRefusal (statuses.NotARun place) = Unit {0}
IsRefusal (statuses.JournalRefused fault) = Unit {0}
IsRefusal statuses.Done = ⊥
IsRefusal statuses.SinkFailed = ⊥
IsRefusal statuses.TurnsSpent = ⊥
IsRefusal (statuses.LineDown from to) = ⊥
IsRefusal (statuses.LineLied from to at put got) = ⊥
IsRefusal statuses.NoMemory = ⊥

-- the status of a run that came to this end, where its text was written whole
abbrev pub status_at : End → Status
status_at Settled = statuses.Done
status_at Spent = statuses.TurnsSpent
status_at (Lied from to at put got) = statuses.LineLied from to at put got
status_at (Down from to) = statuses.LineDown from to

-- the status of a run that came to this end, by how the writing of its text went
abbrev pub status_of : End → Result ⊤ EdgeFault → Status
status_of end (Ok x) = status_at end
status_of end (Err fault) = unwritten fault

-- Why no plan was read of a source.
abbrev pub ScenarioCause : Status → ℕ → ℕ → Option (List ℕ) → Type 0
ScenarioCause statuses.SourceFailed before now old = Rose before now
ScenarioCause (statuses.Scenario fault) before now old = (fault ≢ faults.NoMemory) × IfSome old (λ all. reading all ≡ Err fault)
ScenarioCause statuses.NoMemory before now old = Unit {0}
ScenarioCause statuses.Words before now old = ⊥
ScenarioCause statuses.Done before now old = ⊥
ScenarioCause statuses.SinkFailed before now old = ⊥
ScenarioCause statuses.TurnsSpent before now old = ⊥
ScenarioCause (statuses.LineDown from to) before now old = ⊥
ScenarioCause (statuses.LineLied from to at put got) before now old = ⊥
ScenarioCause (statuses.NotARun place) before now old = ⊥
ScenarioCause (statuses.JournalRefused fault) before now old = ⊥

-- What was read of a source: its plan, or why there is none.
abbrev pub PlanFrom : Result Planned Status → ℕ → ℕ → Option (List ℕ) → Option (List ℕ) → Type 0
PlanFrom (Ok plan) before now old new = IfSome old (λ all. reading all ≡ Ok plan) × IsAtEnd new
PlanFrom (Err status) before now old new = ScenarioCause status before now old

-- Runs ----------------------------------------------------------------------------------------------------------

-- What the sink got of a run's text, which ends with the line of an end that the run came to: all of it, or at a fault of the
-- sink a prefix that is not all of it. At want of memory such a prefix too, or nothing where there was no text yet.
abbrev pub WroteRunOf : (End → Type 0) → Status → Form → Planned → Events → Option (List ℕ) → Option (List ℕ) → Type 0
WroteRunOf Came statuses.Done form plan past old new = Came Settled × Appends old new (run_text form plan past Settled)
WroteRunOf Came statuses.TurnsSpent form plan past old new = Came Spent × Appends old new (run_text form plan past Spent)
WroteRunOf Came (statuses.LineLied from to at put got) form plan past old new = Came (Lied from to at put got) × Appends old new (run_text form plan past (Lied from to at put got))
WroteRunOf Came (statuses.LineDown from to) form plan past old new = Came (Down from to) × Appends old new (run_text form plan past (Down from to))
WroteRunOf Came statuses.SinkFailed form plan past old new = (end : End) × Came end × AppendsLess old new (run_text form plan past end)
WroteRunOf Came statuses.NoMemory form plan past old new = Keeps old new ⊎ ((end : End) × Came end × AppendsLess old new (run_text form plan past end))
WroteRunOf Came statuses.Words form plan past old new = ⊥
WroteRunOf Came statuses.SourceFailed form plan past old new = ⊥
WroteRunOf Came (statuses.Scenario fault) form plan past old new = ⊥
WroteRunOf Came (statuses.NotARun place) form plan past old new = ⊥
WroteRunOf Came (statuses.JournalRefused fault) form plan past old new = ⊥

-- the same of a run without lines
abbrev pub WroteRun : Status → Form → Planned → Events → Option (List ℕ) → Option (List ℕ) → Type 0
WroteRun status form plan past old new = WroteRunOf (λ end. CameTo end plan past) status form plan past old new

-- what is known of a run where its schedule ended so
abbrev pub CameBy : RehearsalEnd → Planned → Events → Type 0
CameBy ends.Settled plan past = CameTo Settled plan past
CameBy ends.Spent plan past = CameTo Spent plan past
CameBy ends.NoMemory plan past = Unit {0}

-- the statuses of a run that came to this end
abbrev pub IsAt : End → Status → Type 0
IsAt end status = (status ≡ status_at end) ⊎ (status ≡ statuses.SinkFailed) ⊎ (status ≡ statuses.NoMemory)

-- the statuses of a run whose schedule ended so
abbrev pub IsAfter : RehearsalEnd → Status → Type 0
IsAfter ends.Settled status = IsAt Settled status
IsAfter ends.Spent status = IsAt Spent status
IsAfter ends.NoMemory status = status ≡ statuses.NoMemory

-- the status of a refused scenario
abbrev pub refused : ScenarioFault → Status
refused faults.TooLong = statuses.Scenario faults.TooLong
refused faults.NotJson = statuses.Scenario faults.NotJson
refused (faults.At path reason) = statuses.Scenario (faults.At path reason)
refused faults.NoMemory = statuses.NoMemory

-- the statuses of a scenario that is read and run
abbrev pub IsOfScenario : Status → Type 0
IsOfScenario statuses.Done = Unit {0}
IsOfScenario statuses.SourceFailed = Unit {0}
IsOfScenario statuses.SinkFailed = Unit {0}
IsOfScenario (statuses.Scenario fault) = Unit {0}
IsOfScenario statuses.TurnsSpent = Unit {0}
IsOfScenario statuses.NoMemory = Unit {0}
IsOfScenario statuses.Words = ⊥
IsOfScenario (statuses.LineDown from to) = ⊥
IsOfScenario (statuses.LineLied from to at put got) = ⊥
IsOfScenario (statuses.NotARun place) = ⊥
IsOfScenario (statuses.JournalRefused fault) = ⊥

-- Commands ------------------------------------------------------------------------------------------------------

abbrev pub IsRehearse : Option Command → Type 0
IsRehearse asked = (words : Rehearse) × (asked ≡ Some (commands.Rehearse words))

-- Why a refusal's text was to be written, where this was asked.
abbrev pub RefusalCause : Status → Option Command → ℕ → ℕ → Option (List ℕ) → Type 0
RefusalCause statuses.Words asked before now old = asked ≡ None
RefusalCause statuses.SourceFailed asked before now old = Rose before now
RefusalCause (statuses.Scenario fault) asked before now old = IsRehearse asked × IfSome old (λ all. reading all ≡ Err fault)
RefusalCause (statuses.NotARun place) asked before now old = (asked ≡ Some commands.Check) × IfSome old (λ all. HasWrongEvent the_rules all place)
RefusalCause (statuses.JournalRefused fault) asked before now old = (asked ≡ Some commands.Check) × IsOfText fault × IfSome old (λ all. ReadFault the_rules all fault)
RefusalCause statuses.Done asked before now old = ⊥
RefusalCause statuses.SinkFailed asked before now old = ⊥
RefusalCause statuses.TurnsSpent asked before now old = ⊥
RefusalCause (statuses.LineDown from to) asked before now old = ⊥
RefusalCause (statuses.LineLied from to at put got) asked before now old = ⊥
RefusalCause statuses.NoMemory asked before now old = ⊥
