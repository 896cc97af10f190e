-- What a run with threads promises.
use Rattle.std.specs.Prelude.{ℕ, true, ◌≡◌, ◌⊎◌, ◌*◌, ◌<◌, List, [], length, Option, Some, None}
use Rattle.upd_base.specs.Edge.{Rose}
use Rattle.upd_base.specs.Plan.{Planned}
use Rattle.upd_lines.specs.Line.{IsFresh, Told}
use Rattle.upd_lines.specs.declared.line.Line.{Ghosts}
use Rattle.group_run.specs.Run.{Events}
use Rattle.group_run.specs.Settled.{IsTrusting}
use Rattle.line_rules.specs.Ends.{EndsRun, IsDownEnd, IsLyingEnd}
use Rattle.line_rules.specs.Lines.{ComeBack, HasCarried, IsAside, line_at}
use Rattle.line_rules.specs.Rest.{GoesOnFullAtRestBut}
use Rattle.line_rules.specs.declared.run_end.RunEnd.{RunEnd}
use Rattle.line_rules.specs.declared.run_end.RunEnd.TheVariants as run_ends
use Rattle.planned_calls.specs.Calls.{HasNo, MakesEach, is_crash, is_suspect}
use Rattle.planned_calls.specs.Sends.{DeliversSends}
use Rattle.top_calls.specs.Causes.{IsRefusal, OrMemory, ScenarioCause, WroteRunOf}
use Rattle.top_calls.specs.Made.{AreMade}
use Rattle.program_texts.specs.Rules.{the_rules}
use Rattle.top_calls.specs.Recorded.{CameTo}
use Rattle.top_calls.specs.Rehearsal.{KeepsLaws}
use Rattle.program_words.specs.declared.words.Form.{Form}
use Rattle.program_words.specs.declared.words.Run.{Run}
use Rattle.program_texts.specs.declared.run_end.End.{End}
use Rattle.program_texts.specs.declared.run_end.End.TheVariants as ends
use Rattle.program_texts.specs.declared.status.Status.{Status}
use Rattle.program_texts.specs.declared.status.Status.TheVariants as statuses

-- Statuses ------------------------------------------------------------------------------------------------------

-- how a run with threads may end
abbrev pub IsRunStatus : Status → Type 0
IsRunStatus statuses.Done = Unit {0}
IsRunStatus statuses.SinkFailed = Unit {0}
IsRunStatus (statuses.LineDown from to) = Unit {0}
IsRunStatus statuses.TurnsSpent = Unit {0}
IsRunStatus (statuses.LineLied from to at put got) = Unit {0}
IsRunStatus statuses.NoMemory = Unit {0}
IsRunStatus statuses.Words = ⊥
IsRunStatus statuses.SourceFailed = ⊥
IsRunStatus (statuses.Scenario fault) = ⊥
IsRunStatus (statuses.NotARun place) = ⊥
IsRunStatus (statuses.JournalRefused fault) = ⊥

-- the statuses of a scenario that is read and run with threads
abbrev pub IsOfLive : Status → Type 0
IsOfLive statuses.Done = Unit {0}
IsOfLive statuses.SourceFailed = Unit {0}
IsOfLive statuses.SinkFailed = Unit {0}
IsOfLive (statuses.Scenario fault) = Unit {0}
IsOfLive (statuses.LineDown from to) = Unit {0}
IsOfLive statuses.TurnsSpent = Unit {0}
IsOfLive (statuses.LineLied from to at put got) = Unit {0}
IsOfLive statuses.NoMemory = Unit {0}
IsOfLive statuses.Words = ⊥
IsOfLive (statuses.NotARun place) = ⊥
IsOfLive (statuses.JournalRefused fault) = ⊥

-- Why a refusal's text was to be written, where this was asked.
abbrev pub LiveRefusal : Status → Option Run → ℕ → ℕ → Option (List ℕ) → Type 0
LiveRefusal status asked before now old = ((status ≡ statuses.Words) × (asked ≡ None)) ⊎ (IsRefusal status × ScenarioCause status before now old)

-- the end as the run over lines tells it
abbrev pub told_end : End → RunEnd
told_end ends.Settled = run_ends.Settled
told_end ends.Spent = run_ends.Spent
told_end (ends.Lied from to at put got) = run_ends.Lied from to at put got
told_end (ends.Down from to) = run_ends.Down from to

-- Runs ----------------------------------------------------------------------------------------------------------

-- No count of faults rose, of the maker for a pair of members or of a line.
abbrev pub IsSteady : {L : Type 0} → Ghosts L → Option L → Type 0
IsSteady G None = Unit {0}
IsSteady G (Some line) = Rose 0 (G.faults line) → ⊥

abbrev pub AreSteady : {L : Type 0} → Ghosts L → ℕ → (ℕ → ℕ → ℕ) → (ℕ → ℕ → ℕ) → List (Option L) → Type 0
AreSteady G n before now lines = (from to : ℕ) → from < n → to < n → (Rose (before from to) (now from to) → ⊥) × IsSteady G (line_at n lines from to)

-- it tells its bytes and gives what was put
abbrev pub IsFaithful : {L : Type 0} → Ghosts L → Option L → Type 0
IsFaithful G None = Unit {0}
IsFaithful G (Some line) = (G.told line).faithful ≡ true

abbrev pub AreFaithful : {L : Type 0} → Ghosts L → ℕ → List (Option L) → Type 0
AreFaithful G n lines = (from to : ℕ) → from < n → to < n → IsFaithful G (line_at n lines from to)

-- What is true of the events and the lines of a run with threads, where a maker made these lines for it.
pub record IsRunOver {L : Type 0} (G : Ghosts L) (before now : ℕ → ℕ → ℕ) (status : Status) (plan : Planned) (past : Events) (made lines : List (Option L)) : Type 0 where
  -- the laws hold of the events, whatever the threads and the lines did
  pub laws : KeepsLaws plan past
  -- each line is back at its place, and gave the bytes of the frames received on its link and of a part of the next
  pub come_back : ComeBack G the_rules plan [] past made lines
  -- a call was answered as full only at rest, but for links whose lines failed or lied
  pub full : GoesOnFullAtRestBut (IsAside G the_rules plan [] past made lines) the_rules plan [] past
  -- at status 0 the run is settled, and each planned call stands there once
  pub settled : status ≡ statuses.Done → CameTo ends.Settled plan past
  pub each : status ≡ statuses.Done → MakesEach plan past
  -- at status 0 each send of a plan without crash and suspicion was accepted and stands in every log, where no line failed
  pub delivered : status ≡ statuses.Done → HasNo is_suspect plan → HasNo is_crash plan → AreSteady G plan.members before now lines → DeliversSends the_rules plan past
  -- where the turns are spent, the run is as long as the bound and not settled, and a suspicion was taken
  pub spent : status ≡ statuses.TurnsSpent → CameTo ends.Spent plan past
  pub suspected : status ≡ statuses.TurnsSpent → IsTrusting plan past → ⊥
  -- a line that is told as down or as lying has that cause, and holds the run up; a lie comes first
  pub down : (from to : ℕ) → status ≡ statuses.LineDown from to → IsDownEnd G the_rules plan [] past made lines from to
  pub lied : (from to at put got : ℕ) → status ≡ statuses.LineLied from to at put got
      → IsLyingEnd G the_rules plan [] past made lines from to (record { at = at; put = put; got = got })

-- What the sink got of the text of a run: its last line is that of the end that the run came to.
abbrev pub WroteOver : {L : Type 0} → Ghosts L → Status → Form → Planned → Events → List (Option L) → List (Option L) → Option (List ℕ) → Option (List ℕ) → Type 0
WroteOver G status form plan past made lines old new = WroteRunOf (λ end. EndsRun G the_rules plan [] past made lines (told_end end)) status form plan past old new

abbrev pub IsLied : Status → Type 0
IsLied status = (from to at put got : ℕ) × (status ≡ statuses.LineLied from to at put got)

-- A run of a plan without suspicions, where no count of faults rose: it is settled where the lines are faithful, and else a line
-- may have lied.
abbrev pub IsComplete : {L : Type 0} → Ghosts L → Status → ℕ → List (Option L) → Type 0
IsComplete G status n lines = (AreFaithful G n lines → OrMemory status statuses.Done) × (OrMemory status statuses.Done ⊎ IsLied status)

-- A line is back: there is none where the maker's count of faults rose; else it was new in the call, and gave as many bytes as the
-- frames have that were received on its link, and as a part of the next one has; where it tells, theirs come first.
abbrev pub IsBack : {L : Type 0} → Ghosts L → Planned → Events → ℕ → ℕ → ℕ → ℕ → Option L → Type 0
IsBack G plan past from to before now None = Rose before now
IsBack G plan past from to before now (Some line) = (old : Told) × IsFresh old × HasCarried the_rules plan [] past from to old (G.told line)

pub record AreBack {L : Type 0} (G : Ghosts L) (before now : ℕ → ℕ → ℕ) (plan : Planned) (past : Events) (lines : List (Option L)) : Type 0 where
  pub places : length lines ≡ plan.members * plan.members
  pub each : (from to : ℕ) → from < plan.members → to < plan.members → IsBack G plan past from to (before from to) (now from to) (line_at plan.members lines from to)

-- why a line is down: it could not be made, or it failed
abbrev pub WhyDown : {L : Type 0} → Ghosts L → ℕ → ℕ → Option L → Type 0
WhyDown G before now None = Rose before now
WhyDown G before now (Some line) = Rose 0 (G.faults line)

-- What is promised of the run, of the lines that the maker made in the call, and of what the sink got.
pub record IsLiveRun {L : Type 0} (G : Ghosts L) (before now : ℕ → ℕ → ℕ) (status : Status) (form : Form) (plan : Planned) (past : Events) (lines : List (Option L)) (old new : Option (List ℕ)) : Type 0 where
  pub made : List (Option L)
  pub are_made : AreMade G plan.members before now made
  pub run : IsRunOver G before now status plan past made lines
  pub back : AreBack G before now plan past lines
  pub why_down : (from to : ℕ) → status ≡ statuses.LineDown from to → WhyDown G (before from to) (now from to) (line_at plan.members lines from to)
  pub wrote : WroteOver G status form plan past made lines old new
