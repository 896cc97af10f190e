-- What a reading of bytes as a journal's text comes to.
use Rattle.std.specs.Prelude.{ℕ, suc, true, ◌≡◌, ◌≢◌, ◌≤◌, ◌<◌, ◌-◌, List, [], ◌∷◌, ◌++◌, All, Contains, length, reverse, take, slice_get, Option, Some}
use Rattle.upd_base.specs.Plan.{Planned, bound, is_plan}
use Rattle.upd_base.specs.declared.event.Event.{Event}
use Rattle.group_run.specs.Group.{Rules}
use Rattle.group_run.specs.Run.{IsGroupRun, IsEnabled}
use Rattle.journal_file.specs.Text.{Line, ended, journal_text, text_of}
use Rattle.journal_file.specs.Grammar.{Wanted, Follows, Leads, EventFits, TextFits}
use Rattle.journal_file.specs.Grammar.Wanted.{WantsHeading, WantsNothing}
use Rattle.journal_file.specs.declared.fault.JournalFault.{JournalFault}
use Rattle.journal_file.specs.declared.fault.JournalFault.TheVariants as faults
use Rattle.journal_file.specs.declared.limits.TheConstants.{MAX_TEXT}

-- the byte that ends a line
abbrev pub NEWLINE : ℕ
NEWLINE = 0x0a

-- A line has no line end in it.
abbrev pub IsLine : Line → Type 0
IsLine line = Contains line NEWLINE → ⊥

-- No line that is wanted stands whole at the front of these bytes; where no line more is wanted, bytes follow.
abbrev pub IsRefused : Wanted → List ℕ → Type 0
IsRefused (WantsNothing plan events) rest = rest ≢ []
IsRefused wanted rest = (line more : List ℕ) (next : Wanted) → IsLine line → rest ≡ ended line ++ more → Follows wanted line next → ⊥

-- The line of this number, from 1, is the first that isn't what the grammar wants there: those before it are, and what
-- follows them is refused.
pub record IsFirstFault (bytes : List ℕ) (number : ℕ) : Type 0 where
  pub short : length bytes ≤ MAX_TEXT
  pub before : List Line
  pub wanted : Wanted
  pub rest : List ℕ
  pub counted : number ≡ suc (length before)
  pub lines : All IsLine before
  pub text : bytes ≡ text_of before ++ rest
  pub leads : Leads WantsHeading before wanted
  pub refused : IsRefused wanted rest

-- each text that the plan sends is a payload
abbrev pub HasPayloads : Planned → Type 0
HasPayloads plan = All (All (λ s. TextFits s.call)) plan.threads

-- The bytes are the text of this plan and these events, which keep their limits.
pub record IsJournalText (bytes : List ℕ) (plan : Planned) (events : List Event) : Type 0 where
  pub short : length bytes ≤ MAX_TEXT
  pub of_plan : is_plan plan ≡ true
  pub payloads : HasPayloads plan
  pub few : length events ≤ bound plan
  pub fit : All EventFits events
  pub text : bytes ≡ journal_text plan events

-- The event at this place, from 1, is the first that can't be made there.
pub record IsFirstWrong (rules : Rules) (plan : Planned) (events : List Event) (place : ℕ) : Type 0 where
  pub counts : 1 ≤ place
  pub within : place ≤ length events
  pub before : IsGroupRun rules plan (reverse (take (place - 1) events))
  pub wrong : (e : Event) → slice_get events (place - 1) ≡ Some e → IsEnabled rules plan (reverse (take (place - 1) events)) e → ⊥

-- the bytes are a journal's text, and this event of it is the first that can't be made
abbrev pub HasWrongEvent : Rules → List ℕ → ℕ → Type 0
HasWrongEvent rules bytes place = (plan : Planned) × (events : List Event) × IsJournalText bytes plan events × IsFirstWrong rules plan events place

-- the cause of each fault; want of memory is free
abbrev pub ReadFault : Rules → List ℕ → JournalFault → Type 0
ReadFault rules bytes faults.TooLong = MAX_TEXT < length bytes
ReadFault rules bytes (faults.Line number) = IsFirstFault bytes number
ReadFault rules bytes (faults.Event place) = HasWrongEvent rules bytes place
ReadFault rules bytes faults.NoMemory = Unit {0}
