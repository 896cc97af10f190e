-- What a stage of a reading stands for.
use Rattle.std.specs.Prelude.{ℕ, ◌≡◌, Option, Some, None, List, [], map, sum_by}
use Rattle.upd_base.specs.Plan.{Planned, plan_of, steps_in}
use Rattle.upd_base.specs.declared.call.Step.{Step as PlannedStep}
use Rattle.journal_file.specs.Text.{Line}
use Rattle.journal_file.specs.Grammar.{Wanted, Follows, changes_with}
use Rattle.journal_file.specs.Grammar.Wanted.{WantsHeading, WantsMembers, WantsFirst, WantsThreads, WantsThread, WantsStep, WantsEvents, WantsEvent, WantsEnd, WantsNothing}
use Rattle.journal_file.specs.Written.{event_written}
use Rattle.journal_file.specs.declared.stage.Draft.{Draft}
use Rattle.journal_file.specs.declared.stage.Stage.{Stage}
use Rattle.journal_file.specs.declared.stage.Stage.TheVariants.{Heading, Members, First, Threads, Thread, Step, Events, Event, End, Nothing}

-- the plan with the threads that are read
abbrev pub drafted : Draft → Planned
drafted d = plan_of d.members d.first (map (λ t. t.items) d.threads.items)

-- what is wanted next
abbrev pub wanted_by : Stage → Wanted
wanted_by Heading = WantsHeading
wanted_by Members = WantsMembers
wanted_by (First n) = WantsFirst n
wanted_by (Threads n kind) = WantsThreads n kind
wanted_by (Thread draft left) = WantsThread (drafted draft) left
wanted_by (Step draft steps left threads) = WantsStep (drafted draft) steps.items left threads
wanted_by (Events plan) = WantsEvents plan
wanted_by (Event plan events left) = WantsEvent plan (map event_written events.items) left
wanted_by (End plan events) = WantsEnd plan (map event_written events.items)
wanted_by (Nothing plan events) = WantsNothing plan (map event_written events.items)

-- The counts of a draft: the calls of its threads, and the changes with those of a thread that is being read.
pub record AreCounted (d : Draft) (steps : List PlannedStep) : Type 0 where
  pub calls : d.calls ≡ sum_by steps_in (drafted d).threads
  pub changes : d.changes ≡ changes_with (drafted d) steps

-- where there is a draft, its counts are right
abbrev pub IsCounted : Stage → Type 0
IsCounted Heading = Unit {0}
IsCounted Members = Unit {0}
IsCounted (First n) = Unit {0}
IsCounted (Threads n kind) = Unit {0}
IsCounted (Thread draft left) = AreCounted draft []
IsCounted (Step draft steps left threads) = AreCounted draft steps.items
IsCounted (Events plan) = Unit {0}
IsCounted (Event plan events left) = Unit {0}
IsCounted (End plan events) = Unit {0}
IsCounted (Nothing plan events) = Unit {0}

-- the stage after a line: none where the line isn't what is wanted
abbrev pub IsNext : Wanted → Line → Option Stage → Type 0
IsNext wanted line None = (next : Wanted) → Follows wanted line next → ⊥
IsNext wanted line (Some next) = Follows wanted line (wanted_by next) × IsCounted next
