-- What the grammar wants of the next line.
use Rattle.std.specs.Prelude.{ℕ, zero, suc, true, ◌≡◌, ◌≢◌, ◌≤◌, ◌<◌, ◌+◌, ◌^◌, List, [], ◌∷◌, ◌++◌, All, length, sum_by}
use Rattle.upd_base.specs.Kind.{KindFits}
use Rattle.upd_base.specs.Plan.{Planned, bound, plan_of, step_fits, steps_in, changes_in, change_count}
use Rattle.upd_base.specs.Text.{is_payload}
use Rattle.upd_base.specs.declared.kind.Kind.{Kind}
use Rattle.upd_base.specs.declared.call.Call.{Call}
use Rattle.upd_base.specs.declared.call.Call.TheVariants.{Send, Change, Suspect, Trust, Crash}
use Rattle.upd_base.specs.declared.call.Step.{Step}
use Rattle.upd_base.specs.declared.answer.Answer.{Answer}
use Rattle.upd_base.specs.declared.answer.Answer.TheVariants.{Accepted, Done, Full, Crashed, VersionLimit, BadKind, BadMember}
use Rattle.upd_base.specs.declared.event.Event.{Event}
use Rattle.upd_base.specs.declared.event.Event.TheVariants.{Call as CallEvent, Receive, Release}
use Rattle.upd_base.specs.declared.limits.TheConstants.{MAX_MEMBERS, MAX_THREADS, MAX_CALLS, MAX_CHANGES}
use Rattle.journal_file.specs.Text.{Line, heading_line, members_line, first_line, threads_line, thread_line, step_line, events_line, event_line, last_line}

-- What is wanted next, with what was read so far.
pub data Wanted : Type 0 where
  -- the heading
  WantsHeading : Wanted
  -- how many members there are
  WantsMembers : Wanted
  -- the kind of version 0
  WantsFirst : (members : ℕ) → Wanted
  -- how many threads there are
  WantsThreads : (members : ℕ) → (first : Kind) → Wanted
  -- a thread, after the plan with the threads that are read, with so many left behind it
  WantsThread : (plan : Planned) → (left : ℕ) → Wanted
  -- a step of a thread, after these of it, with so many left behind it
  WantsStep : (plan : Planned) → (steps : List Step) → (left : ℕ) → (threads_left : ℕ) → Wanted
  -- how many events there are
  WantsEvents : (plan : Planned) → Wanted
  -- an event, after these, with so many left behind it
  WantsEvent : (plan : Planned) → (events : List Event) → (left : ℕ) → Wanted
  -- the last line
  WantsEnd : (plan : Planned) → (events : List Event) → Wanted
  -- no line more
  WantsNothing : (plan : Planned) → (events : List Event) → Wanted

-- the plan with one more thread
abbrev pub with_thread : Planned → List Step → Planned
with_thread plan steps = plan_of plan.members plan.first (plan.threads ++ steps ∷ [])

-- what is wanted where so many threads are left
abbrev pub thread_or_events : Planned → ℕ → Wanted
thread_or_events plan zero = WantsEvents plan
thread_or_events plan (suc left) = WantsThread plan left

-- where so many steps of a thread are left
abbrev pub step_or_thread : Planned → List Step → ℕ → ℕ → Wanted
step_or_thread plan steps zero threads = thread_or_events (with_thread plan steps) threads
step_or_thread plan steps (suc left) threads = WantsStep plan steps left threads

-- where so many events are left
abbrev pub event_or_end : Planned → List Event → ℕ → Wanted
event_or_end plan es zero = WantsEnd plan es
event_or_end plan es (suc left) = WantsEvent plan es left

-- The number is one of 32 bits.
abbrev pub IsNumber : ℕ → Type 0
IsNumber n = n < 2 ^ 32

-- The numbers of an event are of 32 bits; whether the event can be is not asked.
abbrev pub AnswerFits : Answer → Type 0
AnswerFits (Accepted number) = IsNumber number
AnswerFits Done = Unit {0}
AnswerFits Full = Unit {0}
AnswerFits Crashed = Unit {0}
AnswerFits VersionLimit = Unit {0}
AnswerFits BadKind = Unit {0}
AnswerFits BadMember = Unit {0}

abbrev pub EventFits : Event → Type 0
EventFits (CallEvent thread index member given) = IsNumber thread × IsNumber index × IsNumber member × AnswerFits given
EventFits (Receive from to) = IsNumber from × IsNumber to
EventFits (Release at) = IsNumber at

-- The text of a step is a payload.
abbrev pub TextFits : Call → Type 0
TextFits (Send text) = is_payload text ≡ true
TextFits (Change kind) = Unit {0}
TextFits (Suspect who) = Unit {0}
TextFits (Trust who) = Unit {0}
TextFits Crash = Unit {0}

-- how many calls, and how many changes, stand in a plan so far and in the steps of the thread that is read
abbrev pub calls_with : Planned → ℕ → ℕ
calls_with plan more = sum_by steps_in plan.threads + more

abbrev pub changes_with : Planned → List Step → ℕ
changes_with plan steps = sum_by changes_in plan.threads + changes_in steps

-- The step may stand there: it keeps the limits of a scenario, and is not the change above the most.
pub record StepFits (plan : Planned) (steps : List Step) (s : Step) : Type 0 where
  pub fits : step_fits plan.members s ≡ true
  pub text : TextFits s.call
  pub changes : changes_with plan (steps ++ s ∷ []) ≤ MAX_CHANGES

-- The line is what is wanted, and this is wanted then.
abbrev pub Follows : Wanted → Line → Wanted → Type 0
Follows WantsHeading line next = (line ≡ heading_line) × (next ≡ WantsMembers)
Follows WantsMembers line next = (n : ℕ) × (1 ≤ n) × (n ≤ MAX_MEMBERS) × (line ≡ members_line n) × (next ≡ WantsFirst n)
Follows (WantsFirst n) line next = (kind : Kind) × KindFits n kind × (line ≡ first_line kind) × (next ≡ WantsThreads n kind)
Follows (WantsThreads n kind) line next = (count : ℕ) × (1 ≤ count) × (count ≤ MAX_THREADS) × (line ≡ threads_line count) × (next ≡ thread_or_events (plan_of n kind []) count)
Follows (WantsThread plan left) line next = (count : ℕ) × (calls_with plan count ≤ MAX_CALLS) × (line ≡ thread_line count) × (next ≡ step_or_thread plan [] count left)
Follows (WantsStep plan steps left threads) line next = (s : Step) × StepFits plan steps s × (line ≡ step_line s) × (next ≡ step_or_thread plan (steps ++ s ∷ []) left threads)
Follows (WantsEvents plan) line next = (count : ℕ) × (count ≤ bound plan) × (line ≡ events_line count) × (next ≡ event_or_end plan [] count)
Follows (WantsEvent plan es left) line next = (e : Event) × EventFits e × (line ≡ event_line e) × (next ≡ event_or_end plan (es ++ e ∷ []) left)
Follows (WantsEnd plan es) line next = (line ≡ last_line) × (next ≡ WantsNothing plan es)
Follows (WantsNothing plan es) line next = ⊥

-- Lines, each of which is what is wanted there, lead from what is wanted first to what is wanted then.
abbrev pub Leads : Wanted → List Line → Wanted → Type 0
Leads from [] to = from ≡ to
Leads from (line ∷ lines) to = (next : Wanted) × Follows from line next × Leads next lines to
