-- The text of a journal: its plan and its events, line by line. There is one spelling of each.
use Rattle.std.specs.Prelude.{ℕ, List, [], ◌∷◌, ◌++◌, length, codes, decimal, flat_map, map}
use Rattle.upd_base.specs.Plan.{Planned}
use Rattle.upd_base.specs.declared.kind.Kind.{Kind}
use Rattle.upd_base.specs.Kind.{kind_text}
use Rattle.upd_base.specs.declared.call.Call.{Call}
use Rattle.upd_base.specs.declared.call.Call.TheVariants.{Send, Change, Suspect, Trust, Crash}
use Rattle.upd_base.specs.declared.call.Step.{Step}
use Rattle.upd_base.specs.declared.answer.Answer.{Answer}
use Rattle.upd_base.specs.declared.answer.Answer.TheVariants.{Accepted, Done, Full, Crashed, VersionLimit, BadKind, BadMember}
use Rattle.upd_base.specs.declared.event.Event.{Event}
use Rattle.upd_base.specs.declared.event.Event.TheVariants.{Call as CallEvent, Receive, Release}

-- a line, without its end
abbrev pub Line : Type 0
Line = List ℕ

unfoldable pub call_text : Call → List ℕ
call_text (Send text) = codes "send " ++ text
call_text (Change kind) = codes "change " ++ kind_text kind
call_text (Suspect who) = codes "suspect " ++ decimal who
call_text (Trust who) = codes "trust " ++ decimal who
call_text Crash = codes "crash"

unfoldable pub answer_text : Answer → List ℕ
answer_text (Accepted number) = codes "accepted " ++ decimal number
answer_text Done = codes "done"
answer_text Full = codes "full"
answer_text Crashed = codes "crashed"
answer_text VersionLimit = codes "version limit"
answer_text BadKind = codes "bad kind"
answer_text BadMember = codes "bad member"

-- The lines -----------------------------------------------------------------------------------------------------

abbrev pub heading_line : Line
heading_line = codes "journal 1"

unfoldable pub members_line : ℕ → Line
members_line n = codes "members " ++ decimal n

unfoldable pub first_line : Kind → Line
first_line kind = codes "first " ++ kind_text kind

unfoldable pub threads_line : ℕ → Line
threads_line threads = codes "threads " ++ decimal threads

unfoldable pub thread_line : ℕ → Line
thread_line steps = codes "thread " ++ decimal steps

unfoldable pub step_line : Step → Line
step_line s = decimal s.at ++ codes " " ++ call_text s.call

unfoldable pub events_line : ℕ → Line
events_line events = codes "events " ++ decimal events

unfoldable pub event_line : Event → Line
event_line (CallEvent thread index member given) = codes "call " ++ decimal thread ++ codes " " ++ decimal index ++ codes " " ++ decimal member ++ codes " " ++ answer_text given
event_line (Receive from to) = codes "receive " ++ decimal from ++ codes " " ++ decimal to
event_line (Release at) = codes "release " ++ decimal at

abbrev pub last_line : Line
last_line = codes "end"

-- The text ------------------------------------------------------------------------------------------------------

-- a thread: how many calls it has, and a line for each
abbrev pub thread_lines : List Step → List Line
thread_lines steps = thread_line (length steps) ∷ map step_line steps

abbrev pub plan_lines : Planned → List Line
plan_lines plan = members_line plan.members ∷ first_line plan.first ∷ threads_line (length plan.threads) ∷ flat_map thread_lines plan.threads

-- the events in the order in which they were made
abbrev pub event_lines : List Event → List Line
event_lines events = events_line (length events) ∷ map event_line events

abbrev pub journal_lines : Planned → List Event → List Line
journal_lines plan events = heading_line ∷ plan_lines plan ++ event_lines events ++ last_line ∷ []

-- each line has its end
abbrev pub ended : Line → List ℕ
ended line = line ++ codes "\n"

abbrev pub text_of : List Line → List ℕ
text_of lines = flat_map ended lines

unfoldable pub journal_text : Planned → List Event → List ℕ
journal_text plan events = text_of (journal_lines plan events)
