-- What an event line says, as the event that it is.
use Rattle.std.specs.Prelude.{List, ℕ, [], ◌∷◌, false, ◌≡◌}
use Rattle.std.specs.Char.{is_ascii_digit}
use Rattle.upd_base.specs.declared.event.Event.{Event}
use Rattle.upd_base.specs.declared.event.Event.TheVariants.{Call as CallEvent, Receive as ReceiveEvent, Release as ReleaseEvent}
use Rattle.journal_file.specs.declared.lines.Written.{Written}
use Rattle.journal_file.specs.declared.lines.Written.TheVariants.{Call, Receive, Release}

abbrev pub event_written : Written → Event
event_written (Call thread index member answer) = CallEvent thread index member answer
event_written (Receive from to) = ReceiveEvent from to
event_written (Release at) = ReleaseEvent at

-- No digit stands at the front, so that a number before it has ended.
abbrev pub EndsNumber : List ℕ → Type 0
EndsNumber [] = Unit {0}
EndsNumber (byte ∷ bytes) = is_ascii_digit byte ≡ false
