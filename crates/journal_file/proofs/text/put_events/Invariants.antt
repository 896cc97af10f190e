use Rattle.std.proofs.Common.{◌≡◌, ◌++◌, take}
use Rattle.std.specs.List.{flat_map}
use Rattle.std.specs.Prelude.{All}
use Rattle.journal_file.specs.Grammar.{EventFits}
use Rattle.journal_file.specs.Text.{ended, event_line}
use Rattle.journal_file.proofs.text.put_events.Given as goal

abbrev pub invariant-loop-event : goal.invariant-loop-event
invariant-loop-event l = (l.out.items ≡ l.initial.out.items ++ flat_map (λ e. ended (event_line e)) (take l.event-index l.events)) × All EventFits (take l.event-index l.events)
