-- A member crashes whose message was ordered behind a switch.
use Rattle.std.specs.Prelude.{List, [], ◌∷◌}
use Rattle.upd_base.specs.Plan.{Planned}
use Rattle.upd_base.specs.declared.kind.Kind.TheVariants.{Sequencer, Lamport}
use Rattle.upd_base.specs.declared.item.Item.TheVariants.{Switch}
use Rattle.upd_base.specs.declared.entry.Entry.{Entry}
use Rattle.upd_base.specs.declared.event.Event.TheVariants.{Call, Receive}
use Rattle.upd_base.specs.declared.call.Call.TheVariants.{Send, Change, Crash}
use Rattle.upd_base.specs.declared.answer.Answer.TheVariants.{Accepted, Done}
use Rattle.group_run.specs.Run.{Events}
use Rattle.group_rows.specs.Texts.{b}

abbrev pub plan : Planned
plan = record { members = 3; first = Sequencer 0; threads = (record { at = 1; call = Change Lamport } ∷ []) ∷ (record { at = 2; call = Send b } ∷ record { at = 2; call = Crash } ∷ []) ∷ [] }

abbrev pub events : Events
events = Receive 0 1 ∷ Receive 0 0 ∷ Receive 0 1 ∷ Receive 0 0 ∷ Call 1 1 2 Done ∷ Receive 2 0 ∷ Receive 1 0 ∷ Call 1 0 2 (Accepted 0) ∷ Call 0 0 1 (Accepted 0) ∷ []

-- what the members deliver
abbrev pub log : List Entry
log = record { version = 0; item = Switch 1 0 Lamport } ∷ []
