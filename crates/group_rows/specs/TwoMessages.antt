-- Three members with a sequencer; two threads, each of which sends a message.
use Rattle.std.specs.Prelude.{List, [], ◌∷◌}
use Rattle.upd_base.specs.Plan.{Planned}
use Rattle.upd_base.specs.declared.kind.Kind.TheVariants.{Sequencer}
use Rattle.upd_base.specs.declared.item.Item.TheVariants.{Msg}
use Rattle.upd_base.specs.declared.entry.Entry.{Entry}
use Rattle.upd_base.specs.declared.event.Event.TheVariants.{Call, Receive}
use Rattle.upd_base.specs.declared.call.Call.TheVariants.{Send}
use Rattle.upd_base.specs.declared.answer.Answer.TheVariants.{Accepted}
use Rattle.group_run.specs.Run.{Events}
use Rattle.group_rows.specs.Texts.{a, b}

abbrev pub plan : Planned
plan = record { members = 3; first = Sequencer 0; threads = (record { at = 1; call = Send a } ∷ []) ∷ (record { at = 2; call = Send b } ∷ []) ∷ [] }

abbrev pub events : Events
events = Receive 0 2 ∷ Receive 0 1 ∷ Receive 0 0 ∷ Receive 0 2 ∷ Receive 0 1 ∷ Receive 0 0 ∷ Receive 2 0 ∷ Receive 1 0 ∷ Call 1 0 2 (Accepted 0) ∷ Call 0 0 1 (Accepted 0) ∷ []

-- what the members deliver
abbrev pub log : List Entry
log = record { version = 0; item = Msg 1 0 a } ∷ record { version = 0; item = Msg 2 0 b } ∷ []
