-- A change to the kind that is bound.
use Rattle.std.specs.Prelude.{List, [], ◌∷◌}
use Rattle.upd_base.specs.Plan.{Planned}
use Rattle.upd_base.specs.declared.kind.Kind.TheVariants.{Sequencer}
use Rattle.upd_base.specs.declared.item.Item.TheVariants.{Msg, Switch}
use Rattle.upd_base.specs.declared.entry.Entry.{Entry}
use Rattle.upd_base.specs.declared.event.Event.TheVariants.{Call, Receive}
use Rattle.upd_base.specs.declared.call.Call.TheVariants.{Send, Change}
use Rattle.upd_base.specs.declared.answer.Answer.TheVariants.{Accepted}
use Rattle.group_run.specs.Run.{Events}
use Rattle.group_rows.specs.Texts.{a, b}

abbrev pub plan : Planned
plan = record { members = 1; first = Sequencer 0; threads = (record { at = 0; call = Send a } ∷ record { at = 0; call = Change (Sequencer 0) } ∷ record { at = 0; call = Send b } ∷ []) ∷ [] }

abbrev pub events : Events
events = Receive 0 0 ∷ Receive 0 0 ∷ Receive 0 0 ∷ Receive 0 0 ∷ Receive 0 0 ∷ Receive 0 0 ∷ Call 0 2 0 (Accepted 2) ∷ Receive 0 0 ∷ Call 0 1 0 (Accepted 1) ∷ Receive 0 0 ∷ Call 0 0 0 (Accepted 0) ∷ []

-- what the members deliver
abbrev pub log : List Entry
log = record { version = 0; item = Msg 0 0 a } ∷ record { version = 0; item = Switch 0 1 (Sequencer 0) } ∷ record { version = 1; item = Msg 0 2 b } ∷ []
