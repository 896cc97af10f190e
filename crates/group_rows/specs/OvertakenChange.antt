-- Two changes of one version.
use Rattle.std.specs.Prelude.{List, [], ◌∷◌}
use Rattle.upd_base.specs.Plan.{Planned}
use Rattle.upd_base.specs.declared.kind.Kind.TheVariants.{Sequencer, Lamport}
use Rattle.upd_base.specs.declared.item.Item.TheVariants.{Switch}
use Rattle.upd_base.specs.declared.entry.Entry.{Entry}
use Rattle.upd_base.specs.declared.event.Event.TheVariants.{Call, Receive}
use Rattle.upd_base.specs.declared.call.Call.TheVariants.{Change}
use Rattle.upd_base.specs.declared.answer.Answer.TheVariants.{Accepted}
use Rattle.group_run.specs.Run.{Events}

abbrev pub plan : Planned
plan = record { members = 2; first = Sequencer 0; threads = (record { at = 0; call = Change Lamport } ∷ []) ∷ (record { at = 1; call = Change Lamport } ∷ []) ∷ [] }

abbrev pub events : Events
events = Receive 0 0 ∷ Receive 0 1 ∷ Receive 0 0 ∷ Receive 1 0 ∷ Receive 0 1 ∷ Receive 0 0 ∷ Call 1 0 1 (Accepted 0) ∷ Call 0 0 0 (Accepted 0) ∷ []

-- what the members deliver
abbrev pub log : List Entry
log = record { version = 0; item = Switch 0 0 Lamport } ∷ []
