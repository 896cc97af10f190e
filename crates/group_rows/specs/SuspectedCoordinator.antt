-- Two members with consensus; member 1 suspects the first coordinator, sends a message, and trusts it again.
use Rattle.std.specs.Prelude.{List, [], ◌∷◌}
use Rattle.upd_base.specs.Plan.{Planned}
use Rattle.upd_base.specs.declared.kind.Kind.TheVariants.{Consensus}
use Rattle.upd_base.specs.declared.item.Item.TheVariants.{Msg}
use Rattle.upd_base.specs.declared.entry.Entry.{Entry}
use Rattle.upd_base.specs.declared.event.Event.TheVariants.{Call, Receive}
use Rattle.upd_base.specs.declared.call.Call.TheVariants.{Send, Suspect, Trust}
use Rattle.upd_base.specs.declared.answer.Answer.TheVariants.{Accepted, Done}
use Rattle.consensus_rules.specs.Consensus.{delivers_of, is_consensus, sends_of}
use Rattle.group_run.specs.Group.{Rules}
use Rattle.group_run.specs.Run.{Events}
use Rattle.group_rows.specs.Texts.{a}

-- the rules of a group that can bind the kind by consensus alone
abbrev pub by_consensus : Rules
by_consensus = record { sends = sends_of; delivers = delivers_of; serves = is_consensus }

abbrev pub plan : Planned
plan = record { members = 2; first = Consensus; threads = (record { at = 1; call = Suspect 0 } ∷ record { at = 1; call = Send a } ∷ record { at = 1; call = Trust 0 } ∷ []) ∷ [] }

abbrev pub events : Events
events =
    Receive 0 1 ∷ Receive 0 0 ∷ Receive 1 0 ∷ Receive 1 1 ∷ Receive 0 1 ∷ Receive 1 1 ∷ Receive 1 0 ∷
    Receive 1 1 ∷ Call 0 2 1 Done ∷ Receive 0 1 ∷ Receive 0 1 ∷ Receive 0 1 ∷ Receive 0 1 ∷ Receive 1 1 ∷
    Receive 0 0 ∷ Receive 0 0 ∷ Receive 1 0 ∷ Receive 0 0 ∷ Receive 0 0 ∷ Receive 0 0 ∷ Receive 1 0 ∷
    Receive 1 0 ∷ Receive 1 1 ∷ Call 0 1 1 (Accepted 0) ∷ Call 0 0 1 Done ∷ []

-- what the members deliver
abbrev pub log : List Entry
log = record { version = 0; item = Msg 1 0 a } ∷ []
