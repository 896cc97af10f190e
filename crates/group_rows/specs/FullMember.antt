-- The sequencer crashes at once, and the other member sends 65 messages.
use Rattle.std.specs.Prelude.{ℕ, zero, suc, [], ◌∷◌, replicate}
use Rattle.upd_base.specs.Plan.{Planned}
use Rattle.upd_base.specs.declared.kind.Kind.TheVariants.{Sequencer}
use Rattle.upd_base.specs.declared.event.Event.TheVariants.{Call}
use Rattle.upd_base.specs.declared.call.Call.TheVariants.{Send, Crash}
use Rattle.upd_base.specs.declared.answer.Answer.TheVariants.{Accepted, Done, Full}
use Rattle.group_run.specs.Run.{Events}
use Rattle.group_rows.specs.Texts.{a}

abbrev pub plan : Planned
plan = record { members = 2; first = Sequencer 0; threads = (record { at = 0; call = Crash } ∷ replicate 65 (record { at = 1; call = Send a })) ∷ [] }

-- the crash, and then so many sends
abbrev pub sends : ℕ → Events
sends zero = Call 0 0 0 Done ∷ []
sends (suc k) = Call 0 (suc k) 1 (Accepted k) ∷ sends k

abbrev pub events : Events
events = Call 0 65 1 Full ∷ sends 64
