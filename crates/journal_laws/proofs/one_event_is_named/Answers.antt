use Rattle.journal_laws.proofs.Faults.{no_event, one_event}
use Rattle.journal_laws.proofs.one_event_is_named.Goals as goal

pub returns : goal.returns
returns c = record { one_event = one_event; no_event = no_event }
