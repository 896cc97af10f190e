use Rattle.group_rows.proofs.Refused.{two_events, repeated}
use Rattle.group_rows.proofs.refused_events.repeated_receipt.Goals as goal

pub returns : goal.returns
returns c = record { before = two_events; refused = repeated }
