use Rattle.group_growth.proofs.Plans.{said_goes_on, said_is_open}
use Rattle.group_growth.proofs.Saying.{says_at_once}
use Rattle.group_growth.proofs.calls_are_said_at_once.Goals as goal

pub returns : goal.returns
returns c = record { goes_on = said_goes_on; opens = said_is_open; said = says_at_once }
