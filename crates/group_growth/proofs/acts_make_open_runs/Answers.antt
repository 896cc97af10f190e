use Rattle.group_growth.proofs.Acting.{acts_are_runs, beginnings_follow, more_acts_go_on, rest_is_settled, open_logs_grow}
use Rattle.group_growth.proofs.acts_make_open_runs.Goals as goal

pub returns : goal.returns
returns c = record { runs = acts_are_runs; beginnings = beginnings_follow; go_on = more_acts_go_on; settled = rest_is_settled; logs = open_logs_grow }
