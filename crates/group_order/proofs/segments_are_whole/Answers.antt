use Rattle.group_order.proofs.Whole.{whole_segments, limits_versions}
use Rattle.group_order.proofs.segments_are_whole.Goals as goal

pub returns : goal.returns
returns c = record { whole = whole_segments; limit = limits_versions }
