use Rattle.std.proofs.Common.{sym, arith}
use Rattle.early_frames.proofs.Order.{none_first}
use Rattle.early_frames.proofs.Queue.{released, none_reached}
use Rattle.early_frames.proofs.arrivals.first_among.Goals as goal

pub returns-then-reached-eq0 : goal.returns-then-reached-eq0
returns-then-reached-eq0 c =
    sym (none_first c.args.version c.args.kept.now.items (none_reached c.args.version c.args.kept.now.items c.count_up_to-reached.result (omega arith) c.count_up_to-reached.ensures.above))

pub returns : goal.returns
returns c =
    let is = released c.args.version c.args.kept.now.items c.count_up_to-reached.result c.first_place-place.result c.index.result.now (omega arith) c.index.ensures c.first_place-place.ensures
    c.count_up_to-reached.ensures.below c.count_up_to-reached.ensures.above in
    sym is.first
