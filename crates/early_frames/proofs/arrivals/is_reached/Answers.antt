use Rattle.std.proofs.Common.{◌<◌, refl, arith}
use Rattle.std.specs.VecDeque.{deque_len}
use Rattle.early_frames.proofs.Queue.{front_ready}
use Rattle.early_frames.proofs.arrivals.is_reached.Goals as goal

pub returns-in-Some : goal.returns-in-Some
returns-in-Some c =
    let some : 0 < deque_len c.args.kept.now = c.in-Some.ensures.variant.0 refl in
    front_ready c.args.version c.args.kept.now.items c.in-Some.first.now c.requires (omega arith) c.in-Some.ensures.lookup
