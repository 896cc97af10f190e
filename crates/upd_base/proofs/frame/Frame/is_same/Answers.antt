use Rattle.std.proofs.Common.{rules}
use Rattle.upd_base.proofs.Same.{frames_decide}
use Rattle.upd_base.proofs.frame.Frame.is_same.Goals as goal

pub returns : goal.returns
returns c = let d = frames_decide c.args.self.now c.args.other.now in search (rules, c.eq.ensures, d)
