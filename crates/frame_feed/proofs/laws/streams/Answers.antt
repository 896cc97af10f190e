use Rattle.frame_feed.proofs.Splitting.{one_way}
use Rattle.frame_feed.proofs.laws.streams.Goals as goal

pub returns : goal.returns
returns c = record { one_way = one_way }
