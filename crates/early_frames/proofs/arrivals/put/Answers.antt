use Rattle.std.proofs.Common.{rules, ◌≡◌, ◌<◌, ◌+◌, ◌∙◌, ap, sym, subst, All, arith}
use Rattle.std.specs.Prelude.{AllPairs}
use Rattle.std.specs.List.{insert}
use Rattle.early_frames.specs.declared.arrivals.Arrival.{Arrival}
use Rattle.early_frames.specs.Arrivals.{Precedes, frames_of}
use Rattle.early_frames.proofs.Queue.{put_frames, put_ordered, put_numbered}
use Rattle.early_frames.proofs.arrivals.put.Goals as goal

pub returns-clause-frames : goal.returns-clause-frames
returns-clause-frames c =
    let inserted : c.insert.new.self.items ≡ insert c.args.kept.now.items c.count_up_to-place.result (record { number = c.args.number; frame = c.args.frame }) = search rules in
    ap frames_of inserted ∙ put_frames c.args.kept.now.items c.count_up_to-place.result (record { number = c.args.number; frame = c.args.frame }) c.requires.newest

pub returns-clause-ordered : goal.returns-clause-ordered
returns-clause-ordered c =
    let inserted : c.insert.new.self.items ≡ insert c.args.kept.now.items c.count_up_to-place.result (record { number = c.args.number; frame = c.args.frame }) = search rules in
    subst (AllPairs Precedes) (sym inserted)
    (put_ordered c.args.kept.now.items c.count_up_to-place.result (record { number = c.args.number; frame = c.args.frame }) (omega arith) c.requires.ordered c.requires.newest
    c.count_up_to-place.ensures.below c.count_up_to-place.ensures.above)

pub returns-clause-numbered : goal.returns-clause-numbered
returns-clause-numbered c =
    let inserted : c.insert.new.self.items ≡ insert c.args.kept.now.items c.count_up_to-place.result (record { number = c.args.number; frame = c.args.frame }) = search rules in
    subst (All (λ (a : Arrival). a.number < c.args.number + 1)) (sym inserted)
    (put_numbered c.args.kept.now.items c.count_up_to-place.result (record { number = c.args.number; frame = c.args.frame }) c.requires.newest)
