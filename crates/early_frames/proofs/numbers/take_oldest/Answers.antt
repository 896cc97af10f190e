use Rattle.std.proofs.Common.{◌≡◌, ◌∙◌, ◌∷◌, ap, sym, subst, length, arith}
use Rattle.early_frames.specs.Arrivals.{frames_of, IsEarliest}
use Rattle.early_frames.proofs.Queue.{oldest}
use Rattle.early_frames.proofs.numbers.take_oldest.Goals as goal

pub returns-clause-frames : goal.returns-clause-frames
returns-clause-frames c =
    let all : c.len-count.result ≡ length c.args.kept.now.items = omega arith in
    oldest c.args.kept.now.items c.first_place-place.result c.in_ok-arrival.arrival c.in_ok-arrival.ensures.value
    (subst (λ n. IsEarliest c.args.kept.now.items n c.first_place-place.result) all c.first_place-place.ensures)
    ∙ ap (λ l. c.in_ok-arrival.arrival.frame ∷ frames_of l) (sym c.in_ok-arrival.ensures.items)
