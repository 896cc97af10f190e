use Rattle.std.proofs.Common.{◌∙◌, ap, sym, subst, arith}
use Rattle.std.proofs.lemmas.List.Quantifiers.{all_pairs_remove}
use Rattle.std.specs.Prelude.{AllPairs}
use Rattle.early_frames.specs.Arrivals.{Precedes, frames_of}
use Rattle.early_frames.proofs.Order.{none_first, none_rest}
use Rattle.early_frames.proofs.Queue.{released, none_reached}
use Rattle.early_frames.proofs.arrivals.take_first.Goals as goal

pub returns-then-reached-eq0-clause-first : goal.returns-then-reached-eq0-clause-first
returns-then-reached-eq0-clause-first c =
    sym (none_first c.args.version c.args.kept.now.items (none_reached c.args.version c.args.kept.now.items c.count_up_to-reached.result (omega arith) c.count_up_to-reached.ensures.above))

pub returns-then-reached-eq0-clause-rest : goal.returns-then-reached-eq0-clause-rest
returns-then-reached-eq0-clause-rest c =
    sym (none_rest c.args.version c.args.kept.now.items (none_reached c.args.version c.args.kept.now.items c.count_up_to-reached.result (omega arith) c.count_up_to-reached.ensures.above))

pub returns-clause-first : goal.returns-clause-first
returns-clause-first c =
    let is = released c.args.version c.args.kept.now.items c.count_up_to-reached.result c.first_place-place.result c.in_ok-arrival.arrival (omega arith) c.in_ok-arrival.ensures.value c.first_place-place.ensures
    c.count_up_to-reached.ensures.below c.count_up_to-reached.ensures.above in
    sym is.first

pub returns-clause-rest : goal.returns-clause-rest
returns-clause-rest c =
    let is = released c.args.version c.args.kept.now.items c.count_up_to-reached.result c.first_place-place.result c.in_ok-arrival.arrival (omega arith) c.in_ok-arrival.ensures.value c.first_place-place.ensures
    c.count_up_to-reached.ensures.below c.count_up_to-reached.ensures.above in
    ap frames_of c.in_ok-arrival.ensures.items ∙ is.rest

pub returns-clause-ordered : goal.returns-clause-ordered
returns-clause-ordered c =
    subst (AllPairs Precedes) (sym c.in_ok-arrival.ensures.items) (all_pairs_remove Precedes c.args.kept.now.items c.first_place-place.result (omega arith) c.requires)
