use Rattle.std.proofs.Common.{◌<◌, ◌∙◌, ap, sym, subst, length, arith}
use Rattle.std.proofs.lemmas.Bool.{ltb-true, ltb-false}
use Rattle.std.proofs.lemmas.List.{get_or_default}
use Rattle.early_frames.specs.declared.arrivals.Arrival.{Arrival}
use Rattle.early_frames.specs.Arrivals.{IsEarliest}
use Rattle.early_frames.proofs.Queue.{earliest_stayed, earliest_changed}
use Rattle.early_frames.proofs.arrivals.first_place.Goals as goal
use Rattle.early_frames.proofs.arrivals.first_place.Goals.{then-index, else-index}

pub loop-at-preserved : goal.loop-at-preserved
loop-at-preserved c =
    let within : c.loop-at.at < length c.args.kept.now.items = omega arith in
    let same = c.index-in-loop-at.ensures ∙ get_or_default c.args.kept.now.items c.loop-at.at c.index-in-loop-at.result.now c.index-in-loop-at-3.result.now within ∙ sym c.index-in-loop-at-3.ensures in
    let number = ap (λ (a : Arrival). a.number) same in
    record {
      within = omega arith;
      counted = elim c.if-index.branch [ then-index w ↦ omega arith | else-index w ↦ omega arith ];
      earliest = elim c.if-index.branch [
        | then-index w ↦ subst (IsEarliest c.args.kept.now.items c.count_up_to-at-in-loop-at.result) (sym w.first-is)
            (earliest_changed c.args.kept.now.items c.loop-at.first c.loop-at.at c.count_up_to-at-in-loop-at.result c.index-in-loop-at-3.result.now c.index-in-loop-at-2.result.now
            c.requires.ordered within (omega arith) c.index-in-loop-at-3.ensures c.index-in-loop-at-2.ensures c.loop-at.invariant.earliest (omega (arith, ltb-true))
            c.count_up_to-at-in-loop-at.ensures.below c.count_up_to-at-in-loop-at.ensures.above)
        | else-index w ↦ subst (IsEarliest c.args.kept.now.items c.count_up_to-at-in-loop-at.result) (sym w.first-is)
            (earliest_stayed c.args.kept.now.items c.loop-at.first c.loop-at.at c.count_up_to-at-in-loop-at.result c.index-in-loop-at-3.result.now c.index-in-loop-at-2.result.now
            c.requires.ordered within (omega arith) c.index-in-loop-at-3.ensures c.index-in-loop-at-2.ensures c.loop-at.invariant.earliest (omega (arith, ltb-false))
            c.count_up_to-at-in-loop-at.ensures.below c.count_up_to-at-in-loop-at.ensures.above)
      ];
    }
