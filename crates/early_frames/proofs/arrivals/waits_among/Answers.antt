use Rattle.std.proofs.Common.{◌∙◌, ◌-◌, ap, sym, arith}
use Rattle.std.proofs.lemmas.List.{get_or_default}
use Rattle.early_frames.specs.Arrivals.{version_of}
use Rattle.early_frames.proofs.Queue.{none_lower, waits_not, waits_at}
use Rattle.early_frames.proofs.arrivals.waits_among.Goals as goal

pub returns-then-eq : goal.returns-then-eq
returns-then-eq c =
    let same = c.index-in-loop-at.ensures ∙ get_or_default c.args.kept.now.items (c.loop-at.at - 1) c.index-in-loop-at.result.now c.index.result.now (omega arith) ∙ sym c.index.ensures in
    waits_at c.args.from c.args.version c.args.kept.now.items (c.loop-at.at - 1) c.index-in-loop-at.result.now (omega arith) c.index-in-loop-at.ensures (sym c.eq.ensures ∙ c.if-eq.true)
    (ap version_of same ∙ c.if-index-version.true)

pub returns-else-index-version : goal.returns-else-index-version
returns-else-index-version c =
    waits_not c.args.from c.args.version c.args.kept.now.items
    (none_lower c.args.from c.args.version c.args.kept.now.items c.loop-at.at c.index.result.now c.requires c.loop-at-test.true c.loop-at.invariant.within c.index.ensures c.if-index-version.false
    c.loop-at.invariant.below c.loop-at.invariant.none)

pub returns-after-loop-at : goal.returns-after-loop-at
returns-after-loop-at c = waits_not c.args.from c.args.version c.args.kept.now.items (λ k d lt. c.loop-at.invariant.none k d (omega arith) lt)
