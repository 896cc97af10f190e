use Rattle.std.proofs.Common.{◌∙◌, false, refl, arith}
use Rattle.turn_lock.proofs.Lists.{IsPrefix-self, IsPrefix-trans}
use Rattle.member_threads.proofs.Working.{worked_start}
use Rattle.member_threads.proofs.serving.serve_link.Goals as goal

pub loop-init : goal.loop-init
loop-init g c = record { pass = c.requires.pass; parts = refl; seen = IsPrefix-self _; idle = omega arith; worked = worked_start _ _ c.args.from c.args.to _ g.L.Line _ _ false _ c.requires.fresh c.requires.even }

pub loop-preserved-in-Went : goal.loop-preserved-in-Went
loop-preserved-in-Went g c =
    let e = c.in-Went.ensures in
    let i = c.loop.invariant in
    record { pass = e.pass; parts = e.parts ∙ i.parts; seen = IsPrefix-trans _ _ _ i.seen e.seen; idle = omega arith; worked = e.worked _ i.worked }

pub loop-preserved : goal.loop-preserved
loop-preserved g c =
    let e = c.in-Nothing.ensures in
    let i = c.loop.invariant in
    record { pass = e.pass; parts = e.parts ∙ i.parts; seen = IsPrefix-trans _ _ _ i.seen e.seen; idle = c.if-idle-ge-IDLE_TURNS.false; worked = e.worked _ i.worked }

pub returns-then-idle-ge-IDLE_TURNS : goal.returns-then-idle-ge-IDLE_TURNS
returns-then-idle-ge-IDLE_TURNS g c =
    let e = c.in-Nothing.ensures in
    let i = c.loop.invariant in
    record { pass = e.pass; parts = e.parts ∙ i.parts; seen = IsPrefix-trans _ _ _ i.seen e.seen; worked = e.worked _ i.worked }

pub returns-in-Ended : goal.returns-in-Ended
returns-in-Ended g c =
    let e = c.in-Ended.ensures in
    let i = c.loop.invariant in
    record { pass = e.pass; parts = e.parts ∙ i.parts; seen = IsPrefix-trans _ _ _ i.seen e.seen; worked = e.worked _ i.worked }

pub returns-in-Wanted : goal.returns-in-Wanted
returns-in-Wanted g c =
    let e = c.in-Wanted.ensures in
    let i = c.loop.invariant in
    record { pass = e.pass; parts = e.parts ∙ i.parts; seen = IsPrefix-trans _ _ _ i.seen e.seen; worked = e.worked _ i.worked }
