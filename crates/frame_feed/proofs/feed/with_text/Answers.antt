use Rattle.std.proofs.Common.{◌≡◌, sym, arith}
use Rattle.upd_frame.specs.declared.progress.Stage.TheVariants.{Start, Within}
use Rattle.frame_feed.proofs.Amid.{waits, no_text}
use Rattle.frame_feed.proofs.feed.with_text.Goals as goal

pub returns-then-size-eq0 : goal.returns-then-size-eq0
returns-then-size-eq0 c =
    let none : c.args.size ≡ 0 = omega arith in
    rw none (sym (no_text c.args.stage))

pub returns-in-Start : goal.returns-in-Start
returns-in-Start c = rw c.in-Start.is (sym (waits c.args.size Start (omega arith)))

pub returns-in-Within : goal.returns-in-Within
returns-in-Within c = rw c.in-Within.is (sym (waits c.args.size (Within c.in-Within.size c.in-Within.count c.in-Within.before) (omega arith)))
