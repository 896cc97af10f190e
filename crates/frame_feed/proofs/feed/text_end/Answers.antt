use Rattle.std.proofs.Common.{◌≡◌, ◌-◌, arith}
use Rattle.frame_feed.proofs.Amid.{no_text, ends_there}
use Rattle.frame_feed.proofs.feed.text_end.Goals as goal

pub returns-in-Start : goal.returns-in-Start
returns-in-Start c =
    let none : c.args.at - c.args.at ≡ 0 = omega arith in
    rw none (no_text c.args.stage)

pub returns-in-Within : goal.returns-in-Within
returns-in-Within c =
    let w = c.in-Within in
    rw (c.unwrap_or.ensures, w.is) (ends_there c.args.at w.size w.count w.before c.checked_add.result _ c.checked_add.ensures)
