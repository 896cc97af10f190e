use Rattle.std.proofs.Common.{◌≡◌, ◌-◌, None}
use Rattle.upd_frame.specs.Reading.{items}
use Rattle.upd_frame.proofs.Loop.{with_front}
use Rattle.upd_frame.proofs.reading.items_at.Given as goal

abbrev pub invariant-loop : goal.invariant-loop
invariant-loop l = with_front l.items.items (items (l.count - l.counter) l.before l.all l.left.now) ≡ items l.count None l.all l.fn.left.now
