use Rattle.std.proofs.Common.{◌≡◌, refl, sym, ap, true, ◌∙◌, IsSome}
use Rattle.upd_base.specs.Batch.{batch, is_batch}
use Rattle.upd_frame.proofs.Items.{read_batch}
use Rattle.upd_frame.proofs.reading.batch_at.Goals as goal

pub unwrap-requires : goal.unwrap-requires
unwrap-requires c =
    let good = read_batch c.in_ok-count.count c.args.all c.count_at.new.left.now c.in_ok-items.items.items c.items_at.new.left.now c.in_ok-count.ensures.range c.in_ok-items.ensures in
    rw (c.new.ensures, good) refl
