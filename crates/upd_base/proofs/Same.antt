-- The derived comparisons of items, batches, bodies and frames decide whether two are the same.
use Rattle.std.proofs.Common.{◌≡◌, List, rules}
use Rattle.std.specs.Prelude.{Decides}
use Rattle.std.specs.Cmp.Lexicographic.{pointwise_decides}
use Rattle.upd_base.specs.declared.item.Item.{Item}
use Rattle.upd_base.specs.declared.body.Body.{Body}
use Rattle.upd_base.specs.declared.frame.Frame.{Frame}
use Rattle.upd_base.specs.declared.body.Body.TheVariants.{Ask, Ord, Req, Ack, Rb, Est, Prop, Reply, Next, Decide, Past}
use Rattle.upd_base.specs.contracts.item.ItemPartialEq.TheImpl as item_eq
use Rattle.upd_base.specs.contracts.batch.BatchPartialEq.TheImpl as batch_eq
use Rattle.upd_base.specs.contracts.body.BodyPartialEq.TheImpl as body_eq
use Rattle.upd_base.specs.contracts.frame.FramePartialEq.TheImpl as frame_eq

pub items_decide : (a b : Item) → Decides ((item_eq.ghosts).eq a b) (a ≡ b)
items_decide a b = search rules

pub batches_decide : (a b : List Item) → Decides ((batch_eq.ghosts).eq a b) (a ≡ b)
batches_decide = pointwise_decides items_decide

pub bodies_decide : (a b : Body) → Decides ((body_eq.ghosts).eq a b) (a ≡ b)
bodies_decide (Ask i) (Ask j) = search (rules, items_decide)
bodies_decide (Ord p i) (Ord q j) = search (rules, items_decide)
bodies_decide (Req s i) (Req t j) = search (rules, items_decide)
bodies_decide (Ack s) (Ack t) = search rules
bodies_decide (Rb i) (Rb j) = search (rules, items_decide)
bodies_decide (Est k r s x) (Est l q t y) = search (rules, batches_decide)
bodies_decide (Prop k r x) (Prop l q y) = search (rules, batches_decide)
bodies_decide (Reply k r x) (Reply l q y) = search rules
bodies_decide (Next k r) (Next l q) = search rules
bodies_decide (Decide k x) (Decide l y) = search (rules, batches_decide)
bodies_decide Past Past = search rules
bodies_decide a b = search rules

pub frames_decide : (a b : Frame) → Decides ((frame_eq.ghosts).eq a b) (a ≡ b)
frames_decide a b = search (rules, bodies_decide)
