-- What a member broadcast, and what stands in a log, was accepted by its origin: so it has a lower number than the next.
use Rattle.std.proofs.Common.{ℕ, ◌≡◌, ◌<◌, ◌^◌, inl, inr, List, [], length, subst, arith}
use Rattle.std.specs.Prelude.{Contains}
use Rattle.fifo_net.specs.Net.{inputs_of}
use Rattle.order_trait.specs.Runs.{broadcast_in}
use Rattle.order_trait.proofs.Broadcasts.{broadcasts}
use Rattle.std.specs.List.{list_any}
use Rattle.upd_base.specs.Item.{has_id, origin_of, number_of}
use Rattle.upd_base.specs.declared.entry.Entry.{Entry}
use Rattle.group_members.proofs.Fresh.{has_parts, sent_by_origin, accepted_below}
use Rattle.group_versions.proofs.Logs.{logged_entry, logged_segment}
use Rattle.upd_base.specs.declared.item.Item.{Item}
use Rattle.upd_base.specs.declared.item.Item.TheVariants.{Msg}
use Rattle.group_run.specs.Group.{Group}
use Rattle.group_run.specs.Part.{Part, log}
use Rattle.group_run.specs.Run.{Moves, turn_at}
use Rattle.group_run.specs.Projection.{steps_made}
use Rattle.group_run.specs.Growing.{NextIsNew}
use Rattle.group_run.proofs.Lists.{tested}
use Rattle.group_versions.proofs.Versions.{seg_at}
use Rattle.group_projection.proofs.World.{Sound, Lawful, segment_sent}
use Rattle.group_members.proofs.Own.{own_all}
use Rattle.group_projection.proofs.Moved.{world_of}

-- what stands in a segment was accepted by its origin
pub segment_accepted : (g : Group) (ms : Moves) → Lawful g → (s : Sound g (world_of g ms)) → ((v : ℕ) → length (steps_made g v ms) < 2 ^ 40) → (i v : ℕ) → i < g.members → v < length (turn_at g ms i).part.modules →
    (x : Item) → Contains (seg_at g i v (turn_at g ms i).part.modules) x → (origin_of x < g.members) × Contains (turn_at g ms (origin_of x)).part.accepted x
segment_accepted g ms l s c i v hi vi x h =
    let r = sent_by_origin g.members (steps_made g v ms) (s.fit v) x (segment_sent g (world_of g ms) l s i v hi vi (c v) x h) in
    let j : ℕ = origin_of x in
    (r.0, (own_all g j (inputs_of j ms) r.0).sent v x (subst (λ xs. Contains (broadcasts xs) x) (s.inputs j v) r.1))

-- what a member broadcast has a smaller number than the next that it accepts
pub numbered : (g : Group) (ms : Moves) (me : ℕ) → me < g.members → Sound g (world_of g ms) → (v : ℕ) (o : Item) → Contains (broadcast_in (steps_made g v ms)) o → origin_of o ≡ me → number_of o < length (turn_at g ms me).part.accepted
numbered g ms me member s v o c is =
    let own = own_all g me (inputs_of me ms) member in
    let r = sent_by_origin g.members (steps_made g v ms) (s.fit v) o c in
    let b : Contains (broadcasts (inputs_of me (steps_made g v ms))) o = subst (λ i. Contains (broadcasts (inputs_of i (steps_made g v ms))) o) is r.1 in
    accepted_below g me (turn_at g ms me).part own o (own.sent v o (subst (λ xs. Contains (broadcasts xs) o) (s.inputs me v) b))

-- the next number of a member is in no entry of its log
pub next_new : (g : Group) (ms : Moves) → Lawful g → (s : Sound g (world_of g ms)) → ((v : ℕ) → length (steps_made g v ms) < 2 ^ 40) → (me : ℕ) → me < g.members → NextIsNew g me (turn_at g ms me).part
next_new g ms l s c me member = elim (tested (list_any (λ e. has_id (me, next) e.item) es)) [
  | inl is ↦
      let e = logged_entry (Msg me next []) es is in
      let z = logged_segment g me p.modules e.0 e.1 in
      let id = has_parts (me, next) e.0.item e.2 in
      let a = segment_accepted g ms l s c me z.0 member z.1 e.0.item z.2 in
      let mine : Contains p.accepted e.0.item = subst (λ i. Contains (turn_at g ms i).part.accepted e.0.item) id.0 a.1 in
      let low = accepted_below g me p (own_all g me (inputs_of me ms) member) e.0.item mine in
      let num = id.1 in
      absurd (omega arith)
  | inr is ↦ is
]
  where
    p : Part
    p = (turn_at g ms me).part

    next : ℕ
    next = length p.accepted

    es : List Entry
    es = log g me p
