use Rattle.std.proofs.Common.{◌≡◌, ◌<◌, Some, length, refl, arith, subst}
use Rattle.std.specs.Prelude.{slice_get, unwrap_or}
use Rattle.std.proofs.lemmas.Option.{slice_get_read}
use Rattle.order_trait.specs.Here.{like_self}
use Rattle.order_trait.specs.Outbox.{Grows}
use Rattle.upd_base.specs.Item.{origin_of, ItemFits}
use Rattle.upd_base.specs.declared.item.Item.{Item}
use Rattle.member_rules.specs.Kept.{group_of, HeldFits}
use Rattle.member_rules.specs.Steps.{SentFits}
use Rattle.member_rules.proofs.Basics.{calm_of}
use Rattle.member_rules.proofs.Came.{came_kind, came_again, came_made}
use Rattle.member_rules.proofs.Frames.{all_releasing}
use Rattle.member_rules.proofs.Inputs.{all_grown, grows_then}
use Rattle.member_rules.proofs.Members.{member_processed}
use Rattle.member_core.specs.Member.{kept_by}
use Rattle.member_core.proofs.Outcomes.{member_of}
use Rattle.member_core.proofs.Processing.{seat_at, items_fit, rest_of, process_holds, process_frames}
use Rattle.member_core.proofs.member.Member.process.Goals as goal

pub entered-requires-clause-served : goal.entered-requires-clause-served
entered-requires-clause-served g c = λ κs live kind is.
    let G = g.O.Ordering in
    let k = kept_by c.args.self.now in
    let m = member_of c.args.self.now in
    let v = c.args.frame.now.version in
    let was = c.index-module.result.now in
    let o = c.in_ok-outcome.outcome in
    let lt : v < length k.modules = let e = m.versions in let f = c.requires.version in omega arith in
    let at : slice_get k.modules v ≡ Some was = slice_get_read k.modules (length k.modules) v was refl lt c.index-module.ensures in
    let fit = items_fit G k v was c.new-delivered.result.items c.after_receipt.new.delivered.items m at c.new-delivered.ensures.items c.in_ok-next.ensures.items_fit in
    (came_kind (group_of G k) k.members k.repl (unwrap_or o.repl k.repl) v c.after_receipt.new.delivered.items o.entries.items o.next o.again.items kind c.in_ok-outcome.ensures.came is fit).0

pub entered-requires-clause-kind_fits : goal.entered-requires-clause-kind_fits
entered-requires-clause-kind_fits g c = λ κs live kind is.
    let G = g.O.Ordering in
    let k = kept_by c.args.self.now in
    let m = member_of c.args.self.now in
    let v = c.args.frame.now.version in
    let was = c.index-module.result.now in
    let o = c.in_ok-outcome.outcome in
    let lt : v < length k.modules = let e = m.versions in let f = c.requires.version in omega arith in
    let at : slice_get k.modules v ≡ Some was = slice_get_read k.modules (length k.modules) v was refl lt c.index-module.ensures in
    let fit = items_fit G k v was c.new-delivered.result.items c.after_receipt.new.delivered.items m at c.new-delivered.ensures.items c.in_ok-next.ensures.items_fit in
    (came_kind (group_of G k) k.members k.repl (unwrap_or o.repl k.repl) v c.after_receipt.new.delivered.items o.entries.items o.next o.again.items kind c.in_ok-outcome.ensures.came is fit).1

pub entered-requires-clause-own : goal.entered-requires-clause-own
entered-requires-clause-own g c = λ κs live kind is.
    let G = g.O.Ordering in
    let k = kept_by c.args.self.now in
    let o = c.in_ok-outcome.outcome in
    came_again (λ (x : Item). origin_of x ≡ k.me) G.is_served k.repl (unwrap_or o.repl k.repl) c.args.frame.now.version c.after_receipt.new.delivered.items o.entries.items o.next o.again.items kind c.in_ok-outcome.ensures.came is c.args.self.now.own

pub entered-requires-clause-items_fit : goal.entered-requires-clause-items_fit
entered-requires-clause-items_fit g c = λ κs live kind is.
    let G = g.O.Ordering in
    let k = kept_by c.args.self.now in
    let o = c.in_ok-outcome.outcome in
    came_again (ItemFits k.members) G.is_served k.repl (unwrap_or o.repl k.repl) c.args.frame.now.version c.after_receipt.new.delivered.items o.entries.items o.next o.again.items kind c.in_ok-outcome.ensures.came is c.args.self.now.items_fit

pub returns-clause-sound : goal.returns-clause-sound
returns-clause-sound g c =
    let G = g.O.Ordering in
    let k = kept_by c.args.self.now in
    let m = member_of c.args.self.now in
    let v = c.args.frame.now.version in
    let was = c.index-module.result.now in
    let o = c.in_ok-outcome.outcome in
    let lt : v < length k.modules = let e = m.versions in let f = c.requires.version in omega arith in
    let at : slice_get k.modules v ≡ Some was = slice_get_read k.modules (length k.modules) v was refl lt c.index-module.ensures in
    let first = subst (λ n. Grows (SentFits n) c.new-sent.result.items c.after_receipt.new.sent.items) (seat_at G k v was m at).0 c.in_ok-next.ensures.fits in
    record {
      reaches = lt;
      member = member_processed G k v was c.in_ok-next.next (unwrap_or o.repl k.repl) (rest_of c.args.releases k) o.entries.items o.next o.again.items c.in_ok-fresh.fresh c.after_receipt.new.delivered.items
          m at c.in_ok-next.ensures.seat (all_releasing (HeldFits k.members) c.args.releases k.repl.version k.held m.held_fit) c.in_ok-outcome.ensures.few c.in_ok-outcome.ensures.came c.in_ok-fresh.ensures.enters;
      made = let e = came_made G.is_served k.repl (unwrap_or o.repl k.repl) v c.after_receipt.new.delivered.items o.entries.items o.next o.again.items c.in_ok-outcome.ensures.came in omega arith;
      fits = all_grown (SentFits k.members) c.new-sent.result.items c.entered.new.sent.items c.new-sent.ensures.items
          (grows_then (SentFits k.members) c.new-sent.result.items c.after_receipt.new.sent.items c.entered.new.sent.items first c.in_ok-fresh.ensures.fits);
    }

pub returns-clause-turn : goal.returns-clause-turn
returns-clause-turn g c = λ part h more.
    let G = g.O.Ordering in
    let k = kept_by c.args.self.now in
    let m = member_of c.args.self.now in
    let L = g.met.O.Ordering g.world.𝓛 g.world.𝓜 g.world.𝓡 (like_self _ _) in
    let calm = calm_of G k m L.agreement L.integrity in
    let v = c.args.frame.now.version in
    let was = c.index-module.result.now in
    let o = c.in_ok-outcome.outcome in
    let lt : v < length k.modules = let e = m.versions in let f = c.requires.version in omega arith in
    let at : slice_get k.modules v ≡ Some was = slice_get_read k.modules (length k.modules) v was refl lt c.index-module.ensures in
    record {
      holds = process_holds G k c.args.from c.args.frame.now c.args.releases was c.in_ok-next.next (unwrap_or o.repl k.repl) o.entries.items o.next o.again.items c.in_ok-fresh.fresh
          c.new-delivered.result.items c.after_receipt.new.delivered.items part m calm h more at (c.in_ok-next.ensures.seat, c.in_ok-next.ensures.stands) c.new-delivered.ensures.items
          c.in_ok-next.ensures.delivered c.in_ok-next.ensures.items_fit c.in_ok-outcome.ensures.came c.in_ok-fresh.ensures.enters;
      frames = process_frames G k c.args.from c.args.frame.now c.args.releases was c.in_ok-next.next (unwrap_or o.repl k.repl) o.entries.items o.next o.again.items c.in_ok-fresh.fresh
          c.new-delivered.result.items c.after_receipt.new.delivered.items c.new-sent.result.items c.after_receipt.new.sent.items c.entered.new.sent.items part m h more at
          (c.in_ok-next.ensures.seat, c.in_ok-next.ensures.stands) c.new-delivered.ensures.items c.in_ok-next.ensures.delivered c.in_ok-outcome.ensures.came
          c.new-sent.ensures.items c.in_ok-next.ensures.sent c.in_ok-fresh.ensures.sent;
    }
