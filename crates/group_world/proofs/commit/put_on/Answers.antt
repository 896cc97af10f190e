use Rattle.std.proofs.Common.{◌∙◌, arith}
use Rattle.group_world.proofs.Sends.{first_fits, rest_fit, first_room, rest_room, rest_added}
use Rattle.group_world.proofs.commit.put_on.Goals as goal

pub send_ready-requires-clause-to_fits : goal.send_ready-requires-clause-to_fits
send_ready-requires-clause-to_fits c =
    let i = c.loop-to.invariant in
    let h = first_fits c.args.links.now.members c.loop-to.sent c.drain_first.new.self _ c.in-Some.ensures.first i.receivers in
    let m = i.members in
    omega (arith, h, m)

pub send_ready-requires-clause-room : goal.send_ready-requires-clause-room
send_ready-requires-clause-room c =
    let i = c.loop-to.invariant in
    let e = c.in-Some.ensures.first in
    first_room c.loop-to.links c.args.from c.loop-to.sent c.drain_first.new.self _ e (i.room _ (first_fits c.args.links.now.members c.loop-to.sent c.drain_first.new.self _ e i.receivers))

pub loop-to-preserved : goal.loop-to-preserved
loop-to-preserved c =
    let i = c.loop-to.invariant in
    let e = c.in-Some.ensures.first in
    let s = c.send_ready.ensures in
    record {
      members = s.members ∙ i.members;
      receivers = rest_fit c.args.links.now.members c.loop-to.sent c.drain_first.new.self _ e i.receivers;
      room = λ to l. let m = i.members in let f = c.requires.from_fits in rest_room c.loop-to.links c.send_ready.new.self c.args.from to c.loop-to.sent c.drain_first.new.self _ (omega arith) (omega arith) e s.spare s.others (i.room to l);
      added = λ a b l k. let m = i.members in rest_added c.loop-to.links c.send_ready.new.self c.args.from a b c.loop-to.sent c.drain_first.new.self _ (omega arith) (omega arith) e s.frames s.others ∙ i.added a b l k;
    }
