use Rattle.std.proofs.Common.{◌≡◌, ◌<◌, ◌≤◌, sym, arith, subst, length}
use Rattle.std.proofs.lemmas.Option.{slice_get_within}
use Rattle.fifo_net.specs.Net.{bodies_to}
use Rattle.fifo_link.specs.Links.{spare_of}
use Rattle.group_world.specs.Prepared.{MemberHasRoom, place_of}
use Rattle.group_world.proofs.world.World.commit.Goals as goal

pub commit_at-sent-requires-after_bounds : goal.commit_at-sent-requires-after_bounds
commit_at-sent-requires-after_bounds g c κs within = subst (λ i. MemberHasRoom g.O.Ordering c.args.self.now.members.items i c.args.prepared.member) (sym c.place_of-at.ensures) c.requires.member

pub put_on-requires-clause-from_fits : goal.put_on-requires-clause-from_fits
put_on-requires-clause-from_fits g c =
    let m : c.take_off.new.links.members ≡ c.args.self.now.links.members = c.take_off.ensures.members in
    let e = c.place_of-at.ensures in
    let w = c.requires.width in
    let l = slice_get_within c.args.self.now.members.items (place_of c.args.prepared.event) c.requires.member.0 c.requires.member.1 in
    omega (arith, m, e, w, l)

pub put_on-requires-clause-room : goal.put_on-requires-clause-room
put_on-requires-clause-room g c to l =
    let m : c.take_off.new.links.members ≡ c.args.self.now.links.members = c.take_off.ensures.members in
    let e = c.place_of-at.ensures in
    let w = c.requires.width in
    let lt = slice_get_within c.args.self.now.members.items (place_of c.args.prepared.event) c.requires.member.0 c.requires.member.1 in
    let below : c.place_of-at.result < c.args.self.now.links.members = omega (arith, e, w, lt) in
    let there : to < c.args.self.now.links.members = omega (arith, m, l) in
    let more : spare_of c.args.self.now.links c.place_of-at.result to ≤ spare_of c.take_off.new.links c.place_of-at.result to = c.take_off.ensures.spare c.place_of-at.result to below there in
    let had : length (bodies_to to c.commit_at-sent.result) ≤ spare_of c.args.self.now.links c.place_of-at.result to =
    subst (λ i. length (bodies_to to c.commit_at-sent.result) ≤ spare_of c.args.self.now.links i to) (sym e)
    (subst (λ xs. length (bodies_to to xs) ≤ spare_of c.args.self.now.links (place_of c.args.prepared.event) to) (sym c.commit_at-sent.ensures.sent) (c.requires.room to there)) in
    omega (arith, more, had)
