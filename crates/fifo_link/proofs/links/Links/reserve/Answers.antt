use Rattle.std.proofs.lemmas.Result.{on_ok_weaker}
use Rattle.fifo_link.proofs.Rings.{touched, waiting_same}
use Rattle.fifo_link.proofs.links.Links.reserve.Goals as goal

pub returns-clause-same : goal.returns-clause-same
returns-clause-same c =
    waiting_same c.self.inside.members c.args.self.now c.self.inside.rings.items c.place-place.result c.index_mut.result.now c.reserve.new.ring c.self.view_is c.index_mut.ensures.value c.reserve.ensures.same

pub returns-clause-room : goal.returns-clause-room
returns-clause-room c =
    let t = touched c.self.inside.members c.args.self.now c.self.inside.rings.items c.place-place.result c.args.from c.args.to c.index_mut.result.now c.reserve.new.ring c.self.view_is c.self.invariant.1 c.requires.from_fits c.requires.to_fits c.place-place.ensures c.index_mut.ensures.value in
    on_ok_weaker c.reserve.result (λ e. rw t.has e) c.reserve.ensures.room

pub returns-clause-spare : goal.returns-clause-spare
returns-clause-spare c =
    let t = touched c.self.inside.members c.args.self.now c.self.inside.rings.items c.place-place.result c.args.from c.args.to c.index_mut.result.now c.reserve.new.ring c.self.view_is c.self.invariant.1 c.requires.from_fits c.requires.to_fits c.place-place.ensures c.index_mut.ensures.value in
    rw (t.had, t.has) c.reserve.ensures.spare

pub returns-clause-others : goal.returns-clause-others
returns-clause-others c =
    let t = touched c.self.inside.members c.args.self.now c.self.inside.rings.items c.place-place.result c.args.from c.args.to c.index_mut.result.now c.reserve.new.ring c.self.view_is c.self.invariant.1 c.requires.from_fits c.requires.to_fits c.place-place.ensures c.index_mut.ensures.value in
    t.others
