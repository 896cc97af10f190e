use Rattle.std.proofs.Common.{◌∙◌, [], ◌∷◌, ◌++◌, sym, ap}
use Rattle.fifo_link.proofs.Rings.{touched, sent_more}
use Rattle.fifo_link.proofs.links.Links.send_ready.Goals as goal

pub returns-clause-frames : goal.returns-clause-frames
returns-clause-frames c =
    let t = touched c.self.inside.members c.args.self.now c.self.inside.rings.items c.place-place.result c.args.from c.args.to c.index_mut.result.now c.push_ready.new.ring c.self.view_is c.self.invariant.1 c.requires.from_fits c.requires.to_fits c.place-place.ensures c.index_mut.ensures.value in
    t.is ∙ c.push_ready.ensures.items ∙ ap (λ xs. xs ++ c.args.frame ∷ []) (sym t.was)

pub returns-clause-sent : goal.returns-clause-sent
returns-clause-sent c sent taken s =
    let t = touched c.self.inside.members c.args.self.now c.self.inside.rings.items c.place-place.result c.args.from c.args.to c.index_mut.result.now c.push_ready.new.ring c.self.view_is c.self.invariant.1 c.requires.from_fits c.requires.to_fits c.place-place.ensures c.index_mut.ensures.value in
    sent_more c.args.frame _ _ sent taken (t.is ∙ c.push_ready.ensures.items ∙ ap (λ xs. xs ++ c.args.frame ∷ []) (sym t.was)) s

pub returns-clause-spare : goal.returns-clause-spare
returns-clause-spare c =
    let t = touched c.self.inside.members c.args.self.now c.self.inside.rings.items c.place-place.result c.args.from c.args.to c.index_mut.result.now c.push_ready.new.ring c.self.view_is c.self.invariant.1 c.requires.from_fits c.requires.to_fits c.place-place.ensures c.index_mut.ensures.value in
    rw (t.had, t.has) c.push_ready.ensures.spare

pub returns-clause-others : goal.returns-clause-others
returns-clause-others c =
    let t = touched c.self.inside.members c.args.self.now c.self.inside.rings.items c.place-place.result c.args.from c.args.to c.index_mut.result.now c.push_ready.new.ring c.self.view_is c.self.invariant.1 c.requires.from_fits c.requires.to_fits c.place-place.ensures c.index_mut.ensures.value in
    t.others
