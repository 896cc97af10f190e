use Rattle.std.proofs.Common.{◌∙◌, ◌++◌, sym, ap}
use Rattle.std.specs.Prelude.{option_to_list}
use Rattle.fifo_link.proofs.Rings.{touched, taken_more}
use Rattle.fifo_link.proofs.links.Links.take.Goals as goal

pub returns-clause-rest : goal.returns-clause-rest
returns-clause-rest c =
    let t = touched c.self.inside.members c.args.self.now c.self.inside.rings.items c.place-place.result c.args.from c.args.to c.index_mut.result.now c.pop.new.ring c.self.view_is c.self.invariant.1 c.requires.from_fits c.requires.to_fits c.place-place.ensures c.index_mut.ensures.value in
    t.was ∙ c.pop.ensures.rest ∙ ap (λ xs. option_to_list c.pop.result ++ xs) (sym t.is)

pub returns-clause-taken : goal.returns-clause-taken
returns-clause-taken c sent taken s =
    let t = touched c.self.inside.members c.args.self.now c.self.inside.rings.items c.place-place.result c.args.from c.args.to c.index_mut.result.now c.pop.new.ring c.self.view_is c.self.invariant.1 c.requires.from_fits c.requires.to_fits c.place-place.ensures c.index_mut.ensures.value in
    taken_more (option_to_list c.pop.result) _ _ sent taken (t.was ∙ c.pop.ensures.rest ∙ ap (λ xs. option_to_list c.pop.result ++ xs) (sym t.is)) s

pub returns-clause-spare : goal.returns-clause-spare
returns-clause-spare c =
    let t = touched c.self.inside.members c.args.self.now c.self.inside.rings.items c.place-place.result c.args.from c.args.to c.index_mut.result.now c.pop.new.ring c.self.view_is c.self.invariant.1 c.requires.from_fits c.requires.to_fits c.place-place.ensures c.index_mut.ensures.value in
    rw (t.had, t.has) c.pop.ensures.spare

pub returns-clause-others : goal.returns-clause-others
returns-clause-others c =
    let t = touched c.self.inside.members c.args.self.now c.self.inside.rings.items c.place-place.result c.args.from c.args.to c.index_mut.result.now c.pop.new.ring c.self.view_is c.self.invariant.1 c.requires.from_fits c.requires.to_fits c.place-place.ensures c.index_mut.ensures.value in
    t.others
