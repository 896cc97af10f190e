use Rattle.std.proofs.Common.{◌∙◌, [], ◌∷◌, ◌++◌, sym, ap}
use Rattle.std.proofs.lemmas.Result.{on_ok_weaker, on_err_weaker}
use Rattle.fifo_link.proofs.Rings.{touched, sent_more}
use Rattle.fifo_link.proofs.links.Links.send.Goals as goal

pub returns-clause-ok : goal.returns-clause-ok
returns-clause-ok c =
    let t = touched c.self.inside.members c.args.self.now c.self.inside.rings.items c.place-place.result c.args.from c.args.to c.index_mut.result.now c.push.new.ring c.self.view_is c.self.invariant.1 c.requires.from_fits c.requires.to_fits c.place-place.ensures c.index_mut.ensures.value in
    on_ok_weaker c.push.result (λ e. t.is ∙ e ∙ ap (λ xs. xs ++ c.args.frame ∷ []) (sym t.was)) c.push.ensures.ok

pub returns-clause-err : goal.returns-clause-err
returns-clause-err c =
    let t = touched c.self.inside.members c.args.self.now c.self.inside.rings.items c.place-place.result c.args.from c.args.to c.index_mut.result.now c.push.new.ring c.self.view_is c.self.invariant.1 c.requires.from_fits c.requires.to_fits c.place-place.ensures c.index_mut.ensures.value in
    on_err_weaker c.push.result (λ e. t.is ∙ e ∙ sym t.was) c.push.ensures.err

pub returns-clause-sent : goal.returns-clause-sent
returns-clause-sent c =
    let t = touched c.self.inside.members c.args.self.now c.self.inside.rings.items c.place-place.result c.args.from c.args.to c.index_mut.result.now c.push.new.ring c.self.view_is c.self.invariant.1 c.requires.from_fits c.requires.to_fits c.place-place.ensures c.index_mut.ensures.value in
    on_ok_weaker c.push.result (λ e sent taken s. sent_more c.args.frame _ _ sent taken (t.is ∙ e ∙ ap (λ xs. xs ++ c.args.frame ∷ []) (sym t.was)) s) c.push.ensures.ok

pub returns-clause-others : goal.returns-clause-others
returns-clause-others c =
    let t = touched c.self.inside.members c.args.self.now c.self.inside.rings.items c.place-place.result c.args.from c.args.to c.index_mut.result.now c.push.new.ring c.self.view_is c.self.invariant.1 c.requires.from_fits c.requires.to_fits c.place-place.ensures c.index_mut.ensures.value in
    t.others
