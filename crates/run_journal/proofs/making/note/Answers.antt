use Rattle.std.proofs.Common.{ℕ, Vec, Global, map, sym, ◌∙◌, ap}
use Rattle.run_journal.specs.Asked.{listed}
use Rattle.run_journal.proofs.Lists.{noted}
use Rattle.run_journal.proofs.making.note.Goals as goal

pub returns-in-Accepted : goal.returns-in-Accepted
returns-in-Accepted c =
    let f = λ (v : Vec ℕ Global). v.items in
    let xs = c.args.lists.now.items in
    noted f xs c.get.result c.args.at c.args.version c.index_mut.result.now c.push_reserved.new.self c.get.ensures.value c.requires.at c.index_mut.ensures.value c.push_reserved.ensures.items
    ∙ ap (λ a. listed a c.args.at c.args.version (map f xs)) (sym c.in-Accepted.is)
