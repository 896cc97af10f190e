use Rattle.std.proofs.Common.{ap, ◌∙◌}
use Rattle.ct_consensus.specs.Ballot.{all_fit}
use Rattle.ct_consensus.proofs.Counting.{best_fits}
use Rattle.ct_consensus.proofs.ballot.chosen.Goals as goal

pub returns-in_ok-copy-in-len1-up-clause-fits : goal.returns-in_ok-copy-in-len1-up-clause-fits
returns-in_ok-copy-in-len1-up-clause-fits c = λ all.
    ap (all_fit c.args.seat.now.members) c.in_ok-copy-in-len1-up.ensures
    ∙ ap (λ v. all_fit c.args.seat.now.members v.1.batch) c.best.ensures
    ∙ best_fits c.args.seat.now.members c.args.votes.now c.first-item.result c.in-len1-up.len_at_least c.first-item.is all
