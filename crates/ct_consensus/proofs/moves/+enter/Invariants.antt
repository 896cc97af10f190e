use Rattle.ct_consensus.proofs.moves.+enter.Given as goal

abbrev pub decreases-enter : goal.decreases-enter
decreases-enter l = l.more
