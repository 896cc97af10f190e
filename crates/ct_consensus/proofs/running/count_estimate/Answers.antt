use Rattle.std.proofs.Common.{◌∷◌, Some, sym, subst}
use Rattle.fifo_net.specs.Net.{Took}
use Rattle.instance_rules.specs.Say.{Estimates}
use Rattle.ct_consensus.specs.Ballot.{IsKept}
use Rattle.ct_consensus.proofs.Leading.{estimate_kept, estimates}
use Rattle.ct_consensus.proofs.running.count_estimate.Goals as goal

pub returns-clause-kept : goal.returns-clause-kept
returns-clause-kept c = λ past before.
    let kept : IsKept c.args.seat.now.members c.args.round past (Some c.take-ballot.result) = c.take-ballot.ensures.kept c.args.seat.now.members past before in
    subst (IsKept c.args.seat.now.members c.args.round (Took c.args.from (Estimates c.args.round c.args.held) ∷ past)) (sym c.in_ok-put.ensures.here)
    (estimate_kept c.args.seat.now.members c.args.from c.args.round c.args.held past c.take-ballot.result c.count_estimate.new.self kept
    (c.in_ok-proposed.ensures.counted (estimates c.args.round past)) c.count_estimate.ensures.replies (c.count_estimate.ensures.closes kept.2))

pub returns-in_err-proposed-clause-fits : goal.returns-in_err-proposed-clause-fits
returns-in_err-proposed-clause-fits c = λ fits. c.take-ballot.ensures.rest_fits c.args.seat.now.members fits

pub returns-in_err-put-clause-fits : goal.returns-in_err-put-clause-fits
returns-in_err-put-clause-fits c = λ fits.
    c.put.ensures.fits c.args.seat.now.members (c.take-ballot.ensures.rest_fits c.args.seat.now.members fits)
    (c.count_estimate.ensures.fits (c.take-ballot.ensures.fits c.args.seat.now.members (fits c.args.round)))

pub returns-clause-fits : goal.returns-clause-fits
returns-clause-fits c = λ fits.
    c.put.ensures.fits c.args.seat.now.members (c.take-ballot.ensures.rest_fits c.args.seat.now.members fits)
    (c.count_estimate.ensures.fits (c.take-ballot.ensures.fits c.args.seat.now.members (fits c.args.round)))

pub returns-clause-made : goal.returns-clause-made
returns-clause-made c = λ past before.
    let kept : IsKept c.args.seat.now.members c.args.round past (Some c.take-ballot.result) = c.take-ballot.ensures.kept c.args.seat.now.members past before in
    c.in_ok-proposed.ensures.made (estimates c.args.round past) kept.0

pub returns-clause-sent_fits : goal.returns-clause-sent_fits
returns-clause-sent_fits c = λ fits. c.in_ok-proposed.ensures.sent_fits (c.take-ballot.ensures.fits c.args.seat.now.members (fits c.args.round))
