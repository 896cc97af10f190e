use Rattle.std.proofs.Common.{◌∷◌, Some, sym, subst}
use Rattle.fifo_net.specs.Net.{Took}
use Rattle.instance_rules.specs.Say.{Replies}
use Rattle.ct_consensus.specs.Ballot.{IsKept}
use Rattle.ct_consensus.proofs.Leading.{reply_kept, estimates, replies, if_some_at}
use Rattle.ct_consensus.proofs.running.count_reply.Goals as goal

pub returns-clause-kept : goal.returns-clause-kept
returns-clause-kept c = λ past before.
    let kept : IsKept c.args.seat.now.members c.args.round past (Some c.take-ballot.result) = c.take-ballot.ensures.kept c.args.seat.now.members past before in
    subst (IsKept c.args.seat.now.members c.args.round (Took c.args.from (Replies c.args.round c.args.agree) ∷ past)) (sym c.in_ok-put.ensures.here)
    (reply_kept c.args.seat.now.members c.args.from c.args.round c.args.agree past c.take-ballot.result c.conclude.new.self kept
    (c.in_ok-found.ensures.tallied (replies c.args.round past)) (c.in_ok-found.ensures.counted (estimates c.args.round past)) (c.in_ok-found.ensures.closes kept.2))

pub returns-in_err-found-clause-fits : goal.returns-in_err-found-clause-fits
returns-in_err-found-clause-fits c = λ fits. c.take-ballot.ensures.rest_fits c.args.seat.now.members fits

pub returns-in_err-put-clause-fits : goal.returns-in_err-put-clause-fits
returns-in_err-put-clause-fits c = λ fits.
    c.put.ensures.fits c.args.seat.now.members (c.take-ballot.ensures.rest_fits c.args.seat.now.members fits)
    (c.conclude.ensures.fits c.args.seat.now.members (c.take-ballot.ensures.fits c.args.seat.now.members (fits c.args.round)))

pub returns-clause-fits : goal.returns-clause-fits
returns-clause-fits c = λ fits.
    c.put.ensures.fits c.args.seat.now.members (c.take-ballot.ensures.rest_fits c.args.seat.now.members fits)
    (c.conclude.ensures.fits c.args.seat.now.members (c.take-ballot.ensures.fits c.args.seat.now.members (fits c.args.round)))

pub returns-clause-verdict : goal.returns-clause-verdict
returns-clause-verdict c = λ past before.
    let kept : IsKept c.args.seat.now.members c.args.round past (Some c.take-ballot.result) = c.take-ballot.ensures.kept c.args.seat.now.members past before in
    c.in_ok-found.ensures.verdict (replies c.args.round past) kept.1

pub returns-clause-batch : goal.returns-clause-batch
returns-clause-batch c = λ past agreed is before.
    let kept : IsKept c.args.seat.now.members c.args.round past (Some c.take-ballot.result) = c.take-ballot.ensures.kept c.args.seat.now.members past before in
    if_some_at _ _ agreed (c.in_ok-found.ensures.batch kept.2) is (estimates c.args.round past) kept.0

pub returns-clause-batch_fits : goal.returns-clause-batch_fits
returns-clause-batch_fits c = λ fits. c.in_ok-found.ensures.batch_fits c.args.seat.now.members (c.take-ballot.ensures.fits c.args.seat.now.members (fits c.args.round))
