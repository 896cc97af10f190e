use Rattle.ct_consensus.proofs.Steps.{sends_then, grows_of, grows_then}
use Rattle.ct_consensus.proofs.moves.accept.Goals as goal

pub returns-clause-sent : goal.returns-clause-sent
returns-clause-sent c = λ suspects row.
    sends_then c.args.seat.now.members c.args.seat.now.number _ _ _ _ _ c.in_ok-reply.ensures (c.in_ok-leave.ensures.sent suspects row)

pub returns-clause-grows : goal.returns-clause-grows
returns-clause-grows c =
    grows_then c.args.seat.now.members _ _ _ (grows_of c.args.seat.now.members c.args.seat.now.number _ _ _ c.in_ok-reply.ensures) c.in_ok-leave.ensures.grows
