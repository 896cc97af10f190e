use Rattle.std.proofs.Common.{subst}
use Rattle.ct_consensus.specs.Stands.{IsState}
use Rattle.ct_consensus.proofs.state.suspect.Goals as goal

pub returns-in_ok-suspect-in-Undecided-clause-stands :
    goal.returns-in_ok-suspect-in-Undecided-clause-stands
returns-in_ok-suspect-in-Undecided-clause-stands c = λ past who row old.
    c.in_ok-suspect-in-Undecided.ensures.stands past who row (subst (λ s. IsState c.args.seat.now.members c.args.seat.now.me s past) c.in-Undecided.is old)

pub returns-in_ok-suspect-in-Undecided-clause-sent :
    goal.returns-in_ok-suspect-in-Undecided-clause-sent
returns-in_ok-suspect-in-Undecided-clause-sent c = λ past who row old.
    c.in_ok-suspect-in-Undecided.ensures.sent past who row (subst (λ s. IsState c.args.seat.now.members c.args.seat.now.me s past) c.in-Undecided.is old)
