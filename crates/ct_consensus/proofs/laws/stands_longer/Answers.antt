use Rattle.ct_consensus.proofs.Longer.{trusting, suspecting}
use Rattle.ct_consensus.proofs.laws.stands_longer.Goals as goal

pub returns : goal.returns
returns c = record {
  trust = λ i past who old. trusting i.seat.members i.seat.me who i.state.value past old;
  suspicion = λ i past who none old. suspecting i.seat.members i.seat.me who i.state.value past none.place old;
}
