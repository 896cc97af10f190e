use Rattle.std.proofs.Common.{ap, ◌∙◌, subst, sym}
use Rattle.ct_consensus.specs.Fit.{MayStand}
use Rattle.ct_consensus.specs.Stance.{standing}
use Rattle.ct_consensus.proofs.running.Running.copy.Goals as goal

pub returns-clause-stands : goal.returns-clause-stands
returns-clause-stands c = λ n me past stood. record {
  undecided = stood.undecided;
  place = ap standing c.in_ok-copy_place.ensures ∙ stood.place;
  settled = stood.settled;
  low = stood.low;
  led = stood.led;
  ballots = λ r mine. c.in_ok-copy.ensures.kept n r past (stood.ballots r mine);
}

pub returns-clause-fits : goal.returns-clause-fits
returns-clause-fits c = λ n fits. record {
  place = subst (MayStand n) (sym c.in_ok-copy_place.ensures) fits.place;
  ballots = c.in_ok-copy.ensures.fits n fits.ballots;
}
