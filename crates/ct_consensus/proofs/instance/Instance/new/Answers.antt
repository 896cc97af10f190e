use Rattle.std.proofs.Common.{[], sym, subst}
use Rattle.ct_consensus.specs.Stands.{IsState, StateFits}
use Rattle.ct_consensus.proofs.instance.Instance.new.Goals as goal

pub invariant_of-result : goal.invariant_of-result
invariant_of-result c = record { fits = subst (StateFits c.args.n) (sym c.in_ok-state.ensures.ok) (c.new.ensures.fits c.args.n) }

pub returns-clause-stands : goal.returns-clause-stands
returns-clause-stands c = subst (λ s. IsState c.args.n c.args.me s []) (sym c.in_ok-state.ensures.ok) (c.new.ensures.stands c.args.n c.args.me)
