use Rattle.std.proofs.Common.{ℕ, sym, subst}
use Rattle.std.proofs.lemmas.Result.{IfOk-weaker}
use Rattle.ct_consensus.specs.Stands.{StateFits}
use Rattle.ct_consensus.proofs.instance.Instance.own_state.Goals as goal

pub returns-clause-fits : goal.returns-clause-fits
returns-clause-fits c =
    IfOk-weaker c.copy.result (λ s. (n : ℕ) → StateFits n c.deref.result.now → StateFits n s) (λ s. StateFits c.args.self.now.seat.members s)
    (λ s same. same c.args.self.now.seat.members (subst (StateFits c.args.self.now.seat.members) (sym c.deref.ensures) c.args.self.now.fits)) c.copy.ensures.fits
