use Rattle.std.proofs.Common.{◌≡◌, Err, List, ℕ, sym, ◌∙◌, ap, subst}
use Rattle.scenario.specs.Gives.{OrMemory}
use Rattle.scenario.specs.Reading.{reading}
use Rattle.top_calls.specs.Causes.{PlanFrom}
use Rattle.program_texts.specs.declared.status.Status.{Status}
use Rattle.top_calls.proofs.Read.{plan_read, fault_read}
use Rattle.top_calls.proofs.scenario_input.plan_from.Goals as goal

pub returns-in-Ok-read-clause-from : goal.returns-in-Ok-read-clause-from
returns-in-Ok-read-clause-from g c = plan_read _ _ _ _ c.in-Ok.ensures.bytes (ap reading (sym c.as_slice.ensures.value) ∙ c.in-Ok-read.ensures)

pub returns-clause-from : goal.returns-clause-from
returns-clause-from g c =
    let read = subst (λ (bs : List ℕ). OrMemory c.in-Err.fault (reading bs ≡ Err c.in-Err.fault)) c.as_slice.ensures.value c.in-Err.ensures in
    subst (λ (s : Status). PlanFrom (Err s) (g.S.Source.faults c.args.source.now) (g.S.Source.faults c.read_all.new.source) (g.S.Source.left c.args.source.now) (g.S.Source.left c.read_all.new.source))
    (sym c.refused.ensures) (fault_read _ _ c.in-Ok.bytes.items c.in-Err.fault _ _ c.in-Ok.ensures.bytes read)
