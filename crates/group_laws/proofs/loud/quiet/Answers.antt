use Rattle.std.proofs.Common.{◌≡◌, ◌∙◌, sym, ap, true, false}
use Rattle.run_journal.specs.Journal.{plan_of, events_of, past_of}
use Rattle.group_laws.specs.Loud.{is_loud_event}
use Rattle.group_laws.proofs.Calm.{loud_there, quiet_next}
use Rattle.group_laws.proofs.loud.quiet.Goals as goal

pub returns-then-is_loud_event : goal.returns-then-is_loud_event
returns-then-is_loud_event g c =
    let j = c.args.journal.now in
    let loud : is_loud_event (plan_of j) c.event.result.now ≡ true = ap (λ p. is_loud_event p c.event.result.now) (sym c.plan.ensures.value) ∙ sym c.is_loud_event.ensures ∙ c.if-is_loud_event.true in
    ((λ t. absurd (let e : false ≡ true = t in cc)), λ q. absurd (loud_there (plan_of j) (events_of j) c.loop-i.i c.event.result.now c.event.ensures loud q))

pub loop-i-preserved : goal.loop-i-preserved
loop-i-preserved g c =
    let j = c.args.journal.now in
    let calm : is_loud_event (plan_of j) c.event.result.now ≡ false = ap (λ p. is_loud_event p c.event.result.now) (sym c.plan.ensures.value) ∙ sym c.is_loud_event.ensures ∙ c.if-is_loud_event.false in
    quiet_next (plan_of j) (events_of j) c.loop-i.i c.event.result.now c.event.ensures calm c.loop-i.invariant
