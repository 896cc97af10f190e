use Rattle.std.proofs.Common.{◌≡◌, ◌∙◌, ℕ, IfSome, sym, ap, subst, arith}
use Rattle.upd_base.specs.Edge.{Rose}
use Rattle.upd_base.proofs.PlanFacts.{plan_facts}
use Rattle.run_journal.specs.Journal.{plan_of, past_of}
use Rattle.top_calls.specs.Live.{IsLiveRun}
use Rattle.top_calls.specs.Made.{AreMade}
use Rattle.program_texts.specs.declared.status.Status.TheVariants as statuses
use Rattle.top_calls.proofs.LiveRuns.{complete_of, not_none, some_then}
use Rattle.top_calls.proofs.line_runs.run_plan.Goals as goal

pub make_lines-requires-after_bounds : goal.make_lines-requires-after_bounds
make_lines-requires-after_bounds g c κs within =
    let f = (plan_facts c.args.plan c.keeps_limits.ensures).few in
    let e = c.members.ensures in
    omega (arith, f, e)

pub returns-in-Ok-opening-clause-live_run : goal.returns-in-Ok-opening-clause-live_run
returns-in-Ok-opening-clause-live_run g c =
    let before = g.M.LineMaker.faults c.args.lines.now in
    let now = g.M.LineMaker.faults c.make_lines.new.maker in
    let n = (plan_of c.in-Ok-opening.journal).members in
    let status = c.run_over.result.status in
    let lines = c.run_over.result.lines.items in
    let old = g.K.Sink.held c.args.sink.now in
    let new = g.K.Sink.held c.run_over.new.sink in
    let many : c.members.result ≡ n = c.members.ensures ∙ sym (ap (λ p. p.members) c.in-Ok-opening.ensures.plan) in
    let are : AreMade g.M.Line.Line n before now c.in-Ok.made.items = subst (λ k. AreMade g.M.Line.Line k before now c.in-Ok.made.items) many c.in-Ok.ensures.made in
    some_then (λ j. (b m : ℕ → ℕ → ℕ) → AreMade g.M.Line.Line n b m c.in-Ok.made.items → IsLiveRun g.M.Line.Line b m status c.args.form (plan_of j) (past_of j) lines old new)
    (λ j. IsLiveRun g.M.Line.Line before now status c.args.form (plan_of j) (past_of j) lines old new) c.run_over.result.journal (λ j live. live before now are) c.run_over.ensures.live_run

pub returns-in-Ok-opening-clause-complete : goal.returns-in-Ok-opening-clause-complete
returns-in-Ok-opening-clause-complete g c =
    let same : IfSome c.run_over.result.journal (λ j. plan_of j ≡ c.args.plan) =
    some_then (λ j. plan_of j ≡ plan_of c.in-Ok-opening.journal) (λ j. plan_of j ≡ c.args.plan) c.run_over.result.journal (λ j e. e ∙ c.in-Ok-opening.ensures.plan) c.run_over.ensures.plan in
    complete_of g.M.Line.Line (λ j. plan_of j) (λ j. past_of j) c.run_over.result.journal c.args.plan c.run_over.result.status c.args.form c.run_over.result.lines.items
    (g.K.Sink.held c.args.sink.now) (g.K.Sink.held c.run_over.new.sink) (g.M.LineMaker.faults c.args.lines.now) (g.M.LineMaker.faults c.make_lines.new.maker)
    (Rose (g.K.Sink.faults c.args.sink.now) (g.K.Sink.faults c.run_over.new.sink)) (not_none (c.run_over.result.status ≡ statuses.NoMemory) c.run_over.result.journal c.run_over.ensures.there) same
    (returns-in-Ok-opening-clause-live_run g c) c.run_over.ensures.status c.run_over.ensures.cause
