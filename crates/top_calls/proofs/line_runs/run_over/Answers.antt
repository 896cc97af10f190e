use Rattle.std.proofs.Common.{ℕ, IfSome, sym, subst}
use Rattle.run_journal.specs.Journal.{plan_of, past_of}
use Rattle.top_calls.specs.Live.{IsLiveRun}
use Rattle.top_calls.specs.Made.{AreMade}
use Rattle.top_calls.proofs.LiveRuns.{live_run_of}
use Rattle.top_calls.proofs.line_runs.run_over.Goals as goal

pub returns-clause-live_run : goal.returns-clause-live_run
returns-clause-live_run g c =
    let ran = c.run_threads-ran in
    let plan = plan_of c.args.journal in
    let status = c.finish.result.status in
    let lines = c.finish.result.lines.items in
    let old = g.K.Sink.held c.args.sink.now in
    let new = g.K.Sink.held c.finish.new.sink in
    subst (λ o. IfSome o (λ j. (before now : ℕ → ℕ → ℕ) → AreMade g.L.Line plan.members before now c.args.lines.items → IsLiveRun g.L.Line before now status c.args.form (plan_of j) (past_of j) lines old new))
    (sym c.finish.ensures.journal)
    (live_run_of g.L.Line status c.args.form plan (plan_of ran.result.journal) (past_of c.args.journal) (past_of ran.result.journal) c.args.lines.items ran.result.lines.items lines ran.result.end old new
    ran.ensures.plan c.requires.fresh c.finish.ensures.lines c.keeps_laws.ensures ran.ensures.lines ran.ensures.full ran.ensures.end c.finish.ensures.wrote)
