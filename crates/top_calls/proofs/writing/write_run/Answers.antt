use Rattle.std.proofs.Common.{◌≡◌, List, ℕ, OnOk, OnErr, sym, subst}
use Rattle.std.specs.Io.KnownBytes.{Appends}
use Rattle.upd_io.specs.Whole.{AppendsLess}
use Rattle.run_journal.specs.Journal.{plan_of, past_of}
use Rattle.top_calls.specs.Causes.{WroteRunOf}
use Rattle.program_texts.specs.declared.status.Status.{Status}
use Rattle.top_calls.proofs.Rehearsals.{wrote}
use Rattle.top_calls.proofs.writing.write_run.Goals as goal

pub returns-in-Ok-clause-wrote : goal.returns-in-Ok-clause-wrote
returns-in-Ok-clause-wrote g c =
    let plan = plan_of c.args.journal.now in
    let past = past_of c.args.journal.now in
    let old = g.K.Sink.held c.args.sink.now in
    let new = g.K.Sink.held c.write_all-wrote.new.sink in
    let text = c.in-Ok.text.items in
    let same = c.as_slice.ensures.value in
    subst (λ (s : Status). WroteRunOf (λ other. other ≡ c.args.end.now) s c.args.form plan past old new) (sym c.written.ensures)
    (wrote c.args.form plan past c.args.end.now text c.write_all-wrote.result old new c.in-Ok.ensures
    (subst (λ (bs : List ℕ). OnOk c.write_all-wrote.result (Appends old new bs)) same c.write_all-wrote.ensures.whole)
    (subst (λ (bs : List ℕ). OnErr c.write_all-wrote.result (AppendsLess old new bs)) same c.write_all-wrote.ensures.front))
