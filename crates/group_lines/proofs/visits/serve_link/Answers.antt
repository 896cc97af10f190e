use Rattle.std.proofs.Common.{Some, subst, sym}
use Rattle.member_rules.specs.Kept.{rules_of}
use Rattle.run_journal.specs.Journal.{plan_of, past_of}
use Rattle.line_rules.specs.declared.line_state.LineState.TheVariants.{Stopped}
use Rattle.group_lines.specs.Visits.{LinkWent}
use Rattle.group_lines.proofs.OneLink.{stopped_whole, went_part, went_received}
use Rattle.group_lines.proofs.visits.serve_link.Goals as goal

pub returns-in-Ok-None-clause-went : goal.returns-in-Ok-None-clause-went
returns-in-Ok-None-clause-went g c =
    let e = rw c.in-Ok-None.field-0-is at c.in-Ok-None.ensures in
    went_part g.L.Line (rules_of g.O.Ordering) (plan_of c.args.journal.now) (past_of c.args.journal.now) c.args.from c.args.to c.in-Some.frame.now c.args.line.now c.bring.new.line c.args.count c.args.state.now c.bring.new.state
    c.requires.serving (sym c.in-Some.ensures.value) e.part c.bring.ensures.later

pub returns-in-Err-clause-went : goal.returns-in-Err-clause-went
returns-in-Err-clause-went g c =
    went_part g.L.Line (rules_of g.O.Ordering) (plan_of c.args.journal.now) (past_of c.args.journal.now) c.args.from c.args.to c.in-Some.frame.now c.args.line.now c.bring.new.line c.args.count c.args.state.now c.bring.new.state
    c.requires.serving (sym c.in-Some.ensures.value) c.in-Err.ensures.err c.bring.ensures.later

pub returns-in-Ok-clause-went : goal.returns-in-Ok-clause-went
returns-in-Ok-clause-went g c =
    let e = rw c.in-Ok-Some.field-0-is at c.in-Ok-Some.ensures in
    went_received g.L.Line (rules_of g.O.Ordering) (plan_of c.args.journal.now) (past_of c.args.journal.now) (past_of c.note_receipt.new.journal) c.args.from c.args.to c.in-Some.frame.now c.args.line.now c.bring.new.line c.args.count
    c.args.state.now c.bring.new.state c.requires.serving (sym c.in-Some.ensures.value) c.requires.room c.in-Ok.ensures.made e.whole c.bring.ensures.later

pub returns-clause-went : goal.returns-clause-went
returns-clause-went g c =
    let e = rw c.in-Ok-Some.field-0-is at c.in-Ok-Some.ensures in
    let r = rules_of g.O.Ordering in
    let plan = plan_of c.args.journal.now in
    let old = past_of c.args.journal.now in
    let frame = c.in-Some.frame.now in
    subst (λ past. LinkWent g.L.Line r plan old past c.args.from c.args.to (Some c.args.line.now) (Some c.bring.new.line) c.args.state.now Stopped) (sym c.in-Err-note_receipt.ensures.err)
    (went_part g.L.Line r plan old c.args.from c.args.to frame c.args.line.now c.bring.new.line c.args.count c.args.state.now Stopped
    c.requires.serving (sym c.in-Some.ensures.value)
    (λ first before frames le s. stopped_whole frames frame first (g.L.Line.told c.bring.new.line) before (g.L.Line.faults c.bring.new.line) _ c.bring.new.state e.counted.2 (e.whole first before frames s))
    c.bring.ensures.later)
