use Rattle.std.proofs.Common.{◌≤◌, ap, arith, length, subst}
use Rattle.upd_base.specs.Plan.{bound}
use Rattle.member_rules.specs.Kept.{rules_of}
use Rattle.run_journal.specs.Journal.{plan_of, past_of}
use Rattle.line_rules.specs.Lines.{AreReady}
use Rattle.line_rules.specs.Rest.{IsHeldUp}
use Rattle.group_lines.specs.Visits.{IsIdle, IsLeftOut, Went}
use Rattle.group_lines.proofs.Going.{goes_length, went_trans}
use Rattle.group_lines.proofs.Turns.{last_turn, went_goes}
use Rattle.group_lines.proofs.rounds.run_rounds.Goals as goal

pub returns-in_err-make_turn-clause-went : goal.returns-in_err-make_turn-clause-went
returns-in_err-make_turn-clause-went g c =
    let i = c.loop-journal.invariant in
    let r = rules_of g.O.Ordering in
    let old = past_of c.loop-journal.journal in
    let new = past_of c.make_turn.new.journal in
    went_trans g.L.Line r (plan_of c.args.journal.now) (past_of c.args.journal.now) old new c.args.lines.now c.loop-journal.lines c.make_turn.new.lines c.args.states.now c.loop-journal.states c.make_turn.new.states i.went
    (subst (λ p. Went g.L.Line r p old new c.loop-journal.lines c.make_turn.new.lines c.loop-journal.states c.make_turn.new.states) i.plan c.make_turn.ensures.went)

pub returns-then-len-before-clause-went : goal.returns-then-len-before-clause-went
returns-then-len-before-clause-went g c =
    let i = c.loop-journal.invariant in
    let r = rules_of g.O.Ordering in
    let old = past_of c.loop-journal.journal in
    let new = past_of c.make_turn.new.journal in
    went_trans g.L.Line r (plan_of c.args.journal.now) (past_of c.args.journal.now) old new c.args.lines.now c.loop-journal.lines c.make_turn.new.lines c.args.states.now c.loop-journal.states c.make_turn.new.states i.went
    (subst (λ p. Went g.L.Line r p old new c.loop-journal.lines c.make_turn.new.lines c.loop-journal.states c.make_turn.new.states) i.plan c.make_turn.ensures.went)

pub returns-then-len-before-clause-rest : goal.returns-then-len-before-clause-rest
returns-then-len-before-clause-rest g c =
    let i = c.loop-journal.invariant in
    let r = rules_of g.O.Ordering in
    let old = past_of c.loop-journal.journal in
    let new = past_of c.make_turn.new.journal in
    let le : length new ≤ length old = (let t = c.if-len-before.true in let a = c.len.ensures.value in let b = c.len-before.ensures.value in omega arith) in
    last_turn g.L.Line r (plan_of c.args.journal.now) old new c.loop-journal.lines c.make_turn.new.lines c.loop-journal.states c.make_turn.new.states
    (subst (λ p. Went g.L.Line r p old new c.loop-journal.lines c.make_turn.new.lines c.loop-journal.states c.make_turn.new.states) i.plan c.make_turn.ensures.went) le
    (subst (λ p. IsIdle p old new → IsHeldUp (IsLeftOut p c.make_turn.new.states) r p old) i.plan c.in_ok-make_turn.ensures.left)

pub loop-journal-smaller : goal.loop-journal-smaller
loop-journal-smaller g c =
    let i = c.loop-journal.invariant in
    let r = rules_of g.O.Ordering in
    let old = past_of c.loop-journal.journal in
    let new = past_of c.make_turn.new.journal in
    let longer = goes_length old new (went_goes g.L.Line r (plan_of c.loop-journal.journal) old new c.loop-journal.lines c.make_turn.new.lines c.loop-journal.states c.make_turn.new.states c.make_turn.ensures.went) in
    let e = ap bound i.plan in
    let m = ap bound c.make_turn.ensures.plan in
    let f = c.if-len-before.false in
    let a = c.len.ensures.value in
    let b = c.len-before.ensures.value in
    let few = c.len.ensures.few in
    omega arith

pub loop-journal-preserved : goal.loop-journal-preserved
loop-journal-preserved g c =
    let i = c.loop-journal.invariant in
    let r = rules_of g.O.Ordering in
    let old = past_of c.loop-journal.journal in
    let new = past_of c.make_turn.new.journal in
    record {
      plan = cc;
      ready = subst (λ p. AreReady g.L.Line r p new c.make_turn.new.lines c.make_turn.new.states) i.plan c.in_ok-make_turn.ensures.ready;
      went = went_trans g.L.Line r (plan_of c.args.journal.now) (past_of c.args.journal.now) old new c.args.lines.now c.loop-journal.lines c.make_turn.new.lines c.args.states.now c.loop-journal.states c.make_turn.new.states i.went
          (subst (λ p. Went g.L.Line r p old new c.loop-journal.lines c.make_turn.new.lines c.loop-journal.states c.make_turn.new.states) i.plan c.make_turn.ensures.went);
    }
