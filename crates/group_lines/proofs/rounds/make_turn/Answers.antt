use Rattle.std.proofs.Common.{ℕ, ◌≡◌, ◌≤◌, None, arith, length, subst}
use Rattle.member_rules.specs.Kept.{rules_of}
use Rattle.run_journal.specs.Journal.{plan_of, past_of}
use Rattle.run_journal.specs.Causes.{next_call}
use Rattle.group_lines.specs.Visits.{IsIdle, IsNoReceipt, MadeOne}
use Rattle.group_lines.proofs.Ready.{later_one, ready_more}
use Rattle.group_lines.proofs.OneLink.{ok_map}
use Rattle.group_lines.proofs.Turns.{turn_left, turn_went}
use Rattle.group_lines.proofs.rounds.make_turn.Goals as goal

pub returns-clause-went : goal.returns-clause-went
returns-clause-went g c =
    let old = past_of c.make_round.new.journal in
    let new = past_of c.force_call.new.journal in
    let le : length old ≤ length (past_of c.args.journal.now) = (let f = c.if-len-before.false in let a = c.len.ensures.value in let b = c.len-before.ensures.value in omega arith) in
    turn_went g.L.Line (rules_of g.O.Ordering) (plan_of c.args.journal.now) (past_of c.args.journal.now) old new c.args.lines.now c.make_round.new.lines c.args.states.now c.make_round.new.states
    c.make_round.ensures.went le c.in_ok-make_round.ensures.left (subst (λ p. MadeOne p old new IsNoReceipt) c.make_round.ensures.plan c.force_call.ensures.made)

pub returns-clause-ready : goal.returns-clause-ready
returns-clause-ready g c =
    let plan = plan_of c.args.journal.now in
    let old = past_of c.make_round.new.journal in
    let new = past_of c.force_call.new.journal in
    let made = subst (λ p. MadeOne p old new IsNoReceipt) c.make_round.ensures.plan c.force_call.ensures.made in
    ok_map c.force_call.result
    (λ left. ready_more g.L.Line (rules_of g.O.Ordering) plan old new c.make_round.new.lines c.make_round.new.states (later_one plan old new IsNoReceipt made) c.in_ok-make_round.ensures.ready)
    c.force_call.ensures.left

pub returns-clause-left : goal.returns-clause-left
returns-clause-left g c =
    let old = past_of c.make_round.new.journal in
    let new = past_of c.force_call.new.journal in
    let le : length old ≤ length (past_of c.args.journal.now) = (let f = c.if-len-before.false in let a = c.len.ensures.value in let b = c.len-before.ensures.value in omega arith) in
    ok_map c.force_call.result
    (λ left. turn_left g.L.Line (rules_of g.O.Ordering) (plan_of c.args.journal.now) (past_of c.args.journal.now) old new c.args.lines.now c.make_round.new.lines c.args.states.now c.make_round.new.states
    c.make_round.ensures.went le c.in_ok-make_round.ensures.left (subst (λ p. MadeOne p old new IsNoReceipt) c.make_round.ensures.plan c.force_call.ensures.made)
    (subst (λ p. IsIdle p old new → (thread : ℕ) → next_call p old thread ≡ None) c.make_round.ensures.plan left))
    c.force_call.ensures.left
