use Rattle.std.proofs.Common.{ℕ, ◌∙◌, subst, sym}
use Rattle.member_rules.specs.Kept.{rules_of}
use Rattle.group_run.specs.Run.{IsRelease}
use Rattle.run_journal.specs.Journal.{plan_of, past_of}
use Rattle.line_rules.specs.Lines.{AreReady}
use Rattle.group_lines.specs.Visits.{IsIdle, IsLinkLeft, IsNotFull, MadeMany, Went}
use Rattle.group_lines.proofs.Ready.{later_many, ready_more}
use Rattle.group_lines.proofs.Going.{many_goes, went_many, went_trans}
use Rattle.group_lines.proofs.OneLink.{ok_map}
use Rattle.group_lines.proofs.Turns.{round_left, went_goes}
use Rattle.group_lines.proofs.rounds.make_round.Goals as goal

pub returns-in_err-visit_threads-clause-went : goal.returns-in_err-visit_threads-clause-went
returns-in_err-visit_threads-clause-went g c =
    went_many g.L.Line (rules_of g.O.Ordering) (plan_of c.args.journal.now) (past_of c.args.journal.now) (past_of c.visit_threads.new.journal) c.args.lines.now c.args.states.now c.visit_threads.ensures.made

pub visit_links-requires-clause-ready : goal.visit_links-requires-clause-ready
visit_links-requires-clause-ready g c = λ κs live.
    let r = rules_of g.O.Ordering in
    let plan = plan_of c.args.journal.now in
    let new = past_of c.visit_threads.new.journal in
    subst (λ p. AreReady g.L.Line r p new c.args.lines.now c.args.states.now) (sym c.visit_threads.ensures.plan)
    (ready_more g.L.Line r plan (past_of c.args.journal.now) new c.args.lines.now c.args.states.now (later_many plan (past_of c.args.journal.now) new IsNotFull c.visit_threads.ensures.made) c.requires.ready)

pub returns-in_err-visit_links-clause-went : goal.returns-in_err-visit_links-clause-went
returns-in_err-visit_links-clause-went g c =
    let r = rules_of g.O.Ordering in
    let plan = plan_of c.args.journal.now in
    let old = past_of c.visit_threads.new.journal in
    let new = past_of c.visit_links.new.journal in
    went_trans g.L.Line r plan (past_of c.args.journal.now) old new c.args.lines.now c.args.lines.now c.visit_links.new.lines c.args.states.now c.args.states.now c.visit_links.new.states
    (went_many g.L.Line r plan (past_of c.args.journal.now) old c.args.lines.now c.args.states.now c.visit_threads.ensures.made)
    (subst (λ p. Went g.L.Line r p old new c.args.lines.now c.visit_links.new.lines c.args.states.now c.visit_links.new.states) c.visit_threads.ensures.plan c.visit_links.ensures.went)

pub returns-clause-went : goal.returns-clause-went
returns-clause-went g c =
    let r = rules_of g.O.Ordering in
    let plan = plan_of c.args.journal.now in
    let first = past_of c.args.journal.now in
    let mid = past_of c.visit_threads.new.journal in
    let old = past_of c.visit_links.new.journal in
    let new = past_of c.visit_members.new.journal in
    went_trans g.L.Line r plan first old new c.args.lines.now c.visit_links.new.lines c.visit_links.new.lines c.args.states.now c.visit_links.new.states c.visit_links.new.states
    (went_trans g.L.Line r plan first mid old c.args.lines.now c.args.lines.now c.visit_links.new.lines c.args.states.now c.args.states.now c.visit_links.new.states
    (went_many g.L.Line r plan first mid c.args.lines.now c.args.states.now c.visit_threads.ensures.made)
    (subst (λ p. Went g.L.Line r p mid old c.args.lines.now c.visit_links.new.lines c.args.states.now c.visit_links.new.states) c.visit_threads.ensures.plan c.visit_links.ensures.went))
    (went_many g.L.Line r plan old new c.visit_links.new.lines c.visit_links.new.states
    (subst (λ p. MadeMany p old new IsNotFull) (c.visit_links.ensures.plan ∙ c.visit_threads.ensures.plan) c.visit_members.ensures.made))

pub returns-clause-ready : goal.returns-clause-ready
returns-clause-ready g c =
    let r = rules_of g.O.Ordering in
    let plan = plan_of c.args.journal.now in
    let old = past_of c.visit_links.new.journal in
    let new = past_of c.visit_members.new.journal in
    let ready = subst (λ p. AreReady g.L.Line r p old c.visit_links.new.lines c.visit_links.new.states) c.visit_threads.ensures.plan c.in_ok-visit_links.ensures.ready in
    let made = subst (λ p. MadeMany p old new IsNotFull) (c.visit_links.ensures.plan ∙ c.visit_threads.ensures.plan) c.visit_members.ensures.made in
    ok_map c.visit_members.result (λ left. ready_more g.L.Line r plan old new c.visit_links.new.lines c.visit_links.new.states (later_many plan old new IsNotFull made) ready) c.visit_members.ensures.left

pub returns-clause-left : goal.returns-clause-left
returns-clause-left g c =
    let r = rules_of g.O.Ordering in
    let plan = plan_of c.args.journal.now in
    let first = past_of c.args.journal.now in
    let mid = past_of c.visit_threads.new.journal in
    let old = past_of c.visit_links.new.journal in
    let new = past_of c.visit_members.new.journal in
    let states = c.visit_links.new.states in
    let plans = c.visit_links.ensures.plan ∙ c.visit_threads.ensures.plan in
    let made = subst (λ p. MadeMany p old new IsNotFull) plans c.visit_members.ensures.made in
    let went = subst (λ p. Went g.L.Line r p mid old c.args.lines.now c.visit_links.new.lines c.args.states.now states) c.visit_threads.ensures.plan c.visit_links.ensures.went in
    ok_map c.visit_members.result
    (λ left. round_left r plan first mid old new states
    (many_goes plan first mid IsNotFull c.visit_threads.ensures.made)
    (went_goes g.L.Line r plan mid old c.args.lines.now c.visit_links.new.lines c.args.states.now states went)
    (many_goes plan old new IsNotFull made)
    c.in_ok-visit_threads.ensures.left
    (subst (λ p. IsIdle p mid old → (from to : ℕ) → IsLinkLeft r p mid states from to) c.visit_threads.ensures.plan c.in_ok-visit_links.ensures.left)
    (subst (λ p. IsIdle p old new → (at : ℕ) → IsRelease r p old at → ⊥) plans left))
    c.visit_members.ensures.left
