use Rattle.std.proofs.Common.{◌∙◌, ◌≡◌, ◌≤◌, true, sym, ap, subst, length, arith}
use Rattle.upd_base.specs.Plan.{Planned, bound, is_plan}
use Rattle.member_rules.specs.Kept.{rules_of}
use Rattle.run_journal.specs.Journal.{plan_of, past_of}
use Rattle.line_rules.specs.Lines.{ComeBack, IsAside}
use Rattle.line_rules.specs.Rest.{GoesOnFullAtRestBut}
use Rattle.line_rules.specs.Ends.{EndsRun}
use Rattle.member_threads.proofs.Opening.{even_each}
use Rattle.member_threads.proofs.Chaining.{may_start}
use Rattle.member_threads.proofs.Leaving.{left_full, left_on, left_ready, left_way, one_plan}
use Rattle.member_threads.proofs.running.share_out.Goals as goal

pub run_workers-pass-requires-clause-workers : goal.run_workers-pass-requires-clause-workers
run_workers-pass-requires-clause-workers g c = λ _ _.
    let s = c.in-Ok.ensures in
    may_start c.in-Ok.group g.L.Line _ c.args.journal c.in-Ok.pass _ _ _ s.shared s.of s.seen s.own s.parts (subst (λ p. is_plan p ≡ true) c.plan-3.ensures.value c.keeps_limits.ensures) (c.members-members.ensures ∙ ap (λ (p : Planned). p.members) c.plan.ensures.value)
    (c.threads-threads.ensures ∙ ap (λ (p : Planned). length p.threads) c.plan-2.ensures.value) c.requires.places c.requires.stated (even_each g.L.Line _ c.requires.even)

pub run_workers-pass-requires-clause-threads : goal.run_workers-pass-requires-clause-threads
run_workers-pass-requires-clause-threads g c = λ _ _.
    c.threads-threads.ensures ∙ (ap (λ (p : Planned). length p.threads) c.plan-2.ensures.value ∙ ap (λ j. length (plan_of j).threads) (sym c.in-Ok.ensures.shared))

pub finish_workers-requires-clause-ready : goal.finish_workers-requires-clause-ready
finish_workers-requires-clause-ready g c = λ _ _ none_wanted.
    let k = c.close-journal.ensures in
    let few : length (past_of c.close-journal.result) ≤ bound (plan_of c.close-journal.result) = omega (arith, c.len.ensures.value, c.len.ensures.few) in
    left_ready c.in-Ok.group c.args.journal c.close-journal.result c.run_workers-pass.result.0 c.in-Ok.ensures.shared k.plan k.seen k.opening k.own g.L.Line _ _ _ _ _ c.run_workers-pass.ensures c.requires.places few none_wanted

pub returns-in-Ok-clause-lines : goal.returns-in-Ok-clause-lines
returns-in-Ok-clause-lines g c =
    let k = c.close-journal.ensures in
    let old = c.args.lines.items in
    let r = c.finish_workers.result in
    let same = one_plan c.in-Ok.group c.args.journal c.close-journal.result c.run_workers-pass.result.0 c.in-Ok.ensures.shared k.plan k.seen k.opening k.own g.L.Line _ _ _ _ _ c.run_workers-pass.ensures c.requires.places in
    let on = left_on c.in-Ok.group c.args.journal c.close-journal.result c.run_workers-pass.result.0 c.in-Ok.ensures.shared k.plan k.seen k.opening k.own g.L.Line _ _ _ _ _ c.run_workers-pass.ensures c.requires.places in
    let way = left_way c.in-Ok.group c.args.journal c.close-journal.result c.run_workers-pass.result.0 c.in-Ok.ensures.shared k.plan k.seen k.opening k.own g.L.Line _ _ _ _ _ c.run_workers-pass.ensures c.requires.places in
    subst (λ p. ComeBack g.L.Line (rules_of g.O.Ordering) p (past_of c.args.journal) (past_of r.journal) old r.lines.items) same (c.finish_workers.ensures.lines (past_of c.args.journal) old on way)

pub returns-in-Ok-clause-end : goal.returns-in-Ok-clause-end
returns-in-Ok-clause-end g c =
    let k = c.close-journal.ensures in
    let old = c.args.lines.items in
    let r = c.finish_workers.result in
    let same = one_plan c.in-Ok.group c.args.journal c.close-journal.result c.run_workers-pass.result.0 c.in-Ok.ensures.shared k.plan k.seen k.opening k.own g.L.Line _ _ _ _ _ c.run_workers-pass.ensures c.requires.places in
    let on = left_on c.in-Ok.group c.args.journal c.close-journal.result c.run_workers-pass.result.0 c.in-Ok.ensures.shared k.plan k.seen k.opening k.own g.L.Line _ _ _ _ _ c.run_workers-pass.ensures c.requires.places in
    let way = left_way c.in-Ok.group c.args.journal c.close-journal.result c.run_workers-pass.result.0 c.in-Ok.ensures.shared k.plan k.seen k.opening k.own g.L.Line _ _ _ _ _ c.run_workers-pass.ensures c.requires.places in
    subst (λ p. EndsRun g.L.Line (rules_of g.O.Ordering) p (past_of c.args.journal) (past_of r.journal) old r.lines.items r.end) same (c.finish_workers.ensures.end (past_of c.args.journal) old on way)

pub returns-in-Ok-clause-full : goal.returns-in-Ok-clause-full
returns-in-Ok-clause-full g c =
    let k = c.close-journal.ensures in
    let old = c.args.lines.items in
    let r = c.finish_workers.result in
    let same = one_plan c.in-Ok.group c.args.journal c.close-journal.result c.run_workers-pass.result.0 c.in-Ok.ensures.shared k.plan k.seen k.opening k.own g.L.Line _ _ _ _ _ c.run_workers-pass.ensures c.requires.places in
    let on = left_on c.in-Ok.group c.args.journal c.close-journal.result c.run_workers-pass.result.0 c.in-Ok.ensures.shared k.plan k.seen k.opening k.own g.L.Line _ _ _ _ _ c.run_workers-pass.ensures c.requires.places in
    let way = left_way c.in-Ok.group c.args.journal c.close-journal.result c.run_workers-pass.result.0 c.in-Ok.ensures.shared k.plan k.seen k.opening k.own g.L.Line _ _ _ _ _ c.run_workers-pass.ensures c.requires.places in
    subst (λ p. GoesOnFullAtRestBut (IsAside g.L.Line (rules_of g.O.Ordering) p (past_of c.args.journal) (past_of r.journal) old r.lines.items) (rules_of g.O.Ordering) p (past_of c.args.journal) (past_of r.journal)) same (c.finish_workers.ensures.full (past_of c.args.journal) old on way (left_full c.in-Ok.group c.args.journal c.close-journal.result c.run_workers-pass.result.0 c.in-Ok.ensures.shared k.plan k.seen k.opening k.own g.L.Line _ _ _ _ _ c.run_workers-pass.ensures c.requires.places))
