use Rattle.std.proofs.Common.{◌∙◌, [], ap, map, refl, subst, sym}
use Rattle.member_rules.specs.Kept.{rules_of}
use Rattle.run_journal.specs.Journal.{plan_of, past_of}
use Rattle.line_rules.specs.Lines.{AreOnTheWay, AreReady}
use Rattle.group_lines.specs.Told.{first_state}
use Rattle.group_lines.proofs.First.{first_ready, first_way}
use Rattle.group_lines.proofs.Ends.{come_back}
use Rattle.group_lines.proofs.finishing.finish.Goals as goal

pub finish_from-requires-clause-ready : goal.finish_from-requires-clause-ready
finish_from-requires-clause-ready g c = λ κs live.
    let r = rules_of g.O.Ordering in
    let plan = plan_of c.args.journal in
    let past = past_of c.args.journal in
    let is = c.in-Ok.ensures ∙ ap (map first_state) c.as_slice.ensures.value in
    subst (AreReady g.L.Line r plan past c.args.lines.items) (sym is) (first_ready g.L.Line r plan past c.args.lines.items c.requires.places c.requires.even)

pub returns-in-Ok-clause-lines : goal.returns-in-Ok-clause-lines
returns-in-Ok-clause-lines g c =
    let r = rules_of g.O.Ordering in
    let plan = plan_of c.args.journal in
    let past = past_of c.args.journal in
    let is = c.in-Ok.ensures ∙ ap (map first_state) c.as_slice.ensures.value in
    c.finish_from.ensures.lines past c.args.lines.items ([], refl)
    (subst (AreOnTheWay g.L.Line r plan past past c.args.lines.items c.args.lines.items) (sym is) (first_way g.L.Line r plan past c.args.lines.items c.requires.places c.requires.even))

pub returns-in-Ok-clause-end : goal.returns-in-Ok-clause-end
returns-in-Ok-clause-end g c =
    let r = rules_of g.O.Ordering in
    let plan = plan_of c.args.journal in
    let past = past_of c.args.journal in
    let is = c.in-Ok.ensures ∙ ap (map first_state) c.as_slice.ensures.value in
    c.finish_from.ensures.end past c.args.lines.items ([], refl)
    (subst (AreOnTheWay g.L.Line r plan past past c.args.lines.items c.args.lines.items) (sym is) (first_way g.L.Line r plan past c.args.lines.items c.requires.places c.requires.even))

pub returns-in-Ok-clause-full : goal.returns-in-Ok-clause-full
returns-in-Ok-clause-full g c =
    let r = rules_of g.O.Ordering in
    let plan = plan_of c.args.journal in
    let past = past_of c.args.journal in
    let is = c.in-Ok.ensures ∙ ap (map first_state) c.as_slice.ensures.value in
    c.finish_from.ensures.full past c.args.lines.items ([], refl)
    (subst (AreOnTheWay g.L.Line r plan past past c.args.lines.items c.args.lines.items) (sym is) (first_way g.L.Line r plan past c.args.lines.items c.requires.places c.requires.even))
    ([], refl, tt)

pub returns-in-Err-clause-lines : goal.returns-in-Err-clause-lines
returns-in-Err-clause-lines g c =
    let r = rules_of g.O.Ordering in
    let plan = plan_of c.args.journal in
    let past = past_of c.args.journal in
    come_back g.L.Line r plan past past c.args.lines.items c.args.lines.items (map first_state c.args.lines.items) (first_way g.L.Line r plan past c.args.lines.items c.requires.places c.requires.even)
