use Rattle.std.proofs.Common.{◌≡◌, ◌++◌, ◌∙◌, List, ap, drop, length, subst, sym, take}
use Rattle.std.proofs.Math.Seq.{take-append_seam}
use Rattle.member_rules.specs.Kept.{rules_of}
use Rattle.run_journal.specs.Journal.{plan_of, past_of}
use Rattle.line_rules.specs.Lines.{ComeBack, IsAside}
use Rattle.line_rules.specs.Rest.{GoesOnFullAtRestBut}
use Rattle.line_rules.specs.Ends.{EndsRun}
use Rattle.group_lines.specs.Visits.{Went}
use Rattle.group_lines.proofs.Ends.{come_back, ends_run, full_since}
use Rattle.group_lines.proofs.finishing.finish_from.Goals as goal

slice_back : {A : Type 0} (len : _) (new items : List A) → len ≡ length items → length new ≡ length items → take len (new ++ drop (length new) items) ≡ new
slice_back len new items whole same = ap (λ k. take k (new ++ drop (length new) items)) (whole ∙ sym same) ∙ take-append_seam new (drop (length new) items)

pub returns-clause-lines : goal.returns-clause-lines
returns-clause-lines g c = λ start old on way.
    let r = rules_of g.O.Ordering in
    let plan = plan_of c.args.journal in
    let past = past_of c.args.journal in
    let new = past_of c.run_to_end-end.new.journal in
    let lines = c.run_to_end-end.new.lines in
    let states = c.run_to_end-end.new.states in
    let went = subst (λ ss. Went g.L.Line r plan past new c.args.lines.items lines ss states) c.as_mut_slice-2.ensures.value
    (subst (λ ls. Went g.L.Line r plan past new ls lines c.as_mut_slice-2.result.now states) c.as_mut_slice.ensures.value c.run_to_end-end.ensures.went) in
    let after = went.way start old on way in
    subst (ComeBack g.L.Line r plan start new old) (sym (slice_back c.args.lines.len lines c.args.lines.items c.args.lines.ok.0 (after.same ∙ sym way.same)))
    (come_back g.L.Line r plan start new old lines states after)

pub returns-clause-end : goal.returns-clause-end
returns-clause-end g c = λ start old on way.
    let r = rules_of g.O.Ordering in
    let plan = plan_of c.args.journal in
    let past = past_of c.args.journal in
    let new = past_of c.run_to_end-end.new.journal in
    let lines = c.run_to_end-end.new.lines in
    let states = c.run_to_end-end.new.states in
    let went = subst (λ ss. Went g.L.Line r plan past new c.args.lines.items lines ss states) c.as_mut_slice-2.ensures.value
    (subst (λ ls. Went g.L.Line r plan past new ls lines c.as_mut_slice-2.result.now states) c.as_mut_slice.ensures.value c.run_to_end-end.ensures.went) in
    let after = went.way start old on way in
    subst (λ ls. EndsRun g.L.Line r plan start new old ls c.run_to_end-end.result) (sym (slice_back c.args.lines.len lines c.args.lines.items c.args.lines.ok.0 (after.same ∙ sym way.same)))
    (ends_run g.L.Line r plan start new old lines states c.run_to_end-end.result after c.run_to_end-end.ensures.end)

pub returns-clause-full : goal.returns-clause-full
returns-clause-full g c = λ start old on way before.
    let r = rules_of g.O.Ordering in
    let plan = plan_of c.args.journal in
    let past = past_of c.args.journal in
    let new = past_of c.run_to_end-end.new.journal in
    let lines = c.run_to_end-end.new.lines in
    let states = c.run_to_end-end.new.states in
    let went = subst (λ ss. Went g.L.Line r plan past new c.args.lines.items lines ss states) c.as_mut_slice-2.ensures.value
    (subst (λ ls. Went g.L.Line r plan past new ls lines c.as_mut_slice-2.result.now states) c.as_mut_slice.ensures.value c.run_to_end-end.ensures.went) in
    let after = went.way start old on way in
    subst (λ ls. GoesOnFullAtRestBut (IsAside g.L.Line r plan start new old ls) r plan start new) (sym (slice_back c.args.lines.len lines c.args.lines.items c.args.lines.ok.0 (after.same ∙ sym way.same)))
    (full_since g.L.Line r plan start past new old lines states after before went.full)
