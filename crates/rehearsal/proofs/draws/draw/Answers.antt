use Rattle.std.proofs.Common.{◌≡◌, ◌∙◌, arith, ap, true, Some, None, filter, length}
use Rattle.member_rules.specs.Kept.{rules_of}
use Rattle.run_journal.specs.Journal.{plan_of, past_of}
use Rattle.rehearsal.specs.Choices.{has_room, is_open}
use Rattle.rehearsal.specs.Seeded.{open_choices}
use Rattle.rehearsal.proofs.Visits.{room_of}
use Rattle.rehearsal.proofs.AllChoices.{all_fit}
use Rattle.rehearsal.proofs.DrawLaws.{choice_fits, found_at, never_none, ok_visited}
use Rattle.rehearsal.proofs.draws.draw.Goals as goal

pub count_open-count-requires-after_bounds : goal.count_open-count-requires-after_bounds
count_open-count-requires-after_bounds g c = λ κs live. all_fit (plan_of c.args.journal.now) c.args.all.now c.requires.all

pub nth_open-requires-after_bounds : goal.nth_open-requires-after_bounds
nth_open-requires-after_bounds g c = λ κs live. all_fit (plan_of c.args.journal.now) c.args.all.now c.requires.all

pub visit-requires-after_bounds : goal.visit-requires-after_bounds
visit-requires-after_bounds g c = λ κs live.
    let r = rules_of g.O.Ordering in
    let p = plan_of c.args.journal.now in
    let past = past_of c.args.journal.now in
    choice_fits r p past _ c.in-Some.choice.now
    (found_at r p past c.args.words.now c.next_word-word.new.self c.args.all.now c.next_word-word.result c.count_open-count.result (Some c.in-Some.choice.now) c.requires.all c.next_word-word.ensures c.count_open-count.ensures c.in-Some.ensures)

pub returns-in-Some-clause-made : goal.returns-in-Some-clause-made
returns-in-Some-clause-made g c =
    let r = rules_of g.O.Ordering in
    let p = plan_of c.args.journal.now in
    let past = past_of c.args.journal.now in
    let room : has_room p past ≡ true = room_of p past (let f = c.if-len-limit.false in let v = c.len.ensures.value in let l = c.requires.limit in omega arith) in
    ok_visited r p past (past_of c.visit.new.journal) c.args.words.now c.in-Some.choice.now c.visit.result room
    (found_at r p past c.args.words.now c.next_word-word.new.self c.args.all.now c.next_word-word.result c.count_open-count.result (Some c.in-Some.choice.now) c.requires.all c.next_word-word.ensures c.count_open-count.ensures c.in-Some.ensures)
    c.visit.ensures.made

pub returns-in-None-clause-made : goal.returns-in-None-clause-made
returns-in-None-clause-made g c =
    let r = rules_of g.O.Ordering in
    let p = plan_of c.args.journal.now in
    let past = past_of c.args.journal.now in
    let at = found_at r p past c.args.words.now c.next_word-word.new.self c.args.all.now c.next_word-word.result c.count_open-count.result None c.requires.all c.next_word-word.ensures c.count_open-count.ensures c.in-None.ensures in
    absurd (never_none (open_choices r p past) _ (λ e. c.if-count-eq0.false (c.count_open-count.ensures ∙ ap (λ cs. length (filter (is_open r p past) cs)) c.requires.all ∙ e)) at)
