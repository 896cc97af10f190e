use Rattle.std.proofs.Common.{◌≡◌, ◌∙◌, ◌++◌, ◌<◌, arith, sym, ap, length, List, append_assoc}
use Rattle.std.specs.Prelude.{All, flat_map}
use Rattle.upd_base.specs.Plan.{steps_of}
use Rattle.upd_base.specs.declared.call.Step.{Step}
use Rattle.journal_file.specs.Grammar.{TextFits}
use Rattle.journal_file.specs.Text.{ended, first_line, members_line, text_of, thread_lines, threads_line}
use Rattle.journal_file.proofs.Joined.{all_more, all_of, blocks_of, thread_found, three_lines, wrote_all, wrote_more}
use Rattle.journal_file.proofs.text.put_plan.Goals as goal

pub loop-thread-preserved : goal.loop-thread-preserved
loop-thread-preserved c =
    let p = c.args.plan.now in
    let lt : c.loop-thread.thread < length p.threads = (let t = c.loop-thread-test.true in let n = c.threads-thread-end.ensures in omega (arith, t, n)) in
    let at = thread_found p c.loop-thread.thread lt in (
      wrote_more (λ steps. text_of (thread_lines steps)) p.threads c.loop-thread.thread (steps_of p c.loop-thread.thread) c.put_head.new.out.items c.loop-thread.out.items c.put_thread.new.out.items
          at lt c.loop-thread.invariant.0 c.in_ok-put_thread.ensures.out,
      all_more (All (λ (s : Step). TextFits s.call)) p.threads c.loop-thread.thread (steps_of p c.loop-thread.thread) at lt c.loop-thread.invariant.1 c.in_ok-put_thread.ensures.fits,
    )

pub returns-clause-fits : goal.returns-clause-fits
returns-clause-fits c =
    all_of (All (λ (s : Step). TextFits s.call)) c.args.plan.now.threads c.loop-thread.thread (let t = c.loop-thread-test.false in let n = c.threads-thread-end.ensures in omega (arith, t, n)) c.loop-thread.invariant.1

pub returns-clause-out : goal.returns-clause-out
returns-clause-out c =
    let p = c.args.plan.now in
    three_lines (ended (members_line p.members)) (ended (first_line p.first)) (ended (threads_line (length p.threads))) (text_of (flat_map thread_lines p.threads)) c.args.out.now.items c.loop-thread.out.items
    (wrote_all (λ steps. text_of (thread_lines steps)) p.threads c.loop-thread.thread c.args.out.now.items c.put_head.new.out.items c.loop-thread.out.items
    (ended (members_line p.members) ++ ended (first_line p.first) ++ ended (threads_line (length p.threads))) (text_of (flat_map thread_lines p.threads))
    (let t = c.loop-thread-test.false in let n = c.threads-thread-end.ensures in omega (arith, t, n))
    (c.in_ok-put_head.ensures
    ∙ ap (λ n. c.args.out.now.items ++ (ended (members_line n) ++ ended (first_line c.first.result) ++ ended (threads_line c.threads.result))) c.members.ensures
    ∙ ap (λ k. c.args.out.now.items ++ (ended (members_line p.members) ++ ended (first_line k) ++ ended (threads_line c.threads.result))) c.first.ensures
    ∙ ap (λ n. c.args.out.now.items ++ (ended (members_line p.members) ++ ended (first_line p.first) ++ ended (threads_line n))) c.threads.ensures)
    c.loop-thread.invariant.0 (sym (blocks_of thread_lines p.threads)))
