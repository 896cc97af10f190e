use Rattle.std.proofs.Common.{arith}
use Rattle.journal_file.specs.Grammar.Wanted.{WantsHeading}
use Rattle.journal_file.specs.Stage.{wanted_by}
use Rattle.journal_file.proofs.Keeping.{leads_within}
use Rattle.journal_file.proofs.Leading.{first_fault, number_below, reached_more, reached_none, refused_line}
use Rattle.journal_file.proofs.Stages.{finished}
use Rattle.journal_file.proofs.reading.read_text.Goals as goal

pub loop-line-init : goal.loop-line-init
loop-line-init c = record { short = c.if-bytes-gt-MAX_TEXT.false; reached = reached_none c.args.bytes.now; counted = tt }

pub after-requires-clause-within : goal.after-requires-clause-within
after-requires-clause-within c =
    let r = c.loop-line.invariant.reached in
    leads_within WantsHeading (wanted_by c.loop-line.stage) r.before tt r.leads

pub returns-in_default-2-clause-fault : goal.returns-in_default-2-clause-fault
returns-in_default-2-clause-fault c =
    λ rules.
    let i = c.loop-line.invariant in
    let front = c.in-Some.ensures.some in
    let none = rw c.in_default-2.is at c.in_ok-next.ensures in
    first_fault c.args.bytes.now c.loop-line.rest.now c.loop-line.number (wanted_by c.loop-line.stage) i.short i.reached
    (refused_line (wanted_by c.loop-line.stage) c.loop-line.rest.now c.in-Some.more.now c.in-Some.line.now front.0 front.1 none)

pub overflow_add-number : goal.overflow_add-number
overflow_add-number c =
    let i = c.loop-line.invariant in
    let l = number_below c.args.bytes.now c.loop-line.rest.now c.loop-line.number (wanted_by c.loop-line.stage) i.reached in
    let s = i.short in
    omega (arith, l, s)

pub loop-line-preserved : goal.loop-line-preserved
loop-line-preserved c =
    let i = c.loop-line.invariant in
    let front = c.in-Some.ensures.some in
    let next = rw c.in-Some-2.is at c.in_ok-next.ensures in
    record {
      short = i.short;
      reached = reached_more c.args.bytes.now c.loop-line.rest.now c.in-Some.more.now c.loop-line.number (wanted_by c.loop-line.stage) (wanted_by c.in-Some-2.next) c.in-Some.line.now
          i.reached front.0 front.1 next.0;
      counted = next.1;
    }

pub returns-clause-text : goal.returns-clause-text
returns-clause-text c =
    let i = c.loop-line.invariant in
    finished c.finish.result c.ok_or.result _ c.args.bytes.now c.loop-line.rest.now c.loop-line.number (wanted_by c.loop-line.stage) i.short i.reached c.ok_or.ensures.value c.finish.ensures.some
