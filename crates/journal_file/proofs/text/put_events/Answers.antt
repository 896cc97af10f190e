use Rattle.std.proofs.Common.{◌≡◌, ◌<◌, refl, sym, length}
use Rattle.std.specs.Prelude.{map}
use Rattle.std.proofs.lemmas.Option.{slice_get_read}
use Rattle.journal_file.specs.Grammar.{EventFits}
use Rattle.journal_file.specs.Text.{ended, event_line, events_line, text_of}
use Rattle.journal_file.proofs.Joined.{all_more, all_of, lines_of, wrote_all, wrote_more}
use Rattle.journal_file.proofs.text.put_events.Goals as goal

pub loop-event-preserved : goal.loop-event-preserved
loop-event-preserved c =
    let events = c.args.events.now in
    let i = c.loop-event.event-index in
    let lt : i < length events = c.loop-event-test.true in
    let at = slice_get_read events (length events) i c.event-item.result refl lt c.event-item.is in (
      wrote_more (λ e. ended (event_line e)) events i c.event-item.result c.put_events_head.new.out.items c.loop-event.out.items c.put_event.new.out.items at lt c.loop-event.invariant.0 c.in_ok-put_event.ensures.out,
      all_more EventFits events i c.event-item.result at lt c.loop-event.invariant.1 c.in_ok-put_event.ensures.fits,
    )

pub returns-clause-out : goal.returns-clause-out
returns-clause-out c =
    wrote_all (λ e. ended (event_line e)) c.args.events.now c.loop-event.event-index c.args.out.now.items c.put_events_head.new.out.items c.loop-event.out.items
    (ended (events_line (length c.args.events.now))) (text_of (map event_line c.args.events.now))
    c.loop-event-test.false c.in_ok-put_events_head.ensures c.loop-event.invariant.0 (sym (lines_of event_line c.args.events.now))

pub returns-clause-fits : goal.returns-clause-fits
returns-clause-fits c = all_of EventFits c.args.events.now c.loop-event.event-index c.loop-event-test.false c.loop-event.invariant.1
