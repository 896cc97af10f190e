use Rattle.std.proofs.Common.{List, ℕ, sym, subst}
use Rattle.run_journal.specs.Journal.{events_of, plan_of}
use Rattle.journal_file.specs.Reading.{IsJournalText, ReadFault}
use Rattle.top_calls.specs.Checked.{JournalCause}
use Rattle.program_texts.specs.Rules.{the_rules}
use Rattle.program_texts.specs.declared.status.Status.{Status}
use Rattle.top_calls.proofs.Checks.{journal_fault, journal_read}
use Rattle.top_calls.proofs.journal_input.journal_from.Goals as goal

pub returns-in-Ok-read_journal-clause-text : goal.returns-in-Ok-read_journal-clause-text
returns-in-Ok-read_journal-clause-text g c =
    let journal = c.in-Ok-read_journal.journal in
    journal_read _ _ c.in-Ok.bytes.items (plan_of journal) (events_of journal) c.in-Ok.ensures.bytes
    (subst (λ (bs : List ℕ). IsJournalText bs (plan_of journal) (events_of journal)) c.as_slice.ensures.value c.in-Ok-read_journal.ensures.text)

pub returns-clause-cause : goal.returns-clause-cause
returns-clause-cause g c =
    let read = subst (λ (bs : List ℕ). ReadFault the_rules bs c.in-Err.fault) c.as_slice.ensures.value c.in-Err.ensures.fault in
    subst (λ (s : Status). JournalCause s (g.S.Source.faults c.args.source.now) (g.S.Source.faults c.read_all.new.source) (g.S.Source.left c.args.source.now))
    (sym c.journal_refused.ensures) (journal_fault _ _ c.in-Ok.bytes.items c.in-Err.fault _ _ c.in-Ok.ensures.bytes read)
