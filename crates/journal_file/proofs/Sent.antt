-- What the plan sends are payloads.
use Rattle.std.proofs.Common.{ℕ, zero, suc, ◌++◌, List, [], ◌∷◌, sym, subst}
use Rattle.std.specs.Prelude.{All}
use Rattle.std.proofs.lemmas.List.Elements.{All-nil, All-push}
use Rattle.upd_base.specs.Plan.{Planned}
use Rattle.upd_base.specs.declared.call.Step.{Step}
use Rattle.upd_base.specs.declared.event.Event.{Event}
use Rattle.journal_file.specs.Text.{Line}
use Rattle.journal_file.specs.Grammar.{Wanted, Follows, Leads, TextFits, event_or_end, step_or_thread, thread_or_events, with_thread}
use Rattle.journal_file.specs.Grammar.Wanted.{WantsHeading, WantsMembers, WantsFirst, WantsThreads, WantsThread, WantsStep, WantsEvents, WantsEvent, WantsEnd, WantsNothing}
use Rattle.journal_file.specs.Reading.{HasPayloads}

abbrev ArePayloads : List Step → Type 0
ArePayloads steps = All (λ s. TextFits s.call) steps

-- so far
abbrev pub AreSent : Wanted → Type 0
AreSent WantsHeading = Unit {0}
AreSent WantsMembers = Unit {0}
AreSent (WantsFirst n) = Unit {0}
AreSent (WantsThreads n kind) = Unit {0}
AreSent (WantsThread plan left) = HasPayloads plan
AreSent (WantsStep plan steps left threads) = HasPayloads plan × ArePayloads steps
AreSent (WantsEvents plan) = HasPayloads plan
AreSent (WantsEvent plan es left) = HasPayloads plan
AreSent (WantsEnd plan es) = HasPayloads plan
AreSent (WantsNothing plan es) = HasPayloads plan

sent_threads : (plan : Planned) (left : ℕ) → HasPayloads plan → AreSent (thread_or_events plan left)
sent_threads plan zero h = h
sent_threads plan (suc left) h = h

sent_steps : (plan : Planned) (steps : List Step) (left threads : ℕ) → HasPayloads plan → ArePayloads steps → AreSent (step_or_thread plan steps left threads)
sent_steps plan steps zero threads h k = sent_threads (with_thread plan steps) threads (All-push ArePayloads plan.threads steps h k)
sent_steps plan steps (suc left) threads h k = (h, k)

sent_events : (plan : Planned) (es : List Event) (left : ℕ) → HasPayloads plan → AreSent (event_or_end plan es left)
sent_events plan es zero h = h
sent_events plan es (suc left) h = h

follows_sent : (w : Wanted) (line : Line) (next : Wanted) → AreSent w → Follows w line next → AreSent next
follows_sent WantsHeading line next h f = subst AreSent (sym f.1) tt
follows_sent WantsMembers line next h f = subst AreSent (sym f.4) tt
follows_sent (WantsFirst n) line next h f = subst AreSent (sym f.3) tt
follows_sent (WantsThreads n kind) line next h f = subst AreSent (sym f.4) (sent_threads _ f.0 (All-nil ArePayloads))
follows_sent (WantsThread plan left) line next h f = subst AreSent (sym f.3) (sent_steps plan [] f.0 left h (All-nil (λ s. TextFits s.call)))
follows_sent (WantsStep plan steps left threads) line next h f =
    subst AreSent (sym f.3) (sent_steps plan (steps ++ f.0 ∷ []) left threads h.0 (All-push (λ s. TextFits s.call) steps f.0 h.1 f.1.text))
follows_sent (WantsEvents plan) line next h f = subst AreSent (sym f.3) (sent_events plan [] f.0 h)
follows_sent (WantsEvent plan es left) line next h f = subst AreSent (sym f.3) (sent_events plan (es ++ f.0 ∷ []) left h)
follows_sent (WantsEnd plan es) line next h f = subst AreSent (sym f.1) h
follows_sent (WantsNothing plan es) line next h f = absurd f

pub leads_sent : (from to : Wanted) (lines : List Line) → AreSent from → Leads from lines to → AreSent to
leads_sent from to [] h l = subst AreSent l h
leads_sent from to (line ∷ lines) h l = leads_sent l.0 to lines (follows_sent from line l.0 h l.1) l.2
