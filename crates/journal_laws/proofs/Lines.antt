-- What the grammar wants is a line.
use Rattle.std.proofs.Common.{ℕ, ◌≡◌, ◌∙◌, ◌^◌, ◌<◌, ◌≤◌, ◌++◌, ◌&&◌, Bool, true, false, List, [], ◌∷◌, inl, inr, sym, ap, refl, subst, arith}
use Rattle.std.specs.Prelude.{All, codes, decimal, nat_le, length}
use Rattle.std.specs.Char.{is_ascii_digit}
use Rattle.std.specs.List.{list_all}
use Rattle.std.proofs.lemmas.Bool.{and_parts, false≢true}
use Rattle.std.proofs.lemmas.Fmt.{digits_decimal}
use Rattle.std.proofs.lemmas.List.Elements.{All-nil, All-cons, Contains-append_cases}
use Rattle.std.proofs.lemmas.List.Sums.{AllPass-from_list_all}
use Rattle.upd_base.specs.Plan.{step_fits}
use Rattle.upd_base.specs.Text.{is_printable}
use Rattle.upd_base.specs.declared.limits.TheConstants.{MAX_PAYLOAD}
use Rattle.upd_base.specs.Kind.{kind_text}
use Rattle.upd_base.specs.declared.kind.Kind.{Kind}
use Rattle.upd_base.specs.declared.kind.Kind.TheVariants.{Sequencer, Lamport, Consensus}
use Rattle.upd_base.specs.declared.call.Call.{Call}
use Rattle.upd_base.specs.declared.call.Call.TheVariants.{Send, Change, Suspect, Trust, Crash}
use Rattle.upd_base.specs.declared.call.Step.{Step}
use Rattle.upd_base.specs.declared.answer.Answer.{Answer}
use Rattle.upd_base.specs.declared.answer.Answer.TheVariants.{Accepted, Done, Full, Crashed, VersionLimit, BadKind, BadMember}
use Rattle.upd_base.specs.declared.event.Event.{Event}
use Rattle.upd_base.specs.declared.event.Event.TheVariants.{Call as CallEvent, Receive, Release}
use Rattle.journal_file.specs.Text.{Line, answer_text, call_text, event_line, events_line, first_line, heading_line, last_line, members_line, step_line, thread_line, threads_line}
use Rattle.journal_file.specs.Grammar.{AnswerFits, EventFits, Follows, Leads, TextFits, Wanted}
use Rattle.journal_file.specs.Grammar.Wanted.{WantsHeading, WantsMembers, WantsFirst, WantsThreads, WantsThread, WantsStep, WantsEvents, WantsEvent, WantsEnd, WantsNothing}
use Rattle.journal_file.specs.Reading.{IsLine, NEWLINE}
use Rattle.journal_file.specs.Within.{IsWithin}
use Rattle.journal_file.proofs.Digits.{own}
use Rattle.journal_file.proofs.Keeping.{follows_within}
use Rattle.journal_laws.proofs.Next.{few_calls, few_events}
use Rattle.journal_laws.proofs.Spellings.{CallBelow, KindBelow, at_below, kind_below, step_below}

-- bytes that pass a test that a line end doesn't
passing : (test : ℕ → Bool) (bytes : List ℕ) → test NEWLINE ≡ false → list_all test bytes ≡ true → IsLine bytes
passing test bytes ends h c = false≢true (sym ends ∙ ap test (sym c.2) ∙ AllPass-from_list_all test bytes h c.0 NEWLINE c.1)

printable : (bytes : List ℕ) → list_all is_printable bytes ≡ true → IsLine bytes
printable bytes h = passing is_printable bytes refl h

joined : (a b : List ℕ) → IsLine a → IsLine b → IsLine (a ++ b)
joined a b p q c = elim (Contains-append_cases a b NEWLINE c) [ inl h ↦ p h | inr h ↦ q h ]

number : (n : ℕ) → n < 2 ^ 64 → IsLine (decimal n)
number n l = passing is_ascii_digit (decimal n) refl (digits_decimal own n l)

-- a number behind a word
numbered : (word : List ℕ) (n : ℕ) → list_all is_printable word ≡ true → n < 2 ^ 64 → IsLine (word ++ decimal n)
numbered word n h l = joined word (decimal n) (printable word h) (number n l)

-- a blank between
spaced : (a b : List ℕ) → IsLine a → IsLine b → IsLine (a ++ codes " " ++ b)
spaced a b p q = joined (a ++ codes " ") b (joined a (codes " ") p (printable (codes " ") refl)) q

of_kind : (k : Kind) → KindBelow k → IsLine (kind_text k)
unfolding kind_text
of_kind (Sequencer m) l = numbered (codes "sequencer ") m refl l
of_kind Lamport l = printable (codes "lamport") refl
of_kind Consensus l = printable (codes "consensus") refl

of_call : (c : Call) → CallBelow c → TextFits c → IsLine (call_text c)
unfolding call_text
of_call (Send text) l fits =
    joined (codes "send ") text (printable (codes "send ") refl)
    (printable text (and_parts (nat_le 1 (length text) && nat_le (length text) MAX_PAYLOAD) (list_all is_printable text) fits).1)
of_call (Change kind) l fits = joined (codes "change ") (kind_text kind) (printable (codes "change ") refl) (of_kind kind l)
of_call (Suspect who) l fits = numbered (codes "suspect ") who refl l
of_call (Trust who) l fits = numbered (codes "trust ") who refl l
of_call Crash l fits = printable (codes "crash") refl

of_answer : (a : Answer) → AnswerFits a → IsLine (answer_text a)
unfolding answer_text
of_answer (Accepted n) l = numbered (codes "accepted ") n refl (omega (arith, l))
of_answer Done l = printable (codes "done") refl
of_answer Full l = printable (codes "full") refl
of_answer Crashed l = printable (codes "crashed") refl
of_answer VersionLimit l = printable (codes "version limit") refl
of_answer BadKind l = printable (codes "bad kind") refl
of_answer BadMember l = printable (codes "bad member") refl

of_event : (e : Event) → EventFits e → IsLine (event_line e)
unfolding event_line
of_event (CallEvent thread index member given) l =
    spaced (codes "call " ++ decimal thread ++ codes " " ++ decimal index ++ codes " " ++ decimal member) (answer_text given)
    (spaced (codes "call " ++ decimal thread ++ codes " " ++ decimal index) (decimal member)
    (spaced (codes "call " ++ decimal thread) (decimal index) (numbered (codes "call ") thread refl (let h = l.0 in omega (arith, h))) (number index (let h = l.1 in omega (arith, h))))
    (number member (let h = l.2 in omega (arith, h))))
    (of_answer given l.3)
of_event (Receive from to) l =
    spaced (codes "receive " ++ decimal from) (decimal to) (numbered (codes "receive ") from refl (let h = l.0 in omega (arith, h))) (number to (let h = l.1 in omega (arith, h)))
of_event (Release at) l = numbered (codes "release ") at refl (omega (arith, l))

of_step : (n : ℕ) (s : Step) → n ≤ 7 → step_fits n s ≡ true → TextFits s.call → IsLine (step_line s)
unfolding step_line
of_step n s few fits text = spaced (decimal s.at) (call_text s.call) (number s.at (at_below n s few fits)) (of_call s.call (step_below n s few fits) text)

of_members : (n : ℕ) → n < 2 ^ 64 → IsLine (members_line n)
unfolding members_line
of_members n l = numbered (codes "members ") n refl l

of_first : (k : Kind) → KindBelow k → IsLine (first_line k)
unfolding first_line
of_first k l = joined (codes "first ") (kind_text k) (printable (codes "first ") refl) (of_kind k l)

of_threads : (n : ℕ) → n < 2 ^ 64 → IsLine (threads_line n)
unfolding threads_line
of_threads n l = numbered (codes "threads ") n refl l

of_thread : (n : ℕ) → n < 2 ^ 64 → IsLine (thread_line n)
unfolding thread_line
of_thread n l = numbered (codes "thread ") n refl l

of_events : (n : ℕ) → n < 2 ^ 64 → IsLine (events_line n)
unfolding events_line
of_events n l = numbered (codes "events ") n refl l

follows_line : (w : Wanted) (line : Line) (next : Wanted) → IsWithin w → Follows w line next → IsLine line
follows_line WantsHeading line next h f = subst IsLine (sym f.0) (printable heading_line refl)
follows_line WantsMembers line next h f = subst IsLine (sym f.3) (of_members f.0 (let l = f.2 in omega (arith, l)))
follows_line (WantsFirst n) line next h f = subst IsLine (sym f.2) (of_first f.0 (kind_below n f.0 (let l = h.1 in omega (arith, l)) f.1))
follows_line (WantsThreads n kind) line next h f = subst IsLine (sym f.3) (of_threads f.0 (let l = f.2 in omega (arith, l)))
follows_line (WantsThread plan left) line next h f = subst IsLine (sym f.2) (of_thread f.0 (few_calls plan f.0 f.1))
follows_line (WantsStep plan steps left threads) line next h f = subst IsLine (sym f.2) (of_step plan.members f.0 (let l = h.0.few in omega (arith, l)) f.1.fits f.1.text)
follows_line (WantsEvents plan) line next h f = subst IsLine (sym f.2) (of_events f.0 (few_events plan f.0 h f.1))
follows_line (WantsEvent plan es left) line next h f = subst IsLine (sym f.2) (of_event f.0 f.1)
follows_line (WantsEnd plan es) line next h f = subst IsLine (sym f.0) (printable last_line refl)
follows_line (WantsNothing plan es) line next h f = absurd f

pub leads_lines : (from to : Wanted) (lines : List Line) → IsWithin from → Leads from lines to → All IsLine lines
leads_lines from to [] h l = All-nil IsLine
leads_lines from to (line ∷ lines) h l = All-cons IsLine line lines (follows_line from line l.0 h l.1) (leads_lines l.0 to lines (follows_within from line l.0 h l.1) l.2)
