-- What is spelt the same is the same.
use Rattle.std.proofs.Common.{ℕ, ◌≡◌, ◌∙◌, ◌^◌, ◌<◌, ◌≤◌, ◌++◌, true, List, [], ◌∷◌, append_assoc, get_or, sym, ap, refl, arith}
use Rattle.std.specs.Prelude.{codes, decimal, nat_lt}
use Rattle.std.proofs.lemmas.Bool.{and_parts}
use Rattle.std.proofs.lemmas.Fmt.{decimal_injective, digits_decimal}
use Rattle.upd_base.specs.Kind.{KindFits, kind_text}
use Rattle.upd_base.specs.Plan.{call_fits, step_fits}
use Rattle.upd_base.specs.declared.kind.Kind.{Kind}
use Rattle.upd_base.specs.declared.kind.Kind.TheVariants.{Sequencer, Lamport, Consensus}
use Rattle.upd_base.specs.declared.call.Call.{Call}
use Rattle.upd_base.specs.declared.call.Call.TheVariants.{Send, Change, Suspect, Trust, Crash}
use Rattle.upd_base.specs.declared.call.Step.{Step}
use Rattle.upd_base.specs.declared.answer.Answer.{Answer}
use Rattle.upd_base.specs.declared.answer.Answer.TheVariants.{Accepted, Done, Full, Crashed, VersionLimit, BadKind, BadMember}
use Rattle.upd_base.specs.declared.event.Event.{Event}
use Rattle.upd_base.specs.declared.event.Event.TheVariants.{Call as CallEvent, Receive, Release}
use Rattle.upd_base.proofs.Fits.{nat_lt-true}
use Rattle.journal_file.specs.Grammar.{AnswerFits, EventFits}
use Rattle.journal_file.specs.Text.{answer_text, call_text, event_line, step_line}
use Rattle.journal_file.specs.Written.{EndsNumber}
use Rattle.journal_file.proofs.Digits.{own, split_unique}

tails : (x y : ℕ) (xs ys : List ℕ) → x ∷ xs ≡ y ∷ ys → xs ≡ ys
tails x y xs ys e = cc

-- what stands behind the same front
pub behind : (front xs ys : List ℕ) → front ++ xs ≡ front ++ ys → xs ≡ ys
behind [] xs ys e = e
behind (x ∷ front) xs ys e = behind front xs ys (tails x x (front ++ xs) (front ++ ys) e)

-- a number, and what follows it
pub numbers : (m n : ℕ) (xs ys : List ℕ) → m < 2 ^ 64 → n < 2 ^ 64 → EndsNumber xs → EndsNumber ys → decimal m ++ xs ≡ decimal n ++ ys → (m ≡ n) × (xs ≡ ys)
numbers m n xs ys p q ex ey e =
    let s = split_unique (decimal m) (decimal n) xs ys (digits_decimal own m p) (digits_decimal own n q) ex ey e in
    (decimal_injective m n p q s.0, s.1)

-- a number behind a word
pub counted : (word : List ℕ) (m n : ℕ) → m < 2 ^ 64 → n < 2 ^ 64 → word ++ decimal m ≡ word ++ decimal n → m ≡ n
counted word m n p q e = decimal_injective m n p q (behind word (decimal m) (decimal n) e)

abbrev pub KindBelow : Kind → Type 0
KindBelow (Sequencer m) = m < 2 ^ 64
KindBelow Lamport = Unit {0}
KindBelow Consensus = Unit {0}

pub same_kind : (k l : Kind) → KindBelow k → KindBelow l → kind_text k ≡ kind_text l → k ≡ l
unfolding kind_text
same_kind (Sequencer m) (Sequencer n) p q e = ap Sequencer (counted (codes "sequencer ") m n p q e)
same_kind Lamport Lamport p q e = refl
same_kind Consensus Consensus p q e = refl
same_kind k l p q e = let h = ap (λ t. get_or t 0 0) e in absurd (omega (arith, h))

abbrev pub CallBelow : Call → Type 0
CallBelow (Send text) = Unit {0}
CallBelow (Change kind) = KindBelow kind
CallBelow (Suspect who) = who < 2 ^ 64
CallBelow (Trust who) = who < 2 ^ 64
CallBelow Crash = Unit {0}

pub same_call : (c d : Call) → CallBelow c → CallBelow d → call_text c ≡ call_text d → c ≡ d
unfolding call_text
same_call (Send a) (Send b) p q e = ap Send (behind (codes "send ") a b e)
same_call (Change k) (Change l) p q e = ap Change (same_kind k l p q (behind (codes "change ") (kind_text k) (kind_text l) e))
same_call (Suspect m) (Suspect n) p q e = ap Suspect (counted (codes "suspect ") m n p q e)
same_call (Trust m) (Trust n) p q e = ap Trust (counted (codes "trust ") m n p q e)
same_call Crash Crash p q e = refl
same_call c d p q e = let h = ap (λ t. get_or t 0 0) e in let k = ap (λ t. get_or t 1 0) e in absurd (omega (arith, h, k))

pub same_answer : (a b : Answer) → AnswerFits a → AnswerFits b → answer_text a ≡ answer_text b → a ≡ b
unfolding answer_text
same_answer (Accepted m) (Accepted n) p q e = ap Accepted (counted (codes "accepted ") m n (omega (arith, p)) (omega (arith, q)) e)
same_answer Done Done p q e = refl
same_answer Full Full p q e = refl
same_answer Crashed Crashed p q e = refl
same_answer VersionLimit VersionLimit p q e = refl
same_answer BadKind BadKind p q e = refl
same_answer BadMember BadMember p q e = refl
same_answer a b p q e = let h = ap (λ t. get_or t 0 0) e in let k = ap (λ t. get_or t 4 0) e in absurd (omega (arith, h, k))

-- behind a blank
abbrev spaced : List ℕ → List ℕ
spaced rest = codes " " ++ rest

-- words with a blank between each two
two_words : (a b : List ℕ) → a ++ codes " " ++ b ≡ a ++ spaced b
two_words a b = append_assoc a (codes " ") b

four_words : (a b c d : List ℕ) → a ++ codes " " ++ b ++ codes " " ++ c ++ codes " " ++ d ≡ a ++ spaced (b ++ spaced (c ++ spaced d))
four_words a b c d =
    two_words (a ++ codes " " ++ b ++ codes " " ++ c) d ∙ append_assoc (a ++ codes " " ++ b ++ codes " ") c (spaced d) ∙ two_words (a ++ codes " " ++ b) (c ++ spaced d)
    ∙ append_assoc (a ++ codes " ") b (spaced (c ++ spaced d)) ∙ two_words a (b ++ spaced (c ++ spaced d))

same_called : (t u i j m n : ℕ) (a b : Answer) → EventFits (CallEvent t i m a) → EventFits (CallEvent u j n b) → event_line (CallEvent t i m a) ≡ event_line (CallEvent u j n b) → CallEvent t i m a ≡ CallEvent u j n b
unfolding event_line
same_called t u i j m n a b p q e =
    let s : List ℕ = spaced (answer_text a) in
    let z : List ℕ = spaced (answer_text b) in
    let words = sym (four_words (decimal t) (decimal i) (decimal m) (answer_text a)) ∙ behind (codes "call ") _ _ e ∙ four_words (decimal u) (decimal j) (decimal n) (answer_text b) in
    let thread = numbers t u (spaced (decimal i ++ spaced (decimal m ++ s))) (spaced (decimal j ++ spaced (decimal n ++ z))) (let h = p.0 in omega (arith, h)) (let h = q.0 in omega (arith, h)) refl refl words in
    let index = numbers i j (spaced (decimal m ++ s)) (spaced (decimal n ++ z)) (let h = p.1 in omega (arith, h)) (let h = q.1 in omega (arith, h)) refl refl (behind (codes " ") _ _ thread.1) in
    let member = numbers m n s z (let h = p.2 in omega (arith, h)) (let h = q.2 in omega (arith, h)) refl refl (behind (codes " ") _ _ index.1) in
    let given = same_answer a b p.3 q.3 (behind (codes " ") _ _ member.1) in
    λ x. CallEvent (thread.0 x) (index.0 x) (member.0 x) (given x)

same_received : (i j m n : ℕ) → EventFits (Receive i m) → EventFits (Receive j n) → event_line (Receive i m) ≡ event_line (Receive j n) → Receive i m ≡ Receive j n
unfolding event_line
same_received i j m n p q e =
    let words = sym (two_words (decimal i) (decimal m)) ∙ behind (codes "receive ") _ _ e ∙ two_words (decimal j) (decimal n) in
    let from = numbers i j (spaced (decimal m)) (spaced (decimal n)) (let h = p.0 in omega (arith, h)) (let h = q.0 in omega (arith, h)) refl refl words in
    let to = counted (codes " ") m n (let h = p.1 in omega (arith, h)) (let h = q.1 in omega (arith, h)) from.1 in
    λ x. Receive (from.0 x) (to x)

pub same_event : (d e : Event) → EventFits d → EventFits e → event_line d ≡ event_line e → d ≡ e
unfolding event_line
same_event (CallEvent t i m a) (CallEvent u j n b) p q e = same_called t u i j m n a b p q e
same_event (Receive i m) (Receive j n) p q e = same_received i j m n p q e
same_event (Release m) (Release n) p q e = ap Release (counted (codes "release ") m n (omega (arith, p)) (omega (arith, q)) e)
same_event d c p q e = let h = ap (λ t. get_or t 0 0) e in let k = ap (λ t. get_or t 2 0) e in absurd (omega (arith, h, k))

-- Steps ---------------------------------------------------------------------------------------------------------

pub kind_below : (n : ℕ) (k : Kind) → n ≤ 7 → KindFits n k → KindBelow k
kind_below n (Sequencer m) few fits = let h = nat_lt-true m n fits in omega (arith, h, few)
kind_below n Lamport few fits = tt
kind_below n Consensus few fits = tt

call_below : (n at : ℕ) (c : Call) → n ≤ 7 → call_fits n at c ≡ true → CallBelow c
call_below n at (Send text) few fits = tt
call_below n at (Change kind) few fits = kind_below n kind few fits
call_below n at (Suspect who) few fits = let h = nat_lt-true who n (and_parts (nat_lt who n) _ fits).0 in omega (arith, h, few)
call_below n at (Trust who) few fits = let h = nat_lt-true who n (and_parts (nat_lt who n) _ fits).0 in omega (arith, h, few)
call_below n at Crash few fits = tt

pub at_below : (n : ℕ) (s : Step) → n ≤ 7 → step_fits n s ≡ true → s.at < 2 ^ 64
at_below n s few fits = let h = nat_lt-true s.at n (and_parts (nat_lt s.at n) (call_fits n s.at s.call) fits).0 in omega (arith, h, few)

pub step_below : (n : ℕ) (s : Step) → n ≤ 7 → step_fits n s ≡ true → CallBelow s.call
step_below n s few fits = call_below n s.at s.call few (and_parts (nat_lt s.at n) (call_fits n s.at s.call) fits).1

pub same_step : (n : ℕ) (s t : Step) → n ≤ 7 → step_fits n s ≡ true → step_fits n t ≡ true → step_line s ≡ step_line t → s ≡ t
unfolding step_line
same_step n s t few f g e =
    let words = sym (two_words (decimal s.at) (call_text s.call)) ∙ e ∙ two_words (decimal t.at) (call_text t.call) in
    let at = numbers s.at t.at (spaced (call_text s.call)) (spaced (call_text t.call)) (at_below n s few f) (at_below n t few g) refl refl words in
    let call = same_call s.call t.call (step_below n s few f) (step_below n t few g) (behind (codes " ") _ _ at.1) in
    λ x. record { at = at.0 x; call = call x }
