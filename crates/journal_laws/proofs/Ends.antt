-- Where lines of one text end that are each what is wanted there.
use Rattle.std.proofs.Common.{ℕ, ◌≡◌, ◌∙◌, ◌++◌, List, [], ◌∷◌, sym, ap, refl, subst, arith, length, append_assoc}
use Rattle.std.specs.Prelude.{All}
use Rattle.std.proofs.lemmas.List.Elements.{All-head, All-tail}
use Rattle.journal_file.specs.Text.{Line, ended, text_of}
use Rattle.journal_file.specs.Grammar.{Wanted, Follows, Leads}
use Rattle.journal_file.specs.Grammar.Wanted.{WantsHeading, WantsMembers, WantsFirst, WantsThreads, WantsThread, WantsStep, WantsEvents, WantsEvent, WantsEnd, WantsNothing}
use Rattle.journal_file.specs.Reading.{IsFirstFault, IsLine, IsRefused}
use Rattle.journal_file.specs.Within.{IsWithin}
use Rattle.journal_file.proofs.Keeping.{follows_within}
use Rattle.journal_file.proofs.Leading.{same_front}
use Rattle.journal_laws.proofs.Next.{follows_one}
use Rattle.journal_laws.proofs.Spellings.{behind}

-- No line that is wanted stands whole at the front of what is left.
abbrev pub Stops : Wanted → List ℕ → Type 0
Stops w rest = (line more : List ℕ) (next : Wanted) → IsLine line → rest ≡ ended line ++ more → Follows w line next → ⊥

pub stops : (w : Wanted) (rest : List ℕ) → IsRefused w rest → Stops w rest
stops WantsHeading rest h = h
stops WantsMembers rest h = h
stops (WantsFirst n) rest h = h
stops (WantsThreads n kind) rest h = h
stops (WantsThread plan left) rest h = h
stops (WantsStep plan steps left threads) rest h = h
stops (WantsEvents plan) rest h = h
stops (WantsEvent plan es left) rest h = h
stops (WantsEnd plan es) rest h = h
stops (WantsNothing plan es) rest h = λ line more next is e f. f

-- Lines of these bytes led to what is wanted, and what is left stops them there.
pub record IsEnd (from : Wanted) (lines : List Line) (to : Wanted) (rest bytes : List ℕ) : Type 0 where
  pub whole : All IsLine lines
  pub leads : Leads from lines to
  pub stop : Stops to rest
  pub text : bytes ≡ text_of lines ++ rest

-- the bytes behind a line
split : (line : Line) (lines : List Line) (rest bytes : List ℕ) → bytes ≡ text_of (line ∷ lines) ++ rest → bytes ≡ ended line ++ (text_of lines ++ rest)
split line lines rest bytes e = e ∙ append_assoc (ended line) (text_of lines) rest

-- a line more stands at the stop
no_more : (from to : Wanted) (line : Line) (lines : List Line) (rest bytes : List ℕ) → Stops from bytes → IsEnd from (line ∷ lines) to rest bytes → ⊥
no_more from to line lines rest bytes stop e =
    stop line (text_of lines ++ rest) e.leads.0 (All-head IsLine line lines e.whole) (split line lines rest bytes e.text) e.leads.1

-- the end is one
pub record AreOneEnd (a b : List Line) (v w : Wanted) (r s : List ℕ) : Type 0 where
  pub as_many : length a ≡ length b
  pub wanted : v ≡ w
  pub left : r ≡ s

pub one_end : (from v w : Wanted) (a b : List Line) (r s bytes : List ℕ) → IsWithin from → IsEnd from a v r bytes → IsEnd from b w s bytes → AreOneEnd a b v w r s
one_end from v w [] [] r s bytes h d e = record { as_many = refl; wanted = sym d.leads ∙ e.leads; left = sym d.text ∙ e.text }
one_end from v w [] (y ∷ b) r s bytes h d e =
    absurd (no_more from w y b s bytes (subst (λ (x : Wanted). Stops x bytes) (sym d.leads) (subst (λ (x : List ℕ). Stops v x) (sym d.text) d.stop)) e)
one_end from v w (x ∷ a) [] r s bytes h d e =
    absurd (no_more from v x a r bytes (subst (λ (z : Wanted). Stops z bytes) (sym e.leads) (subst (λ (z : List ℕ). Stops w z) (sym e.text) e.stop)) d)
one_end from v w (x ∷ a) (y ∷ b) r s bytes h d e =
    let front = split x a r bytes d.text in
    let back = split y b s bytes e.text in
    let line : x ≡ y = same_front x y (text_of a ++ r) (text_of b ++ s) (All-head IsLine x a d.whole) (All-head IsLine y b e.whole) (sym front ∙ back) in
    let left : text_of a ++ r ≡ text_of b ++ s = behind (ended y) (text_of a ++ r) (text_of b ++ s) (ap (λ l. ended l ++ (text_of a ++ r)) (sym line) ∙ sym front ∙ back) in
    let next : d.leads.0 ≡ e.leads.0 = follows_one from y d.leads.0 e.leads.0 h (subst (λ (l : Line). Follows from l d.leads.0) line d.leads.1) e.leads.1 in
    let one = one_end e.leads.0 v w a b r s (text_of b ++ s) (follows_within from y e.leads.0 h e.leads.1)
    (record { whole = All-tail IsLine x a d.whole; leads = subst (λ (z : Wanted). Leads z a v) next d.leads.2; stop = d.stop; text = sym left })
    (record { whole = All-tail IsLine y b e.whole; leads = e.leads.2; stop = e.stop; text = refl }) in
    record { as_many = let n = one.as_many in omega (arith, n); wanted = one.wanted; left = one.left }

-- where a fault of a line ends the lines
pub fault_end : (bytes : List ℕ) (number : ℕ) (f : IsFirstFault bytes number) → IsEnd WantsHeading f.before f.wanted f.rest bytes
fault_end bytes number f = record { whole = f.lines; leads = f.leads; stop = stops f.wanted f.rest f.refused; text = f.text }

pub one_line : (bytes : List ℕ) (m n : ℕ) → IsFirstFault bytes m → IsFirstFault bytes n → m ≡ n
one_line bytes m n f g =
    let e = one_end WantsHeading f.wanted g.wanted f.before g.before f.rest g.rest bytes tt (fault_end bytes m f) (fault_end bytes n g) in
    let many = e.as_many in
    let at = f.counted in
    let there = g.counted in
    omega (arith, many, at, there)
