-- Lines, each of which is what is wanted there, one after another.
use Rattle.std.proofs.Common.{ℕ, suc, ◌≡◌, ◌≢◌, ◌∙◌, ◌<◌, ◌≤◌, ◌+◌, ◌++◌, List, [], ◌∷◌, sym, ap, refl, subst, arith, length, append_assoc, append-nil}
use Rattle.std.specs.Prelude.{All, Contains, flat_map}
use Rattle.std.proofs.lemmas.Grind.{flat_map-append, common_steps}
use Rattle.std.proofs.lemmas.List.{length-append}
use Rattle.std.proofs.lemmas.List.Elements.{All-nil, All-push}
use Rattle.journal_file.specs.Text.{Line, ended, text_of}
use Rattle.journal_file.specs.Grammar.{Wanted, Follows, Leads}
use Rattle.journal_file.specs.Grammar.Wanted.{WantsHeading, WantsMembers, WantsFirst, WantsThreads, WantsThread, WantsStep, WantsEvents, WantsEvent, WantsEnd, WantsNothing}
use Rattle.journal_file.specs.Reading.{NEWLINE, IsFirstFault, IsLine, IsRefused}
use Rattle.journal_file.specs.declared.limits.TheConstants.{MAX_TEXT}

-- A line of this number is next: those before it led to what is wanted, and these bytes are left.
pub record IsReached (bytes : List ℕ) (number : ℕ) (wanted : Wanted) (rest : List ℕ) : Type 0 where
  pub before : List Line
  pub counted : number ≡ suc (length before)
  pub lines : All IsLine before
  pub text : bytes ≡ text_of before ++ rest
  pub leads : Leads WantsHeading before wanted

pub reached_none : (bytes : List ℕ) → IsReached bytes 1 WantsHeading bytes
reached_none bytes = record { before = []; counted = refl; lines = All-nil IsLine; text = refl; leads = refl }

-- one line more
leads_more : (from w to : Wanted) (line : Line) (lines : List Line) → Leads from lines w → Follows w line to → Leads from (lines ++ line ∷ []) to
leads_more from w to line [] l f = (to, subst (λ (x : Wanted). Follows x line to) (sym l) f, refl)
leads_more from w to line (x ∷ lines) l f = (l.0, l.1, leads_more l.0 w to line lines l.2 f)

text_more : (lines : List Line) (line : Line) → text_of (lines ++ line ∷ []) ≡ text_of lines ++ ended line
text_more lines line = flat_map-append ended lines (line ∷ []) ∙ ap (λ x. text_of lines ++ x) (append-nil (ended line))

pub reached_more : (bytes rest more : List ℕ) (number : ℕ) (w next : Wanted) (line : Line) → IsReached bytes number w rest → rest ≡ ended line ++ more → IsLine line → Follows w line next
    → IsReached bytes (number + 1) next more
reached_more bytes rest more number w next line r e is f = record {
  before = r.before ++ line ∷ [];
  counted = let n = r.counted in let l = length-append r.before (line ∷ []) in omega (arith, n, l);
  lines = All-push IsLine r.before line r.lines is;
  text = r.text ∙ ap (λ x. text_of r.before ++ x) e ∙ sym (append_assoc (text_of r.before) (ended line) more) ∙ ap (λ x. x ++ more) (sym (text_more r.before line));
  leads = leads_more WantsHeading w next line r.before r.leads f;
}

-- each line has a byte at least
lines_below : (lines : List Line) → length lines ≤ length (text_of lines)
lines_below [] = omega arith
lines_below (line ∷ lines) =
    let l = lines_below lines in
    let a = length-append (ended line) (text_of lines) in
    let b = length-append line (NEWLINE ∷ []) in
    omega (arith, l, a, b)

pub number_below : (bytes rest : List ℕ) (number : ℕ) (w : Wanted) → IsReached bytes number w rest → number + length rest ≤ length bytes + 1
number_below bytes rest number w r =
    let n = r.counted in
    let l = lines_below r.before in
    let a = length-append (text_of r.before) rest in
    let b = ap length r.text in
    omega (arith, n, l, a, b)

-- What is refused ----------------------------------------------------------------------------------------------

is_rest : (x : ℕ) (line : Line) → IsLine (x ∷ line) → IsLine line
is_rest x line is c = is (suc c.0, omega (arith, c.1), c.2)

-- a line has one spelling at the front of bytes
pub same_front : (a b : Line) (xs ys : List ℕ) → IsLine a → IsLine b → ended a ++ xs ≡ ended b ++ ys → a ≡ b
same_front [] [] xs ys p q e = refl
same_front [] (y ∷ b) xs ys p q e = absurd (q (0, omega arith, (let h : y ≡ NEWLINE = cc in h)))
same_front (x ∷ a) [] xs ys p q e = absurd (p (0, omega arith, (let h : x ≡ NEWLINE = cc in h)))
same_front (x ∷ a) (y ∷ b) xs ys p q e =
    let first : x ≡ y = cc in
    let others : ended a ++ xs ≡ ended b ++ ys = cc in
    let same : a ≡ b = same_front a b xs ys (is_rest x a p) (is_rest y b q) others in
    cc

some_bytes : (line : Line) (more : List ℕ) → ended line ++ more ≢ []
some_bytes [] more e = cc
some_bytes (x ∷ line) more e = cc

refused_by : (w : Wanted) (rest : List ℕ) → ((line more : List ℕ) (next : Wanted) → IsLine line → rest ≡ ended line ++ more → Follows w line next → ⊥) → rest ≢ [] → IsRefused w rest
refused_by WantsHeading rest h n = h
refused_by WantsMembers rest h n = h
refused_by (WantsFirst m) rest h n = h
refused_by (WantsThreads m kind) rest h n = h
refused_by (WantsThread plan left) rest h n = h
refused_by (WantsStep plan steps left threads) rest h n = h
refused_by (WantsEvents plan) rest h n = h
refused_by (WantsEvent plan es left) rest h n = h
refused_by (WantsEnd plan es) rest h n = h
refused_by (WantsNothing plan es) rest h n = n

-- a whole line that isn't what is wanted
pub refused_line : (w : Wanted) (rest more : List ℕ) (line : Line) → rest ≡ ended line ++ more → IsLine line → ((next : Wanted) → Follows w line next → ⊥) → IsRefused w rest
refused_line w rest more line e is none =
    refused_by w rest
    (λ other after next q r f. none next (subst (λ (l : Line). Follows w l next) (same_front other line after more q is (sym r ∙ e)) f))
    (λ n. some_bytes line more (sym e ∙ n))

-- no whole line is left, where one is wanted
pub no_line : (rest more : List ℕ) (line : Line) → IsLine rest → rest ≡ ended line ++ more → ⊥
no_line rest more line is e = is (subst (λ (bs : List ℕ). Contains bs NEWLINE) (sym e) (found line more))
  where
    found : (line : Line) (more : List ℕ) → Contains (ended line ++ more) NEWLINE
    found [] more = (0, omega arith, refl)
    found (x ∷ line) more = let c = found line more in (suc c.0, omega (arith, c.1), c.2)

pub first_fault : (bytes rest : List ℕ) (number : ℕ) (w : Wanted) → length bytes ≤ MAX_TEXT → IsReached bytes number w rest → IsRefused w rest → IsFirstFault bytes number
first_fault bytes rest number w s r h = record { short = s; before = r.before; wanted = w; rest = rest; counted = r.counted; lines = r.lines; text = r.text; leads = r.leads; refused = h }
