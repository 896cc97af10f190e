-- The end of a line, behind what was printed, is no token.
use Rattle.std.proofs.Common.{ℕ, ◌≡◌, Bool, true, false, cond, ◌&&◌, List, [], ◌∷◌, ◌++◌, refl, sym, ap, ap₂, ◌∙◌, append_assoc, append-nil}
use Rattle.json.specs.Token.{Token, begin_object, end_object, begin_array, end_array, key, string, number, boolean, null, bad}
use Rattle.json.specs.Word.{ends_word, word}
use Rattle.json.specs.Lex.{Lexeme, token, comma, colon, string_token, lex, between, fresh, punctuate, tokens}
use Rattle.json.specs.Print.{escape, quoted, token_text, begins, ends, print_from, print, IsPrintable, ArePrintable}
use Rattle.json.proofs.Printed.Strings.{content-escape, lex-escape}
use Rattle.json.proofs.Printed.Numbers.{lex-number, in_word-ended}
use Rattle.json.proofs.Printed.Tokens.{tokens-print}

abbrev pub newline : List ℕ
newline = 10 ∷ []

abbrev lexemes_of : Token → List Lexeme
lexemes_of begin_object = token begin_object ∷ []
lexemes_of end_object = token end_object ∷ []
lexemes_of begin_array = token begin_array ∷ []
lexemes_of end_array = token end_array ∷ []
lexemes_of (key s) = token (string s) ∷ colon ∷ []
lexemes_of (string s) = token (string s) ∷ []
lexemes_of (number s) = token (number s) ∷ []
lexemes_of (boolean b) = token (boolean b) ∷ []
lexemes_of null = token null ∷ []
lexemes_of bad = []

quoted_lexed : (s r : List ℕ) → lex between (quoted s ++ r) ≡ token (string s) ∷ lex between r
unfolding lex
quoted_lexed s r =
    ap (λ l. lex between (34 ∷ l)) (append_assoc (escape s) (34 ∷ []) r)
    ∙ ap₂ (λ o l. token (string_token o) ∷ l) (content-escape s r) (lex-escape s r)

text_lexed : (t : Token) (r : List ℕ) → IsPrintable t → (ends t ≡ true → ends_word r ≡ true) → lex between (token_text t ++ r) ≡ lexemes_of t ++ lex between r
unfolding lex word
text_lexed begin_object r h ended = refl
text_lexed end_object r h ended = refl
text_lexed begin_array r h ended = refl
text_lexed end_array r h ended = refl
text_lexed (key s) r h ended = ap (lex between) (append_assoc (quoted s) (58 ∷ []) r) ∙ quoted_lexed s (58 ∷ r)
text_lexed (string s) r h ended = quoted_lexed s r
text_lexed (number s) r h ended = lex-number s r h (ended refl)
text_lexed (boolean true) r h ended = ap₂ (λ b l. token (cond b (boolean true) bad) ∷ l) (ended refl) (in_word-ended r (ended refl))
text_lexed (boolean false) r h ended = ap₂ (λ b l. token (cond b (boolean false) bad) ∷ l) (ended refl) (in_word-ended r (ended refl))
text_lexed null r h ended = ap₂ (λ b l. token (cond b null bad) ∷ l) (ended refl) (in_word-ended r (ended refl))
text_lexed bad r h ended = absurd h

separator_lexed : (b : Bool) (r : List ℕ) → lex between (cond b (44 ∷ []) [] ++ r) ≡ cond b (comma ∷ []) [] ++ lex between r
unfolding lex
separator_lexed true r = refl
separator_lexed false r = refl

-- after a value stands a comma, a closing bracket, or what follows the whole text
value_ends : (ts : List Token) (r : List ℕ) → ends_word r ≡ true → ends_word (print_from true ts ++ r) ≡ true
unfolding print_from
value_ends [] r h = h
value_ends (begin_object ∷ ts) r h = refl
value_ends (end_object ∷ ts) r h = refl
value_ends (begin_array ∷ ts) r h = refl
value_ends (end_array ∷ ts) r h = refl
value_ends (key s ∷ ts) r h = refl
value_ends (string s ∷ ts) r h = refl
value_ends (number s ∷ ts) r h = refl
value_ends (boolean b ∷ ts) r h = refl
value_ends (null ∷ ts) r h = refl
value_ends (bad ∷ ts) r h = refl

-- what follows matters only by what it is lexed to
same_lexed : (c : Bool) (ts : List Token) (r s : List ℕ) → ArePrintable ts → ends_word r ≡ true → ends_word s ≡ true → lex between r ≡ lex between s
    → lex between (print_from c ts ++ r) ≡ lex between (print_from c ts ++ s)
unfolding print_from ArePrintable
same_lexed c [] r s h er es same = same
same_lexed c (t ∷ ts) r s h er es same =
    let rest = print_from (ends t) ts in
    let b = c && begins t in
    let gap = cond b (44 ∷ []) [] in
    let whole : (x : List ℕ) → ends_word x ≡ true → lex between ((gap ++ (token_text t ++ rest)) ++ x) ≡ cond b (comma ∷ []) [] ++ (lexemes_of t ++ lex between (rest ++ x)) = λ x e.
    ap (lex between) (append_assoc gap (token_text t ++ rest) x ∙ ap (λ l. gap ++ l) (append_assoc (token_text t) rest x))
    ∙ separator_lexed b (token_text t ++ (rest ++ x))
    ∙ ap (λ l. cond b (comma ∷ []) [] ++ l) (text_lexed t (rest ++ x) h.0 (λ v. ap (λ y. ends_word (print_from y ts ++ x)) v ∙ value_ends ts x e)) in
    whole r er ∙ ap (λ l. cond b (comma ∷ []) [] ++ (lexemes_of t ++ l)) (same_lexed (ends t) ts r s h.1 er es same) ∙ sym (whole s es)

-- the tokens of a printed line
pub tokens_of_line : (ts : List Token) → ArePrintable ts → tokens (print ts ++ newline) ≡ ts
unfolding lex
tokens_of_line ts h =
    ap (punctuate fresh) (same_lexed false ts newline [] h refl refl refl)
    ∙ ap tokens (append-nil (print ts)) ∙ tokens-print ts h
