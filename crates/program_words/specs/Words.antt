-- What the words of the command line ask for.
use Rattle.std.specs.Prelude.{ℕ, Bool, List, [], ◌∷◌, ◌+◌, ◌-◌, ◌*◌, ◌^◌, ◌&&◌, codes, bytes_eq, length, nat_le, nat_lt, if◌then◌else◌, Option, Some, None, option_map}
use Rattle.std.specs.Str.{all_ascii_digits}
use Rattle.program_words.specs.declared.words.Form.{Form}
use Rattle.program_words.specs.declared.words.Form.TheVariants.{Long, Short, Journal}
use Rattle.program_words.specs.declared.words.Rehearse.{Rehearse}
use Rattle.program_words.specs.declared.words.Generate.{Generate}
use Rattle.program_words.specs.declared.words.LineKind.{LineKind}
use Rattle.program_words.specs.declared.words.LineKind.TheVariants.{Memory, Loopback}
use Rattle.program_words.specs.declared.words.Run.{Run}
use Rattle.program_words.specs.declared.words.Command.{Command}
use Rattle.program_words.specs.declared.words.Command.TheVariants as commands

-- the number that decimal digits write, behind those of n
abbrev pub read_on : ℕ → List ℕ → ℕ
read_on n [] = n
read_on n (c ∷ cs) = read_on (10 * n + (c - 48)) cs

-- 1 to 20 digits
abbrev pub is_seed_text : List ℕ → Bool
is_seed_text word = nat_le 1 (length word) && nat_le (length word) 20 && all_ascii_digits word

abbrev pub within_64_bits : ℕ → Option ℕ
within_64_bits n = if nat_lt n (2 ^ 64) then Some n else None

unfoldable pub seed_of : List ℕ → Option ℕ
seed_of word = if is_seed_text word then within_64_bits (read_on 0 word) else None

unfoldable pub form_named : List ℕ → Option Form
form_named word = if bytes_eq word (codes "short") then Some Short else if bytes_eq word (codes "journal") then Some Journal else None

abbrev pub with_seed : Form → List ℕ → Option Rehearse
with_seed form word = option_map (λ seed. record { seed = Some seed; form = form }) (seed_of word)

abbrev pub alone : Option Form → List ℕ → Option Rehearse
alone (Some form) word = Some (record { seed = None; form = form })
alone None word = with_seed Long word

abbrev pub with_form : Option Form → List ℕ → Option Rehearse
with_form (Some form) word = with_seed form word
with_form None word = None

-- rehearse [SEED] [short|journal]
abbrev pub rehearse_of : List (List ℕ) → Option Rehearse
rehearse_of [] = Some (record { seed = None; form = Long })
rehearse_of (word ∷ []) = alone (form_named word) word
rehearse_of (word ∷ next ∷ []) = with_form (form_named next) word
rehearse_of (word ∷ next ∷ more ∷ rest) = None

-- check
abbrev pub check_of : List (List ℕ) → Option Command
check_of [] = Some commands.Check
check_of (word ∷ rest) = None

-- at most 4 digits, whose number is 1 to 1,000
abbrev pub in_range : Option ℕ → Option ℕ
in_range None = None
in_range (Some n) = if nat_le 1 n && nat_le n 1000 then Some n else None

abbrev pub calls_of : List ℕ → Option ℕ
calls_of word = if nat_le (length word) 4 then in_range (seed_of word) else None

abbrev pub with_calls : Option ℕ → Option ℕ → Option Generate
with_calls None calls = None
with_calls (Some seed) None = None
with_calls (Some seed) (Some calls) = Some (record { seed = seed; calls = calls })

-- gen SEED CALLS
abbrev pub generate_of : List (List ℕ) → Option Generate
generate_of [] = None
generate_of (word ∷ []) = None
generate_of (seed ∷ calls ∷ []) = with_calls (seed_of seed) (calls_of calls)
generate_of (seed ∷ calls ∷ more ∷ rest) = None

unfoldable pub named : List ℕ → List (List ℕ) → Option Command
named first rest =
    if bytes_eq first (codes "rehearse") then option_map (λ asked. commands.Rehearse asked) (rehearse_of rest)
    else if bytes_eq first (codes "check") then check_of rest
    else if bytes_eq first (codes "gen") then option_map (λ asked. commands.Generate asked) (generate_of rest) else None

abbrev pub command : List (List ℕ) → Option Command
command [] = None
command (first ∷ rest) = named first rest

-- memory|loopback
unfoldable pub line_kind : List ℕ → Option LineKind
line_kind word = if bytes_eq word (codes "memory") then Some Memory else if bytes_eq word (codes "loopback") then Some Loopback else None

abbrev pub over_lines : LineKind → Option Form → Option Run
over_lines over None = None
over_lines over (Some form) = Some (record { over = over; form = form })

abbrev pub with_lines : LineKind → List (List ℕ) → Option Run
with_lines over [] = Some (record { over = over; form = Long })
with_lines over (word ∷ []) = over_lines over (form_named word)
with_lines over (word ∷ more ∷ rest) = None

abbrev pub behind_lines : Option LineKind → List (List ℕ) → Option Run
behind_lines None rest = None
behind_lines (Some over) rest = with_lines over rest

abbrev pub run_asked : List (List ℕ) → Option Run
run_asked [] = None
run_asked (word ∷ rest) = behind_lines (line_kind word) rest

-- run memory|loopback [short|journal]
abbrev pub run_of : List (List ℕ) → Option Run
run_of [] = None
run_of (first ∷ rest) = if bytes_eq first (codes "run") then run_asked rest else None
