-- Reading from left to right, field by field, with the place of the first fault.
use Rattle.std.specs.Prelude.{◌≡◌, ℕ, zero, suc, ◌-◌, Bool, List, [], ◌∷◌, length, take, drop, Option, Some, None, Result, Ok, Err, nat_lt, if◌then◌else◌}
use Rattle.std.specs.Int.{Width, byte_len, from_be_bytes}
use Rattle.upd_base.specs.Text.{is_printable}
use Rattle.upd_frame.specs.declared.fault.FrameFault.{FrameFault}
use Rattle.upd_frame.specs.declared.fault.FrameFault.TheVariants.{Short, BadNumber, BadText, NoMemory}

-- A reader is told how many bytes there are in all and which are left. It gives a value and what is left then, or
-- the first fault.
abbrev pub Reader : Type 0 → Type 0
Reader A = ℕ → List ℕ → Result (A × List ℕ) FrameFault

-- how many bytes stand before those that are left: the place of the next field
abbrev pub place : ℕ → List ℕ → ℕ
place all left = all - length left

abbrev pub done : {A : Type 0} → A → Reader A
done x = λ all left. Ok (x, left)

abbrev pub go_on : {A B : Type 0} → Result (A × List ℕ) FrameFault → (A → List ℕ → Result (B × List ℕ) FrameFault) → Result (B × List ℕ) FrameFault
go_on (Ok x) next = next x.0 x.1
go_on (Err fault) next = Err fault

infixl 10 ◌>>=◌
abbrev pub ◌>>=◌ : {A B : Type 0} → Reader A → (A → Reader B) → Reader B
first >>= next = λ all left. go_on (first all left) (λ x rest. next x all rest)

-- the number, where it is wanted
abbrev pub only : (ℕ → Bool) → ℕ → Option ℕ
only wanted n = if wanted n then Some n else None

abbrev pub told : {A : Type 0} → Option A → FrameFault → List ℕ → Result (A × List ℕ) FrameFault
told (Some x) fault rest = Ok (x, rest)
told None fault rest = Err fault

-- a field of one byte with a meaning
unfoldable pub byte : {A : Type 0} → (ℕ → Option A) → (ℕ → FrameFault) → ℕ → List ℕ → Result (A × List ℕ) FrameFault
byte meaning fault all [] = Err Short
byte meaning fault all (b ∷ rest) = told (meaning b) (fault (place all (b ∷ rest))) rest

-- a number of so many bytes, the highest first, that is wanted
unfoldable pub number : Width → (ℕ → Bool) → ℕ → List ℕ → Result (ℕ × List ℕ) FrameFault
number w wanted all left =
    if nat_lt (length left) (byte_len w) then Err Short
    else told (only wanted (from_be_bytes w (take (byte_len w) left))) (BadNumber (place all left)) (drop (byte_len w) left)

-- so many bytes of a payload, each a field
unfoldable pub text : ℕ → ℕ → List ℕ → Result (List ℕ × List ℕ) FrameFault
text zero = done []
text (suc n) = do
  b ← byte (only is_printable) BadText
  bs ← text n
  done (b ∷ bs)

-- What a call answered, seen by view, is what reading gives, unless memory ran out.
abbrev pub Fails : {Y : Type 0} → FrameFault → Result Y FrameFault → Type 0
Fails NoMemory read = Unit {0}
Fails fault read = read ≡ Err fault

abbrev pub Gives : {X Y : Type 0} → (X → Y) → Result X FrameFault → Result Y FrameFault → Type 0
Gives view (Ok x) read = read ≡ Ok (view x)
Gives view (Err fault) read = Fails fault read
