-- What a line in memory tells, and why that is sound.
use Rattle.std.specs.Prelude.{ℕ, zero, suc, Bool, true, false, ◌≡◌, ◌+◌, ◌-◌, ◌%◌, ◌==◌, ◌≤◌, ◌&&◌, nat_le, nat_lt, if◌then◌else◌, List, [], ◌∷◌, length, take, drop, Option, Some, None, IfSome, refl}
use Rattle.std.proofs.Common.{arith, ap, sym, ◌∙◌}
use Rattle.std.proofs.lemmas.Bool.{false≢true}
use Rattle.std.proofs.lemmas.List.{length-take, take-append-drop}
use Rattle.upd_lines.specs.Line.{Told, Carried, IsSound}

-- a line into which these bytes were put, which gives those, and of which so many were got
abbrev pub line_of : List ℕ → List ℕ → ℕ → Bool → Told
line_of put given got faithful = record { put = length given; got = got; bytes = Some (record { put = put; got = take got given }); faithful = faithful }

-- a faithful line
abbrev pub honest : List ℕ → ℕ → Told
honest bytes got = line_of bytes bytes got true

pub line_of_is_sound : (put given : List ℕ) (got : ℕ) (faithful : Bool) → got ≤ length given → length put ≡ length given → (faithful ≡ true → put ≡ given) → IsSound (line_of put given got faithful)
line_of_is_sound put given got faithful within long same = record {
  order = within;
  counts = (long, omega (arith, length-take got given));
  faithful = λ is. (record { put = put; got = take got given }, refl, (drop got given, same is ∙ sym (take-append-drop got given)));
}

pub honest_is_sound : (bytes : List ℕ) (got : ℕ) → got ≤ length bytes → IsSound (honest bytes got)
honest_is_sound bytes got within = line_of_is_sound bytes bytes got true within refl (λ is. refl)

-- a byte with its lowest bit turned
abbrev pub turned : ℕ → ℕ
turned b = if b % 2 == 0 then b + 1 else b - 1

-- the bytes with the one at a place turned, where there is one
abbrev pub with_turned : ℕ → List ℕ → List ℕ
with_turned at [] = []
with_turned zero (b ∷ bytes) = turned b ∷ bytes
with_turned (suc at) (b ∷ bytes) = b ∷ with_turned at bytes

pub length-with_turned : (at : ℕ) (bytes : List ℕ) → length (with_turned at bytes) ≡ length bytes
length-with_turned at [] = refl
length-with_turned zero (b ∷ bytes) = refl
length-with_turned (suc at) (b ∷ bytes) = ap suc (length-with_turned at bytes)

-- the byte of the lie turned, where it stands at this place or behind it
abbrev pub lied : Option ℕ → ℕ → List ℕ → List ℕ
lied None place bytes = bytes
lied (Some at) place bytes = if nat_le place at && nat_lt at (length bytes) then with_turned at bytes else bytes

-- what was put into a line that gives these bytes, the one at the place of the lie turned
abbrev pub unlied : Option ℕ → List ℕ → List ℕ
unlied None given = given
unlied (Some at) given = with_turned at given

pub length-unlied : (lie : Option ℕ) (given : List ℕ) → length (unlied lie given) ≡ length given
length-unlied None given = refl
length-unlied (Some at) given = length-with_turned at given

-- the bytes got are those put, but for the lie
abbrev pub GivesLie : Option ℕ → Told → Type 0
GivesLie lie t = IfSome t.bytes (λ c. c.got ≡ take t.got (unlied lie c.put))

-- a line that is not faithful
abbrev pub lying : Option ℕ → List ℕ → ℕ → Told
lying lie given got = line_of (unlied lie given) given got false

pub lying_is_sound : (lie : Option ℕ) (given : List ℕ) (got : ℕ) → got ≤ length given → IsSound (lying lie given got)
lying_is_sound lie given got within = line_of_is_sound (unlied lie given) given got false within (length-unlied lie given) (λ is. absurd (false≢true is))
