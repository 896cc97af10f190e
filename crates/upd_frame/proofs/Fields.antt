-- A field that is read is the field that was written, and what was written is read again.
use Rattle.std.proofs.Common.{◌≡◌, ℕ, zero, suc, ◌+◌, ◌^◌, ◌<◌, ◌≤◌, Bool, true, false, cond, ltb, List, [], ◌∷◌, ◌++◌, length, get_or, take, drop, Option, Some, None, Result, Ok, Err, refl, sym, ap, subst, ◌∙◌, append_assoc, arith, inl, inr}
use Rattle.std.specs.Int.{Width, w16, w32, w64, byte_len, from_be_bytes, to_be_bytes}
use Rattle.std.specs.List.{list_all}
use Rattle.std.proofs.lemmas.Bool.{cases_lt, lt-ltb, le-ltb, and_from, and_parts}
use Rattle.std.proofs.lemmas.Option.{cond_some}
use Rattle.std.proofs.lemmas.List.{take_at, drop_at, take-append-drop, length-append, length-take, get_or-drop, get_or-take, get_or_past}
use Rattle.std.proofs.lemmas.Nat.{be_bytes_2, be_bytes_4, be_bytes_8, from_be_bytes-to_be_bytes_2, from_be_bytes-to_be_bytes_4, from_be_bytes-to_be_bytes_8}
use Rattle.upd_base.specs.Text.{is_printable}
use Rattle.upd_frame.specs.declared.fault.FrameFault.{FrameFault}
use Rattle.upd_frame.specs.declared.fault.FrameFault.TheVariants.{BadNumber, BadText}
use Rattle.upd_frame.specs.Spelling.{digits}
use Rattle.upd_frame.specs.Reader.{Reader, place, done, go_on, ◌>>=◌, only, told, byte, number, text}

abbrev pub IsBytes : List ℕ → Type 0
IsBytes bytes = (i : ℕ) → get_or bytes i 0 < 256

IsBytes-drop : (n : ℕ) (bytes : List ℕ) → IsBytes bytes → IsBytes (drop n bytes)
IsBytes-drop n bytes h i = rw get_or-drop (h (n + i))

IsBytes-take : (n : ℕ) (bytes : List ℕ) → IsBytes bytes → IsBytes (take n bytes)
IsBytes-take n bytes h i =
    elim (cases_lt i n) [
      | inl lt ↦ rw (get_or-take n bytes i 0 lt) (h i)
      | inr le ↦ rw (get_or_past (take n bytes) i 0 (omega (arith, length-take n bytes))) (omega arith)
    ]

-- what a reader took from the front
pub record Takes (bytes text rest : List ℕ) : Type 0 where
  pub parts : bytes ≡ text ++ rest
  pub rest_fits : IsBytes rest

pub Takes-then : (a x b y c : List ℕ) → Takes a x b → Takes b y c → Takes a (x ++ y) c
Takes-then a x b y c p q = record { parts = p.parts ∙ ap (λ (t : List ℕ). x ++ t) q.parts ∙ sym (append_assoc x y c); rest_fits = q.rest_fits }

-- the value of a step that did not fail
pub go_on_ok : {A B : Type 0} (r : Result (A × List ℕ) FrameFault) (f : A → List ℕ → Result (B × List ℕ) FrameFault) (y : B × List ℕ) → go_on r f ≡ Ok y
    → (x : A) × (mid : List ℕ) × (r ≡ Ok (x, mid)) × (f x mid ≡ Ok y)
go_on_ok (Ok x) f y e = (x.0, x.1, refl, e)
go_on_ok (Err d) f y e = absurd cc

abbrev done_with : {A : Type 0} → A → Result A FrameFault
done_with x = Ok x

pub ok_is : {A : Type 0} (x y : A) → done_with x ≡ done_with y → x ≡ y
ok_is x y e = cc

pub told_ok : {A : Type 0} (o : Option A) (f : FrameFault) (rest : List ℕ) (x : A) (after : List ℕ) → told o f rest ≡ Ok (x, after) → (o ≡ Some x) × (rest ≡ after)
told_ok (Some y) f rest x after e = let p = ok_is (y, rest) (x, after) e in (ap (λ (q : _ × List ℕ). Some q.0) p, ap (λ (q : _ × List ℕ). q.1) p)
told_ok None f rest x after e = absurd cc

-- ---- one byte

pub record OneByte {A : Type 0} (meaning : ℕ → Option A) (left : List ℕ) (x : A) (rest : List ℕ) : Type 0 where
  pub value : ℕ
  pub parts : left ≡ value ∷ rest
  pub means : meaning value ≡ Some x
  pub rest_fits : IsBytes rest

pub byte_takes : {A : Type 0} (meaning : ℕ → Option A) (fault : ℕ → FrameFault) (all : ℕ) (left : List ℕ) (x : A) (rest : List ℕ) → IsBytes left → byte meaning fault all left ≡ Ok (x, rest) → OneByte meaning left x rest
unfolding byte
byte_takes meaning fault all [] x rest fits e = absurd cc
byte_takes meaning fault all (b ∷ left) x rest fits e =
    let t = told_ok (meaning b) (fault (place all (b ∷ left))) left x rest e in
    record { value = b; parts = ap (λ (l : List ℕ). b ∷ l) t.1; means = t.0; rest_fits = subst IsBytes t.1 (λ i. fits (suc i)) }

pub byte_again : {A : Type 0} (meaning : ℕ → Option A) (fault : ℕ → FrameFault) (all b : ℕ) (x : A) (rest : List ℕ) → meaning b ≡ Some x → byte meaning fault all (b ∷ rest) ≡ Ok (x, rest)
unfolding byte
byte_again meaning fault all b x rest e = rw e refl

pub only_some : (wanted : ℕ → Bool) (n m : ℕ) → only wanted n ≡ Some m → (wanted n ≡ true) × (n ≡ m)
only_some wanted n m e = cond_some (wanted n) n m e

pub only_again : (wanted : ℕ → Bool) (n : ℕ) → wanted n ≡ true → only wanted n ≡ Some n
only_again wanted n e = rw e refl

-- ---- numbers

pub record IsWide (w : Width) (limit : ℕ) : Type 0 where
  pub len : (n : ℕ) → length (to_be_bytes w n) ≡ byte_len w
  pub back : (bytes : List ℕ) → length bytes ≡ byte_len w → IsBytes bytes → to_be_bytes w (from_be_bytes w bytes) ≡ bytes
  pub again : (n : ℕ) → n < limit → from_be_bytes w (to_be_bytes w n) ≡ n
  pub below : (bytes : List ℕ) → IsBytes bytes → from_be_bytes w bytes < limit

pub wide16 : IsWide w16 (2 ^ 16)
wide16 = record {
  len = λ n. refl;
  back = λ bytes len fits. be_bytes_2 bytes _ len fits refl;
  again = λ n lt. from_be_bytes-to_be_bytes_2 n lt;
  below = λ bytes fits. omega (arith, fits 0, fits 1);
}

pub wide32 : IsWide w32 (2 ^ 32)
wide32 = record {
  len = λ n. refl;
  back = λ bytes len fits. be_bytes_4 bytes _ len fits refl;
  again = λ n lt. from_be_bytes-to_be_bytes_4 n lt;
  below = λ bytes fits. omega (arith, fits 0, fits 1, fits 2, fits 3);
}

pub wide64 : IsWide w64 (2 ^ 64)
wide64 = record {
  len = λ n. refl;
  back = λ bytes len fits. be_bytes_8 bytes _ len fits refl;
  again = λ n lt. from_be_bytes-to_be_bytes_8 n lt;
  below = λ bytes fits. omega (arith, fits 0, fits 1, fits 2, fits 3, fits 4, fits 5, fits 6, fits 7);
}

-- how a reader goes with a spelling, of values within their limits
pub record Reads {A : Type 0} (r : Reader A) (spell : A → List ℕ) (Within : A → Type 0) : Type 0 where
  pub takes : (all : ℕ) (left : List ℕ) (x : A) (rest : List ℕ) → IsBytes left → r all left ≡ Ok (x, rest) → Takes left (spell x) rest × Within x
  pub again : (all : ℕ) (x : A) (rest : List ℕ) → Within x → r all (spell x ++ rest) ≡ Ok (x, rest)

number_takes : (w : Width) (limit : ℕ) (wide : IsWide w limit) (wanted : ℕ → Bool) (all : ℕ) (left : List ℕ) (n : ℕ) (rest : List ℕ) → IsBytes left → number w wanted all left ≡ Ok (n, rest)
    → Takes left (digits w n) rest × ((n < limit) × (wanted n ≡ true))
unfolding number digits
number_takes w limit wide wanted all left n rest fits e =
    elim (cases_lt (length left) (byte_len w)) [
      | inl lt ↦ absurd (short lt)
      | inr le ↦
          let t = told_ok (only wanted (from_be_bytes w (take (byte_len w) left))) (BadNumber (place all left)) (drop (byte_len w) left) n rest (long le) in
          let o = only_some wanted (from_be_bytes w (take (byte_len w) left)) n t.0 in
          let front : to_be_bytes w n ≡ take (byte_len w) left = rw (← o.1) (wide.back (take (byte_len w) left) (omega (arith, length-take (byte_len w) left)) (IsBytes-take (byte_len w) left fits)) in (
            record { parts = rw (front, ← t.1) (sym (take-append-drop (byte_len w) left)); rest_fits = rw (← t.1) (IsBytes-drop (byte_len w) left fits) },
            (rw (← o.1) (wide.below (take (byte_len w) left) (IsBytes-take (byte_len w) left fits)), subst (λ (m : ℕ). wanted m ≡ true) o.1 o.0),
          )
    ]
  where
    long : byte_len w ≤ length left → told (only wanted (from_be_bytes w (take (byte_len w) left))) (BadNumber (place all left)) (drop (byte_len w) left) ≡ Ok (n, rest)
    long le = rw (le-ltb (length left) (byte_len w) le) at e

    short : length left < byte_len w → ⊥
    short lt = let f = rw (lt-ltb (length left) (byte_len w) lt) at e in absurd cc

pub number_wanted : (w : Width) (wanted : ℕ → Bool) (all : ℕ) (left : List ℕ) (n : ℕ) (rest : List ℕ) → number w wanted all left ≡ Ok (n, rest) → wanted n ≡ true
unfolding number
number_wanted w wanted all left n rest e =
    elim (cases_lt (length left) (byte_len w)) [
      | inl lt ↦ absurd (short lt)
      | inr le ↦
          let t = told_ok (only wanted (from_be_bytes w (take (byte_len w) left))) (BadNumber (place all left)) (drop (byte_len w) left) n rest (long le) in
          let o = only_some wanted (from_be_bytes w (take (byte_len w) left)) n t.0 in
          subst (λ (m : ℕ). wanted m ≡ true) o.1 o.0
    ]
  where
    long : byte_len w ≤ length left → told (only wanted (from_be_bytes w (take (byte_len w) left))) (BadNumber (place all left)) (drop (byte_len w) left) ≡ Ok (n, rest)
    long le = rw (le-ltb (length left) (byte_len w) le) at e

    short : length left < byte_len w → ⊥
    short lt = let f = rw (lt-ltb (length left) (byte_len w) lt) at e in absurd cc

number_again : (w : Width) (limit : ℕ) (wide : IsWide w limit) (wanted : ℕ → Bool) (all n : ℕ) (rest : List ℕ) → n < limit → wanted n ≡ true → number w wanted all (digits w n ++ rest) ≡ Ok (n, rest)
unfolding number digits
number_again w limit wide wanted all n rest lt good =
    let len = wide.len n in
    let long : ltb (length (to_be_bytes w n ++ rest)) (byte_len w) ≡ false = le-ltb _ _ (omega (arith, length-append (to_be_bytes w n) rest)) in
    rw (long, take_at (to_be_bytes w n) rest (byte_len w) len, drop_at (to_be_bytes w n) rest (byte_len w) len, wide.again n lt, good) refl

pub numbers : (w : Width) (limit : ℕ) → IsWide w limit → (wanted : ℕ → Bool) → Reads (number w wanted) (digits w) (λ n. (n < limit) × (wanted n ≡ true))
numbers w limit wide wanted = record {
  takes = number_takes w limit wide wanted;
  again = λ all n rest within. number_again w limit wide wanted all n rest within.0 within.1;
}

-- ---- the bytes of a payload

text_takes : (n all : ℕ) (left bs rest : List ℕ) → IsBytes left → text n all left ≡ Ok (bs, rest) → Takes left bs rest × ((length bs ≡ n) × (list_all is_printable bs ≡ true))
unfolding text
text_takes zero all left bs rest fits e =
    subst (λ (y : List ℕ × List ℕ). Takes left y.0 y.1 × ((length y.0 ≡ 0) × (list_all is_printable y.0 ≡ true))) (ok_is ([], left) (bs, rest) e) (record { parts = refl; rest_fits = fits }, (refl, refl))
text_takes (suc n) all left bs rest fits e =
    let a = go_on_ok (byte (only is_printable) BadText all left) (λ b after. go_on (text n all after) (λ others mid. Ok (b ∷ others, mid))) (bs, rest) e in
    let one = byte_takes (only is_printable) BadText all left a.0 a.1 fits a.2 in
    let o = only_some is_printable one.value a.0 one.means in
    let b = go_on_ok (text n all a.1) (λ others mid. Ok (a.0 ∷ others, mid)) (bs, rest) a.3 in
    let more = text_takes n all a.1 b.0 b.1 one.rest_fits b.2 in
    let good : is_printable a.0 ≡ true = subst (λ (m : ℕ). is_printable m ≡ true) o.1 o.0 in
    let parts : left ≡ a.0 ∷ (b.0 ++ b.1) = one.parts ∙ ap (λ (m : ℕ). m ∷ a.1) o.1 ∙ ap (λ (l : List ℕ). a.0 ∷ l) more.0.parts in
    let made : List ℕ × List ℕ = (a.0 ∷ b.0, b.1) in
    subst (λ (y : List ℕ × List ℕ). Takes left y.0 y.1 × ((length y.0 ≡ suc n) × (list_all is_printable y.0 ≡ true))) (ok_is made (bs, rest) b.3)
    (record { parts = parts; rest_fits = more.0.rest_fits }, (ap suc more.1.0, and_from (is_printable a.0) (list_all is_printable b.0) good more.1.1))

text_again : (n all : ℕ) (bs rest : List ℕ) → length bs ≡ n → list_all is_printable bs ≡ true → text n all (bs ++ rest) ≡ Ok (bs, rest)
unfolding text
text_again zero all [] rest len good = refl
text_again zero all (b ∷ bs) rest len good = absurd (omega arith)
text_again (suc n) all [] rest len good = absurd (omega arith)
text_again (suc n) all (b ∷ bs) rest len good =
    let parts = and_parts (is_printable b) (list_all is_printable bs) good in
    rw (byte_again (only is_printable) BadText all b b (bs ++ rest) (only_again is_printable b parts.0), text_again n all bs rest (omega arith) parts.1) refl

pub texts : (n : ℕ) → Reads (text n) (λ bs. bs) (λ bs. (length bs ≡ n) × (list_all is_printable bs ≡ true))
texts n = record {
  takes = text_takes n;
  again = λ all bs rest within. text_again n all bs rest within.0 within.1;
}

-- ---- one after another

-- what was read by one, by two, by three, by four readers in a row
pub one_takes : {A C : Type 0} (r : Reader A) (sr : A → List ℕ) (Fr : A → Type 0) → Reads r sr Fr → (f : A → C) (all : ℕ) (left : List ℕ) (p : C × List ℕ) → IsBytes left
    → go_on (r all left) (λ x rest. Ok (f x, rest)) ≡ Ok p → (x : A) × (rest : List ℕ) × Takes left (sr x) rest × Fr x × ((f x, rest) ≡ p)
one_takes r sr Fr reads f all left p fits e =
    let a = go_on_ok (r all left) (λ x rest. Ok (f x, rest)) p e in
    let t = reads.takes all left a.0 a.1 fits a.2 in
    (a.0, a.1, t.0, t.1, ok_is (f a.0, a.1) p a.3)

pub two_takes : {A B C : Type 0} (r : Reader A) (sr : A → List ℕ) (Fr : A → Type 0) → Reads r sr Fr → (s : Reader B) (ss : B → List ℕ) (Fs : B → Type 0) → Reads s ss Fs
    → (f : A → B → C) (all : ℕ) (left : List ℕ) (p : C × List ℕ) → IsBytes left
    → go_on (r all left) (λ x after. go_on (s all after) (λ y rest. Ok (f x y, rest))) ≡ Ok p
    → (x : A) × (y : B) × (rest : List ℕ) × Takes left (sr x ++ ss y) rest × Fr x × Fs y × ((f x y, rest) ≡ p)
two_takes r sr Fr reads s ss Fs reads' f all left p fits e =
    let a = go_on_ok (r all left) (λ x after. go_on (s all after) (λ y rest. Ok (f x y, rest))) p e in
    let t = reads.takes all left a.0 a.1 fits a.2 in
    let u = one_takes s ss Fs reads' (f a.0) all a.1 p t.0.rest_fits a.3 in
    (a.0, u.0, u.1, Takes-then left (sr a.0) a.1 (ss u.0) u.1 t.0 u.2, t.1, u.3, u.4)
