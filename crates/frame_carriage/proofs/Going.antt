-- How far a carriage has come.
use Rattle.std.proofs.Common.{◌≡◌, ◌≢◌, ℕ, zero, suc, ◌+◌, ◌<◌, ◌≤◌, true, false, List, [], ◌∷◌, ◌++◌, length, take, drop, Option, Some, None, Result, Ok, Err, IfSome, IfErr, refl, sym, ap, subst, ◌∙◌, append_assoc, append-nil, arith, length-append, length-take, length-drop, take-add, slice_index}
use Rattle.std.specs.Prelude.{option_map, slice_get, IsErrOf}
use Rattle.std.specs.Result.{IsErrAnd}
use Rattle.std.proofs.lemmas.Bool.{false_from_ne_true}
use Rattle.std.proofs.lemmas.List.{append_cancel_left, nil_from_length, length-take-le, take-append-drop, take-append-le, take_at, drop_at, take-take, get_or-take, get_or-drop}
use Rattle.std.proofs.lemmas.Option.{slice_get-get_or}
use Rattle.fifo_net.specs.Net.{IsPrefix}
use Rattle.upd_base.specs.Edge.{Rose, HasCause}
use Rattle.upd_base.specs.declared.edge.EdgeFault.{EdgeFault}
use Rattle.upd_base.specs.declared.edge.EdgeFault.TheVariants as edge
use Rattle.upd_lines.specs.Line.{Told, Carried, IsSound, after_put, after_get, with_put, with_got}
use Rattle.line_rules.specs.Given.{Gave, GaveBytes, GaveExactly, IsEven}
use Rattle.frame_carriage.specs.declared.carriage.CarryFault.{CarryFault}
use Rattle.frame_carriage.specs.Carry.{GaveFront, GaveAnother, CarryCause, fault_of}

-- the bytes of a line after these more were put and those got
abbrev pub grown : List ℕ → List ℕ → Carried → Carried
grown put got c = record { put = c.put ++ put; got = c.got ++ got }

-- what a line tells then
abbrev pub moved : Told → List ℕ → List ℕ → Told
moved t put got = record { put = t.put + length put; got = t.got + length got; bytes = option_map (grown put got) t.bytes; faithful = t.faithful }

-- So many of the bytes were put and so many got, and those stand in front of what came back.
pub record Going (before now : ℕ) (old new : Told) (bytes back : List ℕ) (put got : ℕ) : Type 0 where
  pub told : new ≡ moved old (take put bytes) (take got bytes)
  pub same : take got back ≡ take got bytes
  pub order : got ≤ put
  pub within : put ≤ length bytes
  pub long : length back ≡ length bytes
  pub later : before ≤ now

-- ---- what a line tells

put_bytes : (o : Option Carried) (put got more : List ℕ) → option_map (with_put more) (option_map (grown put got) o) ≡ option_map (grown (put ++ more) got) o
put_bytes None put got more = refl
put_bytes (Some c) put got more = λ i. Some (record { put = append_assoc c.put put more i; got = c.got ++ got })

got_bytes : (o : Option Carried) (put got more : List ℕ) → option_map (with_got more) (option_map (grown put got) o) ≡ option_map (grown put (got ++ more)) o
got_bytes None put got more = refl
got_bytes (Some c) put got more = λ i. Some (record { put = c.put ++ put; got = append_assoc c.got got more i })

pub put_more : (t : Told) (put got more : List ℕ) → after_put (moved t put got) more ≡ moved t (put ++ more) got
put_more t put got more =
    let n : t.put + length put + length more ≡ t.put + length (put ++ more) = omega (arith, length-append put more) in
    λ i. record { put = n i; got = t.got + length got; bytes = put_bytes t.bytes put got more i; faithful = t.faithful }

pub got_more : (t : Told) (put got more : List ℕ) → after_get (moved t put got) more ≡ moved t put (got ++ more)
got_more t put got more =
    let n : t.got + length got + length more ≡ t.got + length (got ++ more) = omega (arith, length-append got more) in
    λ i. record { put = t.put + length put; got = n i; bytes = got_bytes t.bytes put got more i; faithful = t.faithful }

-- ---- what it gave

given_bytes : (o : Option Carried) (put got : List ℕ) (P : List ℕ → Type 0) → P got → GaveBytes o (option_map (grown put got) o) P
given_bytes None put got P holds = tt
given_bytes (Some c) put got P holds = (got, refl, holds)

gave_moved : (t : Told) (put got : List ℕ) (many : ℕ) (P : List ℕ → Type 0) → length got ≡ many → P got → Gave t (moved t put got) many P
gave_moved t put got many P long holds = record { count = ap (λ (n : ℕ). t.got + n) long; bytes = given_bytes t.bytes put got P holds; faithful = refl }

pub gave : (old new : Told) (put got : List ℕ) (many : ℕ) (P : List ℕ → Type 0) → new ≡ moved old put got → length got ≡ many → P got → Gave old new many P
gave old new put got many P is long holds = subst (λ (t : Told). Gave old t many P) (sym is) (gave_moved old put got many P long holds)

pub gave_exactly : (old new : Told) (put got : List ℕ) → new ≡ moved old put got → GaveExactly old new got
gave_exactly old new put got is = gave old new put got (length got) (λ given. given ≡ got) is refl refl

-- ---- a faithful line gives no other byte

same_fronts : (c : Carried) (put got rest more : List ℕ) → c.put ≡ c.got ++ rest → length rest ≡ 0 → c.put ++ put ≡ (c.got ++ got) ++ more → put ≡ got ++ more
same_fronts c put got rest more before none now =
    let even : c.put ≡ c.got = before ∙ ap (λ (r : List ℕ). c.got ++ r) (nil_from_length rest none) ∙ append-nil c.got in
    append_cancel_left c.got put (got ++ more) (ap (λ (l : List ℕ). l ++ put) (sym even) ∙ now ∙ append_assoc c.got got more)

-- what came is a front of what was put
gives_front : (old new : Told) (put got : List ℕ) → IsSound old → IsSound new → IsEven old → new ≡ moved old put got → new.faithful ≡ true → IsPrefix got put
gives_front old new put got old_sound new_sound even is faithful =
    let before = old_sound.faithful (sym (ap (λ (t : Told). t.faithful) is) ∙ faithful) in
    let now = new_sound.faithful faithful in
    let c : Carried = before.0 in
    let counts = subst (λ (o : Option Carried). IfSome o (λ (c : Carried). (length c.put ≡ old.put) × (length c.got ≡ old.got))) before.1 old_sound.counts in
    let grew : Some now.0 ≡ Some (grown put got c) = sym now.1 ∙ ap (λ (t : Told). t.bytes) is ∙ ap (option_map (grown put got)) before.1 in
    let same : now.0 ≡ grown put got c = cc in
    let rest : List ℕ = before.2.0 in
    let none : length rest ≡ 0 = omega (arith, counts.0, counts.1, ap length before.2.1, length-append c.got rest, even) in
    let last : (grown put got c).put ≡ (grown put got c).got ++ now.2.0 = subst (λ (d : Carried). d.put ≡ d.got ++ now.2.0) same now.2.1 in
    (now.2.0, same_fronts c put got rest now.2.0 before.2.1 none last)

slice_get_front : (xs ys : List ℕ) (at x : ℕ) → slice_get xs at ≡ Some x → slice_get (xs ++ ys) at ≡ Some x
slice_get_front [] ys at x is = absurd cc
slice_get_front (y ∷ xs) ys zero x is = is
slice_get_front (y ∷ xs) ys (suc at) x is = slice_get_front xs ys at x is

pub not_faithful : (old new : Told) (bytes got : List ℕ) (put at x y : ℕ) → IsSound old → IsSound new → IsEven old → new ≡ moved old (take put bytes) got
    → slice_get bytes at ≡ Some x → slice_get got at ≡ Some y → x ≢ y → new.faithful ≡ false
not_faithful old new bytes got put at x y old_sound new_sound even is wanted given differs = false_from_ne_true new.faithful (λ (faithful : new.faithful ≡ true).
    let front = gives_front old new (take put bytes) got old_sound new_sound even is faithful in
    let in_put : slice_get (take put bytes) at ≡ Some y = ap (λ (l : List ℕ). slice_get l at) front.1 ∙ slice_get_front got front.0 at y given in
    let in_all : slice_get bytes at ≡ Some y = ap (λ (l : List ℕ). slice_get l at) (sym (take-append-drop put bytes)) ∙ slice_get_front (take put bytes) (drop put bytes) at y in_put in
    let same : Some x ≡ Some y = sym wanted ∙ in_all in
    differs cc)

-- ---- one step

-- a put of the rest
pub put_on : (before mid_faults now : ℕ) (old mid new : Told) (bytes back : List ℕ) (put got m k : ℕ) → Going before mid_faults old mid bytes back put got → k ≤ length (take m (drop put bytes))
    → new ≡ after_put mid (take k (take m (drop put bytes))) → mid_faults ≤ now → Going before now old new bytes back (put + k) got
put_on before mid_faults now old mid new bytes back put got m k going within is later =
    let inside : k ≤ length (drop put bytes) = omega (arith, length-take m (drop put bytes)) in
    let least : k ≤ m = omega (arith, length-take m (drop put bytes)) in
    let piece : take put bytes ++ take k (take m (drop put bytes)) ≡ take (put + k) bytes = ap (λ (l : List ℕ). take put bytes ++ l) (take-take k m (drop put bytes) least) ∙ sym (take-add put k bytes) in
    record {
      told = is ∙ ap (λ (t : Told). after_put t (take k (take m (drop put bytes)))) going.told ∙ put_more old (take put bytes) (take got bytes) (take k (take m (drop put bytes)))
          ∙ ap (λ (l : List ℕ). moved old l (take got bytes)) piece;
      same = going.same;
      order = omega (arith, going.order);
      within = omega (arith, going.within, length-drop put bytes);
      long = going.long;
      later = omega (arith, going.later);
    }

-- what came back stands behind what came before it
came : (back buf post : List ℕ) (got k : ℕ) → got ≤ length back → k ≤ length buf → take k (drop got (take got back ++ (buf ++ post))) ≡ take k buf
came back buf post got k inside within = ap (take k) (drop_at (take got back) (buf ++ post) got (length-take-le got back inside)) ∙ take-append-le k buf post within

all_came : (back buf post : List ℕ) (got k : ℕ) → got ≤ length back → k ≤ length buf → take (got + k) (take got back ++ (buf ++ post)) ≡ take got back ++ take k buf
all_came back buf post got k inside within =
    let now : List ℕ = take got back ++ (buf ++ post) in
    take-add got k now ∙ ap (λ (l : List ℕ). l ++ take k (drop got now)) (take_at (take got back) (buf ++ post) got (length-take-le got back inside)) ∙ ap (λ (l : List ℕ). take got back ++ l) (came back buf post got k inside within)

-- the buffer keeps its length
pub filled : (back buf : List ℕ) (got m : ℕ) → length buf ≡ length (take m (drop got back)) → length (take got back ++ (buf ++ drop m (drop got back))) ≡ length back
filled back buf got m long =
    omega (
      arith,
      long,
      length-append (take got back) (buf ++ drop m (drop got back)),
      length-append buf (drop m (drop got back)),
      length-append (take got back) (drop got back),
      length-append (take m (drop got back)) (drop m (drop got back)),
      ap length (take-append-drop got back),
      ap length (take-append-drop m (drop got back)),
    )

-- a get of bytes that are those that were put
pub got_on : (before mid_faults now : ℕ) (old mid new : Told) (bytes back buf post : List ℕ) (put got n k : ℕ) → Going before mid_faults old mid bytes back put got → got + k ≤ put → k ≤ length buf
    → length (take got back ++ (buf ++ post)) ≡ length back → new ≡ after_get mid (take k buf) → n ≡ k → take n (drop got bytes) ≡ take n (drop got (take got back ++ (buf ++ post))) → mid_faults ≤ now
    → Going before now old new bytes (take got back ++ (buf ++ post)) put (got + k)
got_on before mid_faults now old mid new bytes back buf post put got n k going order within long is count equal later =
    let inside : got ≤ length back = omega (arith, going.order, going.within, going.long) in
    let same : take k buf ≡ take k (drop got bytes) = sym (came back buf post got k inside within)
    ∙ sym (ap (λ (j : ℕ). take j (drop got (take got back ++ (buf ++ post)))) count) ∙ sym equal ∙ ap (λ (j : ℕ). take j (drop got bytes)) count in
    let more : take got bytes ++ take k buf ≡ take (got + k) bytes = ap (λ (l : List ℕ). take got bytes ++ l) same ∙ sym (take-add got k bytes) in
    record {
      told = is ∙ ap (λ (t : Told). after_get t (take k buf)) going.told ∙ got_more old (take put bytes) (take got bytes) (take k buf) ∙ ap (moved old (take put bytes)) more;
      same = all_came back buf post got k inside within ∙ ap (λ (l : List ℕ). l ++ take k buf) going.same ∙ more;
      order = order;
      within = going.within;
      long = long ∙ going.long;
      later = omega (arith, going.later);
    }

-- ---- why it stopped

pub front_of : (before now : ℕ) (old new : Told) (bytes back : List ℕ) (put got : ℕ) → Going before now old new bytes back put got → GaveFront old new bytes
front_of before now old new bytes back put got going =
    (take got bytes, (drop got bytes, sym (take-append-drop got bytes)), gave_exactly old new (take put bytes) (take got bytes) going.told)

-- why a refused call of the line, which left it, stopped the carriage
refused : (fault : EdgeFault) (result : Result ℕ EdgeFault) (before now : ℕ) (old new : Told) (bytes : List ℕ) → result ≡ Err fault
    → HasCause before now result → GaveFront old new bytes → CarryCause before now old new bytes (fault_of fault)
refused edge.Failed result before now old new bytes is cause front = (cause.failed is, front)
refused edge.NoMemory result before now old new bytes is cause front = front

rose_since : (before mid now : ℕ) → before ≤ mid → Rose mid now → Rose before now
rose_since before mid now le rose = omega arith

passed_on : (answer : Result (Unit {0}) CarryFault) (P : CarryFault → Type 0) (fault : CarryFault) → IsErrAnd answer (λ e. e ≡ fault) → P fault → IfErr answer P
passed_on (Ok x) P fault is holds = tt
passed_on (Err e) P fault is holds = subst P (sym is) holds

pub stopped : (answer : Result (Unit {0}) CarryFault) (fault : EdgeFault) (result : Result ℕ EdgeFault) (before mid_faults now : ℕ) (old mid new : Told) (bytes back : List ℕ) (put got : ℕ)
    → IsErrAnd answer (λ e. e ≡ fault_of fault) → result ≡ Err fault → HasCause mid_faults now result → new ≡ mid → Going before mid_faults old mid bytes back put got
    → IfErr answer (CarryCause before now old new bytes)
stopped answer fault result before mid_faults now old mid new bytes back put got told is cause left going =
    let front : GaveFront old new bytes = subst (λ (t : Told). GaveFront old t bytes) (sym left) (front_of before mid_faults old mid bytes back put got going) in
    let since : HasCause before now result = record { later = omega (arith, going.later, cause.later); failed = λ (f : IsErrOf result edge.Failed). rose_since before mid_faults now going.later (cause.failed f) } in
    passed_on answer (CarryCause before now old new bytes) (fault_of fault) told (refused fault result before now old new bytes is since front)

read_at : (l : List ℕ) (got n i : ℕ) → i < n → slice_index (take n (drop got l)) i ≡ slice_index l (got + i)
read_at l got n i below = get_or-take n (drop got l) i 0 below ∙ get_or-drop got l i 0

-- a get of another byte than was put
pub lied : (before mid_faults : ℕ) (old mid new : Told) (bytes back buf post : List ℕ) (put got n k i : ℕ) → Going before mid_faults old mid bytes back put got → got + k ≤ put → k ≤ length buf
    → length (take got back ++ (buf ++ post)) ≡ length back → new ≡ after_get mid (take k buf) → n ≡ k → i < length (take n (drop got bytes))
    → slice_index (take n (drop got bytes)) i ≢ slice_index (take n (drop got (take got back ++ (buf ++ post)))) i → IsSound old → IsSound new → IsEven old
    → GaveAnother old new bytes (got + i) (slice_index bytes (got + i)) (slice_index (take got back ++ (buf ++ post)) (got + i))
lied before mid_faults old mid new bytes back buf post put got n k i going order within long is count below apart old_sound new_sound even =
    let now : List ℕ = take got back ++ (buf ++ post) in
    let inside : got ≤ length back = omega (arith, going.order, going.within, going.long) in
    let first : i < n = omega (arith, length-take n (drop got bytes)) in
    let here : got + i < got + k = omega arith in
    let whole : got + k ≤ length now = omega (arith, going.within, going.long) in
    let given : List ℕ = take got bytes ++ take k buf in
    let is_given : take (got + k) now ≡ given = all_came back buf post got k inside within ∙ ap (λ (l : List ℕ). l ++ take k buf) going.same in
    let went : new ≡ moved old (take put bytes) given = is ∙ ap (λ (t : Told). after_get t (take k buf)) going.told ∙ got_more old (take put bytes) (take got bytes) (take k buf) in
    let there : slice_get given (got + i) ≡ Some (slice_index now (got + i)) = ap (λ (l : List ℕ). slice_get l (got + i)) (sym is_given)
    ∙ slice_get-get_or (take (got + k) now) (got + i) 0 (omega (arith, length-take-le (got + k) now whole)) ∙ ap Some (get_or-take (got + k) now (got + i) 0 here) in
    let wanted : slice_get bytes (got + i) ≡ Some (slice_index bytes (got + i)) = slice_get-get_or bytes (got + i) 0 (omega (arith, going.within)) in
    let differs : slice_index bytes (got + i) ≢ slice_index now (got + i) = λ (e : slice_index bytes (got + i) ≡ slice_index now (got + i)). apart (read_at bytes got n i first ∙ e ∙ sym (read_at now got n i first)) in
    let many : length given ≡ got + k = sym (ap length is_given) ∙ length-take-le (got + k) now whole in
    record {
      differs = differs;
      put_there = wanted;
      not_faithful = not_faithful old new bytes given put (got + i) _ _ old_sound new_sound even went wanted there differs;
      given = (got + k, here, omega (arith, going.within), gave old new (take put bytes) given (got + k) (λ (g : List ℕ). slice_get g (got + i) ≡ Some (slice_index now (got + i))) went many there);
    }
