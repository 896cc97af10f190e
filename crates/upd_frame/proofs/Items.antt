-- Items and batches: what is read is spelled so, and what is spelled so is read.
use Rattle.std.proofs.Common.{◌≡◌, ℕ, zero, suc, ◌+◌, ◌^◌, ◌<◌, ◌≤◌, ◌%◌, Bool, true, false, not, cond, ◌&&◌, ◌||◌, ltb, leb, eqb, List, [], ◌∷◌, ◌++◌, length, Option, Some, None, Result, Ok, Err, refl, sym, ap, subst, ◌∙◌, append_assoc, arith, inl, inr}
use Rattle.std.specs.Int.{w8, w16, w32}
use Rattle.std.specs.List.{flat_map, list_all, AllByRecursion}
use Rattle.std.proofs.lemmas.Option.{none-some}
use Rattle.std.proofs.lemmas.Bool.{cases_eq, ne_eqb, false≢true, true≢false, and_from, and_parts, ltb-true, leb-true, lt-ltb, le-leb, eqb-true}
use Rattle.std.proofs.lemmas.List.{append-nil}
use Rattle.std.proofs.lemmas.List.Concat.{flat_map-cons}
use Rattle.upd_base.specs.Text.{is_payload, is_printable}
use Rattle.upd_base.specs.Kind.{kind_fits}
use Rattle.upd_base.specs.Item.{id_of, origin_of, number_of, stands_before}
use Rattle.upd_base.specs.Batch.{is_batch, ascends, comes_first}
use Rattle.upd_base.specs.declared.kind.Kind.{Kind}
use Rattle.upd_base.specs.declared.kind.Kind.TheVariants.{Sequencer, Lamport, Consensus}
use Rattle.upd_base.specs.declared.item.Item.{Item}
use Rattle.upd_base.specs.declared.item.Item.TheVariants.{Msg, Switch}
use Rattle.upd_base.specs.declared.limits.TheConstants.{MAX_MEMBERS}
use Rattle.upd_frame.specs.declared.fault.FrameFault.{FrameFault}
use Rattle.upd_frame.specs.declared.fault.FrameFault.TheVariants.{BadTag, BadNumber}
use Rattle.upd_frame.specs.Spelling.{digits, kind_bytes, item_bytes, batch_bytes, flag_byte, IsItem, IsBatch}
use Rattle.upd_frame.specs.Reader.{Reader, done, go_on, ◌>>=◌, only, byte, number, text}
use Rattle.upd_frame.specs.Reading.{is_member, is_length, is_count, flag_of, comes_after, member, kind_of, kind, message, switch, item, items, batch}
use Rattle.upd_frame.proofs.Fields.{IsBytes, Takes, Takes-then, go_on_ok, ok_is, OneByte, byte_takes, byte_again, number_wanted, only_some, only_again, wide16, wide32, Reads, numbers, texts, one_takes, two_takes}

-- ---- members and flags

member_takes : (all : ℕ) (left : List ℕ) (m : ℕ) (rest : List ℕ) → IsBytes left → member all left ≡ Ok (m, rest) → Takes left (m ∷ []) rest × (m < MAX_MEMBERS)
unfolding member
member_takes all left m rest fits e =
    let one = byte_takes (only is_member) BadNumber all left m rest fits e in
    let o = only_some is_member one.value m one.means in
    (record { parts = one.parts ∙ ap (λ (k : ℕ). k ∷ rest) o.1; rest_fits = one.rest_fits }, subst (λ (k : ℕ). k < MAX_MEMBERS) o.1 (ltb-true one.value MAX_MEMBERS o.0))

member_again : (all m : ℕ) (rest : List ℕ) → m < MAX_MEMBERS → member all (m ∷ rest) ≡ Ok (m, rest)
unfolding member
member_again all m rest lt = byte_again (only is_member) BadNumber all m m rest (only_again is_member m (lt-ltb m MAX_MEMBERS lt))

pub members : Reads member (λ m. m ∷ []) (λ m. m < MAX_MEMBERS)
members = record { takes = member_takes; again = member_again }

zero_is : (x : Bool) → Some false ≡ Some x → 0 ≡ flag_byte x
unfolding flag_byte
zero_is true e = absurd (false≢true cc)
zero_is false e = refl

one_is : (x : Bool) → Some true ≡ Some x → 1 ≡ flag_byte x
unfolding flag_byte
one_is true e = refl
one_is false e = absurd (true≢false cc)

flag_is : (b : ℕ) (x : Bool) → flag_of b ≡ Some x → b ≡ flag_byte x
flag_is b x e =
    elim (cases_eq b 0) [
      | inl z ↦ z ∙ zero_is x (sym (ap flag_of z) ∙ e)
      | inr nz ↦ elim (cases_eq b 1) [
        | inl o ↦ o ∙ one_is x (sym (ap flag_of o) ∙ e)
        | inr not_one ↦ absurd (none-some x (sym (nothing nz not_one) ∙ e))
      ]
    ]
  where
    nothing : (b ≡ 0 → ⊥) → (b ≡ 1 → ⊥) → flag_of b ≡ None
    nothing nz not_one = rw (ne_eqb b 0 nz, ne_eqb b 1 not_one) refl

flag_again : (x : Bool) → flag_of (flag_byte x) ≡ Some x
unfolding flag_byte
flag_again true = refl
flag_again false = refl

flag_takes : (all : ℕ) (left : List ℕ) (x : Bool) (rest : List ℕ) → IsBytes left → byte flag_of BadTag all left ≡ Ok (x, rest) → Takes left (flag_byte x ∷ []) rest × Unit {0}
flag_takes all left x rest fits e =
    let one = byte_takes flag_of BadTag all left x rest fits e in
    (record { parts = one.parts ∙ ap (λ (k : ℕ). k ∷ rest) (flag_is one.value x one.means); rest_fits = one.rest_fits }, tt)

pub flags : Reads (byte flag_of BadTag) (λ x. flag_byte x ∷ []) (λ x. Unit {0})
flags = record { takes = flag_takes; again = λ all x rest within. byte_again flag_of BadTag all (flag_byte x) x rest (flag_again x) }

-- ---- kinds

form_takes : (form all : ℕ) (left : List ℕ) (p : Kind × List ℕ) → form < 3 → IsBytes left → kind_of form all left ≡ Ok p
    → (text : List ℕ) × Takes left text p.1 × (kind_bytes p.0 ≡ form ∷ text) × (kind_fits MAX_MEMBERS p.0 ≡ true)
unfolding kind_of kind_bytes
form_takes zero all left p lt fits e =
    let a = one_takes member (λ m. m ∷ []) (λ m. m < MAX_MEMBERS) members (λ m. Sequencer m) all left p fits e in
    subst (λ (q : Kind × List ℕ). (text : List ℕ) × Takes left text q.1 × (kind_bytes q.0 ≡ 0 ∷ text) × (kind_fits MAX_MEMBERS q.0 ≡ true)) a.4 (a.0 ∷ [], a.2, refl, lt-ltb a.0 MAX_MEMBERS a.3)
form_takes (suc zero) all left p lt fits e =
    subst (λ (q : Kind × List ℕ). (text : List ℕ) × Takes left text q.1 × (kind_bytes q.0 ≡ 1 ∷ text) × (kind_fits MAX_MEMBERS q.0 ≡ true)) (ok_is (Lamport, left) p e) ([], record { parts = refl; rest_fits = fits }, refl, refl)
form_takes (suc (suc zero)) all left p lt fits e =
    subst (λ (q : Kind × List ℕ). (text : List ℕ) × Takes left text q.1 × (kind_bytes q.0 ≡ 2 ∷ text) × (kind_fits MAX_MEMBERS q.0 ≡ true)) (ok_is (Consensus, left) p e) ([], record { parts = refl; rest_fits = fits }, refl, refl)
form_takes (suc (suc (suc form))) all left p lt fits e = absurd (omega arith)

abbrev is_form : ℕ → Bool
is_form b = ltb b 3

kind_takes : (all : ℕ) (left : List ℕ) (k : Kind) (rest : List ℕ) → IsBytes left → kind all left ≡ Ok (k, rest) → Takes left (kind_bytes k) rest × (kind_fits MAX_MEMBERS k ≡ true)
unfolding kind
kind_takes all left k rest fits e =
    let a = go_on_ok (byte (only is_form) BadTag all left) (λ form after. kind_of form all after) (k, rest) e in
    let one = byte_takes (only is_form) BadTag all left a.0 a.1 fits a.2 in
    let o = only_some is_form one.value a.0 one.means in
    let f = form_takes a.0 all a.1 (k, rest) (subst (λ (m : ℕ). m < 3) o.1 (ltb-true one.value 3 o.0)) one.rest_fits a.3 in
    (record { parts = one.parts ∙ ap (λ (m : ℕ). m ∷ a.1) o.1 ∙ ap (λ (l : List ℕ). a.0 ∷ l) f.1.parts ∙ ap (λ (l : List ℕ). l ++ rest) (sym f.2); rest_fits = f.1.rest_fits }, f.3)

kind_again : (all : ℕ) (k : Kind) (rest : List ℕ) → kind_fits MAX_MEMBERS k ≡ true → kind all (kind_bytes k ++ rest) ≡ Ok (k, rest)
unfolding kind kind_of kind_bytes
kind_again all (Sequencer m) rest fits =
    rw (byte_again (only is_form) BadTag all 0 0 (m ∷ rest) refl, member_again all m rest (ltb-true m MAX_MEMBERS fits)) refl
kind_again all Lamport rest fits = rw (byte_again (only is_form) BadTag all 1 1 rest refl) refl
kind_again all Consensus rest fits = rw (byte_again (only is_form) BadTag all 2 2 rest refl) refl

pub kinds : Reads kind kind_bytes (λ k. kind_fits MAX_MEMBERS k ≡ true)
kinds = record { takes = kind_takes; again = kind_again }

-- ---- items

message_takes : (origin n all : ℕ) (left : List ℕ) (p : Item × List ℕ) → IsBytes left → message origin n all left ≡ Ok p
    → (payload : List ℕ) × (rest : List ℕ) × Takes left (digits w16 (length payload) ++ payload) rest × (is_payload payload ≡ true) × ((Msg origin n payload, rest) ≡ p)
unfolding message
message_takes origin n all left p fits e =
    let a = go_on_ok (number w16 is_length all left) (λ len after. go_on (text len all after) (λ payload rest. Ok (Msg origin n payload, rest))) p e in
    let t = (numbers w16 (2 ^ 16) wide16 is_length).takes all left a.0 a.1 fits a.2 in
    let u = one_takes (text a.0) (λ bs. bs) (λ bs. (length bs ≡ a.0) × (list_all is_printable bs ≡ true)) (texts a.0) (λ bs. Msg origin n bs) all a.1 p t.0.rest_fits a.3 in
    let both = Takes-then left (digits w16 a.0) a.1 u.0 u.1 t.0 u.2 in
    let spelt : Takes left (digits w16 (length u.0) ++ u.0) u.1 = subst (λ (k : ℕ). Takes left (digits w16 k ++ u.0) u.1) (sym u.3.0) both in
    let good : is_payload u.0 ≡ true = and_from (is_length (length u.0)) (list_all is_printable u.0) (subst (λ (k : ℕ). is_length k ≡ true) (sym u.3.0) t.1.1) u.3.1 in
    (u.0, u.1, spelt, good, u.4)

switch_takes : (origin n all : ℕ) (left : List ℕ) (p : Item × List ℕ) → IsBytes left → switch origin n all left ≡ Ok p
    → (k : Kind) × (rest : List ℕ) × Takes left (kind_bytes k) rest × (kind_fits MAX_MEMBERS k ≡ true) × ((Switch origin n k, rest) ≡ p)
unfolding switch
switch_takes origin n all left p fits e = one_takes kind kind_bytes (λ k. kind_fits MAX_MEMBERS k ≡ true) kinds (λ k. Switch origin n k) all left p fits e

-- what is read behind the form, the origin and the number
record Content (switches : Bool) (origin n : ℕ) (left : List ℕ) (p : Item × List ℕ) : Type 0 where
  text : List ℕ
  takes : Takes left text p.1
  spelt : item_bytes p.0 ≡ (flag_byte switches ∷ origin ∷ []) ++ digits w32 n ++ text
  within : IsItem p.0
  origin_is : origin_of p.0 ≡ origin
  number_is : number_of p.0 ≡ n

content : (switches : Bool) (origin n all : ℕ) (left : List ℕ) (p : Item × List ℕ) → origin < MAX_MEMBERS → n < 2 ^ 32 → IsBytes left → (cond switches (switch origin n) (message origin n)) all left ≡ Ok p → Content switches origin n left p
unfolding item_bytes flag_byte
content true origin n all left p is_origin is_number fits e =
    let a = switch_takes origin n all left p fits e in
    let made : Content true origin n left (Switch origin n a.0, a.1) = record { text = kind_bytes a.0; takes = a.2; spelt = refl; within = (is_origin, is_number, a.3); origin_is = refl; number_is = refl } in
    subst (Content true origin n left) a.4 made
content false origin n all left p is_origin is_number fits e =
    let a = message_takes origin n all left p fits e in
    let made : Content false origin n left (Msg origin n a.0, a.1) = record { text = digits w16 (length a.0) ++ a.0; takes = a.2; spelt = append_assoc ((0 ∷ origin ∷ []) ++ digits w32 n) (digits w16 (length a.0)) a.0; within = (is_origin, is_number, a.3); origin_is = refl; number_is = refl } in
    subst (Content false origin n left) a.4 made

pub record IsRead (before : Option (ℕ × ℕ)) (left : List ℕ) (x : Item) (rest : List ℕ) : Type 0 where
  pub takes : Takes left (item_bytes x) rest
  pub within : IsItem x
  pub behind : comes_after before (origin_of x) (number_of x) ≡ true

pub item_takes : (before : Option (ℕ × ℕ)) (all : ℕ) (left : List ℕ) (x : Item) (rest : List ℕ) → IsBytes left → item before all left ≡ Ok (x, rest) → IsRead before left x rest
unfolding item
item_takes before all left x rest fits e =
    let a = go_on_ok (byte flag_of BadTag all left) (λ s after. go_on (member all after) (λ o after'. go_on (number w32 (comes_after before o) all after') (λ n last. (cond s (switch o n) (message o n)) all last))) (x, rest) e in
    let b = go_on_ok (member all a.1) (λ o after'. go_on (number w32 (comes_after before o) all after') (λ n last. (cond a.0 (switch o n) (message o n)) all last)) (x, rest) a.3 in
    let d = go_on_ok (number w32 (comes_after before b.0) all b.1) (λ n last. (cond a.0 (switch b.0 n) (message b.0 n)) all last) (x, rest) b.3 in
    let ta = flag_takes all left a.0 a.1 fits a.2 in
    let tb = member_takes all a.1 b.0 b.1 ta.0.rest_fits b.2 in
    let td = (numbers w32 (2 ^ 32) wide32 (comes_after before b.0)).takes all b.1 d.0 d.1 tb.0.rest_fits d.2 in
    let last = content a.0 b.0 d.0 all d.1 (x, rest) tb.1 td.1.0 td.0.rest_fits d.3 in
    let head : Takes left ((flag_byte a.0 ∷ b.0 ∷ []) ++ digits w32 d.0) d.1 = Takes-then left (flag_byte a.0 ∷ b.0 ∷ []) b.1 (digits w32 d.0) d.1 (Takes-then left (flag_byte a.0 ∷ []) a.1 (b.0 ∷ []) b.1 ta.0 tb.0) td.0 in
    let whole = Takes-then left ((flag_byte a.0 ∷ b.0 ∷ []) ++ digits w32 d.0) d.1 last.text rest head last.takes in
    record {
      takes = subst (λ (t : List ℕ). Takes left t rest) (sym last.spelt) whole;
      within = last.within;
      behind = rw (last.origin_is, last.number_is) td.1.1;
    }

pub item_again : (before : Option (ℕ × ℕ)) (all : ℕ) (x : Item) (rest : List ℕ) → IsItem x → comes_after before (origin_of x) (number_of x) ≡ true → item before all (item_bytes x ++ rest) ≡ Ok (x, rest)
unfolding item item_bytes switch message
item_again before all (Msg origin n payload) rest within behind =
    let tail : List ℕ = digits w16 (length payload) ++ (payload ++ rest) in
    let parts = and_parts (is_length (length payload)) (list_all is_printable payload) within.2 in
    let len : length payload < 2 ^ 16 = omega (arith, leb-true (length payload) 256 (and_parts (leb 1 (length payload)) (leb (length payload) 256) parts.0).1) in
    let regrouped : item_bytes (Msg origin n payload) ++ rest ≡ 0 ∷ origin ∷ (digits w32 n ++ tail) = simp append_assoc in
    ap (item before all) regrouped
    ∙ rw (
      byte_again flag_of BadTag all 0 false (origin ∷ (digits w32 n ++ tail)) refl,
      member_again all origin (digits w32 n ++ tail) within.0,
      (numbers w32 (2 ^ 32) wide32 (comes_after before origin)).again all n tail (within.1, behind),
      (numbers w16 (2 ^ 16) wide16 is_length).again all (length payload) (payload ++ rest) (len, parts.0),
      (texts (length payload)).again all payload rest (refl, parts.1),
    ) refl
item_again before all (Switch origin n k) rest within behind =
    let tail : List ℕ = kind_bytes k ++ rest in
    let regrouped : item_bytes (Switch origin n k) ++ rest ≡ 1 ∷ origin ∷ (digits w32 n ++ tail) = simp append_assoc in
    ap (item before all) regrouped
    ∙ rw (
      byte_again flag_of BadTag all 1 true (origin ∷ (digits w32 n ++ tail)) refl,
      member_again all origin (digits w32 n ++ tail) within.0,
      (numbers w32 (2 ^ 32) wide32 (comes_after before origin)).again all n tail (within.1, behind),
      kind_again all k rest within.2,
    ) refl

-- ---- batches

-- the first of these stands behind the one before them
abbrev pub follows : Option (ℕ × ℕ) → List Item → Bool
follows before [] = true
follows before (x ∷ xs) = comes_after before (origin_of x) (number_of x)

first_is : (x : Item) (xs : List Item) → comes_first x xs ≡ follows (Some (id_of x)) xs
first_is x [] = refl
first_is x (y ∷ ys) = refl

pub record AreRead (before : Option (ℕ × ℕ)) (count : ℕ) (left : List ℕ) (p : List Item × List ℕ) : Type 0 where
  pub takes : Takes left (flat_map item_bytes p.0) p.1
  pub many : length p.0 ≡ count
  pub within : AllByRecursion IsItem p.0
  pub behind : follows before p.0 ≡ true
  pub ascend : ascends p.0 ≡ true

pub items_take : (count : ℕ) (before : Option (ℕ × ℕ)) (all : ℕ) (left : List ℕ) (p : List Item × List ℕ) → IsBytes left → items count before all left ≡ Ok p → AreRead before count left p
unfolding items
items_take zero before all left p fits e =
    let made : AreRead before 0 left ([], left) = record { takes = record { parts = refl; rest_fits = fits }; many = refl; within = tt; behind = refl; ascend = refl } in
    subst (AreRead before 0 left) (ok_is ([], left) p e) made
items_take (suc count) before all left p fits e =
    let a = go_on_ok (item before all left) (λ x after. go_on (items count (Some (id_of x)) all after) (λ others rest. Ok (x ∷ others, rest))) p e in
    let b = go_on_ok (items count (Some (id_of a.0)) all a.1) (λ others rest. Ok (a.0 ∷ others, rest)) p a.3 in
    let first = item_takes before all left a.0 a.1 fits a.2 in
    let second = items_take count (Some (id_of a.0)) all a.1 (b.0, b.1) first.takes.rest_fits b.2 in
    let both = Takes-then left (item_bytes a.0) a.1 (flat_map item_bytes b.0) b.1 first.takes second.takes in
    let made : AreRead before (suc count) left (a.0 ∷ b.0, b.1) = record {
      takes = rw flat_map-cons both;
      many = ap suc second.many;
      within = (first.within, second.within);
      behind = first.behind;
      ascend = and_from (comes_first a.0 b.0) (ascends b.0) (first_is a.0 b.0 ∙ second.behind) second.ascend;
    } in
    subst (AreRead before (suc count) left) (ok_is (a.0 ∷ b.0, b.1) p b.3) made

items_again : (xs : List Item) (before : Option (ℕ × ℕ)) (all : ℕ) (rest : List ℕ) → AllByRecursion IsItem xs → follows before xs ≡ true → ascends xs ≡ true → items (length xs) before all (flat_map item_bytes xs ++ rest) ≡ Ok (xs, rest)
unfolding items
items_again [] before all rest within behind ascend = refl
items_again (x ∷ xs) before all rest within behind ascend =
    let parts = and_parts (comes_first x xs) (ascends xs) ascend in
    let regrouped : flat_map item_bytes (x ∷ xs) ++ rest ≡ item_bytes x ++ (flat_map item_bytes xs ++ rest) = ap (λ (l : List ℕ). l ++ rest) (flat_map-cons item_bytes x xs) ∙ append_assoc (item_bytes x) (flat_map item_bytes xs) rest in
    ap (items (suc (length xs)) before all) regrouped
    ∙ rw (item_again before all x (flat_map item_bytes xs ++ rest) within.0 behind, items_again xs (Some (id_of x)) all rest within.1 (sym (first_is x xs) ∙ parts.0) parts.1) refl

count_parts : (n : ℕ) → is_count n ≡ true → (1 ≤ n) × (n ≤ 32)
count_parts n e = let p = and_parts (leb 1 n) (leb n 32) e in (leb-true 1 n p.0, leb-true n 32 p.1)

-- that many items in order are a batch
pub is_a_batch : (n : ℕ) (xs : List Item) → is_count n ≡ true → length xs ≡ n → ascends xs ≡ true → is_batch xs ≡ true
is_a_batch n xs good many ascend = and_from (is_count (length xs)) (ascends xs) (rw many good) ascend

one_digit : (n : ℕ) → n < 256 → digits w8 n ≡ n ∷ []
unfolding digits
one_digit n lt = let e : n % 256 ≡ n = omega arith in ap (λ (k : ℕ). k ∷ []) e

batch_takes : (all : ℕ) (left : List ℕ) (xs : List Item) (rest : List ℕ) → IsBytes left → batch all left ≡ Ok (xs, rest) → Takes left (batch_bytes xs) rest × IsBatch xs
unfolding batch batch_bytes
batch_takes all left xs rest fits e =
    let a = go_on_ok (byte (only is_count) BadNumber all left) (λ n after. items n None all after) (xs, rest) e in
    let one = byte_takes (only is_count) BadNumber all left a.0 a.1 fits a.2 in
    let o = only_some is_count one.value a.0 one.means in
    let good : is_count a.0 ≡ true = subst (λ (m : ℕ). is_count m ≡ true) o.1 o.0 in
    let more = items_take a.0 None all a.1 (xs, rest) one.rest_fits a.3 in
    let c = count_parts a.0 good in
    let digit : digits w8 (length xs) ≡ a.0 ∷ [] = ap (digits w8) more.many ∙ one_digit a.0 (omega arith) in
    let front : Takes left (digits w8 (length xs)) a.1 = record { parts = one.parts ∙ ap (λ (m : ℕ). m ∷ a.1) o.1 ∙ ap (λ (l : List ℕ). l ++ a.1) (sym digit); rest_fits = one.rest_fits } in
    (Takes-then left (digits w8 (length xs)) a.1 (flat_map item_bytes xs) rest front more.takes, (is_a_batch a.0 xs good more.many more.ascend, more.within))

batch_again : (all : ℕ) (xs : List Item) (rest : List ℕ) → IsBatch xs → batch all (batch_bytes xs ++ rest) ≡ Ok (xs, rest)
unfolding batch batch_bytes
batch_again all xs rest within =
    let parts = and_parts (is_count (length xs)) (ascends xs) within.0 in
    let c = count_parts (length xs) parts.0 in
    let regrouped : batch_bytes xs ++ rest ≡ length xs ∷ (flat_map item_bytes xs ++ rest) = ap (λ (l : List ℕ). (l ++ flat_map item_bytes xs) ++ rest) (one_digit (length xs) (omega arith)) in
    ap (batch all) regrouped
    ∙ rw (byte_again (only is_count) BadNumber all (length xs) (length xs) (flat_map item_bytes xs ++ rest) (only_again is_count (length xs) parts.0), items_again xs None all rest within.1 (none_before xs) parts.1) refl
  where
    none_before : (xs : List Item) → follows None xs ≡ true
    none_before [] = refl
    none_before (x ∷ xs) = refl

pub batches : Reads batch batch_bytes IsBatch
batches = record { takes = batch_takes; again = batch_again }

-- ---- the order of items that were read

named : (switches : Bool) (origin n all : ℕ) (left : List ℕ) (p : Item × List ℕ) → (cond switches (switch origin n) (message origin n)) all left ≡ Ok p → (origin_of p.0 ≡ origin) × (number_of p.0 ≡ n)
unfolding switch message
named true origin n all left p e =
    let a = go_on_ok (kind all left) (λ k rest. Ok (Switch origin n k, rest)) p e in
    subst (λ (q : Item × List ℕ). (origin_of q.0 ≡ origin) × (number_of q.0 ≡ n)) (ok_is (Switch origin n a.0, a.1) p a.3) (refl, refl)
named false origin n all left p e =
    let a = go_on_ok (number w16 is_length all left) (λ len after. go_on (text len all after) (λ payload rest. Ok (Msg origin n payload, rest))) p e in
    let b = go_on_ok (text a.0 all a.1) (λ payload rest. Ok (Msg origin n payload, rest)) p a.3 in
    subst (λ (q : Item × List ℕ). (origin_of q.0 ≡ origin) × (number_of q.0 ≡ n)) (ok_is (Msg origin n b.0, b.1) p b.3) (refl, refl)

behind : (before : Option (ℕ × ℕ)) (all : ℕ) (left : List ℕ) (p : Item × List ℕ) → item before all left ≡ Ok p → comes_after before (origin_of p.0) (number_of p.0) ≡ true
unfolding item
behind before all left p e =
    let a = go_on_ok (byte flag_of BadTag all left) (λ s after. go_on (member all after) (λ o after'. go_on (number w32 (comes_after before o) all after') (λ n last. (cond s (switch o n) (message o n)) all last))) p e in
    let b = go_on_ok (member all a.1) (λ o after'. go_on (number w32 (comes_after before o) all after') (λ n last. (cond a.0 (switch o n) (message o n)) all last)) p a.3 in
    let d = go_on_ok (number w32 (comes_after before b.0) all b.1) (λ n last. (cond a.0 (switch b.0 n) (message b.0 n)) all last) p b.3 in
    let id = named a.0 b.0 d.0 all d.1 p d.3 in
    rw (id.0, id.1) (number_wanted w32 (comes_after before b.0) all b.1 d.0 d.1 d.2)

in_order : (count : ℕ) (before : Option (ℕ × ℕ)) (all : ℕ) (left : List ℕ) (p : List Item × List ℕ) → items count before all left ≡ Ok p → (length p.0 ≡ count) × (follows before p.0 ≡ true) × (ascends p.0 ≡ true)
unfolding items
in_order zero before all left p e = subst (λ (q : List Item × List ℕ). (length q.0 ≡ 0) × (follows before q.0 ≡ true) × (ascends q.0 ≡ true)) (ok_is ([], left) p e) (refl, refl, refl)
in_order (suc count) before all left p e =
    let a = go_on_ok (item before all left) (λ x after. go_on (items count (Some (id_of x)) all after) (λ others rest. Ok (x ∷ others, rest))) p e in
    let b = go_on_ok (items count (Some (id_of a.0)) all a.1) (λ others rest. Ok (a.0 ∷ others, rest)) p a.3 in
    let more = in_order count (Some (id_of a.0)) all a.1 (b.0, b.1) b.2 in
    subst (λ (q : List Item × List ℕ). (length q.0 ≡ suc count) × (follows before q.0 ≡ true) × (ascends q.0 ≡ true)) (ok_is (a.0 ∷ b.0, b.1) p b.3)
    (ap suc more.0, behind before all left (a.0, a.1) a.2, and_from (comes_first a.0 b.0) (ascends b.0) (first_is a.0 b.0 ∙ more.1) more.2)

-- items that were read are a batch
pub read_batch : (n all : ℕ) (left : List ℕ) (xs : List Item) (rest : List ℕ) → is_count n ≡ true → items n None all left ≡ Ok (xs, rest) → is_batch xs ≡ true
read_batch n all left xs rest good e =
    let r = in_order n None all left (xs, rest) e in
    is_a_batch n xs good r.0 r.2
