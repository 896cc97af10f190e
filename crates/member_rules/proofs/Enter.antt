-- A fresh module, and the orders that it gets.
use Rattle.std.proofs.Common.{ℕ, zero, suc, ◌≡◌, ◌<◌, ◌+◌, inl, inr, Bool, List, [], ◌∷◌, ◌++◌, length, map, refl, sym, ◌∙◌, ap, arith, Some, true, false, append_assoc, append-nil, add-one, drop, get_or}
use Rattle.std.proofs.lemmas.List.{map-append, drop_more}
use Rattle.std.proofs.lemmas.Option.{slice_get_within, get_or_from_slice_get, slice_get-get_or}
use Rattle.std.specs.Prelude.{slice_get}
use Rattle.std.specs.List.{filter}
use Rattle.fifo_net.specs.Net.{Called}
use Rattle.order_trait.specs.Runs.{Order, Broadcast, Suspect, Inputs, Seat, KindSends}
use Rattle.upd_base.specs.declared.body.Body.{Body}
use Rattle.upd_base.specs.declared.kind.Kind.{Kind}
use Rattle.upd_base.specs.declared.item.Item.{Item}
use Rattle.group_run.specs.Group.{Group}
use Rattle.group_run.specs.Version.{kind_above, kind_at, inputs_at, given}
use Rattle.group_run.specs.Part.{with_modules, below, is_suspected}
use Rattle.group_run.specs.Turn.{Turn, ModuleStep, order_step, in_module, all_told, stepped, framed, sent_at}
use Rattle.group_run.proofs.Lists.{tested, eqb_self}
use Rattle.member_rules.specs.Acts.{suspicions_in, orders_after, orders_sent}

pub orders_after-append : (xs ys : List Order) (past : Inputs) → orders_after (xs ++ ys) past ≡ orders_after ys (orders_after xs past)
orders_after-append [] ys past = refl
orders_after-append (x ∷ xs) ys past = orders_after-append xs ys (Called x ∷ past)

pub orders_sent-append : (sends : Inputs → List (ℕ × Body)) (xs ys : List Order) (past : Inputs) →
    orders_sent sends (xs ++ ys) past ≡ orders_sent sends xs past ++ orders_sent sends ys (orders_after xs past)
orders_sent-append sends [] ys past = refl
orders_sent-append sends (x ∷ xs) ys past =
    ap (λ bs. sends (Called x ∷ past) ++ bs) (orders_sent-append sends xs ys (Called x ∷ past))
    ∙ sym (append_assoc (sends (Called x ∷ past)) (orders_sent sends xs (Called x ∷ past)) (orders_sent sends ys (orders_after xs (Called x ∷ past))))

pub framed-append : (v : ℕ) (xs ys : List (ℕ × Body)) → framed v (xs ++ ys) ≡ framed v xs ++ framed v ys
framed-append v xs ys = map-append (λ (s : ℕ × Body). (s.0, record { version = v; body = s.1 })) xs ys

-- orders to the newest module
pub all_told_part : (g : Group) (me : ℕ) (t : Turn) (orders : List Order) (past : Inputs) (older : List Inputs) → t.part.modules ≡ past ∷ older →
    (all_told g me t (in_module (length older) orders)).part ≡ with_modules t.part (orders_after orders past ∷ older)
all_told_part g me t [] past older is = ap (λ ms. with_modules t.part ms) is
all_told_part g me t (o ∷ orders) past older is =
    let next : given (length older) (Called o) t.part.modules ≡ (Called o ∷ past) ∷ older = ap (given (length older) (Called o)) is ∙ rw (eqb_self (length older)) refl in
    all_told_part g me (stepped g me t (order_step (length older, o))) orders (Called o ∷ past) older next

pub all_told_frames : (g : Group) (me : ℕ) (t : Turn) (orders : List Order) (past : Inputs) (older : List Inputs) → t.part.modules ≡ past ∷ older →
    (all_told g me t (in_module (length older) orders)).frames ≡ t.frames ++ framed (length older) (orders_sent (g.rules.sends (kind_above g me older) g.members me) orders past)
all_told_frames g me t [] past older is = sym (append-nil t.frames)
all_told_frames g me t (o ∷ orders) past older is =
    let v = length older in
    let s : ModuleStep = order_step (v, o) in
    let next : given v (Called o) t.part.modules ≡ (Called o ∷ past) ∷ older = ap (given v (Called o)) is ∙ rw (eqb_self v) refl in
    let here : sent_at g me t.part s ≡ framed v (g.rules.sends (kind_above g me older) g.members me (Called o ∷ past)) =
    ap (λ ms. framed v (g.rules.sends (kind_at g me v ms) g.members me (Called o ∷ inputs_at v ms))) is ∙ rw (eqb_self v) refl in
    let rest = orders_sent (g.rules.sends (kind_above g me older) g.members me) orders (Called o ∷ past) in
    all_told_frames g me (stepped g me t s) orders (Called o ∷ past) older next
    ∙ append_assoc t.frames (sent_at g me t.part s) (framed v rest)
    ∙ ap (λ fs. t.frames ++ (fs ++ framed v rest)) here
    ∙ ap (λ fs. t.frames ++ fs) (sym (framed-append v (g.rules.sends (kind_above g me older) g.members me (Called o ∷ past)) rest))

-- The suspicions of a row -------------------------------------------------------------------------------------

abbrev from : ℕ → ℕ → List ℕ
from k zero = []
from k (suc n) = k ∷ from (suc k) n

from-more : (k n : ℕ) → from k (suc n) ≡ from k n ++ (k + n) ∷ []
from-more k zero = let e : k ≡ k + 0 = omega arith in ap (λ j. j ∷ []) e
from-more k (suc n) = let e : suc k + n ≡ k + suc n = omega arith in ap (λ xs. k ∷ xs) (from-more (suc k) n ∙ ap (λ j. from (suc k) n ++ j ∷ []) e)

below_is : (n : ℕ) → from 0 n ≡ below n
below_is zero = refl
below_is (suc n) = let e : 0 + n ≡ n = omega arith in from-more 0 n ∙ ap (λ j. from 0 n ++ j ∷ []) e ∙ ap (λ xs. xs ++ n ∷ []) (below_is n)

row_is : (f : ℕ → Bool) (k : ℕ) (row : List Bool) → ((u : ℕ) → u < length row → slice_get row u ≡ Some (f (k + u))) → suspicions_in k row ≡ map (λ who. Suspect who) (filter f (from k (length row)))
row_is f k [] h = refl
row_is f k (on ∷ row) h =
    let z : k + 0 ≡ k = omega arith in
    let first : on ≡ f k = let p : Some on ≡ Some (f (k + 0)) = h 0 (omega arith) in let q : on ≡ f (k + 0) = (cc) in q ∙ ap f z in
    let rest = row_is f (suc k) row (λ u l. let e : k + suc u ≡ suc k + u = omega arith in h (suc u) (omega arith) ∙ ap (λ j. Some (f j)) e) in
    elim (tested (f k)) [
      | inl e ↦ rw (first, e) (ap (λ xs. Suspect k ∷ xs) rest)
      | inr e ↦ rw (first, e) rest
    ]

pub suspicions_are : (suspects : List ℕ) (n : ℕ) (row : List Bool) → length row ≡ n → ((u : ℕ) → u < n → slice_get row u ≡ Some (is_suspected u suspects)) →
    suspicions_in 0 row ≡ map (λ who. Suspect who) (filter (λ who. is_suspected who suspects) (below n))
suspicions_are suspects n row len h =
    row_is (λ who. is_suspected who suspects) 0 row (λ u l. let e : u ≡ 0 + u = omega arith in h u (omega arith) ∙ ap (λ j. Some (is_suspected j suspects)) e)
    ∙ ap (λ k. map (λ who. Suspect who) (filter (λ who. is_suspected who suspects) (from 0 k))) len
    ∙ ap (λ xs. map (λ who. Suspect who) (filter (λ who. is_suspected who suspects) xs)) (below_is n)

pub enter_sent : (sends : Kind → KindSends) (seat0 seat1 : Seat) (kind : Kind) (n me : ℕ) (a b : List Order) (bodies0 bodies1 bodies2 : List (ℕ × Body)) →
    seat0 ≡ record { kind = kind; members = n; me = me } → seat1 ≡ seat0
    → bodies1 ≡ bodies0 ++ orders_sent (sends seat0.kind seat0.members seat0.me) a []
    → bodies2 ≡ bodies1 ++ orders_sent (sends seat1.kind seat1.members seat1.me) b (orders_after a [])
    → bodies2 ≡ bodies0 ++ orders_sent (sends kind n me) (a ++ b) []
enter_sent sends seat0 seat1 kind n me a b bodies0 bodies1 bodies2 s0 s1 e1 e2 =
    let s2 : seat1 ≡ record { kind = kind; members = n; me = me } = s1 ∙ s0 in
    e2
    ∙ ap (λ bs. bs ++ orders_sent (sends seat1.kind seat1.members seat1.me) b (orders_after a [])) e1
    ∙ ap (λ (s : Seat). (bodies0 ++ orders_sent (sends s.kind s.members s.me) a []) ++ orders_sent (sends seat1.kind seat1.members seat1.me) b (orders_after a [])) s0
    ∙ ap (λ (s : Seat). (bodies0 ++ orders_sent (sends kind n me) a []) ++ orders_sent (sends s.kind s.members s.me) b (orders_after a [])) s2
    ∙ append_assoc bodies0 (orders_sent (sends kind n me) a []) (orders_sent (sends kind n me) b (orders_after a []))
    ∙ ap (λ bs. bodies0 ++ bs) (sym (orders_sent-append (sends kind n me) a b []))

-- Orders one after another, by the words of the code -----------------------------------------------------------

drop_at : {A : Type 0} (xs : List A) (i : ℕ) (x : A) → slice_get xs i ≡ Some x → drop i xs ≡ x ∷ drop (i + 1) xs
drop_at xs i x at = drop_more xs i x (slice_get_within xs i x at) ∙ ap (λ y. y ∷ drop (i + 1) xs) (get_or_from_slice_get xs i x x at)

pub get_at : {A : Type 0} (xs : List A) (i : ℕ) (d x : A) → i < length xs → get_or xs i d ≡ x → slice_get xs i ≡ Some x
get_at xs i d x lt is = slice_get-get_or xs i d lt ∙ ap Some is

-- one order more of those that are left
order_more : (sends : Inputs → List (ℕ × Body)) (o : Order) (left rest : List Order) (mid whole : Inputs) (bodies bodies2 all : List (ℕ × Body)) →
    left ≡ o ∷ rest → orders_after left mid ≡ whole → bodies ++ orders_sent sends left mid ≡ all → bodies2 ≡ bodies ++ sends (Called o ∷ mid)
    → (orders_after rest (Called o ∷ mid) ≡ whole) × (bodies2 ++ orders_sent sends rest (Called o ∷ mid) ≡ all)
order_more sends o left rest mid whole bodies bodies2 all is after sent now = (
  ap (λ os. orders_after os mid) (sym is) ∙ after,
  ap (λ bs. bs ++ orders_sent sends rest (Called o ∷ mid)) now
      ∙ append_assoc bodies (sends (Called o ∷ mid)) (orders_sent sends rest (Called o ∷ mid))
      ∙ ap (λ os. bodies ++ orders_sent sends os mid) (sym is) ∙ sent,
)

pub give_more : (sends : Inputs → List (ℕ × Body)) (again : List Item) (i : ℕ) (item : Item) (mid whole : Inputs) (bodies bodies2 all : List (ℕ × Body)) →
    slice_get again i ≡ Some item → orders_after (map (λ x. Broadcast x) (drop i again)) mid ≡ whole → bodies ++ orders_sent sends (map (λ x. Broadcast x) (drop i again)) mid ≡ all
    → bodies2 ≡ bodies ++ sends (Called (Broadcast item) ∷ mid)
    → (orders_after (map (λ x. Broadcast x) (drop (i + 1) again)) (Called (Broadcast item) ∷ mid) ≡ whole)
    × (bodies2 ++ orders_sent sends (map (λ x. Broadcast x) (drop (i + 1) again)) (Called (Broadcast item) ∷ mid) ≡ all)
give_more sends again i item mid whole bodies bodies2 all at after sent now =
    order_more sends (Broadcast item) (map (λ x. Broadcast x) (drop i again)) (map (λ x. Broadcast x) (drop (i + 1) again)) mid whole bodies bodies2 all
    (ap (λ xs. map (λ x. Broadcast x) xs) (drop_at again i item at)) after sent now

pub tell_more : (sends : Inputs → List (ℕ × Body)) (row : List Bool) (who : ℕ) (mid whole : Inputs) (bodies bodies2 all : List (ℕ × Body)) →
    slice_get row who ≡ Some true → orders_after (suspicions_in who (drop who row)) mid ≡ whole → bodies ++ orders_sent sends (suspicions_in who (drop who row)) mid ≡ all
    → bodies2 ≡ bodies ++ sends (Called (Suspect who) ∷ mid)
    → (orders_after (suspicions_in (who + 1) (drop (who + 1) row)) (Called (Suspect who) ∷ mid) ≡ whole)
    × (bodies2 ++ orders_sent sends (suspicions_in (who + 1) (drop (who + 1) row)) (Called (Suspect who) ∷ mid) ≡ all)
tell_more sends row who mid whole bodies bodies2 all at after sent now =
    order_more sends (Suspect who) (suspicions_in who (drop who row)) (suspicions_in (who + 1) (drop (who + 1) row)) mid whole bodies bodies2 all
    (ap (suspicions_in who) (drop_at row who true at) ∙ ap (λ k. Suspect who ∷ suspicions_in k (drop (who + 1) row)) (sym (add-one who))) after sent now

pub tell_none : (sends : Inputs → List (ℕ × Body)) (row : List Bool) (who : ℕ) (mid whole : Inputs) (bodies all : List (ℕ × Body)) →
    slice_get row who ≡ Some false → orders_after (suspicions_in who (drop who row)) mid ≡ whole → bodies ++ orders_sent sends (suspicions_in who (drop who row)) mid ≡ all
    → (orders_after (suspicions_in (who + 1) (drop (who + 1) row)) mid ≡ whole) × (bodies ++ orders_sent sends (suspicions_in (who + 1) (drop (who + 1) row)) mid ≡ all)
tell_none sends row who mid whole bodies all at after sent =
    let is : suspicions_in who (drop who row) ≡ suspicions_in (who + 1) (drop (who + 1) row) =
    ap (suspicions_in who) (drop_at row who false at) ∙ ap (λ k. suspicions_in k (drop (who + 1) row)) (sym (add-one who)) in
    (ap (λ os. orders_after os mid) (sym is) ∙ after, ap (λ os. bodies ++ orders_sent sends os mid) (sym is) ∙ sent)
