-- The links as rings, of which one changes.
use Rattle.std.proofs.Common.{ℕ, zero, suc, true, ◌+◌, ◌*◌, ◌-◌, ◌/◌, ◌%◌, ◌<◌, ◌≤◌, ◌≡◌, ◌≢◌, List, [], ◌∷◌, ◌++◌, length, map, get_or, set, refl, ap, sym, ◌∙◌, subst, append_assoc, arith}
use Rattle.std.proofs.lemmas.Nat.{mul-add-lt, div-mul-add, mod-mul-add}
use Rattle.std.proofs.lemmas.List.{map-set, get_or-map, get_or-set_same, get_or-set_other, length-map}
use Rattle.std.proofs.lemmas.Bool.Decides.{nat_tests}
use Rattle.std.specs.VecDeque.{deque_len, deque_capacity}
use Rattle.std.specs.declared.alloc.Global.{Global}
use Rattle.std.specs.declared.collections.VecDeque.{VecDeque}
use Rattle.upd_base.specs.declared.frame.Frame.{Frame}
use Rattle.fifo_link.specs.Links.{Linked, on_link, spare_of, is_other, LeavesOthers}

abbrev pub Ring : Type 0
Ring = VecDeque Frame Global

abbrev pub room : Ring → ℕ
room ring = deque_capacity ring - deque_len ring

-- what is seen of so many members' rings
abbrev pub linked : ℕ → List Ring → Linked
linked members rings = record { members = members; waiting = map (λ (r : Ring). r.items) rings; spares = map room rings }

not_itself : (i j from to : ℕ) → i ≡ from → j ≡ to → is_other i j from to ≡ true → ⊥
not_itself i j from to p q o = grind (arith, nat_tests)

-- different links have different places
pub places_differ : (n i j from to : ℕ) → j < n → to < n → is_other i j from to ≡ true → i * n + j ≢ from * n + to
places_differ n i j from to a b o e =
    let p : i ≡ from = sym (div-mul-add i n j a) ∙ ap (λ k. k / n) e ∙ div-mul-add from n to b in
    let q : j ≡ to = sym (mod-mul-add i n j a) ∙ ap (λ k. k % n) e ∙ mod-mul-add from n to b in
    not_itself i j from to p q o

-- what a change of the ring of one link shows
pub record Touched (old new : Linked) (from to : ℕ) (ring next : Ring) : Type 0 where
  pub was : on_link old from to ≡ ring.items
  pub is : on_link new from to ≡ next.items
  pub had : spare_of old from to ≡ room ring
  pub has : spare_of new from to ≡ room next
  pub others : LeavesOthers old new from to

seen : {B : Type 0} (f : Ring → B) (rings : List Ring) (place : ℕ) (ring : Ring) (e : B) → place < length rings → ring ≡ get_or rings place ring → get_or (map f rings) place e ≡ f ring
seen f rings place ring e lt is = get_or-map f rings place ring e lt ∙ ap f (sym is)

changed : {B : Type 0} (f : Ring → B) (rings : List Ring) (place : ℕ) (next : Ring) (e : B) → place < length rings → get_or (map f (set rings place next)) place e ≡ f next
changed f rings place next e lt =
    let l : place < length (map f rings) = let s = length-map rings f in omega (arith, s, lt) in
    ap (λ ys. get_or ys place e) (map-set f rings place next) ∙ get_or-set_same (map f rings) place (f next) e l

kept : {B : Type 0} (f : Ring → B) (rings : List Ring) (place at : ℕ) (next : Ring) (e : B) → at ≢ place → get_or (map f (set rings place next)) at e ≡ get_or (map f rings) at e
kept f rings place at next e other =
    ap (λ ys. get_or ys at e) (map-set f rings place next) ∙ get_or-set_other (map f rings) place at (f next) e other

le_of_same : (a b : ℕ) → b ≡ a → a ≤ b
le_of_same a b e = grind arith

touched_inside : (n : ℕ) (rings : List Ring) (from to : ℕ) (ring next : Ring) → length rings ≡ n * n → from < n → to < n → ring ≡ get_or rings (from * n + to) ring
    → Touched (linked n rings) (linked n (set rings (from * n + to) next)) from to ring next
touched_inside n rings from to ring next size f t is =
    let below = mul-add-lt from n to n f t in
    let lt : from * n + to < length rings = omega (arith, below, size) in
    record {
      was = seen (λ (r : Ring). r.items) rings (from * n + to) ring [] lt is;
      is = changed (λ (r : Ring). r.items) rings (from * n + to) next [] lt;
      had = seen room rings (from * n + to) ring 0 lt is;
      has = changed room rings (from * n + to) next 0 lt;
      others = λ i j a b o.
          let other = places_differ n i j from to b t o in (
            kept (λ (r : Ring). r.items) rings (from * n + to) (i * n + j) next [] other,
            le_of_same (get_or (map room rings) (i * n + j) 0) (get_or (map room (set rings (from * n + to) next)) (i * n + j) 0) (kept room rings (from * n + to) (i * n + j) next 0 other),
          );
    }

pub touched : (n : ℕ) (old : Linked) (rings : List Ring) (place from to : ℕ) (ring next : Ring) → linked n rings ≡ old → length rings ≡ n * n → from < old.members → to < old.members
    → place ≡ from * old.members + to → ring ≡ get_or rings place ring → Touched old (linked n (set rings place next)) from to ring next
touched n old rings place from to ring next view size = subst (λ (o : Linked). from < o.members → to < o.members → place ≡ from * o.members + to → ring ≡ get_or rings place ring → Touched o (linked n (set rings place next)) from to ring next) view
    (λ f t at. subst (λ (p : ℕ). ring ≡ get_or rings p ring → Touched (linked n rings) (linked n (set rings p next)) from to ring next) (sym at) (touched_inside n rings from to ring next size f t))

-- a frame more was sent
pub sent_more : (frame : Frame) (xs ys sent taken : List Frame) → ys ≡ xs ++ frame ∷ [] → sent ≡ taken ++ xs → sent ++ frame ∷ [] ≡ taken ++ ys
sent_more frame xs ys sent taken e s = ap (λ l. l ++ frame ∷ []) s ∙ append_assoc taken xs (frame ∷ []) ∙ ap (λ l. taken ++ l) (sym e)

-- what left was taken
pub taken_more : (left xs ys sent taken : List Frame) → xs ≡ left ++ ys → sent ≡ taken ++ xs → sent ≡ (taken ++ left) ++ ys
taken_more left xs ys sent taken e s = s ∙ ap (λ l. taken ++ l) e ∙ sym (append_assoc taken left ys)

-- a ring with the same frames
pub waiting_same : (n : ℕ) (old : Linked) (rings : List Ring) (place : ℕ) (ring next : Ring) → linked n rings ≡ old → ring ≡ get_or rings place ring → next.items ≡ ring.items
    → map (λ (r : Ring). r.items) (set rings place next) ≡ old.waiting
waiting_same n old rings place ring next view is same = set_same (λ (r : Ring). r.items) rings place ring next is same ∙ ap (λ (o : Linked). o.waiting) view
  where
    set_same : {B : Type 0} (f : Ring → B) (rs : List Ring) (p : ℕ) (r s : Ring) → r ≡ get_or rs p r → f s ≡ f r → map f (set rs p s) ≡ map f rs
    set_same f [] p r s e q = refl
    set_same f (x ∷ rs) zero r s e q = ap (λ y. y ∷ map f rs) (q ∙ ap f e)
    set_same f (x ∷ rs) (suc p) r s e q = ap (λ ys. f x ∷ ys) (set_same f rs p r s e q)
