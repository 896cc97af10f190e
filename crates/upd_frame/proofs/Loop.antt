-- Reading items one after the other, as a loop does.
use Rattle.std.proofs.Common.{◌≡◌, ℕ, suc, ◌-◌, ◌+◌, ◌≤◌, ◌<◌, List, [], ◌∷◌, ◌++◌, Option, Some, None, Result, Ok, Err, refl, sym, ap, ◌∙◌, append_assoc, arith}
use Rattle.std.proofs.lemmas.List.{append-nil}
use Rattle.upd_base.specs.Item.{id_of}
use Rattle.upd_base.specs.declared.item.Item.{Item}
use Rattle.upd_frame.specs.declared.fault.FrameFault.{FrameFault}
use Rattle.upd_frame.specs.declared.fault.FrameFault.TheVariants.{Short, LongTail, BadTag, BadNumber, BadText, NoMemory}
use Rattle.upd_frame.specs.Reader.{Fails, go_on}
use Rattle.upd_frame.specs.Reading.{item, items}

abbrev Read : Type 0
Read = Result (List Item × List ℕ) FrameFault

-- what was read before, and what is still read
abbrev pub with_front : List Item → Result (List Item × List ℕ) FrameFault → Result (List Item × List ℕ) FrameFault
with_front front read = go_on read (λ xs rest. Ok (front ++ xs, rest))

regroup : (front : List Item) (x : Item) (read : Read) → with_front front (go_on read (λ xs rest. Ok (x ∷ xs, rest))) ≡ with_front (front ++ x ∷ []) read
regroup front x (Ok y) = ap (λ (xs : List Item). Ok (xs, y.1)) (simp append_assoc)
regroup front x (Err f) = refl

pub goes_on : (front : List Item) (count i : ℕ) (before : Option (ℕ × ℕ)) (all : ℕ) (left : List ℕ) (x : Item) (after : List ℕ) (total : Read) → i < count → item before all left ≡ Ok (x, after)
    → with_front front (items (count - i) before all left) ≡ total → with_front (front ++ x ∷ []) (items (count - (i + 1)) (Some (id_of x)) all after) ≡ total
unfolding items
goes_on front count i before all left x after total lt h so_far =
    let k : count - i ≡ suc (count - (i + 1)) = omega arith in
    let one : with_front front (items (count - i) before all left) ≡ with_front (front ++ x ∷ []) (items (count - (i + 1)) (Some (id_of x)) all after) = rw (k, h) (regroup front x (items (count - (i + 1)) (Some (id_of x)) all after)) in
    sym one ∙ so_far

stops : (f : FrameFault) (front : List Item) (count i : ℕ) (before : Option (ℕ × ℕ)) (all : ℕ) (left : List ℕ) (total : Read) → i < count → item before all left ≡ Err f
    → with_front front (items (count - i) before all left) ≡ total → total ≡ Err f
unfolding items
stops f front count i before all left total lt h so_far =
    let k : count - i ≡ suc (count - (i + 1)) = omega arith in
    let one : with_front front (items (count - i) before all left) ≡ Err f = rw (k, h) refl in
    sym so_far ∙ one

pub ends : (f : FrameFault) (front : List Item) (count i : ℕ) (before : Option (ℕ × ℕ)) (all : ℕ) (left : List ℕ) (total : Read) → i < count → Fails f (item before all left)
    → with_front front (items (count - i) before all left) ≡ total → Fails f total
ends NoMemory front count i before all left total lt h so_far = tt
ends Short front count i before all left total lt h so_far = stops Short front count i before all left total lt h so_far
ends (LongTail n) front count i before all left total lt h so_far = stops (LongTail n) front count i before all left total lt h so_far
ends (BadTag n) front count i before all left total lt h so_far = stops (BadTag n) front count i before all left total lt h so_far
ends (BadNumber n) front count i before all left total lt h so_far = stops (BadNumber n) front count i before all left total lt h so_far
ends (BadText n) front count i before all left total lt h so_far = stops (BadText n) front count i before all left total lt h so_far

pub is_done : (front : List Item) (count i : ℕ) (before : Option (ℕ × ℕ)) (all : ℕ) (left : List ℕ) (total : Read) → count ≤ i → with_front front (items (count - i) before all left) ≡ total → total ≡ Ok (front, left)
unfolding items
is_done front count i before all left total le so_far =
    let k : count - i ≡ 0 = omega arith in
    let one : with_front front (items (count - i) before all left) ≡ Ok (front, left) = rw k (ap (λ (xs : List Item). Ok (xs, left)) (append-nil front)) in
    sym so_far ∙ one
