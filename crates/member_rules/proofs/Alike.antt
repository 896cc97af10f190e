-- Modules whose versions have the same kinds and segments, and orders to all modules.
use Rattle.std.proofs.Common.{Some, ℕ, zero, suc, ◌≡◌, ◌≢◌, ◌<◌, ◌≤◌, ◌+◌, ◌-◌, ◌==◌, inl, inr, true, List, [], ◌∷◌, ◌++◌, length, map, refl, sym, ◌∙◌, ap, arith, append_assoc, append-nil}
use Rattle.std.specs.Prelude.{is_some}
use Rattle.std.proofs.lemmas.Bool.{eqb-true, eq-eqb}
use Rattle.std.proofs.lemmas.List.{map-append}
use Rattle.fifo_net.specs.Net.{Input, Called}
use Rattle.order_trait.specs.Runs.{Order, Inputs}
use Rattle.upd_base.specs.declared.body.Body.{Body}
use Rattle.upd_base.specs.declared.kind.Kind.{Kind}
use Rattle.upd_base.specs.declared.frame.Frame.{Frame}
use Rattle.group_run.specs.Group.{Group}
use Rattle.group_run.specs.Version.{segment, next_kind, kind_at, newest, newest_kind, inputs_at, given, has_ended, log_of}
use Rattle.group_run.specs.Part.{Part, with_modules, below}
use Rattle.group_run.specs.Turn.{Turn, stepped, order_step, all_told, framed, sent_at}
use Rattle.group_run.proofs.Lists.{tested, eqb_self}
use Rattle.group_run.proofs.Modules.{length-given, inputs_at-given_same, inputs_at-given_other}
use Rattle.group_versions.proofs.Versions.{seg_at, Grows, kind_at-newest, kind_kept, log_below, log_of-below, logs_same, kind_at-served}

-- all versions but the newest have ended
abbrev pub Ended : Group → ℕ → List Inputs → Type 0
Ended g me ms = (v : ℕ) → suc v < length ms → (kind : Kind) × (next_kind (seg_at g me v ms) ≡ Some kind)

pub newest_kind_is : (g : Group) (me : ℕ) (ms : List Inputs) → 1 ≤ length ms → newest_kind g me ms ≡ kind_at g me (newest ms) ms
newest_kind_is g me [] h = refl
newest_kind_is g me (m ∷ older) h = sym (kind_at-newest g me m older)

pub newest_is : (ms : List Inputs) → newest ms ≡ length ms - 1
newest_is [] = refl
newest_is (m ∷ older) = omega arith

pub newest_lt : (ms : List Inputs) → 1 ≤ length ms → newest ms < length ms
newest_lt [] h = absurd (omega arith)
newest_lt (m ∷ older) h = omega arith

pub has_ended_is : (g : Group) (me : ℕ) (ms : List Inputs) → 1 ≤ length ms → has_ended g me ms ≡ is_some (next_kind (seg_at g me (newest ms) ms))
has_ended_is g me [] h = absurd (omega arith)
has_ended_is g me (m ∷ older) h = rw (eqb_self (length older)) refl

-- The same kinds and segments.
pub record Alike (g : Group) (me : ℕ) (ms ns : List Inputs) : Type 0 where
  pub same_length : length ns ≡ length ms
  pub kinds : (v : ℕ) → v < length ms → kind_at g me v ns ≡ kind_at g me v ms
  pub segments : (v : ℕ) → v < length ms → seg_at g me v ns ≡ seg_at g me v ms

pub alike_self : (g : Group) (me : ℕ) (ms : List Inputs) → Alike g me ms ms
alike_self g me ms = record { same_length = refl; kinds = λ v h. refl; segments = λ v h. refl }

pub alike_then : (g : Group) (me : ℕ) (ms ns os : List Inputs) → Alike g me ms ns → Alike g me ns os → Alike g me ms os
alike_then g me ms ns os a b = record {
  same_length = b.same_length ∙ a.same_length;
  kinds = λ v h. let l : v < length ns = let e = a.same_length in omega arith in b.kinds v l ∙ a.kinds v h;
  segments = λ v h. let l : v < length ns = let e = a.same_length in omega arith in b.segments v l ∙ a.segments v h;
}

pub alike_ended : (g : Group) (me : ℕ) (ms ns : List Inputs) → Alike g me ms ns → Ended g me ms → Ended g me ns
alike_ended g me ms ns a ended v h =
    let l : suc v < length ms = let e = a.same_length in omega arith in
    let l2 : v < length ms = omega arith in
    let e = ended v l in
    (e.0, ap next_kind (a.segments v l2) ∙ e.1)

pub alike_newest : (g : Group) (me : ℕ) (ms ns : List Inputs) → Alike g me ms ns → newest ns ≡ newest ms
alike_newest g me ms ns a = newest_is ns ∙ ap (λ k. k - 1) a.same_length ∙ sym (newest_is ms)

pub alike_open : (g : Group) (me : ℕ) (ms ns : List Inputs) → 1 ≤ length ms → Alike g me ms ns → has_ended g me ns ≡ has_ended g me ms
alike_open g me ms ns some a =
    let s : 1 ≤ length ns = let e = a.same_length in omega arith in
    has_ended_is g me ns s
    ∙ ap (λ v. is_some (next_kind (seg_at g me v ns))) (alike_newest g me ms ns a)
    ∙ ap (λ xs. is_some (next_kind xs)) (a.segments (newest ms) (newest_lt ms some))
    ∙ sym (has_ended_is g me ms some)

pub alike_kind : (g : Group) (me : ℕ) (ms ns : List Inputs) → 1 ≤ length ms → Alike g me ms ns → newest_kind g me ns ≡ newest_kind g me ms
alike_kind g me ms ns some a =
    let s : 1 ≤ length ns = let e = a.same_length in omega arith in
    newest_kind_is g me ns s
    ∙ ap (λ v. kind_at g me v ns) (alike_newest g me ms ns a)
    ∙ a.kinds (newest ms) (newest_lt ms some)
    ∙ sym (newest_kind_is g me ms some)

pub alike_log : (g : Group) (me : ℕ) (ms ns : List Inputs) → Alike g me ms ns → log_of g me ns ≡ log_of g me ms
alike_log g me ms ns a =
    log_of-below g me ns
    ∙ ap (λ k. log_below g me ns k) a.same_length
    ∙ logs_same g me me ns ms (length ms) (λ u h. a.segments u h)
    ∙ sym (log_of-below g me ms)

-- An input that makes the module of its version deliver nothing.
pub alike_given : (g : Group) (me v : ℕ) (x : Input Order Body) (ms : List Inputs) → Ended g me ms → v < length ms
    → g.rules.delivers (kind_at g me v ms) g.members me (x ∷ inputs_at v ms) ≡ g.rules.delivers (kind_at g me v ms) g.members me (inputs_at v ms)
    → Alike g me ms (given v x ms)
alike_given g me v x ms ended lt same = record {
  same_length = length-given v x ms;
  kinds = kept;
  segments = λ u h.
      ap (λ kd. segment g u (g.rules.delivers kd g.members me (inputs_at u (given v x ms)))) (kept u h)
      ∙ ap (segment g u) (at_version u);
}
  where
    at_version : (u : ℕ) → g.rules.delivers (kind_at g me u ms) g.members me (inputs_at u (given v x ms)) ≡ g.rules.delivers (kind_at g me u ms) g.members me (inputs_at u ms)
    at_version u = elim (tested (u == v)) [
      | inl e ↦ let is : u ≡ v = eqb-true u v e in
          rw is (ap (λ xs. g.rules.delivers (kind_at g me v ms) g.members me xs) (inputs_at-given_same v x ms lt) ∙ same)
      | inr e ↦ let ne : u ≢ v = λ p. let q = eq-eqb u v p in cc in
          ap (λ xs. g.rules.delivers (kind_at g me u ms) g.members me xs) (inputs_at-given_other v u x ms ne)
    ]

    grown : Grows g me ms (given v x ms)
    grown = record {
      same_length = length-given v x ms;
      ended = ended;
      prefix = λ u h. ([], at_version u ∙ sym (append-nil (g.rules.delivers (kind_at g me u ms) g.members me (inputs_at u ms))));
    }

    kept : (u : ℕ) → u < length ms → kind_at g me u (given v x ms) ≡ kind_at g me u ms
    kept u h = kind_kept g me ms (given v x ms) grown u h

-- Orders to all modules -------------------------------------------------------------------------------------------

pub all_told-append : (g : Group) (me : ℕ) (t : Turn) (xs ys : List (ℕ × Order)) → all_told g me t (xs ++ ys) ≡ all_told g me (all_told g me t xs) ys
all_told-append g me t [] ys = refl
all_told-append g me t (x ∷ xs) ys = all_told-append g me (stepped g me t (order_step x)) xs ys

-- an order to each module below a version
abbrev pub told_below : Group → ℕ → Turn → Order → ℕ → Turn
told_below g me t order n = all_told g me t (map (λ v. (v, order)) (below n))

pub told_next : (g : Group) (me : ℕ) (t : Turn) (order : Order) (n : ℕ) → told_below g me t order (suc n) ≡ stepped g me (told_below g me t order n) (order_step (n, order))
told_next g me t order n =
    ap (all_told g me t) (map-append (λ v. (v, order)) (below n) (n ∷ []))
    ∙ all_told-append g me t (map (λ v. (v, order)) (below n)) ((n, order) ∷ [])

-- the modules after it
abbrev pub told_modules : Order → ℕ → List Inputs → List Inputs
told_modules order zero ms = ms
told_modules order (suc v) ms = given v (Called order) (told_modules order v ms)

pub told_part : (g : Group) (me : ℕ) (t : Turn) (order : Order) (n : ℕ) → (told_below g me t order n).part ≡ with_modules t.part (told_modules order n t.part.modules)
told_part g me t order zero = refl
told_part g me t order (suc n) =
    ap (λ (u : Turn). u.part) (told_next g me t order n)
    ∙ ap (λ (p : Part). with_modules p (given n (Called order) p.modules)) (told_part g me t order n)

-- what so many modules, from one version on, send by f
abbrev pub run_of : (ℕ → List (ℕ × Frame)) → ℕ → ℕ → List (ℕ × Frame)
run_of f k zero = []
run_of f k (suc n) = f k ++ run_of f (suc k) n

pub run_of-more : (f : ℕ → List (ℕ × Frame)) (k n : ℕ) → run_of f k (suc n) ≡ run_of f k n ++ f (k + n)
run_of-more f k zero = let e : k ≡ k + 0 = omega arith in append-nil (f k) ∙ ap f e
run_of-more f k (suc n) =
    let e : suc k + n ≡ k + suc n = omega arith in
    ap (λ ys. f k ++ ys) (run_of-more f (suc k) n ∙ ap (λ j. run_of f (suc k) n ++ f j) e)
    ∙ sym (append_assoc (f k) (run_of f (suc k) n) (f (k + suc n)))

-- Each module below a version has one order more, and nothing else changed.
pub record Told (g : Group) (me : ℕ) (order : Order) (n : ℕ) (ms ns : List Inputs) : Type 0 where
  pub alike : Alike g me ms ns
  pub below : (u : ℕ) → u < n → inputs_at u ns ≡ Called order ∷ inputs_at u ms
  pub above : (u : ℕ) → n ≤ u → inputs_at u ns ≡ inputs_at u ms

pub all_told_once : (g : Group) (me : ℕ) (order : Order) (n : ℕ) (ms : List Inputs) → g.rules.serves g.first ≡ true → Ended g me ms
    → ((kind : Kind) → g.rules.serves kind ≡ true → (inputs : Inputs) → g.rules.delivers kind g.members me (Called order ∷ inputs) ≡ g.rules.delivers kind g.members me inputs)
    → n ≤ length ms → Told g me order n ms (told_modules order n ms)
all_told_once g me order zero ms first ended calm le = record {
  alike = alike_self g me ms;
  below = λ u h. absurd (omega arith);
  above = λ u h. refl;
}
all_told_once g me order (suc n) ms first ended calm le =
    let before = all_told_once g me order n ms first ended calm (omega arith) in
    let ns = told_modules order n ms in
    let lt : n < length ns = let e = before.alike.same_length in omega arith in
    let ended2 = alike_ended g me ms ns before.alike ended in
    record {
      alike = alike_then g me ms ns (given n (Called order) ns) before.alike
          (alike_given g me n (Called order) ns ended2 lt (calm (kind_at g me n ns) (kind_at-served g me ns first n lt) (inputs_at n ns)));
      below = λ u h. below_next u h before lt;
      above = λ u h. inputs_at-given_other n u (Called order) ns (omega arith) ∙ before.above u (omega arith);
    }
  where
    below_next : (u : ℕ) → u < suc n → Told g me order n ms (told_modules order n ms) → n < length (told_modules order n ms)
        → inputs_at u (given n (Called order) (told_modules order n ms)) ≡ Called order ∷ inputs_at u ms
    below_next u h before lt = elim (tested (u == n)) [
      | inl e ↦ let is : u ≡ n = eqb-true u n e in
          rw is (inputs_at-given_same n (Called order) (told_modules order n ms) lt ∙ ap (λ xs. Called order ∷ xs) (before.above n (omega arith)))
      | inr e ↦ let ne : u ≢ n = λ p. let q = eq-eqb u n p in cc in
          inputs_at-given_other n u (Called order) (told_modules order n ms) ne ∙ before.below u (omega arith)
    ]

-- the frames of an order to all modules
pub told_frames : (g : Group) (me : ℕ) (t : Turn) (order : Order) (n : ℕ) → g.rules.serves g.first ≡ true → Ended g me t.part.modules
    → ((kind : Kind) → g.rules.serves kind ≡ true → (inputs : Inputs) → g.rules.delivers kind g.members me (Called order ∷ inputs) ≡ g.rules.delivers kind g.members me inputs)
    → n ≤ length t.part.modules
    → (told_below g me t order n).frames ≡ t.frames ++ run_of (λ u. sent_at g me t.part (order_step (u, order))) 0 n
told_frames g me t order zero first ended calm le = sym (append-nil t.frames)
told_frames g me t order (suc n) first ended calm le =
    let ms = t.part.modules in
    let before = all_told_once g me order n ms first ended calm (omega arith) in
    let ns = told_modules order n ms in
    let f : ℕ → List (ℕ × Frame) = λ u. sent_at g me t.part (order_step (u, order)) in
    let old : Turn = told_below g me t order n in
    let here : sent_at g me old.part (order_step (n, order)) ≡ f n =
    ap (λ (p : Part). sent_at g me p (order_step (n, order))) (told_part g me t order n)
    ∙ ap (λ kd. framed n (g.rules.sends kd g.members me (Called order ∷ inputs_at n ns))) (before.alike.kinds n (omega arith))
    ∙ ap (λ xs. framed n (g.rules.sends (kind_at g me n ms) g.members me (Called order ∷ xs))) (before.above n (omega arith)) in
    let z : 0 + n ≡ n = omega arith in
    ap (λ (u : Turn). u.frames) (told_next g me t order n)
    ∙ ap (λ ys. ys ++ sent_at g me old.part (order_step (n, order))) (told_frames g me t order n first ended calm (omega arith))
    ∙ append_assoc t.frames (run_of f 0 n) (sent_at g me old.part (order_step (n, order)))
    ∙ ap (λ ys. t.frames ++ ys) (ap (λ zs. run_of f 0 n ++ zs) (here ∙ ap f (sym z)) ∙ sym (run_of-more f 0 n))
