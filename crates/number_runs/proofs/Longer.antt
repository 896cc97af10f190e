-- A run that gets longer, and one more run.
use Rattle.std.proofs.Common.{ℕ, zero, suc, ◌≡◌, ◌<◌, ◌≤◌, ◌+◌, inl, inr, eqb, leb, Bool, true, false, List, [], ◌∷◌, Some, refl, sym, ap, ◌∙◌, subst, arith, ◌&&◌, ◌||◌}
use Rattle.std.specs.Prelude.{set, slice_get, length}
use Rattle.std.specs.List.{All}
use Rattle.std.proofs.lemmas.Bool.{cases_eq, cases_lt, eq-eqb, ne_eqb, le-leb, lt-leb, or_left, or_from, and_from, and_left, and_right}
use Rattle.std.proofs.lemmas.List.Elements.{All-head, All-tail, All-set}
use Rattle.number_runs.specs.Runs.{is_pair, covers, holds, longer}
use Rattle.number_runs.specs.declared.runs.Run.{Run}

module _ (run : Run) (number : ℕ) (q : ℕ × ℕ) (next : run.last + 1 ≡ number) (some : run.first ≤ run.last) where
  -- what a run holds that ends one number later
  covers_one_more : covers (longer run number) q ≡ (is_pair (run.row, number) q || covers run q)
  covers_one_more =
      elim (cases_eq run.row q.0) [
        | inr ne ↦
            let off : eqb run.row q.0 ≡ false = ne_eqb run.row q.0 ne in
            and_left (eqb run.row q.0) (leb run.first q.1 && leb q.1 number) off
            ∙ sym (or_from (is_pair (run.row, number) q) (covers run q) (and_left (eqb run.row q.0) (eqb number q.1) off) (and_left (eqb run.row q.0) (leb run.first q.1 && leb q.1 run.last) off))
        | inl e ↦ elim (cases_eq number q.1) [
          | inl f ↦
              and_from (eqb run.row q.0) (leb run.first q.1 && leb q.1 number) (eq-eqb run.row q.0 e)
              (and_from (leb run.first q.1) (leb q.1 number) (le-leb run.first q.1 (omega (arith, next, some, f))) (le-leb q.1 number (omega (arith, f))))
              ∙ sym (or_left (is_pair (run.row, number) q) (covers run q) (and_from (eqb run.row q.0) (eqb number q.1) (eq-eqb run.row q.0 e) (eq-eqb number q.1 f)))
          | inr ne ↦
              ap (λ b. eqb run.row q.0 && (leb run.first q.1 && b)) (same_end ne)
              ∙ sym (ap (λ b. b || covers run q) (and_right (eqb run.row q.0) (eqb number q.1) (ne_eqb number q.1 ne)))
        ]
      ]
    where
      same_end : (number ≡ q.1 → ⊥) → leb q.1 number ≡ leb q.1 run.last
      same_end ne = elim (cases_lt run.last q.1) [
        | inl lt ↦ lt-leb q.1 number (omega (arith, next, lt, ne)) ∙ sym (lt-leb q.1 run.last lt)
        | inr ge ↦ le-leb q.1 number (omega (arith, next, ge)) ∙ sym (le-leb q.1 run.last (omega (arith, ge)))
      ]

turn_or : (a b c : Bool) → (b || (a || c)) ≡ (a || (b || c))
turn_or true true c = refl
turn_or true false c = refl
turn_or false b c = refl

join_or : (a b c : Bool) → ((a || b) || c) ≡ (a || (b || c))
join_or true b c = refl
join_or false b c = refl

-- what all hold when one of them does
pub holds_one_more : (runs : List Run) (at : ℕ) (run : Run) (row number : ℕ) (q : ℕ × ℕ) → slice_get runs at ≡ Some run → All (λ r. r.first ≤ r.last) runs → run.row ≡ row → run.last + 1 ≡ number
    → holds (set runs at (longer run number)) q ≡ (is_pair (row, number) q || holds runs q)
holds_one_more [] at run row number q is some same next = absurd cc
holds_one_more (r ∷ runs) zero run row number q is some same next =
    let e : r ≡ run = cc in
    ap (λ b. b || holds runs q) (covers_one_more run number q next (subst (λ x. x.first ≤ x.last) e (All-head (λ r. r.first ≤ r.last) r runs some)))
    ∙ join_or (is_pair (run.row, number) q) (covers run q) (holds runs q)
    ∙ ap (λ w. is_pair (w, number) q || (covers run q || holds runs q)) same
    ∙ ap (λ x. is_pair (row, number) q || (covers x q || holds runs q)) (sym e)
holds_one_more (r ∷ runs) (suc at) run row number q is some same next =
    ap (λ b. covers r q || b) (holds_one_more runs at run row number q is (All-tail (λ r. r.first ≤ r.last) r runs some) same next)
    ∙ turn_or (is_pair (row, number) q) (covers r q) (holds runs q)

pub run_at : (runs : List Run) (at : ℕ) → at < length runs → (run : Run) × (slice_get runs at ≡ Some run)
run_at [] at lt = absurd (omega (arith, lt))
run_at (r ∷ runs) zero lt = (r, refl)
run_at (r ∷ runs) (suc at) lt = run_at runs at (omega (arith, lt))

pub all_ordered : (runs : List Run) (at : ℕ) (run : Run) (number : ℕ) → slice_get runs at ≡ Some run → run.last + 1 ≡ number → All (λ r. r.first ≤ r.last) runs → All (λ r. r.first ≤ r.last) (set runs at (longer run number))
all_ordered runs at run number is next some =
    let below : run.first ≤ run.last = found runs at is some in
    All-set (λ r. r.first ≤ r.last) runs at (longer run number) (omega (arith, below, next)) some
  where
    found : (runs : List Run) (at : ℕ) → slice_get runs at ≡ Some run → All (λ r. r.first ≤ r.last) runs → run.first ≤ run.last
    found [] at is some = absurd cc
    found (r ∷ runs) zero is some = let e : r ≡ run = cc in subst (λ x. x.first ≤ x.last) e (All-head (λ r. r.first ≤ r.last) r runs some)
    found (r ∷ runs) (suc at) is some = found runs at is (All-tail (λ r. r.first ≤ r.last) r runs some)
