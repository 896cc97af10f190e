-- Lines that are made one after another.
use Rattle.std.proofs.Common.{ℕ, ◌≡◌, ◌∙◌, ◌⊎◌, inl, inr, ◌+◌, ◌*◌, ◌/◌, ◌%◌, ◌<◌, ◌≤◌, List, [], ◌∷◌, ◌++◌, length, Option, Some, None, sym, ap, subst, arith}
use Rattle.std.specs.Prelude.{All, slice_index_or}
use Rattle.std.proofs.lemmas.List.Elements.{All-append, All-cons, All-nil}
use Rattle.std.proofs.Math.Seq.{get_or-append_seam}
use Rattle.std.proofs.lemmas.List.{get_or_append_left, length-append}
use Rattle.std.proofs.lemmas.Bool.{cases_lt}
use Rattle.std.proofs.lemmas.Nat.{mul-add-lt, div-mul-add, mod-mul-add}
use Rattle.upd_base.specs.Edge.{Rose}
use Rattle.upd_lines.specs.declared.line.Line.{Ghosts}
use Rattle.line_rules.specs.Lines.{IsEvenLine, line_at}
use Rattle.top_calls.specs.Made.{AreMade, IsMade}

rose_since : (before mid now : ℕ) → before ≤ mid → Rose mid now → Rose before now
rose_since before mid now le rose = omega (arith, le, rose)

rose_later : (before mid now : ℕ) → Rose before mid → mid ≤ now → Rose before now
rose_later before mid now rose le = omega (arith, rose, le)

module _ {L : Type 0} (G : Ghosts L) where
  made_since : (before mid now : ℕ) (line : Option L) → before ≤ mid → IsMade G mid now line → IsMade G before now line
  made_since before mid now None le made = rose_since before mid now le made
  made_since before mid now (Some line) le made = made

  made_later : (before mid now : ℕ) (line : Option L) → IsMade G before mid line → mid ≤ now → IsMade G before now line
  made_later before mid now None made le = rose_later before mid now made le
  made_later before mid now (Some line) made le = made

  made_even : (before now : ℕ) (line : Option L) → IsMade G before now line → IsEvenLine G line
  made_even before now None made = tt
  made_even before now (Some line) made = made.0.got ∙ sym made.0.put

  -- the lines of the first places, for n members
  pub record MadeSoFar (n : ℕ) (before now : ℕ → ℕ → ℕ) (lines : List (Option L)) : Type 0 where
    pub later : (from to : ℕ) → before from to ≤ now from to
    pub each : (place : ℕ) → place < length lines → IsMade G (before (place / n) (place % n)) (now (place / n) (place % n)) (slice_index_or lines place None)
    pub even : All (IsEvenLine G) lines

  pub none_yet : (n : ℕ) (before : ℕ → ℕ → ℕ) → MadeSoFar n before before []
  none_yet n before = record { later = λ from to. omega arith; each = λ place lt. absurd (omega (arith, lt)); even = All-nil (IsEvenLine G) }

  pub one_more : (n : ℕ) (before mid now : ℕ → ℕ → ℕ) (lines : List (Option L)) (line : Option L) → MadeSoFar n before mid lines → ((from to : ℕ) → mid from to ≤ now from to)
      → IsMade G (mid (length lines / n) (length lines % n)) (now (length lines / n) (length lines % n)) line → MadeSoFar n before now (lines ++ line ∷ [])
  one_more n before mid now lines line so_far later made = record {
    later = λ from to. (let b = so_far.later from to in let m = later from to in omega (arith, b, m));
    each = λ place lt. at place (below_or place (let e = length-append lines (line ∷ []) in omega (arith, lt, e)));
    even = All-append (IsEvenLine G) lines (line ∷ []) so_far.even
        (All-cons (IsEvenLine G) line [] (made_even (mid (length lines / n) (length lines % n)) (now (length lines / n) (length lines % n)) line made) (All-nil (IsEvenLine G)));
  }
    where
      below_or : (place : ℕ) → place < length lines + 1 → (place < length lines) ⊎ (place ≡ length lines)
      below_or place lt = elim (cases_lt place (length lines)) [
        | inl l ↦ inl l
        | inr ge ↦ inr (omega (arith, lt, ge))
      ]

      at : (place : ℕ) → (place < length lines) ⊎ (place ≡ length lines)
          → IsMade G (before (place / n) (place % n)) (now (place / n) (place % n)) (slice_index_or (lines ++ line ∷ []) place None)
      at place (inl lt) =
          let front : slice_index_or (lines ++ line ∷ []) place None ≡ slice_index_or lines place None = get_or_append_left lines (line ∷ []) None place lt in
          subst (IsMade G (before (place / n) (place % n)) (now (place / n) (place % n))) (sym front)
          (made_later (before (place / n) (place % n)) (mid (place / n) (place % n)) (now (place / n) (place % n)) (slice_index_or lines place None) (so_far.each place lt) (later (place / n) (place % n)))
      at place (inr e) =
          let last : slice_index_or (lines ++ line ∷ []) place None ≡ line = ap (λ k. slice_index_or (lines ++ line ∷ []) k None) e ∙ get_or-append_seam lines line [] None in
          let here = made_since (before (length lines / n) (length lines % n)) (mid (length lines / n) (length lines % n)) (now (length lines / n) (length lines % n)) line (so_far.later (length lines / n) (length lines % n)) made in
          subst (IsMade G (before (place / n) (place % n)) (now (place / n) (place % n))) (sym last)
          (subst (λ k. IsMade G (before (k / n) (k % n)) (now (k / n) (k % n)) line) (sym e) here)

  pub all_made : (n : ℕ) (before now : ℕ → ℕ → ℕ) (lines : List (Option L)) → MadeSoFar n before now lines → length lines ≡ n * n → AreMade G n before now lines
  all_made n before now lines so_far many = record {
    places = many;
    each = λ from to lf lt.
        let place : ℕ = from * n + to in
        let within : place < length lines = subst (λ k. place < k) (sym many) (mul-add-lt from n to n lf lt) in
        let row : place / n ≡ from = div-mul-add from n to lt in
        let column : place % n ≡ to = mod-mul-add from n to lt in
        subst (λ i. IsMade G (before i to) (now i to) (line_at n lines from to)) row
        (subst (λ j. IsMade G (before (place / n) j) (now (place / n) j) (line_at n lines from to)) column (so_far.each place within));
  }
