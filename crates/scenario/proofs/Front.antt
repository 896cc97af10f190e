-- The reading of the first bytes past the limit is the reading of all.
use Rattle.std.proofs.Common.{◌≡◌, ℕ, ◌+◌, ◌<◌, ◌≤◌, List, length, take, sym, ap, ◌∙◌, Ok, Err, arith, inl, inr, length-take}
use Rattle.std.proofs.lemmas.Bool.{cases_lt, lt-leb}
use Rattle.std.proofs.lemmas.List.{take_all}
use Rattle.upd_base.specs.Plan.{Planned}
use Rattle.scenario.specs.declared.fault.ScenarioFault.TheVariants.{TooLong}
use Rattle.scenario.specs.Gives.{◌>>=◌}
use Rattle.scenario.specs.Tree.{check}
use Rattle.scenario.specs.Reading.{reading, tree, plan_of}
use Rattle.scenario.specs.declared.root.TheConstants.{MAX_TEXT}

-- more than the limit
pub too_long : (bytes : List ℕ) → MAX_TEXT < length bytes → reading bytes ≡ Err TooLong
unfolding reading
too_long bytes h = ap (λ b. check b TooLong >>= λ _. tree bytes >>= plan_of) (lt-leb (length bytes) MAX_TEXT h)

pub reading_front : (all : List ℕ) → reading (take (MAX_TEXT + 1) all) ≡ reading all
reading_front all = elim (cases_lt MAX_TEXT (length all)) [
  | inl lt ↦ (let long : MAX_TEXT < length (take (MAX_TEXT + 1) all) = omega (arith, length-take (MAX_TEXT + 1) all) in too_long (take (MAX_TEXT + 1) all) long ∙ sym (too_long all lt))
  | inr le ↦ ap reading (take_all (MAX_TEXT + 1) all (omega arith))
]

pub within_limit : (bytes : List ℕ) (p : Planned) → reading bytes ≡ Ok p → length bytes ≤ MAX_TEXT
within_limit bytes p e = elim (cases_lt MAX_TEXT (length bytes)) [
  | inl lt ↦ (let no : Err TooLong ≡ Ok p = sym (too_long bytes lt) ∙ e in cc)
  | inr le ↦ le
]
