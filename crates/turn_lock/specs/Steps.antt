-- What each kind of step tells the pass that makes it: of the number found, and of its view and slots before and after.
use Rattle.std.specs.Prelude.{◌≡◌, ◌≢◌, ℕ, List, [], ◌∷◌, length, Option, Some}
use Rattle.atomic_table.specs.Table.{Me, Step}
use Rattle.turn_lock.specs.declared.view.View.{View}
use Rattle.turn_lock.specs.declared.stage.Stage.TheVariants.{Idle, Waits, Turns, Joined}
use Rattle.turn_lock.specs.Lists.{IsPrefix, longer}
use Rattle.turn_lock.specs.Places.{Ascends}
use Rattle.turn_lock.specs.Stage.{IsInTurn, noted_at}
use Rattle.turn_lock.specs.View.{with_stage, after_turn}

-- a pass's view, and the slots that it holds
abbrev pub Holds : Type 0 → Type 0 → Type 0
Holds T E = Me (Option T) (View E)

module _ {T E : Type 0} where
  -- a compare-and-exchange of word 0, from n to n + 1, that found n drew the ticket n
  abbrev pub Drew : Step (Option T) → Holds T E → ℕ → Holds T E → Type 0
  Drew step old n new = (n ≡ step.first → new ≡ (with_stage old.0 (Waits n), old.1)) × (n ≢ step.first → new ≡ old)

  -- A load of word 1 that found the pass's ticket took the value out, and noted its list, which begins with what the
  -- pass has seen. One that found another number changed nothing.
  abbrev pub Looked : (T → List E) → Step (Option T) → Holds T E → ℕ → Holds T E → Type 0
  Looked list step old n new = (t : ℕ) → old.0.stage ≡ Waits t
      → (n ≡ t → (value : T) × (new ≡ (with_stage old.0 (Turns t (list value)), (0, Some value) ∷ old.1)) × IsPrefix old.0.seen (list value)) × (n ≢ t → new ≡ old)

  -- one more on word 1 ended the turn, gave back the value in the slot, and committed its list
  abbrev pub Finished : (T → List E) → Step (Option T) → Holds T E → ℕ → Holds T E → Type 0
  Finished list step old n new = (value : T) → IsInTurn old.0.stage → old.1 ≡ (0, Some value) ∷ [] → new ≡ (after_turn old.0 (noted_at old.0.stage) (list value), [])

  -- a load of word 0 after a join: both lists are prefixes of the longer, and the places of both rise
  abbrev pub Compared : Step (Option T) → Holds T E → ℕ → Holds T E → Type 0
  Compared step old n new = (a b : List E) → old.0.stage ≡ Joined a b → (new ≡ (with_stage old.0 Idle, old.1)) × IsPrefix a (longer a b) × IsPrefix b (longer a b) × Ascends 0 (length old.0.seen) old.0.own
