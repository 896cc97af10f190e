-- The rule of the lock's table. It holds between any two steps.
use Rattle.std.specs.Prelude.{◌≡◌, ℕ, ◌+◌, ◌<◌, ◌≤◌, List, [], ◌∷◌, length, Option, Some, None, ⊤}
use Rattle.std.specs.List.{sum_by}
use mathlib.Core.Option.{none, some}
use mathlib.Core.Option as maybe
use lib.ListN.{get_elem?}
use Rattle.atomic_table.specs.Table.{State}
use Rattle.turn_lock.specs.declared.pass.TheConstants.{PARTS}
use Rattle.turn_lock.specs.declared.view.View.{View}
use Rattle.turn_lock.specs.declared.stage.Stage.{Stage}
use Rattle.turn_lock.specs.declared.stage.Stage.TheVariants.{Idle, Waits, Turns, Joined}
use Rattle.turn_lock.specs.Lists.{IsPrefix}
use Rattle.turn_lock.specs.Places.{Ascends, times, within}
use Rattle.turn_lock.specs.Stage.{HasTicket, ticket_count, IsInTurn}

module _ {E : Type 0} where
  -- A ticket is one of those that were drawn and whose turn is not finished. In a turn it is the next one, and the
  -- committed list was noted. The two lists of a join are both beginnings of the committed one.
  abbrev pub StageFits : ℕ → ℕ → List E → Stage E → Type 0
  StageFits served drawn committed Idle = ⊤
  StageFits served drawn committed (Waits t) = (served ≤ t) × (t < drawn)
  StageFits served drawn committed (Turns t noted) = (t ≡ served) × (t < drawn) × (noted ≡ committed)
  StageFits served drawn committed (Joined a b) = IsPrefix a committed × IsPrefix b committed

  -- one view beside the words and the committed list
  pub record Fits (served drawn : ℕ) (committed : List E) (v : View E) : Type 0 where
    pub stage : StageFits served drawn committed v.stage
    pub seen : IsPrefix v.seen committed
    pub own : Ascends 0 (length v.seen) v.own
    -- a spent view owns nothing, and is in no turn
    pub spent : v.parts ≡ 0 → (v.own ≡ []) × (v.stage ≡ Idle)

  -- all views beside the words and the committed list, where the opening list has the length `first`
  pub record Tallies (first served drawn : ℕ) (committed : List E) (views : List (View E)) : Type 0 where
    -- the tickets that are out and the turns finished make up the tickets drawn
    pub tickets : sum_by (λ (v : View E). ticket_count v.stage) views + served ≡ drawn
    -- no ticket is had twice
    pub apart : (i j t : ℕ) (v w : View E) → get_elem? views i ≡ some v → get_elem? views j ≡ some w → HasTicket v.stage t → HasTicket w.stage t → i ≡ j
    pub each : (i : ℕ) (v : View E) → get_elem? views i ≡ some v → Fits served drawn committed v
    -- each place past the opening list has one owner, and no other place has any
    pub owners : (p : ℕ) → sum_by (λ (v : View E). times p v.own) views ≡ within first (length committed) p
    pub parts : sum_by (λ (v : View E). v.parts) views ≡ PARTS

module _ {T E : Type 0} (list : T → List E) where
  -- The slot is out exactly while a view is in a turn. At home it has a value, which stands for the committed list.
  abbrev pub HomeFits : List E → List (View E) → maybe.Option (Option T) → Type 0
  HomeFits committed views none = (i : ℕ) × (v : View E) × (get_elem? views i ≡ some v) × IsInTurn v.stage
  HomeFits committed views (some None) = ⊥
  HomeFits committed views (some (Some value)) = (list value ≡ committed) × ((i : ℕ) (v : View E) → get_elem? views i ≡ some v → ¬ IsInTurn v.stage)

  -- the whole rule, where the lock was made of a value that stands for the opening list
  pub record Keeps (opening : List E) (s : State (Option T) (View E)) : Type 0 where
    pub drawn : ℕ
    pub served : ℕ
    pub committed : List E
    pub home : maybe.Option (Option T)
    pub words_are : s.words ≡ drawn ∷ served ∷ []
    pub small : drawn < 18446744073709551616
    pub homes_are : s.homes ≡ home ∷ []
    pub begins : IsPrefix opening committed
    pub home_fits : HomeFits committed s.views home
    pub views_fit : Tallies (length opening) served drawn committed s.views
