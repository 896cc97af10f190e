-- Where a pass stands in its turns.
use Rattle.std.specs.Prelude.{◌≡◌, ℕ, Bool, true, false, List, [], ◌∷◌, Option, None, ⊤}
use Rattle.turn_lock.specs.declared.stage.Stage.{Stage}
use Rattle.turn_lock.specs.declared.stage.Stage.TheVariants.{Idle, Waits, Turns, Joined}

module _ {E : Type 0} where
  -- it has this ticket
  abbrev pub HasTicket : Stage E → ℕ → Type 0
  HasTicket Idle t = ⊥
  HasTicket (Waits u) t = u ≡ t
  HasTicket (Turns u noted) t = u ≡ t
  HasTicket (Joined a b) t = ⊥

  -- 1 with a ticket, and 0 with none
  abbrev pub ticket_count : Stage E → ℕ
  ticket_count Idle = 0
  ticket_count (Waits u) = 1
  ticket_count (Turns u noted) = 1
  ticket_count (Joined a b) = 0

  -- it is in a turn
  abbrev pub IsInTurn : Stage E → Type 0
  IsInTurn Idle = ⊥
  IsInTurn (Waits u) = ⊥
  IsInTurn (Turns u noted) = ⊤
  IsInTurn (Joined a b) = ⊥

  -- the list that its turn noted; out of a turn there is none
  abbrev pub noted_at : Stage E → List E
  noted_at Idle = []
  noted_at (Waits u) = []
  noted_at (Turns u noted) = noted
  noted_at (Joined a b) = []

  -- between two calls it is in no turn, or in one
  abbrev pub is_settled : Stage E → Bool
  is_settled Idle = true
  is_settled (Waits u) = false
  is_settled (Turns u noted) = true
  is_settled (Joined a b) = false

-- the slots that a pass holds then: in a turn it has the value out, and has left nothing in the slot
abbrev pub slots_at : {T E : Type 0} → Stage E → List (ℕ × Option T)
slots_at Idle = []
slots_at (Waits u) = []
slots_at (Turns u noted) = (0, None) ∷ []
slots_at (Joined a b) = []
