-- One member's share of reliable broadcasts.
use Rattle.std.specs.Prelude.{ℕ, Bool, true, false, ◌≡◌, if◌then◌else◌, not, List, [], ◌∷◌}
use Rattle.number_runs.specs.Runs.{holds, is_pair}
use Rattle.number_runs.specs.declared.runs.Run.{Run}
use Rattle.reliable_bcast.specs.declared.rb.Seen.{Seen}
use Rattle.reliable_bcast.specs.declared.rb.Seen.TheVariants.{First, Again}

-- a key: the origin of a message and its number there
abbrev pub Key : Type 0
Key = ℕ × ℕ

-- What befell a key at a member. Lists of events have the newest first.
pub data Event : Type 0 where
  Started : (key : Key) → Event
  Received : (key : Key) → Event

-- what is kept: the keys that were started, and those that were received
pub record Share : Type 0 where
  pub started : List Run
  pub received : List Run

-- whether a key was started, and whether it was received
abbrev pub was_started : List Event → Key → Bool
was_started [] q = false
was_started (Started key ∷ past) q = if is_pair key q then true else was_started past q
was_started (Received key ∷ past) q = was_started past q

abbrev pub was_received : List Event → Key → Bool
was_received [] q = false
was_received (Started key ∷ past) q = was_received past q
was_received (Received key ∷ past) q = if is_pair key q then true else was_received past q

-- a share is as these events leave it
pub record StandsFor (share : Share) (past : List Event) : Type 0 where
  pub started : (q : Key) → holds share.started q ≡ was_started past q
  pub received : (q : Key) → holds share.received q ≡ was_received past q

-- What a receipt of a key is after these events: the first where it was not received before, and to be passed on
-- where the member did not start it.
abbrev pub seen : List Event → Key → Seen
seen past key = if was_received past key then Again else First (not (was_started past key))
