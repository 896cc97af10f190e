-- Lines between members, and what a call does to one.
use Rattle.std.specs.Prelude.{ℕ, Bool, true, ◌≡◌, ◌+◌, ◌<◌, ◌≤◌, List, [], ◌++◌, length, take, Option, Some, None, option_map, IfSome, Result, Ok, Err}
use Rattle.upd_base.specs.declared.edge.EdgeFault.{EdgeFault}

-- the bytes that were put into a line, and those that were got from it
pub record Carried : Type 0 where
  pub put : List ℕ
  pub got : List ℕ

-- What a line tells: how many bytes were put and got, maybe the bytes themselves, and whether it is faithful.
pub record Told : Type 0 where
  pub put : ℕ
  pub got : ℕ
  pub bytes : Option Carried
  pub faithful : Bool

-- the same with these bytes put, or got, at the end
abbrev pub with_put : List ℕ → Carried → Carried
with_put bytes c = record { put = c.put ++ bytes; got = c.got }

abbrev pub with_got : List ℕ → Carried → Carried
with_got bytes c = record { put = c.put; got = c.got ++ bytes }

abbrev pub after_put : Told → List ℕ → Told
after_put t bytes = record { put = t.put + length bytes; got = t.got; bytes = option_map (with_put bytes) t.bytes; faithful = t.faithful }

abbrev pub after_get : Told → List ℕ → Told
after_get t bytes = record { put = t.put; got = t.got + length bytes; bytes = option_map (with_got bytes) t.bytes; faithful = t.faithful }

-- A put takes the first bytes of the piece, at least one where there is one. An error leaves the line.
abbrev pub Puts : Told → Told → Result ℕ EdgeFault → List ℕ → Type 0
Puts old new (Ok k) piece = (k ≤ length piece) × (0 < length piece → 0 < k) × (new ≡ after_put old (take k piece))
Puts old new (Err fault) piece = new ≡ old

-- A get writes bytes into the front of the buffer. None come into a buffer with room only where all that was put was
-- got. An error leaves the line.
abbrev pub Gets : Told → Told → Result ℕ EdgeFault → List ℕ → Type 0
Gets old new (Ok k) buf = (k ≤ length buf) × (k ≡ 0 → 0 < length buf → old.got ≡ old.put) × (new ≡ after_get old (take k buf))
Gets old new (Err fault) buf = new ≡ old

-- the bytes got begin those put
abbrev pub GivesInOrder : Carried → Type 0
GivesInOrder c = (rest : List ℕ) × (c.put ≡ c.got ++ rest)

-- What holds of every line: never more bytes were got than put; the numbers are those of the bytes, where they are told;
-- a faithful line tells them, and gives what was put, in order.
pub record IsSound (t : Told) : Type 0 where
  pub order : t.got ≤ t.put
  pub counts : IfSome t.bytes (λ c. (length c.put ≡ t.put) × (length c.got ≡ t.got))
  pub faithful : t.faithful ≡ true → (c : Carried) × (t.bytes ≡ Some c) × GivesInOrder c

-- a line that is new: nothing was put or got
pub record IsFresh (t : Told) : Type 0 where
  pub put : t.put ≡ 0
  pub got : t.got ≡ 0
  pub bytes : IfSome t.bytes (λ c. (c.put ≡ []) × (c.got ≡ []))
