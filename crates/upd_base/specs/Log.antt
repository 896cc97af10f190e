-- Logs: what a member delivered.
use Rattle.std.specs.Prelude.{ℕ, List}
use Rattle.upd_base.specs.declared.entry.Entry.{Entry}

-- What is seen of a log: its entries, the oldest first, and for how many more it has room.
pub record Logged : Type 0 where
  pub entries : List Entry
  pub spare : ℕ
