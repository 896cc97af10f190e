-- The one list that all logs begin: the longest log, and the lowest member that has it.
use Rattle.std.specs.Prelude.{ℕ, zero, suc, nat_lt, if◌then◌else◌, List, length}
use Rattle.upd_base.specs.Plan.{Planned}
use Rattle.upd_base.specs.declared.entry.Entry.{Entry}
use Rattle.group_run.specs.Group.{Rules}
use Rattle.group_run.specs.Run.{Events, log_in}

-- of two members the one with the longer log, at a tie the first
abbrev pub longer_of : Rules → Planned → Events → ℕ → ℕ → ℕ
longer_of rules plan past i j = if nat_lt (length (log_in rules plan past i)) (length (log_in rules plan past j)) then j else i

-- of so many members the lowest with a longest log
abbrev pub longest_below : Rules → Planned → Events → ℕ → ℕ
longest_below rules plan past zero = 0
longest_below rules plan past (suc k) = longer_of rules plan past (longest_below rules plan past k) k

abbrev pub canon_in : Rules → Planned → Events → ℕ
canon_in rules plan past = longest_below rules plan past plan.members

-- the longest log
abbrev pub one_list : Rules → Planned → Events → List Entry
one_list rules plan past = log_in rules plan past (canon_in rules plan past)
