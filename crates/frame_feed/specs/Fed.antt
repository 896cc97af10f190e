-- What a feed keeps of its stream.
use Rattle.std.specs.Prelude.{ℕ, zero, suc, ◌≤◌, ◌-◌, List, length, take, drop, None}
use Rattle.upd_frame.specs.declared.progress.Stage.{Stage}
use Rattle.upd_frame.specs.declared.progress.Stage.TheVariants.{Start, Within}
use Rattle.upd_frame.specs.Progress.{Leaves}

-- So many bytes are taken, and so many are taken or read: of those that are left, reading came to this stage.
pub record IsFed (bytes : List ℕ) (taken read : ℕ) (stage : Stage) : Type 0 where
  pub behind : taken ≤ read
  pub within : read ≤ length bytes
  pub leaves : Leaves (take (read - taken) (drop taken bytes)) stage

-- the stage with so many bytes of text still to come, where some are
unfoldable pub with_text : ℕ → Stage → Stage
with_text zero stage = stage
with_text (suc n) Start = Within (suc n) 0 None
with_text (suc n) (Within size count before) = Within (suc n) count before
