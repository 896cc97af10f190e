-- How far a line has come, where these frames were received over it and this one is next.
use Rattle.std.specs.Prelude.{ℕ, false, ◌≡◌, ◌≢◌, ◌+◌, ◌<◌, ◌≤◌, List, ◌++◌, length, slice_get, Option, Some, None}
use Rattle.fifo_net.specs.Net.{IsPrefix}
use Rattle.upd_base.specs.Edge.{Rose}
use Rattle.upd_base.specs.declared.frame.Frame.{Frame}
use Rattle.upd_lines.specs.Line.{Told}
use Rattle.upd_lines.specs.declared.line.Line.{Ghosts}
use Rattle.line_rules.specs.Given.{Gave, GaveBytes, GaveExactly, IsEven}
use Rattle.line_rules.specs.Received.{bytes_of}
use Rattle.line_rules.specs.declared.line_state.Lie.{Lie}
use Rattle.line_rules.specs.declared.line_state.LineState.{LineState}
use Rattle.line_rules.specs.declared.line_state.LineState.TheVariants.{Missing, Serving, Down, Lied, Stopped}

-- What is told of a lie: the place among the bytes that the line gave since the start, which is not among those of the frames
-- received; the byte that was put there, and the one that came.
pub record IsLie (carried next : List ℕ) (old new : Told) (lie : Lie) : Type 0 where
  pub differs : lie.put ≢ lie.got
  pub put_there : slice_get (carried ++ next) lie.at ≡ Some lie.put
  pub behind : length carried ≤ lie.at
  pub given : old.got + lie.at < new.got
  pub not_faithful : new.faithful ≡ false
  pub got_there : GaveBytes old.bytes new.bytes (λ given. slice_get given lie.at ≡ Some lie.got)

-- Whatever became of it: it gave as many bytes as were carried, and as a part of the next frame has; where it tells, what was
-- carried came first.
abbrev pub GaveSome : List ℕ → List ℕ → Told → Told → Type 0
GaveSome carried next old new = (part : List ℕ) × IsPrefix part next × Gave old new (length (carried ++ part)) (λ given. IsPrefix carried given)

-- it gave what was carried, and a part of the next frame
abbrev pub GavePart : List ℕ → List ℕ → Told → Told → Type 0
GavePart carried next old new = (part : List ℕ) × IsPrefix part next × GaveExactly old new (carried ++ part)

-- A line serves: it gave the bytes of the frames, which are so many, and all that was put was got.
pub record IsServing (frames : List Frame) (old new : Told) (count : ℕ) : Type 0 where
  pub gave : GaveExactly old new (bytes_of frames)
  pub even : IsEven new
  pub counted : count ≡ length (bytes_of frames)

-- Its state by its cause: it failed; it lied; it stopped within a frame.
abbrev pub IsAt : List Frame → List Frame → Told → Told → ℕ → ℕ → LineState → Type 0
IsAt frames next old new before now Missing = ⊥
IsAt frames next old new before now (Serving count) = IsServing frames old new count
IsAt frames next old new before now Down = Rose before now × GavePart (bytes_of frames) (bytes_of next) old new
IsAt frames next old new before now (Lied lie) = IsLie (bytes_of frames) (bytes_of next) old new lie × GaveSome (bytes_of frames) (bytes_of next) old new
IsAt frames next old new before now Stopped = GavePart (bytes_of frames) (bytes_of next) old new

-- A place of a line among those of a group: where none could be made, there is none; a line comes back with its state, and its
-- count of faults has not fallen.
abbrev pub HasCome : {L : Type 0} → Ghosts L → List Frame → List Frame → Option L → Option L → LineState → Type 0
HasCome G frames next None None Missing = Unit {0}
HasCome G frames next (Some old) (Some new) state = IsAt frames next (G.told old) (G.told new) (G.faults old) (G.faults new) state × (G.faults old ≤ G.faults new)
HasCome G frames next old new state = ⊥

-- it is used no more, since it is not there, failed or lied
abbrev pub IsSetAside : LineState → Type 0
IsSetAside Missing = Unit {0}
IsSetAside (Serving count) = ⊥
IsSetAside Down = Unit {0}
IsSetAside (Lied lie) = Unit {0}
IsSetAside Stopped = ⊥

abbrev pub IsInService : LineState → Type 0
IsInService Missing = ⊥
IsInService (Serving count) = Unit {0}
IsInService Down = ⊥
IsInService (Lied lie) = ⊥
IsInService Stopped = ⊥
