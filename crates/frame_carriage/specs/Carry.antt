-- Why a frame did not come over a line.
use Rattle.std.specs.Prelude.{ℕ, false, ◌≡◌, ◌≢◌, ◌<◌, ◌≤◌, List, length, slice_get, Some}
use Rattle.fifo_net.specs.Net.{IsPrefix}
use Rattle.upd_base.specs.Edge.{Rose}
use Rattle.upd_base.specs.declared.edge.EdgeFault.{EdgeFault}
use Rattle.upd_base.specs.declared.edge.EdgeFault.TheVariants as edge
use Rattle.upd_lines.specs.Line.{Told}
use Rattle.line_rules.specs.Given.{Gave, GaveExactly}
use Rattle.frame_carriage.specs.declared.carriage.CarryFault.{CarryFault}
use Rattle.frame_carriage.specs.declared.carriage.CarryFault.TheVariants.{Down, Lied, NoMemory}

-- what a refused call of the line is told as
abbrev pub fault_of : EdgeFault → CarryFault
fault_of edge.Failed = Down
fault_of edge.NoMemory = NoMemory

-- it gave the beginning of these bytes
abbrev pub GaveFront : Told → Told → List ℕ → Type 0
GaveFront old new bytes = (front : List ℕ) × IsPrefix front bytes × GaveExactly old new front

-- Of these bytes it gave another one at this place, counted from 0. A faithful line never does.
pub record GaveAnother (old new : Told) (bytes : List ℕ) (at put got : ℕ) : Type 0 where
  pub differs : put ≢ got
  pub put_there : slice_get bytes at ≡ Some put
  pub not_faithful : new.faithful ≡ false
  pub given : (count : ℕ) × (at < count) × (count ≤ length bytes) × Gave old new count (λ given. slice_get given at ≡ Some got)

-- The line failed, or memory was wanted: until then it gave a beginning of the bytes. Or it gave another byte.
abbrev pub CarryCause : ℕ → ℕ → Told → Told → List ℕ → CarryFault → Type 0
CarryCause before now old new bytes Down = Rose before now × GaveFront old new bytes
CarryCause before now old new bytes (Lied at put got) = GaveAnother old new bytes at put got
CarryCause before now old new bytes NoMemory = GaveFront old new bytes
