-- Frames from a stream of bytes.
use Rattle.std.specs.Prelude.{◌≡◌, ℕ, List, [], ◌∷◌, ◌++◌, IsErr, Option, Some, None, Result, Ok, Err}
use Rattle.std.specs.List.{flat_map, AllByRecursion}
use Rattle.upd_base.specs.declared.frame.Frame.{Frame}
use Rattle.upd_frame.specs.declared.fault.FrameFault.{FrameFault}
use Rattle.upd_frame.specs.declared.fault.FrameFault.TheVariants.{Short, LongTail, NoMemory}
use Rattle.upd_frame.specs.Spelling.{spelling, IsFrame}
use Rattle.upd_frame.specs.Reading.{front}

-- What is answered where these bytes are left of a stream, and what is left then: the frame that begins them; None
-- exactly where reading them is cut short; or the fault of a field. Only a frame takes bytes.
abbrev pub IsNext : Result (Option Frame) FrameFault → List ℕ → List ℕ → Type 0
IsNext (Ok (Some f)) left rest = front left ≡ Ok (f, rest)
IsNext (Ok None) left rest = (front left ≡ Err Short) × (rest ≡ left)
IsNext (Err NoMemory) left rest = rest ≡ left
IsNext (Err Short) left rest = ⊥
IsNext (Err (LongTail place)) left rest = ⊥
IsNext (Err fault) left rest = (front left ≡ Err fault) × (rest ≡ left)

-- the stream is the spellings of these frames, one after another, and then what begins with none
pub record Splits (stream : List ℕ) (frames : List Frame) (rest : List ℕ) : Type 0 where
  pub whole : stream ≡ flat_map spelling frames ++ rest
  pub each : AllByRecursion IsFrame frames
  pub none : IsErr (front rest)

-- a stream splits so in one way
abbrev pub SplitsOneWay : Type 0
SplitsOneWay = (stream : List ℕ) (frames others : List Frame) (rest left : List ℕ) → Splits stream frames rest → Splits stream others left → (frames ≡ others) × (rest ≡ left)
