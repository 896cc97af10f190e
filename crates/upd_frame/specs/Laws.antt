-- What holds of all spellings.
use Rattle.std.specs.Prelude.{◌≡◌, ◌≢◌, ℕ, List, [], ◌++◌, Result, Ok, Err}
use Rattle.upd_base.specs.declared.frame.Frame.{Frame}
use Rattle.upd_frame.specs.declared.fault.FrameFault.{FrameFault}
use Rattle.upd_frame.specs.declared.fault.FrameFault.TheVariants.{Short, LongTail, BadTag, BadNumber, BadText, NoMemory}
use Rattle.upd_frame.specs.Spelling.{spelling, IsFrame}
use Rattle.upd_frame.specs.Reading.{front, reading}

-- a fault of a field, and not of the bytes' end
abbrev pub IsOfField : FrameFault → Type 0
IsOfField (BadTag place) = Unit {0}
IsOfField (BadNumber place) = Unit {0}
IsOfField (BadText place) = Unit {0}
IsOfField Short = ⊥
IsOfField (LongTail place) = ⊥
IsOfField NoMemory = ⊥

-- what may be wrong where bytes may follow a frame
abbrev pub IsOfFront : FrameFault → Type 0
IsOfFront (BadTag place) = Unit {0}
IsOfFront (BadNumber place) = Unit {0}
IsOfFront (BadText place) = Unit {0}
IsOfFront Short = Unit {0}
IsOfFront (LongTail place) = ⊥
IsOfFront NoMemory = Unit {0}

-- each proper front of a spelling is cut short
abbrev pub FrontsAreShort : Type 0
FrontsAreShort = (bytes more : List ℕ) (f : Frame) → IsFrame f → bytes ++ more ≡ spelling f → more ≢ [] → reading bytes ≡ Err Short

-- no spelling begins another: a frame that is spelled at the front of bytes is the only one
abbrev pub NoneBeginsAnother : Type 0
NoneBeginsAnother = (f g : Frame) (more rest : List ℕ) → IsFrame f → IsFrame g → spelling f ++ more ≡ spelling g ++ rest → (f ≡ g) × (more ≡ rest)

-- a frame that is spelled at the front is read there, whatever follows
abbrev pub FrontsAreRead : Type 0
FrontsAreRead = (f : Frame) (more : List ℕ) → IsFrame f → front (spelling f ++ more) ≡ Ok (f, more)

-- a field that is refused stays refused, whatever follows
abbrev pub FaultsStay : Type 0
FaultsStay = (bytes more : List ℕ) (fault : FrameFault) → IsOfField fault → (reading bytes ≡ Err fault → reading (bytes ++ more) ≡ Err fault) × (front bytes ≡ Err fault → front (bytes ++ more) ≡ Err fault)
