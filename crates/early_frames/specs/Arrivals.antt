-- Frames that wait, each with its number in the order of arrival.
use Rattle.std.specs.Prelude.{ℕ, ◌≡◌, ◌<◌, ◌≤◌, nat_le, if◌then◌else◌, List, [], ◌∷◌, map, slice_index_or, All, AllPairs}
use Rattle.upd_base.specs.declared.frame.Frame.{Frame}
use Rattle.early_frames.specs.declared.arrivals.Arrival.{Arrival}

abbrev pub version_of : Arrival → ℕ
version_of a = a.frame.1.version

-- an arrival among others in their order: before the first that is not earlier
abbrev pub among : Arrival → List Arrival → List Arrival
among a [] = a ∷ []
among a (b ∷ bs) = if nat_le a.number b.number then a ∷ b ∷ bs else b ∷ among a bs

-- all, in the order of arrival
abbrev pub by_arrival : List Arrival → List Arrival
by_arrival [] = []
by_arrival (a ∷ others) = among a (by_arrival others)

-- their frames, in the order of arrival
abbrev pub frames_of : List Arrival → List (ℕ × Frame)
frames_of arrivals = map (λ a. a.frame) (by_arrival arrivals)

-- lower versions stand first; those of one version stand in the order of arrival
pub record Precedes (a b : Arrival) : Type 0 where
  pub versions : version_of a ≤ version_of b
  pub numbers : version_of a ≡ version_of b → a.number < b.number

-- how the frames stand, and the number of the next
pub record Queued (kept : List Arrival) (next : ℕ) : Type 0 where
  pub ordered : AllPairs Precedes kept
  pub numbered : All (λ a. a.number < next) kept

-- the one at this place arrived first, of so many from the front
pub record IsEarliest (kept : List Arrival) (count at : ℕ) : Type 0 where
  pub within : at < count
  pub before : (k : ℕ) (d : Arrival) → k < at → (slice_index_or kept at d).number < (slice_index_or kept k d).number
  pub after : (k : ℕ) (d : Arrival) → at ≤ k → k < count → (slice_index_or kept at d).number ≤ (slice_index_or kept k d).number
