-- Frames that come before their time.
use Rattle.std.specs.Prelude.{ℕ, Bool, true, ◌==◌, ◌&&◌, if◌then◌else◌, nat_lt, nat_le, Option, Some, None, List, [], ◌∷◌}
use Rattle.std.specs.List.{list_any}
use Rattle.upd_base.specs.declared.frame.Frame.{Frame}
use Rattle.group_run.specs.Part.{Part, version}

-- a frame of this sender and version waits among these
abbrev pub waits : ℕ → ℕ → List (ℕ × Frame) → Bool
waits from version held = list_any (λ h. (h.0 == from) && (h.1.version == version)) held

-- A frame that arrives is held where its version is above the member's, or where a held frame of the same link and the
-- same version is waiting. So a frame that must wait stops no other version of its link.
abbrev pub is_early : Part → ℕ → Frame → Bool
is_early part from frame = if nat_lt (version part) frame.version then true else waits from frame.version part.held

-- A release takes the first held frame, in the order of arrival, whose version is reached, and leaves the others.
abbrev pub first_ready : ℕ → List (ℕ × Frame) → Option (ℕ × Frame)
first_ready version [] = None
first_ready version (h ∷ held) = if nat_le h.1.version version then Some h else first_ready version held

abbrev pub without_ready : ℕ → List (ℕ × Frame) → List (ℕ × Frame)
without_ready version [] = []
without_ready version (h ∷ held) = if nat_le h.1.version version then held else h ∷ without_ready version held
