-- The frames of one version on one link: what its receiver's module took, and what it holds.
use Rattle.std.specs.Prelude.{ℕ, ◌==◌, ◌&&◌, if◌then◌else◌, List, [], ◌∷◌}
use Rattle.fifo_net.specs.Net.{taken}
use Rattle.upd_base.specs.declared.body.Body.{Body}
use Rattle.upd_base.specs.declared.frame.Frame.{Frame}
use Rattle.group_run.specs.Version.{inputs_at}
use Rattle.group_run.specs.Part.{Part}

-- the bodies of the frames of a version
abbrev pub bodies_of : ℕ → List Frame → List Body
bodies_of v [] = []
bodies_of v (f ∷ fs) = if f.version == v then f.body ∷ bodies_of v fs else bodies_of v fs

-- the bodies of the held frames of a sender and version
abbrev pub held_from : ℕ → ℕ → List (ℕ × Frame) → List Body
held_from i v [] = []
held_from i v (h ∷ held) = if (h.0 == i) && (h.1.version == v) then h.1.body ∷ held_from i v held else held_from i v held

-- the bodies that a member's module of a version took from a member
abbrev pub processed_from : ℕ → ℕ → Part → List Body
processed_from i v p = taken i (inputs_at v p.modules)
