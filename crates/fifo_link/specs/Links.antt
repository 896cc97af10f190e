-- Links: for each ordered pair of members what one sent to the other and the other has not taken.
use Rattle.std.specs.Prelude.{ℕ, ◌+◌, ◌*◌, ◌<◌, ◌≤◌, ◌≡◌, Bool, true, ◌&&◌, ◌==◌, not, List, [], ◌++◌, slice_index_or}
use Rattle.upd_base.specs.declared.frame.Frame.{Frame}

-- What is seen of the links of some members: the frames that wait on each link, and for how many more each has room.
-- The link of (from, to) stands at place from * members + to.
pub record Linked : Type 0 where
  pub members : ℕ
  pub waiting : List (List Frame)
  pub spares : List ℕ

-- the frames on a link that were not taken, the oldest first
abbrev pub on_link : Linked → ℕ → ℕ → List Frame
on_link l from to = slice_index_or l.waiting (from * l.members + to) []

-- for how many frames more a link has room
abbrev pub spare_of : Linked → ℕ → ℕ → ℕ
spare_of l from to = slice_index_or l.spares (from * l.members + to) 0

-- first in, first out: what was taken from a link, followed by what waits on it, is what was sent on it
abbrev pub Carries : Linked → ℕ → ℕ → List Frame → List Frame → Type 0
Carries l from to sent taken = sent ≡ taken ++ on_link l from to

-- the link (i, j) is not the link (from, to)
abbrev pub is_other : ℕ → ℕ → ℕ → ℕ → Bool
is_other i j from to = not ((i == from) && (j == to))

-- every other link has the same frames and no less room
abbrev pub LeavesOthers : Linked → Linked → ℕ → ℕ → Type 0
LeavesOthers old new from to =
    (i j : ℕ) → i < old.members → j < old.members → is_other i j from to ≡ true
    → (on_link new i j ≡ on_link old i j) × (spare_of old i j ≤ spare_of new i j)
