-- A world, without where it lies in memory: its members, the frames that wait on its links, and how many calls of each
-- thread were made.
use Rattle.std.specs.Prelude.{ℕ, true, ◌≡◌, ◌+◌, ◌*◌, ◌<◌, ◌≤◌, Some, List, [], map, length, sum, All, slice_get, slice_index_or}
use Rattle.order_trait.specs.declared.ordering.Ordering.{Ghosts}
use Rattle.upd_base.specs.Body.{BodyFits, is_body}
use Rattle.upd_base.specs.Plan.{Planned, is_plan, steps_of}
use Rattle.upd_base.specs.declared.frame.Frame.{Frame}
use Rattle.upd_base.specs.declared.limits.TheConstants.{MAX_VERSION}
use Rattle.group_run.specs.Laws.{ServesPlan}
use Rattle.member_rules.specs.Kept.{Kept, rules_of}
use Rattle.member_core.specs.Member.{kept_by}
use Rattle.group_world.specs.declared.world.World.{World}

-- the link of (from, to) stands at place from * width + to
pub record Seen (O : Type 0) : Type 0 where
  pub members : List (Kept O)
  pub width : ℕ
  pub waiting : List (List Frame)
  pub made : List ℕ

abbrev pub seen_by : {O : Type 0} {G : Ghosts O} → World O G → Seen O
seen_by w = record { members = map (λ m. kept_by m) w.members.items; width = w.links.members; waiting = w.links.waiting; made = w.made.items }

-- the frames on a link that were not received, the oldest first
abbrev pub frames_on : {O : Type 0} → Seen O → ℕ → ℕ → List Frame
frames_on s from to = slice_index_or s.waiting (from * s.width + to) []

-- how many calls of a thread were made
abbrev pub made_by : {O : Type 0} → Seen O → ℕ → ℕ
made_by s thread = slice_index_or s.made thread 0

-- a frame that fits n members, of a version that there may be
abbrev pub FrameFits : ℕ → Frame → Type 0
FrameFits n frame = BodyFits n frame.body × (is_body frame.body ≡ true) × (frame.version ≤ MAX_VERSION)

-- the fact holds of each element and its place
abbrev pub EachAt : {A : Type 0} → (ℕ → A → Type 0) → List A → Type 0
EachAt {A} P xs = (i : ℕ) (x : A) → slice_get xs i ≡ Some x → P i x

-- a member of the plan, at its own place
abbrev pub IsSeated : {O : Type 0} → Planned → ℕ → Kept O → Type 0
IsSeated plan i k = (k.members ≡ plan.members) × (k.first ≡ plan.first) × (k.me ≡ i)

-- What is true of a world of a plan whatever moves were made: its members are those of the plan, each at its own place;
-- what waits on its links fits them; no thread made more calls than the plan has, and no member made more items than
-- calls were made.
pub record IsWorldOf {O : Type 0} (G : Ghosts O) (plan : Planned) (s : Seen O) : Type 0 where
  pub of_plan : is_plan plan ≡ true
  pub first_served : G.is_served plan.first ≡ true
  pub served : ServesPlan (rules_of G) plan
  pub many : length s.members ≡ plan.members
  pub seats : EachAt (IsSeated plan) s.members
  pub width : s.width ≡ plan.members
  pub fits : (from to : ℕ) → from < plan.members → to < plan.members → All (FrameFits plan.members) (frames_on s from to)
  pub threads : length s.made ≡ length plan.threads
  pub planned : (thread : ℕ) → made_by s thread ≤ length (steps_of plan thread)
  pub items : EachAt (λ i k. k.repl.made ≤ sum s.made) s.members
