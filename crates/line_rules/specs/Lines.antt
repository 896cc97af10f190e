-- The lines of a group in a call that takes a run from a start to a past.
use Rattle.std.specs.Prelude.{ℕ, true, false, ◌≡◌, ◌≢◌, ◌⊎◌, ◌+◌, ◌*◌, ◌<◌, ◌≤◌, List, [], ◌++◌, length, slice_get, slice_index_or, Option, Some, None}
use Rattle.fifo_net.specs.Net.{IsPrefix}
use Rattle.upd_base.specs.Edge.{Rose}
use Rattle.upd_base.specs.Plan.{Planned, bound}
use Rattle.upd_lines.specs.Line.{Told}
use Rattle.upd_lines.specs.declared.line.Line.{Ghosts}
use Rattle.group_run.specs.Group.{Rules}
use Rattle.group_run.specs.Run.{Events, crashed_in, next_frame}
use Rattle.group_run.specs.Settled.{IsSettled}
use Rattle.line_rules.specs.declared.line_state.TheConstants.{MAX_FRAME}
use Rattle.line_rules.specs.Given.{GaveBytes, IsEven}
use Rattle.line_rules.specs.Received.{carried, listed, next_bytes, received_since}
use Rattle.line_rules.specs.LineState.{HasCome}
use Rattle.line_rules.specs.declared.line_state.LineState.{LineState}
use Rattle.line_rules.specs.declared.line_state.LineState.TheVariants.{Missing, Serving, Down, Lied, Stopped}

-- the line of a link, which stands at from*n + to, where there is one
abbrev pub line_at : {L : Type 0} → ℕ → List (Option L) → ℕ → ℕ → Option L
line_at n lines from to = slice_index_or lines (from * n + to) None

abbrev pub state_at : ℕ → List LineState → ℕ → ℕ → LineState
state_at n states from to = slice_index_or states (from * n + to) Missing

-- all that was put into a line was got, where there is one
abbrev pub IsEvenLine : {L : Type 0} → Ghosts L → Option L → Type 0
IsEvenLine G None = Unit {0}
IsEvenLine G (Some line) = IsEven (G.told line)

-- The bytes that a line gave differ somewhere from those of the frames received and of the next one. It is not faithful, and gave
-- more than those of the frames received.
pub record IsLying (carried next : List ℕ) (old new : Told) : Type 0 where
  pub not_faithful : new.faithful ≡ false
  pub more : old.got + length carried < new.got
  pub differs : GaveBytes old.bytes new.bytes (λ given. (at put got : ℕ) × (slice_get given at ≡ Some got) × (slice_get (carried ++ next) at ≡ Some put) × (put ≢ got))

-- What came over a line: as many bytes as the frames have that were received on its link, and as a part has of the one that is next;
-- where the line tells them, those of the frames received come first, and it is exactly these unless the line lies. A settled run
-- leaves no part of a frame on the line to a member that is up.
pub record HasCarried (rules : Rules) (plan : Planned) (start past : Events) (from to : ℕ) (old new : Told) : Type 0 where
  pub part : List ℕ
  pub front : IsPrefix part (next_bytes rules plan past from to)
  pub count : new.got ≡ old.got + length (carried rules plan start past from to ++ part)
  pub begins : GaveBytes old.bytes new.bytes (λ given. IsPrefix (carried rules plan start past from to) given)
  pub exact : IsLying (carried rules plan start past from to) (next_bytes rules plan past from to) old new ⊎ GaveBytes old.bytes new.bytes (λ given. given ≡ carried rules plan start past from to ++ part)
  pub faithful : new.faithful ≡ old.faithful
  pub settled : IsSettled rules plan past → crashed_in rules plan past to ≡ false → part ≡ []

-- the same of the places of a link
abbrev pub CameBack : {L : Type 0} → Ghosts L → Rules → Planned → Events → Events → ℕ → ℕ → Option L → Option L → Type 0
CameBack G rules plan start past from to None None = Unit {0}
CameBack G rules plan start past from to (Some old) (Some new) = HasCarried rules plan start past from to (G.told old) (G.told new) × (G.faults old ≤ G.faults new)
CameBack G rules plan start past from to old new = ⊥

-- Each line comes back at its place.
pub record ComeBack {L : Type 0} (G : Ghosts L) (rules : Rules) (plan : Planned) (start past : Events) (old new : List (Option L)) : Type 0 where
  pub places : length new ≡ length old
  pub each : (from to : ℕ) → from < plan.members → to < plan.members → CameBack G rules plan start past from to (line_at plan.members old from to) (line_at plan.members new from to)

-- The lines on their way, each with its state.
pub record AreOnTheWay {L : Type 0} (G : Ghosts L) (rules : Rules) (plan : Planned) (start past : Events) (old new : List (Option L)) (states : List LineState) : Type 0 where
  pub places : length old ≡ plan.members * plan.members
  pub same : length new ≡ length old
  pub stated : length states ≡ length old
  pub each : (from to : ℕ) → from < plan.members → to < plan.members
      → HasCome G (received_since rules plan start past from to) (listed (next_frame rules plan past from to)) (line_at plan.members old from to) (line_at plan.members new from to) (state_at plan.members states from to)

-- What a call needs of the line of a link to go on with it, after these events: it is there unless its state says otherwise; where it
-- serves, all that was put was got, and it gave no more than so many frames have; it stopped only where the journal has no room, or
-- where the receiver has crashed.
abbrev pub IsReadyAt : {L : Type 0} → Ghosts L → Rules → Planned → Events → ℕ → Option L → LineState → Type 0
IsReadyAt G rules plan past to None Missing = Unit {0}
IsReadyAt G rules plan past to None state = ⊥
IsReadyAt G rules plan past to (Some line) Missing = ⊥
IsReadyAt G rules plan past to (Some line) (Serving count) = IsEven (G.told line) × (count ≤ MAX_FRAME * length past)
IsReadyAt G rules plan past to (Some line) Down = Unit {0}
IsReadyAt G rules plan past to (Some line) (Lied lie) = Unit {0}
IsReadyAt G rules plan past to (Some line) Stopped = (length past ≡ bound plan) ⊎ (crashed_in rules plan past to ≡ true)

pub record AreReady {L : Type 0} (G : Ghosts L) (rules : Rules) (plan : Planned) (past : Events) (lines : List (Option L)) (states : List LineState) : Type 0 where
  pub places : length lines ≡ plan.members * plan.members
  pub stated : length states ≡ length lines
  pub each : (from to : ℕ) → from < plan.members → to < plan.members → IsReadyAt G rules plan past to (line_at plan.members lines from to) (state_at plan.members states from to)

-- A line is aside where there is none, where it failed in this call, or where it lied.
abbrev pub IsAsideLine : {L : Type 0} → Ghosts L → List ℕ → List ℕ → Option L → Option L → Type 0
IsAsideLine G carried next None new = Unit {0}
IsAsideLine G carried next (Some old) None = ⊥
IsAsideLine G carried next (Some old) (Some new) = Rose (G.faults old) (G.faults new) ⊎ IsLying carried next (G.told old) (G.told new)

abbrev pub IsAside : {L : Type 0} → Ghosts L → Rules → Planned → Events → Events → List (Option L) → List (Option L) → ℕ → ℕ → Type 0
IsAside G rules plan start past old new from to =
    IsAsideLine G (carried rules plan start past from to) (next_bytes rules plan past from to) (line_at plan.members old from to) (line_at plan.members new from to)

-- It is down where there is none, or where it failed in this call.
abbrev pub IsDownLine : {L : Type 0} → Ghosts L → Option L → Option L → Type 0
IsDownLine G None new = Unit {0}
IsDownLine G (Some old) None = ⊥
IsDownLine G (Some old) (Some new) = Rose (G.faults old) (G.faults new)

abbrev pub IsDown : {L : Type 0} → Ghosts L → Planned → List (Option L) → List (Option L) → ℕ → ℕ → Type 0
IsDown G plan old new from to = IsDownLine G (line_at plan.members old from to) (line_at plan.members new from to)
