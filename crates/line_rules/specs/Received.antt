-- What the events of a run received on a link, and the bytes of it.
use Rattle.std.specs.Prelude.{ℕ, ◌≡◌, ◌&&◌, ◌==◌, ◌-◌, ◌++◌, if◌then◌else◌, List, [], ◌∷◌, take, length, Option, Some, None}
use Rattle.std.specs.List.{flat_map}
use Rattle.upd_base.specs.Plan.{Planned}
use Rattle.upd_base.specs.declared.frame.Frame.{Frame}
use Rattle.upd_base.specs.declared.event.Event.{Event}
use Rattle.upd_base.specs.declared.event.Event.TheVariants.{Call as CallEvent, Receive, Release}
use Rattle.group_run.specs.Group.{Rules}
use Rattle.group_run.specs.Run.{Events, next_frame}
use Rattle.upd_frame.specs.Spelling.{spelling}

abbrev pub listed : Option Frame → List Frame
listed None = []
listed (Some frame) = frame ∷ []

-- the frame that an event after these took from a link, where it is a receipt there
abbrev pub taken_by : Rules → Planned → Events → Event → ℕ → ℕ → List Frame
taken_by rules plan past (CallEvent thread index member given) from to = []
taken_by rules plan past (Receive i j) from to = if (i == from) && (j == to) then listed (next_frame rules plan past from to) else []
taken_by rules plan past (Release at) from to = []

-- the frames that newer events took from a link, oldest first
abbrev pub received : Rules → Planned → Events → Events → ℕ → ℕ → List Frame
received rules plan start [] from to = []
received rules plan start (event ∷ newer) from to = received rules plan start newer from to ++ taken_by rules plan (newer ++ start) event from to

-- a run goes on from a start
abbrev pub GoesOn : Events → Events → Type 0
GoesOn start past = (newer : Events) × (past ≡ newer ++ start)

-- the events past a start
abbrev pub newer_than : Events → Events → Events
newer_than start past = take (length past - length start) past

-- the frames that were received on a link from a start on
abbrev pub received_since : Rules → Planned → Events → Events → ℕ → ℕ → List Frame
received_since rules plan start past from to = received rules plan start (newer_than start past) from to

-- the spellings of frames, one after another
abbrev pub bytes_of : List Frame → List ℕ
bytes_of frames = flat_map spelling frames

-- the bytes carried over a link from a start on, and those of the frame that it has next
abbrev pub carried : Rules → Planned → Events → Events → ℕ → ℕ → List ℕ
carried rules plan start past from to = bytes_of (received_since rules plan start past from to)

abbrev pub next_bytes : Rules → Planned → Events → ℕ → ℕ → List ℕ
next_bytes rules plan past from to = bytes_of (listed (next_frame rules plan past from to))
