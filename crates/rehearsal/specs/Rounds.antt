-- The round-robin schedule.
use Rattle.std.specs.Prelude.{ℕ, zero, suc, ◌==◌, ◌&&◌, if◌then◌else◌, Option, Some, None, List, [], ◌∷◌, length}
use Rattle.upd_base.specs.Plan.{Planned, bound}
use Rattle.group_run.specs.Group.{Rules}
use Rattle.group_run.specs.Run.{Events}
use Rattle.group_world.specs.declared.moves.Move.{Move}
use Rattle.group_world.specs.declared.moves.Move.TheVariants.{Call}
use Rattle.rehearsal.specs.Choices.{has_room, is_open, made, choices, waiting_thread}

-- A visit makes a choice where it is open at that moment.
abbrev pub visited : Rules → Planned → Events → Move → Events
visited rules plan past choice = if has_room plan past && is_open rules plan past choice then made rules plan past choice else past

abbrev pub all_visited : Rules → Planned → Events → List Move → Events
all_visited rules plan past [] = past
all_visited rules plan past (choice ∷ rest) = all_visited rules plan (visited rules plan past choice) rest

-- A round visits all choices in their order.
abbrev pub round : Rules → Planned → Events → Events
round rules plan past = all_visited rules plan past (choices plan)

-- Where nothing else is open, the lowest thread that has a call makes it, whatever its answer.
abbrev pub forced : Rules → Planned → Events → Option ℕ → Events
forced rules plan past None = past
forced rules plan past (Some thread) = if has_room plan past then made rules plan past (Call thread) else past

abbrev pub forced_call : Rules → Planned → Events → Events
forced_call rules plan past = forced rules plan past (waiting_thread plan past)

-- a round, or where it made no event the call that is left
abbrev pub turn : Rules → Planned → Events → Events
turn rules plan past = if length (round rules plan past) == length past then forced_call rules plan past else round rules plan past

-- At most so many turns, one after another, until one makes no event.
abbrev pub turns : Rules → Planned → ℕ → Events → Events
turns rules plan zero past = past
turns rules plan (suc more) past = if length (turn rules plan past) == length past then past else turns rules plan more (turn rules plan past)

-- The schedule from these events on. A turn makes an event or is the last, so there are no more turns than events.
abbrev pub round_robin : Rules → Planned → Events → Events
round_robin rules plan past = turns rules plan (bound plan) past
