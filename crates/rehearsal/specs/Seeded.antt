-- The seeded schedule: before each event the open choices are listed, and the generator's next word chooses.
use Rattle.std.specs.Prelude.{ℕ, zero, suc, if◌then◌else◌, ◌%◌, ◌==◌, List, [], ◌∷◌, length, slice_index_or, filter}
use Rattle.rand_pcg.specs.Lcg.{Lcg}
use Rattle.rand_core.specs.Pcg32Seed.{pcg32_seed}
use Rattle.rand_pcg.specs.Pcg.{pcg32, pcg32_of_seed}
use Rattle.upd_base.specs.Plan.{Planned, bound}
use Rattle.group_run.specs.Group.{Rules}
use Rattle.group_run.specs.Run.{Events}
use Rattle.group_world.specs.declared.moves.Move.{Move}
use Rattle.rehearsal.specs.Choices.{has_room, is_open, made, choices}
use Rattle.rehearsal.specs.Rounds.{forced_call}

-- the choices that are open
abbrev pub open_choices : Rules → Planned → Events → List Move
open_choices rules plan past = filter (is_open rules plan past) (choices plan)

-- What a generator has chosen: the events, and the generator that is left.
pub record Drawn : Type 0 where
  pub past : Events
  pub words : Lcg

-- One event of a list that isn't empty is chosen by a word; where the list is empty, the call that is left is made.
abbrev pub chosen : Rules → Planned → Events → Lcg → List Move → Drawn
chosen rules plan past words [] = record { past = forced_call rules plan past; words = words }
chosen rules plan past words (first ∷ rest) =
    record { past = made rules plan past (slice_index_or (first ∷ rest) ((pcg32 words).0 % length (first ∷ rest)) first); words = (pcg32 words).1 }

-- an event, where there is room
abbrev pub drawn : Rules → Planned → Events → Lcg → Drawn
drawn rules plan past words = if has_room plan past then chosen rules plan past words (open_choices rules plan past) else record { past = past; words = words }

-- At most so many events, one after another, until none is made.
abbrev pub draws : Rules → Planned → ℕ → Events → Lcg → Events
draws rules plan zero past words = past
draws rules plan (suc more) past words =
    if length (drawn rules plan past words).past == length past then past
    else draws rules plan more (drawn rules plan past words).past (drawn rules plan past words).words

-- the generator of a seed: its 16 bytes are those that the number is expanded to
abbrev pub words_of : ℕ → Lcg
words_of seed = pcg32_of_seed (pcg32_seed 16 seed)

-- The schedule from these events on, by the words of a generator.
abbrev pub seeded : Rules → Planned → Events → Lcg → Events
seeded rules plan past words = draws rules plan (bound plan) past words
