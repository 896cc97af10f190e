-- What a pass knows, and how each step changes it.
use Rattle.std.specs.Prelude.{◌+◌, ◌-◌, List, [], ◌++◌}
use Rattle.turn_lock.specs.declared.pass.TheConstants.{PARTS}
use Rattle.turn_lock.specs.declared.view.View.{View}
use Rattle.turn_lock.specs.declared.stage.Stage.{Stage}
use Rattle.turn_lock.specs.declared.stage.Stage.TheVariants.{Idle, Waits, Turns, Joined}
use Rattle.turn_lock.specs.Lists.{longer}
use Rattle.turn_lock.specs.Places.{merged, new_places}

module _ {E : Type 0} where
  -- the last list that it knows of: in a turn the noted one, and else the one that it has seen
  abbrev pub known_by : List E → Stage E → List E
  known_by seen Idle = seen
  known_by seen (Waits u) = seen
  known_by seen (Turns u noted) = noted
  known_by seen (Joined a b) = seen

  abbrev pub known : View E → List E
  known v = known_by v.seen v.stage

  -- the first pass has seen the whole opening list, owns nothing, and has all parts
  abbrev pub first_view : List E → View E
  first_view opening = record { parts = PARTS; seen = opening; own = []; stage = Idle }

  abbrev pub with_stage : View E → Stage E → View E
  with_stage v stage = record { parts = v.parts; seen = v.seen; own = v.own; stage = stage }

  -- after a turn that noted one list and gave back another: that one is seen, and the places that it has more are owned
  abbrev pub after_turn : View E → List E → List E → View E
  after_turn v noted given = record { parts = v.parts; seen = given; own = v.own ++ new_places noted given; stage = Idle }

  -- a split: what the dividing pass keeps, and what the new one gets
  abbrev pub less_one_part : View E → View E
  less_one_part v = record { parts = v.parts - 1; seen = v.seen; own = v.own; stage = v.stage }

  abbrev pub one_part_of : View E → View E
  one_part_of v = record { parts = 1; seen = v.seen; own = []; stage = Idle }

  -- a join: what the kept pass has, and what is left of the other
  abbrev pub both_views : View E → View E → View E
  both_views v w = record { parts = v.parts + w.parts; seen = longer v.seen w.seen; own = merged v.own w.own; stage = Joined v.seen w.seen }

  abbrev pub spent_view : View E
  spent_view = record { parts = 0; seen = []; own = []; stage = Idle }
