-- One member's turns, whatever the group has done.
use Rattle.std.specs.Prelude.{false, List, [], ◌∷◌, replicate}
use Rattle.fifo_net.specs.Net.{Input, Called, Took}
use Rattle.upd_base.specs.declared.kind.Kind.TheVariants.{Sequencer, Lamport}
use Rattle.upd_base.specs.declared.item.Item.TheVariants.{Switch}
use Rattle.upd_base.specs.declared.body.Body.TheVariants.{Ord}
use Rattle.upd_base.specs.declared.frame.Frame.{Frame}
use Rattle.upd_base.specs.declared.call.Call.TheVariants.{Send, Change, Suspect}
use Rattle.group_run.specs.Group.{Group, Outer, Makes}
use Rattle.group_run.specs.Part.{Part}
use Rattle.group_rows.specs.Kinds.{two_kinds}
use Rattle.group_rows.specs.Texts.{a, b}

-- a group of three whose member 0 is the sequencer
abbrev pub three : Group
three = record { rules = two_kinds; members = 3; first = Sequencer 0 }

-- a member at the highest version
abbrev pub last : Part
last = record { modules = replicate 1001 []; accepted = []; suspects = []; held = []; crashed = false }

-- Member 0 suspects 2 and then 1, sends a, asks for a change, sends b, and takes the switch, which its module ordered first.
abbrev pub switching : List (Input Outer Frame)
switching =
    Took 0 (record { version = 0; body = Ord 1 (Switch 0 1 Lamport) })
    ∷ Called (Makes (Send b)) ∷ Called (Makes (Change Lamport)) ∷ Called (Makes (Send a)) ∷ Called (Makes (Suspect 1)) ∷ Called (Makes (Suspect 2)) ∷ []
