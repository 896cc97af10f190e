-- A frame of version 1 arrives at a member of version 0, and a frame of version 0 behind it on the same link.
use Rattle.std.specs.Prelude.{List, [], ◌∷◌, take}
use Rattle.upd_base.specs.Plan.{Planned}
use Rattle.upd_base.specs.declared.kind.Kind.TheVariants.{Sequencer, Lamport}
use Rattle.upd_base.specs.declared.item.Item.TheVariants.{Msg, Switch}
use Rattle.upd_base.specs.declared.body.Body.TheVariants.{Ask, Ord, Req, Ack}
use Rattle.upd_base.specs.declared.frame.Frame.{Frame}
use Rattle.upd_base.specs.declared.entry.Entry.{Entry}
use Rattle.upd_base.specs.declared.event.Event.TheVariants.{Call, Receive, Release}
use Rattle.upd_base.specs.declared.call.Call.TheVariants.{Send, Change}
use Rattle.upd_base.specs.declared.answer.Answer.TheVariants.{Accepted}
use Rattle.group_run.specs.Run.{Events}
use Rattle.group_rows.specs.Outcome.{Moment}
use Rattle.group_rows.specs.Texts.{a, b}

abbrev pub plan : Planned
plan = record { members = 2; first = Lamport; threads = (record { at = 0; call = Change (Sequencer 1) } ∷ record { at = 0; call = Send a } ∷ []) ∷ (record { at = 1; call = Send b } ∷ []) ∷ [] }

abbrev pub events : Events
events = Receive 0 0 ∷ Receive 1 0 ∷ Receive 1 0 ∷ Receive 1 1 ∷ Receive 1 1 ∷ Receive 1 1 ∷ Receive 1 1 ∷ Release 1 ∷ Receive 1 1 ∷ Receive 0 1 ∷ Receive 0 1 ∷ Receive 1 0 ∷ Call 0 1 0 (Accepted 1) ∷ Call 1 0 1 (Accepted 0) ∷ Receive 1 0 ∷ Receive 0 1 ∷ Receive 0 0 ∷ Call 0 0 0 (Accepted 0) ∷ []

-- what the members deliver
abbrev pub log : List Entry
log = record { version = 0; item = Switch 0 0 (Sequencer 1) } ∷ record { version = 1; item = Msg 0 1 a } ∷ record { version = 1; item = Msg 1 0 b } ∷ []

-- the frame that is early: member 0 asks member 1 in version 1
abbrev pub early : Frame
early = record { version = 1; body = Ask (Msg 0 1 a) }

-- what the run is to come to, event by event, the first first
abbrev pub told : List Moment
told =
    record { at = 0; frames = (0, record { version = 0; body = Req 1 (Switch 0 0 (Sequencer 1)) }) ∷ (1, record { version = 0; body = Req 1 (Switch 0 0 (Sequencer 1)) }) ∷ []; held = []; logs = [] ∷ [] ∷ [] }
    ∷ record { at = 0; frames = []; held = []; logs = [] ∷ [] ∷ [] }
    ∷ record { at = 1; frames = (0, record { version = 0; body = Ack 2 }) ∷ (1, record { version = 0; body = Ack 2 }) ∷ []; held = []; logs = [] ∷ [] ∷ [] }
    ∷ record { at = 0; frames = []; held = []; logs = take 1 log ∷ take 0 log ∷ [] }
    ∷ record { at = 1; frames = (0, record { version = 0; body = Req 3 (Msg 1 0 b) }) ∷ (1, record { version = 0; body = Req 3 (Msg 1 0 b) }) ∷ []; held = []; logs = take 1 log ∷ take 0 log ∷ [] }
    ∷ record { at = 0; frames = (1, early) ∷ []; held = []; logs = take 1 log ∷ take 0 log ∷ [] }
    ∷ record { at = 0; frames = (0, record { version = 0; body = Ack 4 }) ∷ (1, record { version = 0; body = Ack 4 }) ∷ []; held = []; logs = take 1 log ∷ take 0 log ∷ [] }
    ∷ record { at = 1; frames = []; held = (0, early) ∷ []; logs = take 1 log ∷ take 0 log ∷ [] }
    ∷ record { at = 1; frames = []; held = (0, early) ∷ []; logs = take 1 log ∷ take 0 log ∷ [] }
    ∷ record { at = 1; frames = (1, record { version = 1; body = Ask (Msg 1 0 b) }) ∷ []; held = (0, early) ∷ []; logs = take 1 log ∷ take 1 log ∷ [] }
    ∷ record { at = 1; frames = (0, record { version = 1; body = Ord 1 (Msg 0 1 a) }) ∷ (1, record { version = 1; body = Ord 1 (Msg 0 1 a) }) ∷ []; held = []; logs = take 1 log ∷ take 1 log ∷ [] }
    ∷ record { at = 1; frames = []; held = []; logs = take 1 log ∷ take 1 log ∷ [] }
    ∷ record { at = 1; frames = (0, record { version = 1; body = Ord 2 (Msg 1 0 b) }) ∷ (1, record { version = 1; body = Ord 2 (Msg 1 0 b) }) ∷ []; held = []; logs = take 1 log ∷ take 1 log ∷ [] }
    ∷ record { at = 1; frames = []; held = []; logs = take 1 log ∷ take 2 log ∷ [] }
    ∷ record { at = 1; frames = []; held = []; logs = take 1 log ∷ take 3 log ∷ [] }
    ∷ record { at = 0; frames = []; held = []; logs = take 2 log ∷ take 3 log ∷ [] }
    ∷ record { at = 0; frames = []; held = []; logs = take 3 log ∷ take 3 log ∷ [] }
    ∷ record { at = 0; frames = []; held = []; logs = take 3 log ∷ take 3 log ∷ [] }
    ∷ []
