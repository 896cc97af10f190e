-- What a module of a fixed sequencer keeps of its inputs.
use Rattle.std.specs.Prelude.{◌≡◌, length}
use Rattle.upd_base.specs.declared.kind.Kind.TheVariants.{Sequencer}
use Rattle.order_trait.specs.Runs.{Inputs, Seat}
use Rattle.sequencer_rules.specs.Sequencer.{asked, place_of}
use Rattle.sequencer_order.specs.declared.sequencer.SequencerOrder.{SequencerOrder}

-- what a module was made with
abbrev pub seat_of : SequencerOrder → Seat
seat_of m = record { kind = Sequencer m.sequencer; members = m.members; me = m.me }

-- A module is as these inputs leave it: at the sequencer, so many places were given as Asks were taken.
abbrev pub StandsFor : SequencerOrder → Inputs → Type 0
StandsFor m past = m.me ≡ m.sequencer → m.placed ≡ place_of (length (asked past))
