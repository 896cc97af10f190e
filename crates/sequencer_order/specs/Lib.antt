pub mod SequencerOrder
