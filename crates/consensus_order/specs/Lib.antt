pub mod ConsensusOrder
