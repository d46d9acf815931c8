pub mod LaneSoundLemmas
pub mod LaneExampleLemmas
