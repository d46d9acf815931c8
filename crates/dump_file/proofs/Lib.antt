pub mod SoundLemmas
pub mod EndLemmas
pub mod GuidLemmas
pub mod LatestLemmas
pub mod ExampleLemmas
