pub mod CycleLemmas
pub mod ChannelLemmas
pub mod WaitLemmas
pub mod CycleLawLemmas
pub mod ChannelLawLemmas
pub mod GoingLemmas
pub mod WrongLemmas
pub mod WaitExampleLemmas
