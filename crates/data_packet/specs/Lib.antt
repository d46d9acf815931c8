pub mod Refusal
pub mod QueuePair
