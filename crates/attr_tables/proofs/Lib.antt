pub mod BlockLemmas
pub mod AttributeLemmas
