pub mod PortLemmas
pub mod LinkLemmas
pub mod AgentLemmas
pub mod ChangeLemmas
pub mod GoodLemmas
pub mod ForwardingLemmas
pub mod FateLemmas
pub mod MulticastLemmas
