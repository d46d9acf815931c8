pub mod AgentLemmas
pub mod PacketLemmas
pub mod OwnLemmas
