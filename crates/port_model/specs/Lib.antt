pub mod AdapterState
pub mod Agent
pub mod Packets
pub mod Good
pub mod Changes
pub mod Laws
