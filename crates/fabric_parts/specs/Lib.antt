pub mod NodeType
pub mod Cable
pub mod Lid
pub mod Limits
