pub mod Nodes
pub mod Keys
pub mod Digits
pub mod Tables
pub mod Multicast
pub mod Whole
