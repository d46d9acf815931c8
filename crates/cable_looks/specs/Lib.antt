pub mod Looks
pub mod Steps
pub mod Edges
pub mod Legend
pub mod Laws
pub mod WrongRules
