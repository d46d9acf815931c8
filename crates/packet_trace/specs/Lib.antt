pub mod Trace
pub mod Spread
pub mod Steps
pub mod Lines
pub mod Laws
pub mod Whole
pub mod WrongRules
