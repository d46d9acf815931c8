pub mod Roots
pub mod Agreement
pub mod Rooted
pub mod Laws
pub mod WrongRules
pub mod Examples
