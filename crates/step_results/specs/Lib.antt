pub mod Steps
pub mod AtLine
pub mod Gives
pub mod TextGives
pub mod Truth
