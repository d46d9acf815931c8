pub mod Help
pub mod CommandLine
pub mod Words
pub mod Refusals
pub mod Laws
