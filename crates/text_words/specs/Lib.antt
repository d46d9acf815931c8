pub mod Cut
pub mod Failure
pub mod Lines
pub mod Number
pub mod Words
pub mod Parts
pub mod WholeParts
