pub mod Fault
pub mod Parts
pub mod Query
pub mod Fields
pub mod Rows
pub mod Reply
pub mod Answers
pub mod Examples
