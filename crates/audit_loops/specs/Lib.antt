pub mod Cycle
pub mod Marks
pub mod Courses
pub mod Channels
pub mod Waits
pub mod Laws
pub mod WrongRules
pub mod Examples
