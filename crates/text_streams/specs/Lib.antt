pub mod Reading
pub mod Writing
pub mod Laws
pub mod ReadingByLines
