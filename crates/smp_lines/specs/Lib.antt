pub mod LineWire
pub mod Place
pub mod SmpLines
pub mod Steps
pub mod Stop
