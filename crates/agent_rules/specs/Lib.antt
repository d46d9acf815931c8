pub mod PowerUp
pub mod Request
pub mod Carried
pub mod PortSetting
pub mod Agent
pub mod Good
pub mod Laws
