pub mod HopFields
pub mod Hops
pub mod Laws
