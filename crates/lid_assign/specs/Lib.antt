pub mod Lids
pub mod Laws
