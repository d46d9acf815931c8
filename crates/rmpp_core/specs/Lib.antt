pub mod Reply
pub mod Segments
pub mod Acks
pub mod Receiving
pub mod Laws
