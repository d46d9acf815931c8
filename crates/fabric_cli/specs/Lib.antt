pub mod Files
pub mod Explained
pub mod Faults
pub mod Serving
pub mod KeyFiles
pub mod ThreeFiles
pub mod Printed
pub mod Laws
